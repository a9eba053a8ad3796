-- The counts of several disks of which the first was read, and why logs weren't recovered.
use Rattle.std.proofs.Common.{◌≡◌, ℕ, ◌+◌, List, [], ◌∷◌, sum_by, Result, Ok, Err, IfErr, IsErrAnd, OnOk, refl, sym, ◌∙◌, ap, subst, arith}
use Rattle.std.proofs.lemmas.List.Sums.{sum_by-cons}
use Rattle.base_devices.specs.Faults.{Rose, count_in_all}
use Rattle.log_recovery.specs.declared.modes.Mode.{Mode}
use Rattle.log_recovery.specs.declared.modes.Mode.TheVariants.{Point}
use Rattle.log_recovery.specs.declared.recovery.RecoverError.{RecoverError}
use Rattle.log_recovery.specs.declared.recovery.RecoverError.TheVariants.{Fault, NoMemory, Damage}
use Rattle.log_recovery.specs.Recovering.{IsRecoverError}
use Rattle.log_recovery.specs.RecoveringLogs.{CountNone, IsErrorFrom, IsErrorOfLogs, with_count}
use Rattle.log_recovery.proofs.Asking.{both_steps}
use Rattle.log_recovery.proofs.Unread.{joined, all_kept}

-- what holds of an error holds of an answer that hands it on
pub handed_on : {A E : Type 0} (r : Result A E) (e : E) (P : E → Type 0) → IsErrAnd r (λ f. f ≡ e) → P e → IfErr r P
handed_on (Ok x) e P same p = tt
handed_on (Err f) e P same p = subst P (sym same) p

-- an error of recovery that accepts any end isn't damage
pub not_damage : (P : RecoverError → Type 0) → ((count : ℕ) → P (Fault count)) → P NoMemory → (before now : ℕ) (e : RecoverError) → IsRecoverError Point before now e → P e
not_damage P fault memory before now (Fault count) is = fault count
not_damage P fault memory before now NoMemory is = memory
not_damage P fault memory before now (Damage log at why) is = absurd (is.1 refl)

module _ {D : Type 0} (faults : D → ℕ) (disks : List D) (disk new : D) (rest : List D) (parts : disks ≡ disk ∷ rest) where
  -- neither the first nor the others have counted a fault
  pub none_counted : (news : List D) → faults new ≡ faults disk → CountNone faults rest news → CountNone faults disks (new ∷ news)
  none_counted news same none = joined (λ old now. faults now ≡ faults old) disks disk new rest news parts same none

  -- the first hasn't, and no other one was called
  pub first_counts_none : faults new ≡ faults disk → CountNone faults disks (new ∷ rest)
  first_counts_none same = none_counted rest same (all_kept (λ old now. faults now ≡ faults old) (λ d. refl) rest)

  count_before : sum_by faults disks ≡ faults disk + sum_by faults rest
  count_before = ap (λ (l : List D). sum_by faults l) parts ∙ sum_by-cons faults disk rest

  -- the count of all rises with that of the first
  pub first_rose : (count : ℕ) → Rose (faults disk) count → count ≡ faults new → Rose (count_in_all faults disks) (count_in_all faults (new ∷ rest))
  first_rose count rose is = let before = count_before in let now = sum_by-cons faults new rest in omega (arith, before, now, rose, is)

  -- and with that of the others
  later_rose : (news : List D) → faults new ≡ faults disk → Rose (count_in_all faults rest) (count_in_all faults news) → Rose (count_in_all faults disks) (count_in_all faults (new ∷ news))
  later_rose news same rose = let before = count_before in let now = sum_by-cons faults new news in omega (arith, before, now, same, rose)

  -- the first log wasn't read to its end
  pub error_in_first : (mode : Mode) (e : RecoverError) → IsRecoverError Point (faults disk) (faults new) e → IsErrorFrom mode faults disks (new ∷ rest) e
  error_in_first mode (Fault count) is = first_rose count is.0 is.1
  error_in_first mode NoMemory is = first_counts_none is
  error_in_first mode (Damage log at why) is = absurd (is.1 refl)

  -- it was, and what followed is said of the others
  pub error_later : {T : Type 0} (mode : Mode) (news : List D) (r : Result T RecoverError) → faults new ≡ faults disk → IfErr r (IsErrorFrom mode faults rest news) → IfErr r (IsErrorFrom mode faults disks (new ∷ news))
  error_later mode news (Ok found) same is = tt
  error_later mode news (Err (Fault count)) same is = later_rose news same is
  error_later mode news (Err NoMemory) same is = none_counted news same is
  error_later mode news (Err (Damage log at why)) same is = (none_counted news same is.0, is.1)

  pub worked_later : {T E : Type 0} (news : List D) (r : Result T E) → faults new ≡ faults disk → OnOk r (CountNone faults rest news) → OnOk r (CountNone faults disks (new ∷ news))
  worked_later news (Ok found) same none = none_counted news same none
  worked_later news (Err e) same none = tt

-- counts that stay have the same sum
none_counted_sum : {D : Type 0} (faults : D → ℕ) (olds news : List D) → CountNone faults olds news → sum_by faults news ≡ sum_by faults olds
none_counted_sum faults [] [] same = refl
none_counted_sum faults [] (n ∷ news) same = absurd same
none_counted_sum faults (o ∷ olds) [] same = absurd same
none_counted_sum faults (o ∷ olds) (n ∷ news) same =
    let more = none_counted_sum faults olds news same.1 in
    sum_by-cons faults n news ∙ (ap (λ k. k + sum_by faults news) same.0 ∙ (ap (λ k. faults o + k) more ∙ sym (sum_by-cons faults o olds)))

count_again : {D : Type 0} (faults : D → ℕ) (olds mids news : List D) → CountNone faults olds mids → CountNone faults mids news → CountNone faults olds news
count_again faults olds mids news first second = both_steps (λ old now. faults now ≡ faults old) (λ a b c x y. y ∙ x) olds mids news first second

-- the first of some disks fails after it and the others were called without a fault
module _ {D : Type 0} (faults : D → ℕ) (disk mid new : D) (rest news : List D) (first : faults mid ≡ faults disk) (others : CountNone faults rest news) where
  pub fails_again : (count : ℕ) → Rose (faults mid) count → count ≡ faults new → Rose (count_in_all faults (disk ∷ rest)) (count_in_all faults (new ∷ news))
  fails_again count rose is =
      let before = sum_by-cons faults disk rest in
      let now = sum_by-cons faults new news in
      let sum = none_counted_sum faults rest news others in
      omega (arith, before, now, sum, first, rose, is)

  pub error_again : (e : RecoverError) → IsRecoverError Point (faults mid) (faults new) e → IsErrorFrom Point faults (disk ∷ rest) (new ∷ news) e
  error_again (Fault count) is = fails_again count is.0 is.1
  error_again NoMemory is = (is ∙ first, others)
  error_again (Damage log at why) is = absurd (is.1 refl)

-- what is said of disks that counted no fault before
pub error_after : {D T : Type 0} (mode : Mode) (faults : D → ℕ) (olds mids news : List D) (r : Result T RecoverError) → CountNone faults olds mids → IfErr r (IsErrorFrom mode faults mids news) → IfErr r (IsErrorFrom mode faults olds news)
error_after mode faults olds mids news (Ok found) same is = tt
error_after mode faults olds mids news (Err (Fault count)) same is = let sum = none_counted_sum faults olds mids same in omega (arith, sum, is)
error_after mode faults olds mids news (Err NoMemory) same is = count_again faults olds mids news same is
error_after mode faults olds mids news (Err (Damage log at why)) same is = (count_again faults olds mids news same is.0, is.1)

pub worked_after : {D T E : Type 0} (faults : D → ℕ) (olds mids news : List D) (r : Result T E) → CountNone faults olds mids → OnOk r (CountNone faults mids news) → OnOk r (CountNone faults olds news)
worked_after faults olds mids news (Ok found) same none = count_again faults olds mids news same none
worked_after faults olds mids news (Err e) same none = tt

-- recovery that accepts any end fails in each mode for the same reasons
pub error_in_any : {D : Type 0} (mode : Mode) (faults : D → ℕ) (olds news : List D) (e : RecoverError) → IsErrorFrom Point faults olds news e → IsErrorFrom mode faults olds news e
error_in_any mode faults olds news (Fault count) is = is
error_in_any mode faults olds news NoMemory is = is
error_in_any mode faults olds news (Damage log at why) is = absurd (is.1 refl)

pub not_damage_of_logs : {D : Type 0} (P : RecoverError → Type 0) → ((count : ℕ) → P (Fault count)) → P NoMemory → (faults : D → ℕ) (olds news : List D) (e : RecoverError) → IsErrorFrom Point faults olds news e → P e
not_damage_of_logs P fault memory faults olds news (Fault count) is = fault count
not_damage_of_logs P fault memory faults olds news NoMemory is = memory
not_damage_of_logs P fault memory faults olds news (Damage log at why) is = absurd (is.1 refl)

-- the count of one disk becomes that of all
pub error_of_all : {D : Type 0} (mode : Mode) (faults : D → ℕ) (olds news : List D) (e : RecoverError) → IsErrorFrom mode faults olds news e → IsErrorOfLogs mode faults olds news (with_count (count_in_all faults news) e)
error_of_all mode faults olds news (Fault count) is = (is, refl)
error_of_all mode faults olds news NoMemory is = is
error_of_all mode faults olds news (Damage log at why) is = is

-- disks that no call was made on
pub same_counts : {D : Type 0} (faults : D → ℕ) (disks : List D) → CountNone faults disks disks
same_counts faults disks = all_kept (λ old now. faults now ≡ faults old) (λ d. refl) disks
