-- How the disks of a set are looked at, one after another, and what logs begin on them.
use Rattle.std.proofs.Common.{◌≡◌, inl, ℕ, ◌+◌, ◌<◌, List, [], ◌∷◌, ◌++◌, length, map, sum_by, slice_index_or, Option, None, Some, Result, Ok, Err, IfSome, IfErr, OnOk, refl, sym, ◌∙◌, ap, subst, arith, append_assoc, append-nil}
use Rattle.std.proofs.lemmas.List.Sums.{sum_by-append, sum_by-cons}
use Rattle.std.specs.List.{AllByRecursion, AllZip, remove}
use Rattle.base_devices.specs.Disk.{Disk, IsDisk}
use Rattle.base_devices.specs.declared.disk.Disk.{Ghosts}
use Rattle.base_devices.specs.Faults.{Rose, count_in_all}
use Rattle.log_writer.specs.declared.errors.OpenError.{OpenError}
use Rattle.log_writer.specs.declared.errors.OpenError.TheVariants.{Fault, NotEmpty, NoMemory}
use Rattle.log_writer.specs.declared.writer.LogWriter.{LogWriter}
use Rattle.log_writer.specs.Words.{disk_of, fault_of}
use Rattle.log_writer.specs.Opening.{IsLookedAt, HasOpened}
use Rattle.log_writer.specs.SetOpening.{IsNew, with_count, IsEmpty, IsWhyNot, HasFirstBytes, IsSetOpenError}
use Rattle.log_writer.proofs.Calls.{all_more}
use Rattle.log_writer.proofs.Splitting.{zip_more}

-- where an empty disk's place is
pub bare_place : (told : Option Disk) → IfSome told IsDisk → IfSome told (λ d. d.content ≡ []) → IfSome told (λ d. d.place ≡ 0)
bare_place None is empty = tt
bare_place (Some d) is empty = omega (arith, is.placed, ap length empty)

-- the first of some elements, and the others
pub first_of : {A : Type 0} (P : A → Type 0) (xs : List A) (x : A) → AllByRecursion P xs → 0 < length xs → x ≡ slice_index_or xs 0 x → P x
first_of P [] x all some is = absurd (omega (arith, some))
first_of P (y ∷ xs) x all some is = subst P (sym is) all.0

pub others_of : {A : Type 0} (P : A → Type 0) (xs rest : List A) → AllByRecursion P xs → rest ≡ remove xs 0 → AllByRecursion P rest
others_of P [] rest all is = subst (AllByRecursion P) (sym is) tt
others_of P (y ∷ xs) rest all is = subst (AllByRecursion P) (sym is) all.1

pub taken : {A : Type 0} (xs rest : List A) (x : A) → 0 < length xs → x ≡ slice_index_or xs 0 x → rest ≡ remove xs 0 → xs ≡ x ∷ rest
taken [] rest x some is left = absurd (omega (arith, some))
taken (y ∷ xs) rest x some is left = λ i. sym is i ∷ sym left i

module _ {D : Type 0} (ghosts : Ghosts D) where
  -- where a disk isn't asked for anything
  pub looked_self : (disk : D) → IsLookedAt ghosts disk disk
  looked_self disk = record {
    same = refl;
    later = omega arith;
    time = record { later = omega arith; forgets = omega arith; nothing_else = λ t image known le s. inl s; keeps = λ t image known le s. s };
  }

  abbrev pub SameCount : D → D → Type 0
  SameCount old new = ghosts.faults new ≡ ghosts.faults old

  same_sum : (olds news : List D) → AllZip SameCount olds news → sum_by ghosts.faults news ≡ sum_by ghosts.faults olds
  same_sum [] [] all = refl
  same_sum [] (n ∷ news) all = absurd all
  same_sum (o ∷ olds) [] all = absurd all
  same_sum (o ∷ olds) (n ∷ news) all = omega (arith, all.0, same_sum olds news all.1, sum_by-cons ghosts.faults o olds, sum_by-cons ghosts.faults n news)

  -- how many calls of some disks failed, with one disk more
  sum_more : (disks : List D) (disk : D) → sum_by ghosts.faults (disks ++ disk ∷ []) ≡ sum_by ghosts.faults disks + ghosts.faults disk
  sum_more disks disk = omega (arith, sum_by-append ghosts.faults disks (disk ∷ []), sum_by-cons ghosts.faults disk [])

  empty_before : (olds news : List D) → AllZip (IsLookedAt ghosts) olds news → AllByRecursion (IsEmpty ghosts) news → AllByRecursion (IsEmpty ghosts) olds
  empty_before [] [] at empty = tt
  empty_before [] (n ∷ news) at empty = absurd at
  empty_before (o ∷ olds) [] at empty = absurd at
  empty_before (o ∷ olds) (n ∷ news) at empty = (subst (λ (t : Option Disk). IfSome t (λ d. d.content ≡ [])) at.0.same empty.0, empty_before olds news at.1 empty.1)

  -- why looks at these disks ended the opening, without the count of a fault
  abbrev pub FoundWhy : List D → List D → OpenError → Type 0
  FoundWhy olds news (Fault count) = Rose (sum_by ghosts.faults olds) (sum_by ghosts.faults news)
  FoundWhy olds news (NotEmpty len) = HasFirstBytes ghosts olds len × AllZip SameCount olds news
  FoundWhy olds news NoMemory = ⊥

  abbrev pub Found : List D → List D → Result (Unit {0}) OpenError → Type 0
  Found olds news (Ok done) = AllByRecursion (IsEmpty ghosts) news × AllZip SameCount olds news
  Found olds news (Err why) = FoundWhy olds news why

  why_more : (olds news : List D) (old new : D) (why : OpenError) → AllZip (IsLookedAt ghosts) olds news → AllByRecursion (IsEmpty ghosts) news → AllZip SameCount olds news → IsWhyNot ghosts old new why → FoundWhy (olds ++ old ∷ []) (news ++ new ∷ []) why
  why_more olds news old new (Fault count) at empty same is = omega (arith, is, same_sum olds news same, sum_more olds old, sum_more news new)
  why_more olds news old new (NotEmpty len) at empty same is = (
    record { empty = olds; first = old; later = []; cut = refl; are_empty = empty_before olds news at empty; some = is.0; len_is = is.1 },
    zip_more SameCount olds news old new same is.2,
  )
  why_more olds news old new NoMemory at empty same is = absurd is

  stays_why : (olds news : List D) (old new : D) (why : OpenError) → FoundWhy olds news why → new ≡ old → FoundWhy (olds ++ old ∷ []) (news ++ new ∷ []) why
  stays_why olds news old new (Fault count) is same = omega (arith, is, ap ghosts.faults same, sum_more olds old, sum_more news new)
  stays_why olds news old new (NotEmpty len) is same = (
    record {
      empty = is.0.empty;
      first = is.0.first;
      later = is.0.later ++ old ∷ [];
      cut = ap (λ (l : List D). l ++ old ∷ []) is.0.cut ∙ append_assoc is.0.empty (is.0.first ∷ is.0.later) (old ∷ []);
      are_empty = is.0.are_empty;
      some = is.0.some;
      len_is = is.0.len_is;
    },
    zip_more SameCount olds news old new is.1 (ap ghosts.faults same),
  )
  stays_why olds news old new NoMemory is same = absurd is

  found_more : (olds news : List D) (old new : D) (found next : Result (Unit {0}) OpenError) → AllZip (IsLookedAt ghosts) olds news → Found olds news found → OnOk next (IsEmpty ghosts new) → OnOk next (SameCount old new)
      → OnOk found (IfErr next (IsWhyNot ghosts old new)) → IfErr found (λ why. (next ≡ Err why) × (new ≡ old)) → Found (olds ++ old ∷ []) (news ++ new ∷ []) next
  found_more olds news old new (Ok u) (Ok v) at is empty same why kept = (all_more (IsEmpty ghosts) news new is.0 empty, zip_more SameCount olds news old new is.1 same)
  found_more olds news old new (Ok u) (Err w) at is empty same why kept = why_more olds news old new w at is.0 is.1 why
  found_more olds news old new (Err w) next at is empty same why kept =
      subst (λ (r : Result (Unit {0}) OpenError). Found (olds ++ old ∷ []) (news ++ new ∷ []) r) (sym kept.0) (stays_why olds news old new w is kept.1)

  -- Some of the disks were looked at, up to one that fails or isn't empty, and these are left.
  pub record IsSoFar (all left looked : List D) (found : Result (Unit {0}) OpenError) : Type 0 where
    pub done : List D
    pub cut : all ≡ done ++ left
    pub looked_at : AllZip (IsLookedAt ghosts) done looked
    pub found_is : Found done looked found

  pub starts_so : (all looked : List D) → looked ≡ [] → IsSoFar all all looked (Ok tt)
  starts_so all looked none = subst (λ (l : List D). IsSoFar all all l (Ok tt)) (sym none) (record { done = []; cut = refl; looked_at = tt; found_is = (tt, tt) })

  pub goes_on : (all left rest looked more : List D) (old new : D) (found next : Result (Unit {0}) OpenError) → IsSoFar all left looked found → left ≡ old ∷ rest → more ≡ looked ++ new ∷ [] → IsLookedAt ghosts old new → OnOk next (IsEmpty ghosts new) → OnOk next (SameCount old new)
      → OnOk found (IfErr next (IsWhyNot ghosts old new)) → IfErr found (λ why. (next ≡ Err why) × (new ≡ old)) → IsSoFar all rest more next
  goes_on all left rest looked more old new found next so is more_is at empty same why kept = record {
    done = so.done ++ old ∷ [];
    cut = so.cut ∙ (ap (λ (l : List D). so.done ++ l) is ∙ sym (append_assoc so.done (old ∷ []) rest));
    looked_at = subst (λ (l : List D). AllZip (IsLookedAt ghosts) (so.done ++ old ∷ []) l) (sym more_is) (zip_more (IsLookedAt ghosts) so.done looked old new so.looked_at at);
    found_is = subst (λ (l : List D). Found (so.done ++ old ∷ []) l next) (sym more_is) (found_more so.done looked old new found next so.looked_at so.found_is empty same why kept);
  }

  -- Once none is left, that was all of them.
  module _ (all left looked : List D) (found : Result (Unit {0}) OpenError) (so : IsSoFar all left looked found) (none : left ≡ []) where
    whole : all ≡ so.done
    whole = so.cut ∙ (ap (λ (l : List D). so.done ++ l) none ∙ append-nil so.done)

    pub all_looked_at : AllZip (IsLookedAt ghosts) all looked
    all_looked_at = subst (λ (l : List D). AllZip (IsLookedAt ghosts) l looked) (sym whole) so.looked_at

    pub all_found : Found all looked found
    all_found = subst (λ (l : List D). Found l looked found) (sym whole) so.found_is

  pub not_opened : (olds news : List D) (why : OpenError) (count : ℕ) → AllZip (IsLookedAt ghosts) olds news → FoundWhy olds news why → count ≡ count_in_all ghosts.faults news → IsSetOpenError ghosts olds news (with_count count why)
  not_opened olds news (Fault n) count at is count_is = record { looked_at = at; cause = (omega (arith, is, count_is), count_is) }
  not_opened olds news (NotEmpty len) count at is count_is = record { looked_at = at; cause = is }
  not_opened olds news NoMemory count at is count_is = absurd is

  all_self : (disks : List D) → AllZip (IsLookedAt ghosts) disks disks
  all_self [] = tt
  all_self (disk ∷ disks) = (looked_self disk, all_self disks)

  -- where there was no memory
  pub no_memory : (disks : List D) → IsSetOpenError ghosts disks disks NoMemory
  no_memory disks = record { looked_at = all_self disks; cause = refl }

-- Logs that begin on disks which were found empty were opened on them.
pub set_opened : {D : Type 0} {ghosts : Ghosts D} (disks looked : List D) (logs : List (LogWriter D ghosts)) → AllZip (IsLookedAt ghosts) disks looked → AllByRecursion (IsEmpty ghosts) looked → AllZip (SameCount ghosts) disks looked
    → map disk_of logs ≡ looked → AllByRecursion IsNew logs → AllZip HasOpened disks logs
set_opened [] [] [] at empty same on new = tt
set_opened [] [] (log ∷ logs) at empty same on new = absurd (cc)
set_opened [] (l ∷ looked) logs at empty same on new = absurd at
set_opened (d ∷ disks) [] logs at empty same on new = absurd at
set_opened (d ∷ disks) (l ∷ looked) [] at empty same on new = absurd (cc)
set_opened {D = D} {ghosts = ghosts} (d ∷ disks) (l ∷ looked) (log ∷ logs) at empty same on new =
    let head : disk_of log ≡ l = cc in
    let tail : map disk_of logs ≡ looked = cc in (
      record {
        looked_at = subst (λ (x : D). IsLookedAt ghosts d x) (sym head) at.0;
        empty = subst (λ (t : Option Disk). IfSome t (λ x. x.content ≡ [])) at.0.same empty.0;
        number = new.0.0;
        len = new.0.1;
        fault = new.0.2;
        no_fault = ap ghosts.faults head ∙ same.0;
      },
      set_opened disks looked logs at.1 empty.1 same.1 tail new.1,
    )

-- new logs have no fault
pub new_fresh : {D : Type 0} {ghosts : Ghosts D} (logs : List (LogWriter D ghosts)) → AllByRecursion IsNew logs → AllByRecursion (λ (log : LogWriter D ghosts). fault_of log ≡ None) logs
new_fresh [] new = tt
new_fresh (log ∷ logs) new = (new.0.2, new_fresh logs new.1)
