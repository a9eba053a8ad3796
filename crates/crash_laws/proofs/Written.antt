-- What the first calls wrote, and the log writer between these and the others.
use Rattle.std.proofs.Common.{◌≡◌, ℕ, zero, suc, ◌≤◌, true, List, [], ◌∷◌, ◌++◌, length, take, drop, map, Option, Some, None, IfSome, nat_lt, refl, ap, sym, ◌∙◌, subst, arith, append-nil, length-append}
use Rattle.std.proofs.lemmas.Bool.{ltb-true, ltb-false}
use Rattle.std.proofs.lemmas.List.{take-take, take-append-le, drop-append-le, take_all, drop_all}
use Rattle.std.specs.List.{AllZip}
use Rattle.base_devices.specs.Disk.{Disk, Told, all_safe}
use Rattle.base_devices.specs.declared.disk.Disk.{Ghosts}
use Rattle.model_base.specs.Log.{Beginning, text_after}
use Rattle.model_base.specs.History.{Entry}
use Rattle.model_base.specs.Attempts.{Attempt}
use Rattle.model_base.specs.LogContents.{GroupCall, record_of_call, records_of}
use Rattle.log_laws.specs.Prefixes.{BeginsWith}
use Rattle.log_laws.proofs.Next.{cases_bool}
use Rattle.log_writer.specs.declared.writer.LogWriter.{LogWriter}
use Rattle.log_writer.specs.Words.{disk_of, fault_of}
use Rattle.log_writer.specs.Written.{Wrote, no_call, one_more, read, if_worked, first_fault, written_by}
use Rattle.log_writer.proofs.Keeping.{after_front, after_shorter}
use Rattle.log_writer.proofs.Putting.{told_so}
use Rattle.model_runs.specs.Written.{WroteEntries, AreLost}
use Rattle.model_accounts.proofs.Logs.{same_records}
use Rattle.run_outcome.specs.declared.log_start.LogStart.{LogStart}
use Rattle.run_outcome.specs.declared.log_start.LogStart.TheVariants.{New, Over, Behind}
use Rattle.run_outcome.specs.Running.{Before, begun_on}
use Rattle.run_execution.specs.Ends.{HasOpenedAs}
use Rattle.run_execution.proofs.SafeLogs.{call_goes_on, read_goes_on}

-- What the first calls wrote

pub written_first : (n : ℕ) (calls : List GroupCall) → written_by (take n calls) ≡ take n (written_by calls)
written_first zero calls = refl
written_first (suc n) [] = refl
written_first (suc n) (c ∷ calls) = by_answer c.failed (written_first n calls)
  where
    by_answer : (f : Option ℕ) → written_by (take n calls) ≡ take n (written_by calls) → if_worked f (record_of_call c ∷ written_by (take n calls)) [] ≡ take (suc n) (if_worked f (record_of_call c ∷ written_by calls) [])
    by_answer None same = ap (λ l. record_of_call c ∷ l) same
    by_answer (Some count) same = refl

-- each of these calls worked, whatever calls come after them
written_for : (groups : List (List Entry)) (calls more : List GroupCall) → AllZip WroteEntries groups calls → written_by (calls ++ more) ≡ map record_of_call calls ++ written_by more
written_for [] [] more each = refl
written_for [] (c ∷ calls) more each = absurd each
written_for (group ∷ groups) [] more each = absurd each
written_for (group ∷ groups) (c ∷ calls) more each =
    ap (λ f. if_worked f (record_of_call c ∷ written_by (calls ++ more)) []) (each.0).ok ∙ ap (λ l. record_of_call c ∷ l) (written_for groups calls more each.1)

-- the call that failed wrote nothing whole
none_written : (group_bytes : ℕ) (attempts : List (List Attempt)) (fault : Option ℕ) (last : ℕ) (lost : List GroupCall) → AreLost group_bytes attempts fault last lost → written_by lost ≡ []
none_written group_bytes attempts None last lost are = ap written_by are
none_written group_bytes attempts (Some count) last lost are = let c = are.0 in ap written_by are.1 ∙ ap (λ f. if_worked f (record_of_call c ∷ []) []) (are.2).failed

-- so all calls wrote the groups' records
pub written_all : (group_bytes : ℕ) (attempts : List (List Attempt)) (fault : Option ℕ) (last : ℕ) (groups : List (List Entry)) (calls lost : List GroupCall) → AllZip WroteEntries groups calls → AreLost group_bytes attempts fault last lost
    → written_by (calls ++ lost) ≡ records_of groups
written_all group_bytes attempts fault last groups calls lost each are =
    written_for groups calls lost each ∙ ap (λ l. map record_of_call calls ++ l) (none_written group_bytes attempts fault last lost are) ∙ append-nil (map record_of_call calls) ∙ same_records groups calls each

-- what begins with the text of records begins with the text of the first of them
pub begins_first : (b : Beginning) (records : List (List ℕ)) (n : ℕ) (image : List ℕ) → BeginsWith (text_after b records) image → BeginsWith (text_after b (take n records)) image
begins_first b records n image begins =
    let shorter = after_shorter b records n in
    let front : ℕ = length (text_after b (take n records)) in
    (omega (arith, shorter, begins.0), sym (take-take front (length (text_after b records)) image shorter) ∙ ap (take front) begins.1 ∙ after_front b records n)

-- as many calls as there are groups have worked
pub none_failed_first : (n : ℕ) (groups : List (List Entry)) (calls more : List GroupCall) → AllZip WroteEntries groups calls → n ≤ length groups → first_fault (take n (calls ++ more)) ≡ None
none_failed_first zero groups calls more each within = refl
none_failed_first (suc n) [] calls more each within = absurd (omega (arith, within))
none_failed_first (suc n) (group ∷ groups) [] more each within = absurd each
none_failed_first (suc n) (group ∷ groups) (c ∷ calls) more each within =
    ap (λ f. if_worked f (first_fault (take n (calls ++ more))) f) (each.0).ok ∙ none_failed_first n groups calls more each.1 (omega (arith, within))

-- A log writer between some calls and others

pub record IsBetween {D : Type 0} {ghosts : Ghosts D} (old new : LogWriter D ghosts) (n : ℕ) (calls : List GroupCall) : Type 0 where
  pub between : LogWriter D ghosts
  pub before : Wrote old (take n calls) between
  pub after : Wrote between (drop n calls) new

pub split_wrote : {D : Type 0} {ghosts : Ghosts D} (old : LogWriter D ghosts) (calls : List GroupCall) (new : LogWriter D ghosts) → Wrote old calls new → (n : ℕ) → n ≤ length calls → IsBetween old new n calls
split_wrote old calls new no_call zero within = record { between = old; before = no_call; after = no_call }
split_wrote old calls new no_call (suc n) within = absurd (omega (arith, within))
split_wrote old calls new (one_more {calls = front} {now = now} c wrote adds) n within =
    cases_bool (nat_lt (length front) n) all_of (λ few. some_of (ltb-false (length front) n few) (split_wrote old front now wrote n (ltb-false (length front) n few)))
  where
    all_of : nat_lt (length front) n ≡ true → IsBetween old new n (front ++ c ∷ [])
    all_of past =
        let most : length (front ++ c ∷ []) ≤ n = omega (arith, ltb-true (length front) n past, length-append front (c ∷ [])) in
        record {
          between = new;
          before = subst (λ (cs : List GroupCall). Wrote old cs new) (sym (take_all n (front ++ c ∷ []) most)) (one_more c wrote adds);
          after = subst (λ (cs : List GroupCall). Wrote new cs new) (sym (drop_all n (front ++ c ∷ []) most)) no_call;
        }

    some_of : n ≤ length front → IsBetween old now n front → IsBetween old new n (front ++ c ∷ [])
    some_of less parts = record {
      between = parts.between;
      before = subst (λ (cs : List GroupCall). Wrote old cs parts.between) (sym (take-append-le n front (c ∷ []) less)) parts.before;
      after = subst (λ (cs : List GroupCall). Wrote parts.between cs new) (sym (drop-append-le n front (c ∷ []) less)) (one_more c parts.after adds);
    }
split_wrote old calls new (read {now = now} wrote was_read) n within =
    let parts = split_wrote old calls now wrote n within in
    record { between = parts.between; before = parts.before; after = read parts.after was_read }

-- a disk that tells its bytes has told them before
told_before : (R : Disk → Disk → Type 0) (a b : Option Disk) (y : Disk) → Told a b R → b ≡ Some y → (x : Disk) × (a ≡ Some x)
told_before R None None y told e = absurd (cc e)
told_before R None (Some z) y told e = absurd told
told_before R (Some x) b y told e = (x, refl)

module _ {D : Type 0} {ghosts : Ghosts D} where
  pub tells_before : (old : LogWriter D ghosts) (calls : List GroupCall) (new : LogWriter D ghosts) → Wrote old calls new → (y : Disk) → ghosts.told (disk_of new) ≡ Some y → (x : Disk) × (ghosts.told (disk_of old) ≡ Some x)
  tells_before old calls new no_call y e = (y, e)
  tells_before old calls new (one_more {calls = front} {now = now} c wrote adds) y e =
      let one = told_before _ (ghosts.told (disk_of now)) (ghosts.told (disk_of new)) y (call_goes_on c now new (fault_of now) refl adds).told e in
      tells_before old front now wrote one.0 one.1
  tells_before old calls new (read {now = now} wrote was_read) y e =
      let one = told_before _ (ghosts.told (disk_of now)) (ghosts.told (disk_of new)) y (read_goes_on now new was_read).told e in
      tells_before old calls now wrote one.0 one.1

-- What is on the disk as the log begins

-- a disk that tells the same has the same content
same_content : (a now : Option Disk) → now ≡ a → Told a now (λ x y. y.content ≡ x.content)
same_content a now same = subst (λ (t : Option Disk). Told a t (λ x y. y.content ≡ x.content)) (sym same) (of_itself a)
  where
    of_itself : (t : Option Disk) → Told t t (λ x y. y.content ≡ x.content)
    of_itself None = tt
    of_itself (Some x) = refl

-- the content of a disk of which these bytes are kept
kept_content : (a now : Option Disk) (kept : List ℕ) → Told a now (λ x y. y ≡ all_safe (take (length kept) x.content)) → IfSome a (λ d. take (length kept) d.content ≡ kept) → Told a now (λ x y. y.content ≡ kept)
kept_content None None kept told same = tt
kept_content None (Some y) kept told same = told
kept_content (Some x) None kept told same = told
kept_content (Some x) (Some y) kept told same = ap (λ (d : Disk). d.content) told ∙ same

-- it is what was there, or what is kept of it
pub begun_content : {D : Type 0} {ghosts : Ghosts D} (start : LogStart) (before : Before) (opened : D) (log : LogWriter D ghosts) → HasOpenedAs start before opened log → Told (ghosts.told opened) (ghosts.told (disk_of log)) (λ x y. y.content ≡ begun_on start before x.content)
begun_content {ghosts = ghosts} New before opened log has = same_content (ghosts.told opened) (ghosts.told (disk_of log)) (has.looked_at).same
begun_content {ghosts = ghosts} (Over n) before opened log has = told_so (ghosts.told opened) (ghosts.told (disk_of log)) has.told (λ x y e. ap (λ (d : Disk). d.content) e)
begun_content {ghosts = ghosts} (Behind number) before opened log has = kept_content (ghosts.told opened) (ghosts.told (disk_of log)) before.kept (has.0).told has.1
