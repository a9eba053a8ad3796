-- The records of a set's logs are those that its calls began.
use Rattle.std.proofs.Common.{◌≡◌, ℕ, zero, suc, ◌+◌, true, List, [], ◌∷◌, ◌++◌, length, drop, map, flat_map, Option, Some, None, IfSome, MatchOption, refl, sym, ◌∙◌, ap, subst, append_assoc, append-nil}
use Rattle.std.proofs.Math.Seq.{drop-append-add}
use Rattle.std.proofs.lemmas.Grind.{flat_map-append}
use Rattle.std.specs.List.{AllByRecursion, AllZip}
use Rattle.base_devices.specs.declared.disk.Disk.{Ghosts}
use Rattle.log_laws.specs.Fronts.{records_in}
use Rattle.log_writer.specs.declared.writer.LogWriter.{LogWriter}
use Rattle.log_writer.specs.Words.{fault_of}
use Rattle.log_writer.specs.Adding.{GroupCall, record_of_call, text_at_end, Grows, Stops}
use Rattle.log_writer.specs.Written.{Wrote, no_call, one_more, read, if_worked, first_fault, written_by, begun_by, HaveSynced}
use Rattle.log_writer.specs.Sets.{counted}
use Rattle.log_writer.specs.SetSplits.{IsSameCall, until_fault, AreFilled}
use Rattle.log_writer.proofs.Calls.{first_more, written_len}
use Rattle.log_writer.proofs.Surviving.{Laws}
use Rattle.log_writer.proofs.SetStates.{written_append, logs_of_parts, logs_from}

-- calls, and then others
pub begun_append : (calls more : List GroupCall) → first_fault calls ≡ None → begun_by (calls ++ more) ≡ written_by calls ++ begun_by more
begun_append [] more none = refl
begun_append (d ∷ calls) more none = with_failed d.failed none (begun_append calls more)
  where
    with_failed : (f : Option ℕ) → if_worked f (first_fault calls) f ≡ None → (first_fault calls ≡ None → begun_by (calls ++ more) ≡ written_by calls ++ begun_by more)
        → record_of_call d ∷ if_worked f (begun_by (calls ++ more)) [] ≡ if_worked f (record_of_call d ∷ written_by calls) [] ++ begun_by more
    with_failed None none later = ap (λ (l : List (List ℕ)). record_of_call d ∷ l) (later none)
    with_failed (Some n) none later = absurd (cc)

first_append : (calls more : List GroupCall) → first_fault calls ≡ None → first_fault more ≡ None → first_fault (calls ++ more) ≡ None
first_append [] more none also = also
first_append (d ∷ calls) more none also = with_failed d.failed none (first_append calls more)
  where
    with_failed : (f : Option ℕ) → if_worked f (first_fault calls) f ≡ None → (first_fault calls ≡ None → first_fault more ≡ None → first_fault (calls ++ more) ≡ None) → if_worked f (first_fault (calls ++ more)) f ≡ None
    with_failed None none later = later none also
    with_failed (Some n) none later = absurd (cc)

-- those that come after the first that failed began nothing
pub until_begun : (calls : List GroupCall) → begun_by (until_fault calls) ≡ begun_by calls
until_begun [] = refl
until_begun (d ∷ calls) = with_failed d.failed (until_begun calls)
  where
    with_failed : (f : Option ℕ) → begun_by (until_fault calls) ≡ begun_by calls → record_of_call d ∷ if_worked f (begun_by (if_worked f (until_fault calls) [])) [] ≡ record_of_call d ∷ if_worked f (begun_by calls) []
    with_failed None more = ap (λ (l : List (List ℕ)). record_of_call d ∷ l) more
    with_failed (Some n) more = refl

-- nor wrote anything
pub until_written : (calls : List GroupCall) → written_by (until_fault calls) ≡ written_by calls
until_written [] = refl
until_written (d ∷ calls) = with_failed d.failed (until_written calls)
  where
    with_failed : (f : Option ℕ) → written_by (until_fault calls) ≡ written_by calls → if_worked f (record_of_call d ∷ written_by (if_worked f (until_fault calls) [])) [] ≡ if_worked f (record_of_call d ∷ written_by calls) []
    with_failed None more = ap (λ (l : List (List ℕ)). record_of_call d ∷ l) more
    with_failed (Some n) more = refl

pub same_written : (calls others : List GroupCall) → AllZip IsSameCall calls others → written_by others ≡ written_by calls
same_written [] [] same = refl
same_written [] (d ∷ others) same = absurd same
same_written (c ∷ calls) [] same = absurd same
same_written (c ∷ calls) (d ∷ others) same =
    let counts = same.0.0 in
    ap (λ (x : GroupCall). written_by (x ∷ others)) same.0.1 ∙ with_failed counts c.failed (same_written calls others same.1)
  where
    with_failed : (n : ℕ) (f : Option ℕ) → written_by others ≡ written_by calls
        → if_worked (counted n (record c { failed = f })).failed (record_of_call c ∷ written_by others) [] ≡ if_worked f (record_of_call c ∷ written_by calls) []
    with_failed n None more = ap (λ (l : List (List ℕ)). record_of_call c ∷ l) more
    with_failed n (Some m) more = refl

-- how a fault is counted makes no difference
pub same_begun : (calls others : List GroupCall) → AllZip IsSameCall calls others → begun_by others ≡ begun_by calls
same_begun [] [] same = refl
same_begun [] (d ∷ others) same = absurd same
same_begun (c ∷ calls) [] same = absurd same
same_begun (c ∷ calls) (d ∷ others) same =
    let counts = same.0.0 in
    ap (λ (x : GroupCall). begun_by (x ∷ others)) same.0.1 ∙ with_failed counts c.failed (same_begun calls others same.1)
  where
    with_failed : (n : ℕ) (f : Option ℕ) → begun_by others ≡ begun_by calls → record_of_call c ∷ if_worked (counted n (record c { failed = f })).failed (begun_by others) [] ≡ record_of_call c ∷ if_worked f (begun_by calls) []
    with_failed n None more = ap (λ (l : List (List ℕ)). record_of_call c ∷ l) more
    with_failed n (Some m) more = refl

module _ {D : Type 0} {ghosts : Ghosts D} where
  -- where a log has no fault, none of its calls failed
  pub alive_calls : (old : LogWriter D ghosts) (calls : List GroupCall) (new : LogWriter D ghosts) → Wrote old calls new → fault_of new ≡ None → first_fault calls ≡ None
  alive_calls old calls new no_call alive = refl
  alive_calls old calls new (one_more {calls = before} {now = now} c wrote adds) alive = by_fault (λ e. alive_calls old before now wrote e) (fault_of now) refl adds.dead
    where
      by_answer : (f : Option ℕ) → MatchOption f (Grows (text_at_end c now) now new) (Stops now new) → f ≡ None
      by_answer None kept = refl
      by_answer (Some n) kept = let wrong : ◌≡◌ {A = Option ℕ} None (Some n) = sym alive ∙ kept.fault in absurd (cc)

      by_fault : (fault_of now ≡ None → first_fault before ≡ None) → (f : Option ℕ) → fault_of now ≡ f → IfSome f (λ count. (c.failed ≡ Some count) × (new ≡ now)) → first_fault (before ++ c ∷ []) ≡ None
      by_fault earlier None none kept = first_more before c (earlier none) ∙ by_answer c.failed (adds.kept none)
      by_fault earlier (Some n) dead kept = let wrong : ◌≡◌ {A = Option ℕ} None (Some n) = sym alive ∙ (ap fault_of kept.1 ∙ dead) in absurd (cc)
  alive_calls old calls new (read {now = now} wrote r) alive = alive_calls old calls now wrote (sym r.fault ∙ alive)

  -- none of the calls failed that filled logs
  pub filled_alive : (olds : List (LogWriter D ghosts)) (parts : List (List GroupCall)) (news : List (LogWriter D ghosts)) → AreFilled olds parts news → AllByRecursion (λ (part : List GroupCall). first_fault part ≡ None) parts
  filled_alive olds [] news are = tt
  filled_alive [] (p ∷ parts) news are = absurd are
  filled_alive (o ∷ olds) (p ∷ parts) [] are = absurd are
  filled_alive (o ∷ olds) (p ∷ parts) (n ∷ news) are = (alive_calls o p are.0.written are.0.wrote are.0.alive, filled_alive olds parts news are.1)

abbrev pub joined : List (List GroupCall) → List GroupCall
joined parts = flat_map (λ (part : List GroupCall). part) parts

pub joined_alive : (parts : List (List GroupCall)) → AllByRecursion (λ (part : List GroupCall). first_fault part ≡ None) parts → first_fault (joined parts) ≡ None
joined_alive [] all = refl
joined_alive (p ∷ parts) all = first_append p (joined parts) all.0 (joined_alive parts all.1)

pub written_joined : (parts : List (List GroupCall)) → AllByRecursion (λ (part : List GroupCall). first_fault part ≡ None) parts → records_in (map written_by parts) ≡ written_by (joined parts)
written_joined [] all = refl
written_joined (p ∷ parts) all = ap (λ (l : List (List ℕ)). written_by p ++ l) (written_joined parts all.1) ∙ sym (written_append p (joined parts) all.0)

no_records : {A : Type 0} (xs : List A) → records_in (map (λ (x : A). []) xs) ≡ []
no_records [] = refl
no_records (x ∷ xs) = no_records xs

module _ {D : Type 0} {ghosts : Ghosts D} (laws : Laws ghosts) where
  begun_of_parts : (parts : List (List GroupCall)) (own : List GroupCall) (later : List (LogWriter D ghosts)) → AllByRecursion (λ (part : List GroupCall). first_fault part ≡ None) parts → records_in (logs_of_parts laws parts own later) ≡ begun_by (joined parts ++ own)
  unfolding logs_of_parts
  begun_of_parts [] own later all = ap (λ (l : List (List ℕ)). begun_by own ++ l) (no_records later) ∙ append-nil (begun_by own)
  begun_of_parts (p ∷ parts) own later all =
      ap (λ (l : List (List ℕ)). written_by p ++ l) (begun_of_parts parts own later all.1) ∙ (sym (begun_append p (joined parts ++ own) all.0) ∙ ap begun_by (sym (append_assoc p (joined parts) own)))

  begun_from : (before : List GroupCall) (parts : List (List GroupCall)) (own : List GroupCall) (later : List (LogWriter D ghosts)) → first_fault before ≡ None → AllByRecursion (λ (part : List GroupCall). first_fault part ≡ None) parts
      → records_in (logs_from laws before parts own later) ≡ written_by before ++ begun_by (joined parts ++ own)
  unfolding logs_from
  begun_from before [] own later none all = ap (λ (l : List (List ℕ)). begun_by (before ++ own) ++ l) (no_records later) ∙ (append-nil (begun_by (before ++ own)) ∙ begun_append before own none)
  begun_from before (p ∷ parts) own later none all =
      ap (λ (l : List (List ℕ)). written_by (before ++ p) ++ l) (begun_of_parts parts own later all.1)
      ∙ (ap (λ (l : List (List ℕ)). l ++ begun_by (joined parts ++ own)) (written_append before p none) ∙ (append_assoc (written_by before) (written_by p) (begun_by (joined parts ++ own))
      ∙ ap (λ (l : List (List ℕ)). written_by before ++ l) (sym (begun_append p (joined parts ++ own) all.0) ∙ ap begun_by (sym (append_assoc p (joined parts) own)))))

  -- all records, of the logs that were full before and of those from the current one on
  pub all_begun : (parts others : List (List GroupCall)) (own last : List GroupCall) (later : List (LogWriter D ghosts)) (before after : List GroupCall) → AllByRecursion (λ (part : List GroupCall). first_fault part ≡ None) parts → AllByRecursion (λ (part : List GroupCall). first_fault part ≡ None) others
      → first_fault own ≡ None → first_fault before ≡ None → AllZip IsSameCall (until_fault before) (joined parts ++ own) → AllZip IsSameCall (until_fault after) (joined others ++ last)
      → records_in (map written_by parts ++ logs_from laws own others last later) ≡ begun_by (before ++ after)
  all_begun parts others own last later before after alive also none first same_before same_after =
      let xs : List GroupCall = joined parts ++ own in
      let ys : List GroupCall = joined others ++ last in
      let no_fault : first_fault xs ≡ None = first_append (joined parts) own (joined_alive parts alive) none in
      let left : records_in (map written_by parts ++ logs_from laws own others last later) ≡ written_by xs ++ begun_by ys =
      flat_map-append (λ (r : List (List ℕ)). r) (map written_by parts) (logs_from laws own others last later)
      ∙ ((λ i. written_joined parts alive i ++ begun_from own others last later none also i)
      ∙ (sym (append_assoc (written_by (joined parts)) (written_by own) (begun_by ys)) ∙ ap (λ (l : List (List ℕ)). l ++ begun_by ys) (sym (written_append (joined parts) own (joined_alive parts alive))))) in
      let one : begun_by xs ≡ begun_by before = same_begun (until_fault before) xs same_before ∙ until_begun before in
      let two : begun_by ys ≡ begun_by after = same_begun (until_fault after) ys same_after ∙ until_begun after in
      let all_x : begun_by xs ≡ written_by xs = ap begun_by (sym (append-nil xs)) ∙ (begun_append xs [] no_fault ∙ append-nil (written_by xs)) in
      let all_b : begun_by before ≡ written_by before = ap begun_by (sym (append-nil before)) ∙ (begun_append before [] first ∙ append-nil (written_by before)) in
      left ∙ ((λ i. (sym all_x ∙ (one ∙ all_b)) i ++ two i) ∙ sym (begun_append before after first))

-- Those that synced are among the certain ones.

-- how many records are certain: those of the logs that were filled, and some of the current one
unfoldable pub certain_in : List (List GroupCall) → ℕ → ℕ
certain_in [] safe = safe
certain_in (calls ∷ parts) safe = length (written_by calls) + certain_in parts safe

pub until_all : (calls : List GroupCall) → first_fault calls ≡ None → until_fault calls ≡ calls
until_all [] none = refl
until_all (d ∷ calls) none = with_failed d.failed none (until_all calls)
  where
    with_failed : (f : Option ℕ) → if_worked f (first_fault calls) f ≡ None → (first_fault calls ≡ None → until_fault calls ≡ calls) → d ∷ if_worked f (until_fault calls) [] ≡ d ∷ calls
    with_failed None none more = ap (λ (l : List GroupCall). d ∷ l) (more none)
    with_failed (Some n) none more = absurd (cc)

one_same : (n : ℕ) (c : GroupCall) → ((counted n c).failed ≡ None → c.sync ≡ true → ⊥) → c.failed ≡ None → c.sync ≡ true → ⊥
one_same n c never none asked = never (ap (λ (f : Option ℕ). (counted n (record c { failed = f })).failed) none) asked

pub synced_same : (n : ℕ) (calls others : List GroupCall) → AllZip IsSameCall calls others → HaveSynced others n → HaveSynced calls n
synced_same zero [] [] same have = tt
synced_same (suc n) [] [] same have = tt
synced_same n [] (d ∷ others) same have = absurd same
synced_same n (c ∷ calls) [] same have = absurd same
synced_same zero (c ∷ calls) (d ∷ others) same have = (
  one_same same.0.0 c (subst (λ (x : GroupCall). x.failed ≡ None → x.sync ≡ true → ⊥) same.0.1 have.0),
  synced_same zero calls others same.1 have.1,
)
synced_same (suc n) (c ∷ calls) (d ∷ others) same have = synced_same n calls others same.1 have

pub synced_parts : (parts : List (List GroupCall)) (own : List GroupCall) (safe : ℕ) → AllByRecursion (λ (part : List GroupCall). first_fault part ≡ None) parts → HaveSynced own safe → HaveSynced (joined parts ++ own) (certain_in parts safe)
unfolding certain_in
synced_parts [] own safe alive have = have
synced_parts (p ∷ parts) own safe alive have =
    let rest : List GroupCall = joined parts ++ own in
    let n : ℕ = certain_in parts safe in
    let same : drop (length (written_by p) + n) ((p ++ joined parts) ++ own) ≡ drop n rest =
    (λ i. drop (written_len p alive.0 i + n) (append_assoc p (joined parts) own i)) ∙ drop-append-add p rest n in
    subst (AllByRecursion (λ (c : GroupCall). c.failed ≡ None → c.sync ≡ true → ⊥)) (sym same) (synced_parts parts own safe alive.1 have)

pub all_synced : (parts : List (List GroupCall)) (own before : List GroupCall) (safe : ℕ) → AllByRecursion (λ (part : List GroupCall). first_fault part ≡ None) parts → first_fault before ≡ None → AllZip IsSameCall (until_fault before) (joined parts ++ own) → HaveSynced own safe
    → HaveSynced before (certain_in parts safe)
all_synced parts own before safe alive none same have =
    synced_same (certain_in parts safe) before (joined parts ++ own) (subst (λ (l : List GroupCall). AllZip IsSameCall l (joined parts ++ own)) (until_all before none) same) (synced_parts parts own safe alive have)
