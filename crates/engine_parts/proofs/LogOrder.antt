-- The batches of a log, those that it kept and those of the calls that wrote it, are in order.
use Rattle.std.proofs.Common.{◌≡◌, ℕ, ◌+◌, ◌-◌, ◌<◌, ◌≤◌, Bool, true, false, Some, None, Option, List, [], ◌∷◌, ◌++◌, length, map, flat_map, cond, ◌==◌, refl, ap, sym, ◌∙◌, subst, arith, append-nil}
use Rattle.std.proofs.lemmas.List.{map-append}
use Rattle.std.proofs.lemmas.List.Sums.{sum_by-append}
use Rattle.std.proofs.lemmas.Option.{same_Some}
use Rattle.std.specs.List.{AllByRecursion, AllZip}
use Rattle.model_base.specs.Batch.{Record, is_counted, count_of}
use Rattle.model_base.specs.Controller.{ControllerCall}
use Rattle.model_base.specs.History.{Entry, max_sequence, last_of, IsHistory, RunsFollow, last_sequence, is_logged, logged_entries}
use Rattle.model_base.specs.LogContents.{GroupCall}
use Rattle.model_base.specs.Recovery.{Logged, last_after, AreInOrder, last_sequence as last_kept}
use Rattle.model_base.specs.Since.{LogRecord, record_of_batch}
use Rattle.model_base.specs.Since as log
use Rattle.model_runs.specs.Written.{WroteEntries}
use Rattle.log_recovery.specs.Updating.{updates_in}
use Rattle.log_writer.specs.ReadableLogs.{batch_of_call, batches_by}
use Rattle.log_writer.specs.Written.{if_worked}
use Rattle.table_rule.specs.declared.content.MemberVersions.{MemberVersions}
use Rattle.engine_rule.specs.Asked.{LedGroup}
use Rattle.engine_rule.specs.Commits.{Commit}
use Rattle.engine_rule.specs.Consistent.{AreConsistent}
use Rattle.engine_rule.specs.Entries.{entries_of}
use Rattle.engine_rule.specs.LogCalls.{AreLostWrites}
use Rattle.engine_rule.specs.Reading.{record_by, records_by, if_worked as records_if_worked}
use Rattle.engine_rule.proofs.Chains.{entries_history}

-- The runs of the logged entries rise, whatever is between them

record Above (low : ℕ) (e : Entry) : Type 0 where
  first : low < e.first
  some : 1 ≤ e.count
  counted : e.count ≡ count_of e.records
  fits : last_of e ≤ max_sequence

Rise : ℕ → List Entry → Type 0
Rise low [] = Unit {0}
Rise low (e ∷ entries) = Above low e × Rise (last_of e) entries

logged_rise : (low start : ℕ) (entries : List Entry) → low ≤ start → IsHistory start entries → Rise low (logged_entries entries)
unfolding Rise
logged_rise low start [] le is = tt
logged_rise low start (e ∷ entries) le is =
    let follows = is.0 in
    by_flag (is_logged e.flag) (record { first = let first = follows.first in omega (arith, first, le); some = follows.some; counted = follows.counted; fits = follows.fits })
    (λ before within. logged_rise before (last_of e) entries within is.1)
  where
    by_flag : (b : Bool) → Above low e → ((before : ℕ) → before ≤ last_of e → Rise before (logged_entries entries)) → Rise low (cond b (e ∷ logged_entries entries) (logged_entries entries))
    by_flag true above later = (above, later (last_of e) (omega arith))
    by_flag false above later = let follows = is.0 in later low (let first = follows.first in let some = follows.some in omega (arith, first, some, le))

rise_parts : (low : ℕ) (xs ys : List Entry) → Rise low (xs ++ ys) → Rise low xs × Rise (last_sequence low xs) ys
unfolding Rise
rise_parts low [] ys rise = (tt, rise)
rise_parts low (e ∷ xs) ys rise = let parts = rise_parts (last_of e) xs ys rise.1 in ((rise.0, parts.0), parts.1)

rise_ends : (low : ℕ) (entries : List Entry) → low ≤ max_sequence → Rise low entries → last_sequence low entries ≤ max_sequence
unfolding Rise
rise_ends low [] within rise = within
rise_ends low (e ∷ entries) within rise = rise_ends (last_of e) entries (rise.0).fits rise.1

-- A group is one batch of all its records

abbrev joined : List Entry → List Record
joined entries = flat_map (λ (records : List Record). records) (map (λ (e : Entry). e.records) entries)

abbrev as_logged : List Entry → Logged
as_logged [] = record { first = 0; records = [] }
as_logged (e ∷ entries) = record { first = e.first; records = joined (e ∷ entries) }

-- the counts of entries whose runs follow each other lead from the sequence before the first run to the last sequence
-- of the runs
count_joined : (e : Entry) (entries : List Entry) → count_of (joined (e ∷ entries)) ≡ count_of e.records + count_of (joined entries)
count_joined e entries = sum_by-append (λ r. cond (is_counted r) 1 0) e.records (joined entries)

run_ends : (last : ℕ) (entries : List Entry) → IsHistory last entries → last + count_of (joined entries) ≡ last_sequence last entries
run_ends last [] is = omega arith
run_ends last (e ∷ entries) is =
    let follows = is.0 in
    let first = follows.first in
    let counted = follows.counted in
    omega (arith, first, counted, count_joined e entries, run_ends (last_of e) entries is.1)

last_within : (low last end n : ℕ) → low ≤ end → last ≤ end → cond (n == 0) low last ≤ end
last_within low last end n before after = by_count (n == 0)
  where
    by_count : (b : Bool) → cond b low last ≤ end
    by_count true = before
    by_count false = after

abbrev all_of : List (List Entry) → List Entry
all_of groups = flat_map (λ (group : List Entry). group) groups

-- a group has an entry, and its runs follow each other
record IsRun (group : List Entry) : Type 0 where
  some : 0 < length group
  runs : RunsFollow group

in_order : (low start : ℕ) (groups : List (List Entry)) → low ≤ start → AllByRecursion IsRun groups → Rise start (all_of groups) → AreInOrder low (map as_logged groups)
unfolding Rise
in_order low start [] le each rise = tt
in_order low start ([] ∷ groups) le each rise = absurd (let some = (each.0).some in omega (arith, some))
in_order low start ((e ∷ entries) ∷ groups) le each rise =
    let above = rise.0 in
    let first : start < e.first = above.first in
    let some : 1 ≤ e.count = above.some in
    let counted : e.count ≡ count_of e.records = above.counted in
    let parts = rise_parts start (e ∷ entries) (all_of groups) rise in
    let n : ℕ = count_of (joined (e ∷ entries)) in
    let end : ℕ = last_sequence (last_of e) entries in
    let is_end : e.first + n - 1 ≡ end = omega (arith, counted, some, count_joined e entries, run_ends (last_of e) entries (each.0).runs) in (
      λ counts. (omega (arith, first, le), omega (arith, is_end, rise_ends (last_of e) entries above.fits (parts.0).1)),
      in_order (last_after low (as_logged (e ∷ entries))) end groups
          (last_within low (e.first + n - 1) end n (omega (arith, le, first, is_end, some, counted, count_joined e entries)) (omega (arith, is_end))) each.1 parts.1,
    )

order_joined : (last : ℕ) (xs ys : List Logged) → AreInOrder last xs → AreInOrder (last_kept last xs) ys → AreInOrder last (xs ++ ys)
order_joined last [] ys first later = later
order_joined last (x ∷ xs) ys first later = (first.0, order_joined (last_after last x) xs ys first.1 later)

-- The batches of the calls are those groups

batch_is : (group : List Entry) (c : GroupCall) → WroteEntries group c → batch_of_call c ≡ as_logged group
batch_is [] c wrote = absurd (cc wrote.some)
batch_is (e ∷ entries) c wrote =
    let first : c.first ≡ e.first = sym (same_Some e.first c.first wrote.some) in
    λ i. record { first = first i; records = flat_map (λ (records : List Record). records) (wrote.batches i) }

has_entries : (group : List Entry) (c : GroupCall) → WroteEntries group c → 0 < length group
has_entries [] c wrote = absurd (cc wrote.some)
has_entries (e ∷ entries) c wrote = omega arith

are_runs : (groups : List (List Entry)) (calls : List GroupCall) → AllZip WroteEntries groups calls → AllByRecursion RunsFollow groups → AllByRecursion IsRun groups
are_runs [] calls each runs = tt
are_runs (group ∷ groups) [] each runs = absurd each
are_runs (group ∷ groups) (c ∷ calls) each runs = (record { some = has_entries group c each.0; runs = runs.0 }, are_runs groups calls each.1 runs.1)

batches_worked : (groups : List (List Entry)) (calls more : List GroupCall) → AllZip WroteEntries groups calls → batches_by (calls ++ more) ≡ map as_logged groups ++ batches_by more
batches_worked [] [] more each = refl
batches_worked [] (c ∷ calls) more each = absurd each
batches_worked (group ∷ groups) [] more each = absurd each
batches_worked (group ∷ groups) (c ∷ calls) more each =
    let one = batch_is group c each.0 in
    let rest = batches_worked groups calls more each.1 in
    ap (λ (f : Option ℕ). if_worked f (batch_of_call c ∷ batches_by (calls ++ more)) []) (each.0).ok ∙ (λ i. one i ∷ rest i)

batches_lost : (group_bytes : ℕ) (groups : List LedGroup) (fault : Option ℕ) (last : ℕ) (lost : List GroupCall) → AreLostWrites group_bytes groups fault last lost → batches_by lost ≡ []
batches_lost group_bytes groups None last lost none = ap batches_by none
batches_lost group_bytes groups (Some count) last lost one =
    ap batches_by one.1 ∙ ap (λ (f : Option ℕ). if_worked f (batch_of_call one.0 ∷ []) []) one.2.failed

-- so they are in order after those that the log had kept
pub all_in_order : (start clients group_bytes : ℕ) (asked : List ControllerCall) (commits : List Commit) (last : ℕ) (fault : Option ℕ) (published : List (List MemberVersions)) (calls : List GroupCall)
    → AreConsistent start clients group_bytes asked commits last fault published calls → (kept : List Logged) → AreInOrder 0 kept → last_kept 0 kept ≤ start → AreInOrder 0 (kept ++ batches_by calls)
all_in_order start clients group_bytes asked commits last fault published calls k kept ordered below =
    let w = k.written in
    let p = w.parts in
    let low : ℕ = last_kept 0 kept in
    let history : IsHistory start (entries_of commits) = (entries_history start None [] commits k.answered).0 in
    let rise : Rise low (all_of p.parts) = subst (Rise low) (sym p.cut) (logged_rise low start (entries_of commits) below history) in
    let mine : batches_by calls ≡ map as_logged p.parts =
    ap batches_by w.both ∙ (batches_worked p.parts w.worked w.lost p.each ∙ (ap (λ (l : List Logged). map as_logged p.parts ++ l) (batches_lost group_bytes k.in_groups.groups fault last w.lost w.are_lost) ∙ append-nil (map as_logged p.parts))) in
    order_joined 0 kept (batches_by calls) ordered (subst (AreInOrder low) (sym mine) (in_order low low p.parts (omega arith) (are_runs p.parts w.worked p.each p.runs) rise))

-- and the records of those batches are the records of the calls
records_are : (calls : List GroupCall) → map record_of_batch (batches_by calls) ≡ records_by calls
records_are [] = refl
records_are (c ∷ calls) = by_failed c.failed (records_are calls)
  where
    by_failed : (f : Option ℕ) → map record_of_batch (batches_by calls) ≡ records_by calls → map record_of_batch (if_worked f (batch_of_call c ∷ batches_by calls) []) ≡ records_if_worked f (record_by c ∷ records_by calls)
    by_failed None later = ap (λ (l : List LogRecord). record_by c ∷ l) later
    by_failed (Some n) later = refl

pub updates_are : (s upto : ℕ) (kept : List Logged) (calls : List GroupCall) → updates_in s upto (kept ++ batches_by calls) ≡ log.since s upto (map record_of_batch kept ++ records_by calls)
updates_are s upto kept calls = ap (log.since s upto) (map-append record_of_batch kept (batches_by calls) ∙ ap (λ (l : List LogRecord). map record_of_batch kept ++ l) (records_are calls))
