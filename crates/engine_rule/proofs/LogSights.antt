-- What the answers to commits show of the log, with one more group, and for one client.
use Rattle.std.proofs.Common.{◌≡◌, ◌≢◌, ◌⊎◌, inl, inr, ℕ, ◌+◌, ◌-◌, ◌<◌, ◌≤◌, Bool, true, false, cond, ◌==◌, nat_le, List, [], ◌∷◌, ◌++◌, length, filter, fold, sum_by, Option, Some, None, IfSome, slice_get, refl, ap, sym, ◌∙◌, subst, arith, append_assoc, append-nil, length-append}
use Rattle.std.specs.List.{AllByRecursion, AllZip}
use Rattle.std.proofs.lemmas.List.Elements.{filter-append}
use Rattle.std.proofs.lemmas.List.Sums.{sum_by-append, sum_by-cons}
use Rattle.model_base.specs.Batch.{Record, count_of}
use Rattle.model_base.specs.History.{max_sequence}
use Rattle.model_base.specs.LogContents.{GroupCall, IsLoggedBy}
use Rattle.model_base.proofs.Prefixes.{prefix_at}
use Rattle.model_accounts.specs.Sights.{WasLogged}
use Rattle.engine_controller.proofs.Totals.{get_behind}
use Rattle.model_base.specs.History.{Entry}
use Rattle.model_runs.specs.Written.{WroteEntries}
use Rattle.engine_rule.specs.Asked.{LedGroup}
use Rattle.engine_rule.specs.Commits.{Commit}
use Rattle.engine_rule.specs.LogCalls.{AreLostWrites, LogsGroup, SyncsFor, WroteCommits}
use Rattle.engine_rule.specs.LogSights.{has_worked, worked_in, WrittenBatch, LogSight, sights_of, logged_by, batch_with, batches_of, IsNewest, IsShown, ShowsMore, ShowMore, ShowTheLog, written_if, sights_with, sights_without}
use Rattle.engine_rule.specs.Plans.{CommitRequest, AreUnlogged, HaveOwnClients, batch_with as batch_fitting, batches_from, last_with}
use Rattle.engine_rule.proofs.Own.{all_filter}
use Rattle.engine_rule.proofs.OneGroup.{all_append}

-- The calls that worked

worked_append : (xs ys : List GroupCall) → worked_in (xs ++ ys) ≡ worked_in xs ++ worked_in ys
worked_append xs ys = filter-append (λ (c : GroupCall). has_worked c.failed) xs ys

one_worked : (c : GroupCall) → c.failed ≡ None → worked_in (c ∷ []) ≡ c ∷ []
one_worked c ok = ap (λ (failed : Option ℕ). cond (has_worked failed) (c ∷ []) []) ok

one_lost : (c : GroupCall) (count : ℕ) → c.failed ≡ Some count → worked_in (c ∷ []) ≡ []
one_lost c count failed = ap (λ (f : Option ℕ). cond (has_worked f) (c ∷ []) []) failed

pub worked_more : (calls : List GroupCall) (c : GroupCall) → c.failed ≡ None → worked_in (calls ++ c ∷ []) ≡ worked_in calls ++ c ∷ []
worked_more calls c ok = worked_append calls (c ∷ []) ∙ ap (λ (l : List GroupCall). worked_in calls ++ l) (one_worked c ok)

pub worked_no_more : (calls : List GroupCall) (c : GroupCall) (count : ℕ) → c.failed ≡ Some count → worked_in (calls ++ c ∷ []) ≡ worked_in calls
worked_no_more calls c count failed = worked_append calls (c ∷ []) ∙ (ap (λ (l : List GroupCall). worked_in calls ++ l) (one_lost c count failed) ∙ append-nil (worked_in calls))

parts_worked : (parts : List (List Entry)) (calls : List GroupCall) → AllZip WroteEntries parts calls → worked_in calls ≡ calls
parts_worked [] [] each = refl
parts_worked [] (c ∷ calls) each = absurd each
parts_worked (p ∷ parts) [] each = absurd each
parts_worked (p ∷ parts) (c ∷ calls) each =
    ap (λ (failed : Option ℕ). cond (has_worked failed) (c ∷ worked_in calls) (worked_in calls)) each.0.ok ∙ ap (λ (l : List GroupCall). c ∷ l) (parts_worked parts calls each.1)

lost_worked : (group_bytes : ℕ) (groups : List LedGroup) (fault : Option ℕ) (last : ℕ) (lost : List GroupCall) → AreLostWrites group_bytes groups fault last lost → worked_in lost ≡ []
lost_worked group_bytes groups None last lost h = ap worked_in h
lost_worked group_bytes groups (Some count) last lost h = ap worked_in h.1 ∙ one_lost h.0 count h.2.failed

-- those that wrote the commits are the ones that worked
pub worked_are : (group_bytes : ℕ) (groups : List LedGroup) (commits : List Commit) (fault : Option ℕ) (last : ℕ) (calls : List GroupCall) (w : WroteCommits group_bytes groups commits fault last calls) → worked_in calls ≡ w.worked
worked_are group_bytes groups commits fault last calls w =
    ap worked_in w.both ∙ (worked_append w.worked w.lost
    ∙ ((λ i. parts_worked w.parts.parts w.worked w.parts.each i ++ lost_worked group_bytes groups fault last w.lost w.are_lost i) ∙ append-nil w.worked))

logs_worked : (last : ℕ) (requests : List CommitRequest) (old new : List GroupCall) → LogsGroup last requests old new → LogsGroup last requests (worked_in old) (worked_in new)
logs_worked last requests old new (inl (same, why)) = inl (ap worked_in same, why)
logs_worked last requests old new (inr (c, is, writes, syncs, ok)) = inr (c, ap worked_in is ∙ worked_more old c ok, writes, syncs, ok)

-- More calls show what fewer calls showed

newest_more : (worked more : List GroupCall) (made : ℕ) (batch : Option WrittenBatch) → IfSome batch (IsNewest worked made) → IfSome batch (IsNewest (worked ++ more) made)
newest_more worked more made None h = tt
newest_more worked more made (Some b) h = record { call = h.call; some = h.some; there = prefix_at worked (worked ++ more) (more, refl) (made - 1) h.call h.there; wrote = h.wrote }

shown_more : (worked more : List GroupCall) (sights : List LogSight) → AllByRecursion (IsShown worked) sights → AllByRecursion (IsShown (worked ++ more)) sights
shown_more worked more [] each = tt
shown_more worked more (s ∷ sights) each = (
  record { within = (let low = each.0.within in let long = length-append worked more in omega (arith, low, long)); newest = newest_more worked more s.made s.batch each.0.newest },
  shown_more worked more sights each.1,
)

-- Two lists, one after the other

order_append : (xs ys : List LogSight) → ShowMore xs → ShowMore ys → AllByRecursion (λ (s : LogSight). AllByRecursion (ShowsMore s) ys) xs → ShowMore (xs ++ ys)
order_append [] ys a b all = b
order_append (s ∷ xs) ys a b all = (all_append (ShowsMore s) xs ys a.0 all.0, order_append xs ys a.1 b all.1)

-- A group's answers all show this number of calls, and no two of them are of one client

abbrev AllMade : ℕ → List LogSight → Type 0
AllMade made sights = AllByRecursion (λ (s : LogSight). s.made ≡ made) sights

abbrev AreOfOthers : List LogSight → Type 0
AreOfOthers [] = Unit {0}
AreOfOthers (s ∷ sights) = AllByRecursion (λ (t : LogSight). s.client ≢ t.client) sights × AreOfOthers sights

group_order : (made : ℕ) (sights : List LogSight) → AllMade made sights → AreOfOthers sights → ShowMore sights
group_order made [] all others = tt
group_order made (s ∷ sights) all others = (each sights all.1 others.0, group_order made sights all.1 others.1)
  where
    each : (ts : List LogSight) → AllMade made ts → AllByRecursion (λ (t : LogSight). s.client ≢ t.client) ts → AllByRecursion (ShowsMore s) ts
    each [] own apart = tt
    each (t ∷ ts) own apart = (record { made = (let a = all.0 in let b = own.0 in omega (arith, a, b)); later = λ same. absurd (apart.0 same) }, each ts own.1 apart.1)

-- Earlier answers show fewer calls than a group shows that was logged, and no more than one that wasn't

none_later : (s : LogSight) (made : ℕ) → s.made ≤ made → (ts : List LogSight) → AllMade made ts → AllByRecursion (λ (t : LogSight). t.batch ≡ None) ts → AllByRecursion (ShowsMore s) ts
none_later s made low [] own none = tt
none_later s made low (t ∷ ts) own none = (
  record { made = (let a = own.0 in omega (arith, low, a)); later = λ same. subst (λ (batch : Option WrittenBatch). IfSome batch (λ (b : WrittenBatch). s.made < t.made)) (sym none.0) tt },
  none_later s made low ts own.1 none.1,
)

some_later : (s : LogSight) (made : ℕ) → s.made < made → (ts : List LogSight) → AllMade made ts → AllByRecursion (ShowsMore s) ts
some_later s made low [] own = tt
some_later s made low (t ∷ ts) own = (
  record { made = (let a = own.0 in omega (arith, low, a)); later = λ same. if_some t.batch (let a = own.0 in omega (arith, low, a)) },
  some_later s made low ts own.1,
)
  where
    if_some : {A : Type 0} (batch : Option WrittenBatch) → A → IfSome batch (λ (b : WrittenBatch). A)
    if_some None a = tt
    if_some (Some b) a = a

all_map : {A : Type 0} (P Q : A → Type 0) → ((x : A) → P x → Q x) → (xs : List A) → AllByRecursion P xs → AllByRecursion Q xs
all_map P Q f [] all = tt
all_map P Q f (x ∷ xs) all = (f x all.0, all_map P Q f xs all.1)

-- A group that wasn't logged

pub shown_first : ShowTheLog [] []
shown_first = record { each = tt; order = tt }

without_made : (made : ℕ) (requests : List CommitRequest) → AllMade made (sights_without made requests)
without_made made [] = tt
without_made made (q ∷ requests) = (refl, without_made made requests)

without_batches : (made : ℕ) (requests : List CommitRequest) → AllByRecursion (λ (t : LogSight). t.batch ≡ None) (sights_without made requests)
without_batches made [] = tt
without_batches made (q ∷ requests) = (refl, without_batches made requests)

without_others : (made : ℕ) (requests : List CommitRequest) → HaveOwnClients requests → AreOfOthers (sights_without made requests)
without_others made [] own = tt
without_others made (q ∷ requests) own = (unlike requests own.0, without_others made requests own.1)
  where
    unlike : (rs : List CommitRequest) → AllByRecursion (λ (r : CommitRequest). q.client ≢ r.client) rs → AllByRecursion (λ (t : LogSight). q.client ≢ t.client) (sights_without made rs)
    unlike [] h = tt
    unlike (r ∷ rs) h = (h.0, unlike rs h.1)

without_shown : (worked : List GroupCall) (requests : List CommitRequest) → AllByRecursion (IsShown worked) (sights_without (length worked) requests)
without_shown worked [] = tt
without_shown worked (q ∷ requests) = (record { within = omega arith; newest = tt }, without_shown worked requests)

shown_without_runs : (worked : List GroupCall) (sights : List LogSight) (requests : List CommitRequest) → HaveOwnClients requests → ShowTheLog worked sights → ShowTheLog worked (sights ++ sights_without (length worked) requests)
shown_without_runs worked sights requests own h = record {
  each = all_append (IsShown worked) sights (sights_without (length worked) requests) h.each (without_shown worked requests);
  order = order_append sights (sights_without (length worked) requests) h.order (group_order (length worked) (sights_without (length worked) requests) (without_made (length worked) requests) (without_others (length worked) requests own))
      (all_map (IsShown worked) (λ (s : LogSight). AllByRecursion (ShowsMore s) (sights_without (length worked) requests))
      (λ s is. none_later s (length worked) is.within (sights_without (length worked) requests) (without_made (length worked) requests) (without_batches (length worked) requests)) sights h.each);
}

-- A group that has runs

with_made : (made last : ℕ) (requests : List CommitRequest) → AllMade made (sights_with made last requests)
with_made made last [] = tt
with_made made last (q ∷ requests) = (refl, with_made made (last_with last q.records) requests)

with_others : (made last : ℕ) (requests : List CommitRequest) → HaveOwnClients requests → AreOfOthers (sights_with made last requests)
with_others made last [] own = tt
with_others made last (q ∷ requests) own = (unlike (last_with last q.records) requests own.0, with_others made (last_with last q.records) requests own.1)
  where
    unlike : (at : ℕ) (rs : List CommitRequest) → AllByRecursion (λ (r : CommitRequest). q.client ≢ r.client) rs → AllByRecursion (λ (t : LogSight). q.client ≢ t.client) (sights_with made at rs)
    unlike at [] h = tt
    unlike at (r ∷ rs) h = (h.0, unlike (last_with at r.records) rs h.1)

-- where nothing is logged, no answer shows a batch
none_written : (a b : Bool) (w : WrittenBatch) → (a ≡ true) ⊎ (b ≡ false) → written_if a b w ≡ None
none_written true b w h = refl
none_written false b w (inl e) = absurd (cc e)
none_written false true w (inr e) = absurd (cc e)
none_written false false w (inr e) = refl

unlogged_batches : (made last : ℕ) (requests : List CommitRequest) → AreUnlogged requests → AllByRecursion (λ (t : LogSight). t.batch ≡ None) (sights_with made last requests)
unlogged_batches made last [] h = tt
unlogged_batches made last (q ∷ requests) h = (none_written q.options.no_log _ _ (inl h.0), unlogged_batches made (last_with last q.records) requests h.1)

-- a batch that fits is among the group's batches
no_fit : (last : ℕ) (records : List Record) (rest : List (List Record)) → batch_fitting last records ++ rest ≡ [] → (nat_le (last + count_of records) max_sequence ≡ false) × (rest ≡ [])
no_fit last records rest none = by (nat_le (last + count_of records) max_sequence) refl none
  where
    by : (b : Bool) → nat_le (last + count_of records) max_sequence ≡ b → cond b (records ∷ []) [] ++ rest ≡ [] → (nat_le (last + count_of records) max_sequence ≡ false) × (rest ≡ [])
    by true is e = absurd (cc e)
    by false is e = (is, e)

none_fit : (made last : ℕ) (requests : List CommitRequest) → batches_from last requests ≡ [] → AllByRecursion (λ (t : LogSight). t.batch ≡ None) (sights_with made last requests)
none_fit made last [] none = tt
none_fit made last (q ∷ requests) none =
    let h = no_fit last q.records (batches_from (last_with last q.records) requests) none in
    (none_written q.options.no_log _ _ (inr h.0), none_fit made (last_with last q.records) requests h.1)

with_none_shown : (worked : List GroupCall) (last : ℕ) (requests : List CommitRequest) → AllByRecursion (λ (t : LogSight). t.batch ≡ None) (sights_with (length worked) last requests) → AllByRecursion (IsShown worked) (sights_with (length worked) last requests)
with_none_shown worked last [] none = tt
with_none_shown worked last (q ∷ requests) none = (
  record { within = omega arith; newest = subst (λ (batch : Option WrittenBatch). IfSome batch (IsNewest worked (length worked))) (sym none.0) tt },
  with_none_shown worked (last_with last q.records) requests none.1,
)

-- where the group is logged by one call, its batches are those of the call
module _ (worked : List GroupCall) (c : GroupCall) (ok : c.failed ≡ None) where
  abbrev all : List GroupCall
  all = worked ++ c ∷ []

  abbrev made : ℕ
  made = length all

  newest_at : (front : List (List Record)) (last : ℕ) (q : CommitRequest) (rest : List (List Record)) → c.batches ≡ front ++ (batch_fitting last q.records ++ rest) → last + 1 ≡ c.first + sum_by count_of front → (q.options.sync ≡ true → c.sync ≡ true)
      → (b : Bool) → nat_le (last + count_of q.records) max_sequence ≡ b → (n : Bool) → IfSome (written_if n b (record { first = last + 1; records = q.records; sync = q.options.sync })) (IsNewest all made)
  newest_at front last q rest batches run synced b is true = tt
  newest_at front last q rest batches run synced false is false = tt
  newest_at front last q rest batches run synced true is false =
      let long = length-append worked (c ∷ []) in
      let place : length worked ≡ made - 1 = omega (arith, long) in
      let fits : batch_fitting last q.records ≡ q.records ∷ [] = rw is refl in
      record {
        call = c;
        some = omega (arith, long);
        there = ap (slice_get all) (sym place) ∙ get_behind worked [] c;
        wrote = record { before = front; after = rest; among = batches ∙ ap (λ own. front ++ (own ++ rest)) fits; run = run; synced = synced; ok = ok };
      }

  with_shown : (front : List (List Record)) (last : ℕ) (requests : List CommitRequest) → c.batches ≡ front ++ batches_from last requests → last + 1 ≡ c.first + sum_by count_of front → SyncsFor requests c.sync
      → AllByRecursion (IsShown all) (sights_with made last requests)
  with_shown front last [] batches run syncs = tt
  with_shown front last (q ∷ requests) batches run syncs = (
    record { within = omega arith; newest = newest_at front last q (batches_from (last_with last q.records) requests) batches run syncs.0 (nat_le (last + count_of q.records) max_sequence) refl q.options.no_log },
    with_shown (front ++ batch_fitting last q.records) (last_with last q.records) requests
        (batches ∙ sym (append_assoc front (batch_fitting last q.records) (batches_from (last_with last q.records) requests)))
        (next (nat_le (last + count_of q.records) max_sequence) refl) syncs.1,
  )
    where
      next : (b : Bool) → nat_le (last + count_of q.records) max_sequence ≡ b → last_with last q.records + 1 ≡ c.first + sum_by count_of (front ++ batch_fitting last q.records)
      next true is =
          let sum = sum_by-append count_of front (q.records ∷ []) in let one = sum_by-cons count_of q.records [] in
          rw is (omega (arith, run, sum, one))
      next false is = let same = ap (sum_by count_of) (append-nil front) in rw is (omega (arith, run, same))

shown_with_runs : (last : ℕ) (requests : List CommitRequest) (old new : List GroupCall) (sights : List LogSight) → HaveOwnClients requests → LogsGroup last requests old new → ShowTheLog old sights
    → ShowTheLog new (sights ++ sights_with (length new) last requests)
shown_with_runs last requests old new sights own (inl (same, why)) h = subst (λ calls. ShowTheLog calls (sights ++ sights_with (length calls) last requests)) (sym same) (record {
  each = all_append (IsShown old) sights (sights_with (length old) last requests) h.each (with_none_shown old last requests none);
  order = order_append sights (sights_with (length old) last requests) h.order (group_order (length old) (sights_with (length old) last requests) (with_made (length old) last requests) (with_others (length old) last requests own))
      (all_map (IsShown old) (λ (s : LogSight). AllByRecursion (ShowsMore s) (sights_with (length old) last requests))
      (λ s is. none_later s (length old) is.within (sights_with (length old) last requests) (with_made (length old) last requests) none) sights h.each);
})
  where
    none : AllByRecursion (λ (t : LogSight). t.batch ≡ None) (sights_with (length old) last requests)
    none = elim why [
      | inl unlogged ↦ unlogged_batches (length old) last requests unlogged
      | inr nothing ↦ none_fit (length old) last requests nothing
    ]
shown_with_runs last requests old new sights own (inr (c, is, writes, syncs, ok)) h = subst (λ calls. ShowTheLog calls (sights ++ sights_with (length calls) last requests)) (sym is) (
    let all = old ++ c ∷ [] in let long = length-append old (c ∷ []) in
    record {
      each = all_append (IsShown all) sights (sights_with (length all) last requests) (shown_more old (c ∷ []) sights h.each) (with_shown old c ok [] last requests writes.batches (let first = writes.first in omega (arith, first)) syncs);
      order = order_append sights (sights_with (length all) last requests) h.order (group_order (length all) (sights_with (length all) last requests) (with_made (length all) last requests) (with_others (length all) last requests own))
          (all_map (IsShown old) (λ (s : LogSight). AllByRecursion (ShowsMore s) (sights_with (length all) last requests))
          (λ s is. some_later s (length all) (let low = is.within in omega (arith, low, long)) (sights_with (length all) last requests) (with_made (length all) last requests)) sights h.each);
    })

-- Groups of a log that has these calls, some of which may have failed

pub shown_with : (last : ℕ) (requests : List CommitRequest) (old new : List GroupCall) (sights : List LogSight) → HaveOwnClients requests → LogsGroup last requests old new → ShowTheLog (worked_in old) sights
    → ShowTheLog (worked_in new) (sights ++ sights_with (length (worked_in new)) last requests)
shown_with last requests old new sights own logs h = shown_with_runs last requests (worked_in old) (worked_in new) sights own (logs_worked last requests old new logs) h

pub shown_without : (calls : List GroupCall) (sights : List LogSight) (requests : List CommitRequest) → HaveOwnClients requests → ShowTheLog (worked_in calls) sights
    → ShowTheLog (worked_in calls) (sights ++ sights_without (length (worked_in calls)) requests)
shown_without calls sights requests own h = shown_without_runs (worked_in calls) sights requests own h

pub shown_failed : (calls : List GroupCall) (c : GroupCall) (count : ℕ) (sights : List LogSight) (requests : List CommitRequest) → c.failed ≡ Some count → HaveOwnClients requests → ShowTheLog (worked_in calls) sights
    → ShowTheLog (worked_in (calls ++ c ∷ [])) (sights ++ sights_without (length (worked_in (calls ++ c ∷ []))) requests)
shown_failed calls c count sights requests failed own h =
    subst (λ (worked : List GroupCall). ShowTheLog worked (sights ++ sights_without (length worked) requests)) (sym (worked_no_more calls c count failed)) (shown_without calls sights requests own h)

-- One client

-- where all its answers are shown, and come one after another, its batches were logged
logged_one : (worked : List GroupCall) (knew made : ℕ) (batch : Option WrittenBatch) → IfSome batch (IsNewest worked made) → IfSome batch (λ (b : WrittenBatch). knew < made) → AllByRecursion (WasLogged worked) (batch_with knew made batch)
logged_one worked knew made None newest later = tt
logged_one worked knew made (Some b) newest later =
    (record { place = made - 1; call = newest.call; there = newest.there; later = omega (arith, later); known = (let some = newest.some in omega (arith, some)); wrote = newest.wrote }, tt)

own_logged : (worked : List GroupCall) (client knew : ℕ) (sights : List LogSight) → AllByRecursion (λ (s : LogSight). s.client ≡ client) sights → AllByRecursion (IsShown worked) sights → ShowMore sights
    → AllByRecursion (λ (s : LogSight). IfSome s.batch (λ (b : WrittenBatch). knew < s.made)) sights → AllByRecursion (WasLogged worked) (batches_of knew sights)
own_logged worked client knew [] own each order first = tt
own_logged worked client knew (s ∷ sights) own each order first =
    all_append (WasLogged worked) (batch_with knew s.made s.batch) (batches_of s.made sights) (logged_one worked knew s.made s.batch each.0.newest first.0)
    (own_logged worked client s.made sights own.1 each.1 order.1 (later sights own.1 order.0))
  where
    later : (ts : List LogSight) → AllByRecursion (λ (t : LogSight). t.client ≡ client) ts → AllByRecursion (ShowsMore s) ts → AllByRecursion (λ (t : LogSight). IfSome t.batch (λ (b : WrittenBatch). s.made < t.made)) ts
    later [] own more = tt
    later (t ∷ ts) mine more = (more.0.later (own.0 ∙ sym mine.0), later ts mine.1 more.1)

-- the first answers show calls too
first_some : (worked : List GroupCall) (sights : List LogSight) → AllByRecursion (IsShown worked) sights → AllByRecursion (λ (s : LogSight). IfSome s.batch (λ (b : WrittenBatch). 0 < s.made)) sights
first_some worked [] each = tt
first_some worked (s ∷ sights) each = (by s.batch each.0.newest, first_some worked sights each.1)
  where
    by : (batch : Option WrittenBatch) → IfSome batch (IsNewest worked s.made) → IfSome batch (λ (b : WrittenBatch). 0 < s.made)
    by None h = tt
    by (Some b) h = let some = h.some in omega (arith, some)

order_filter : (p : LogSight → Bool) (sights : List LogSight) → ShowMore sights → ShowMore (filter p sights)
order_filter p [] order = tt
order_filter p (s ∷ sights) order = by (p s) (all_filter (ShowsMore s) p sights order.0) (order_filter p sights order.1)
  where
    by : (b : Bool) → AllByRecursion (ShowsMore s) (filter p sights) → ShowMore (filter p sights) → ShowMore (cond b (s ∷ filter p sights) (filter p sights))
    by true each rest = (each, rest)
    by false each rest = rest

same_number : (a b : ℕ) → (a == b) ≡ true → a ≡ b
same_number a b h = grind arith

own_clients : (client : ℕ) (sights : List LogSight) → AllByRecursion (λ (s : LogSight). s.client ≡ client) (sights_of client sights)
own_clients client [] = tt
own_clients client (s ∷ sights) = by (s.client == client) refl (own_clients client sights)
  where
    by : (b : Bool) → (s.client == client) ≡ b → AllByRecursion (λ (t : LogSight). t.client ≡ client) (sights_of client sights) → AllByRecursion (λ (t : LogSight). t.client ≡ client) (cond b (s ∷ sights_of client sights) (sights_of client sights))
    by true is rest = (same_number s.client client is, rest)
    by false is rest = rest

module _ (worked : List GroupCall) (sights : List LogSight) (h : ShowTheLog worked sights) (client : ℕ) where
  own_shown : AllByRecursion (IsShown worked) (sights_of client sights)
  own_shown = all_filter (IsShown worked) (λ (s : LogSight). s.client == client) sights h.each

  own_order : ShowMore (sights_of client sights)
  own_order = order_filter (λ (s : LogSight). s.client == client) sights h.order

  pub batches_logged : AllByRecursion (WasLogged worked) (batches_of 0 (sights_of client sights))
  batches_logged = own_logged worked client 0 (sights_of client sights) (own_clients client sights) own_shown own_order (first_some worked (sights_of client sights) own_shown)

  pub logged_within : logged_by (sights_of client sights) ≤ length worked
  logged_within = within (sights_of client sights) 0 (omega arith) own_shown
    where
      within : (ts : List LogSight) (knew : ℕ) → knew ≤ length worked → AllByRecursion (IsShown worked) ts → fold (λ n (s : LogSight). s.made) knew ts ≤ length worked
      within [] knew low each = low
      within (t ∷ ts) knew low each = within ts t.made each.0.within each.1

  -- its newest answer shows no less than those before it, and the call that wrote its batch is a later one
  pub newest_shown : (old : List LogSight) (s : LogSight) → sights_of client sights ≡ old ++ s ∷ [] → (logged_by old ≤ s.made) × (s.made ≤ length worked)
      × IfSome s.batch (λ (b : WrittenBatch). IsLoggedBy worked (logged_by old) s.made b.first b.records b.sync)
  newest_shown old s is = by (subst ShowMore is own_order) (subst (AllByRecursion (IsShown worked)) is own_shown) (subst (AllByRecursion (λ (t : LogSight). t.client ≡ client)) is (own_clients client sights))
    where
      last_shown : (ts : List LogSight) → AllByRecursion (IsShown worked) (ts ++ s ∷ []) → IsShown worked s
      last_shown [] each = each.0
      last_shown (t ∷ ts) each = last_shown ts each.1

      no_less : (ts : List LogSight) (knew : ℕ) → knew ≤ s.made → ShowMore (ts ++ s ∷ []) → fold (λ n (t : LogSight). t.made) knew ts ≤ s.made
      no_less [] knew low order = low
      no_less (t ∷ ts) knew low order = no_less ts t.made (at_last ts order.0).made order.1
        where
          at_last : (us : List LogSight) → AllByRecursion (ShowsMore t) (us ++ s ∷ []) → ShowsMore t s
          at_last [] each = each.0
          at_last (u ∷ us) each = at_last us each.1

      is_later : (ts : List LogSight) (knew : ℕ) → IfSome s.batch (λ (b : WrittenBatch). knew < s.made) → ShowMore (ts ++ s ∷ []) → AllByRecursion (λ (t : LogSight). t.client ≡ client) (ts ++ s ∷ [])
          → IfSome s.batch (λ (b : WrittenBatch). fold (λ n (t : LogSight). t.made) knew ts < s.made)
      is_later [] knew low order own = low
      is_later (t ∷ ts) knew low order own = is_later ts t.made (at_last ts order.0 own.1) order.1 own.1
        where
          at_last : (us : List LogSight) → AllByRecursion (ShowsMore t) (us ++ s ∷ []) → AllByRecursion (λ (u : LogSight). u.client ≡ client) (us ++ s ∷ []) → IfSome s.batch (λ (b : WrittenBatch). t.made < s.made)
          at_last [] each mine = each.0.later (own.0 ∙ sym mine.0)
          at_last (u ∷ us) each mine = at_last us each.1 mine.1

      from_start : (batch : Option WrittenBatch) → IfSome batch (IsNewest worked s.made) → IfSome batch (λ (b : WrittenBatch). 0 < s.made)
      from_start None n = tt
      from_start (Some b) n = let some = n.some in omega (arith, some)

      logged_if : (knew : ℕ) (batch : Option WrittenBatch) → IfSome batch (IsNewest worked s.made) → IfSome batch (λ (b : WrittenBatch). knew < s.made) → IfSome batch (λ (b : WrittenBatch). IsLoggedBy worked knew s.made b.first b.records b.sync)
      logged_if knew None newest later = tt
      logged_if knew (Some b) newest later = record { place = s.made - 1; call = newest.call; there = newest.there; later = omega (arith, later); known = (let some = newest.some in omega (arith, some)); wrote = newest.wrote }

      by : ShowMore (old ++ s ∷ []) → AllByRecursion (IsShown worked) (old ++ s ∷ []) → AllByRecursion (λ (t : LogSight). t.client ≡ client) (old ++ s ∷ []) → (logged_by old ≤ s.made) × (s.made ≤ length worked)
          × IfSome s.batch (λ (b : WrittenBatch). IsLoggedBy worked (logged_by old) s.made b.first b.records b.sync)
      by order each own =
          let is_shown = last_shown old each in (
            no_less old 0 (omega arith) order,
            is_shown.within,
            logged_if (logged_by old) s.batch is_shown.newest (is_later old 0 (from_start s.batch is_shown.newest) order own),
          )
