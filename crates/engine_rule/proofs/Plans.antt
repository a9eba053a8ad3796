-- The runs that a leader gives are right, and what the group makes with them.
use Rattle.std.proofs.Common.{◌≡◌, ℕ, suc, ◌+◌, ◌<◌, ◌≤◌, Bool, true, false, cond, nat_le, map, List, [], ◌∷◌, ◌++◌, Option, None, length, refl, ap, sym, ◌∙◌, subst, arith, length-append}
use Rattle.std.proofs.lemmas.Bool.{leb-true, leb-false}
use Rattle.std.proofs.lemmas.List.Sums.{sum_by-cons}
use Rattle.model_base.specs.Batch.{Record, is_counted, count_of, value, deletion, single_deletion, log_data}
use Rattle.model_base.specs.History.{Entry, max_sequence}
use Rattle.model_base.specs.Outcomes.{entries_of_client}
use Rattle.table_rule.specs.declared.content.Version.{Version}
use Rattle.table_rule.specs.Histories.{Runs, made_by}
use Rattle.table_rule.specs.Batches.{new_versions, number_from}
use Rattle.engine_rule.specs.Commits.{AreAnswered, AreOfClients, Heard, IsAnswer, accepted, fault_after, fault_after_all, last_after, last_after_all, no_room}
use Rattle.engine_rule.specs.Entries.{entries_after, entry_after, entry_with, versions_made, versions_with}
use Rattle.engine_rule.specs.Plans.{AreLawful, CommitRequest, answer_with, commit_of_request, batch_with, batches_from, last_with, last_with_all, commits_of_plan, versions_at, versions_from}

-- a batch's run fits, or it doesn't
data Room (last : ℕ) (records : List Record) : Type 0 where
  has : last + count_of records ≤ max_sequence → nat_le (last + count_of records) max_sequence ≡ true → Room last records
  lacks : max_sequence < last + count_of records → nat_le (last + count_of records) max_sequence ≡ false → Room last records

room : (last : ℕ) (records : List Record) → Room last records
room last records = by (nat_le (last + count_of records) max_sequence) refl
  where
    by : (b : Bool) → nat_le (last + count_of records) max_sequence ≡ b → Room last records
    by true e = has (leb-true (last + count_of records) max_sequence e) e
    by false e = lacks (leb-false (last + count_of records) max_sequence e) e

rises : (last : ℕ) (requests : List CommitRequest) → last ≤ last_with_all last requests
rises last [] = omega arith
rises last (a ∷ requests) = by (room last a.records) (rises (last_with last a.records) requests)
  where
    by : Room last a.records → last_with last a.records ≤ last_with_all (last_with last a.records) requests → last ≤ last_with_all (last_with last a.records) requests
    by (has fits e) h = let n : last_with last a.records ≡ last + count_of a.records = rw e refl in omega (arith, n, h)
    by (lacks full e) h = let n : last_with last a.records ≡ last = rw e refl in omega (arith, n, h)

pub reach_rises : (last : ℕ) (requests : List CommitRequest) → last ≤ last_with_all last requests
reach_rises last requests = rises last requests

after_verdict : (last end : ℕ) (records : List Record) → last_after last (count_of records) (answer_with last end records) ≡ last_with last records
after_verdict last end records = by (room last records)
  where
    by : Room last records → last_after last (count_of records) (answer_with last end records) ≡ last_with last records
    by (has fits e) = rw e refl
    by (lacks full e) = rw e refl

alive_after : (last end : ℕ) (records : List Record) (dead : Option ℕ) → fault_after dead (answer_with last end records) ≡ dead
alive_after last end records dead = by (room last records)
  where
    by : Room last records → fault_after dead (answer_with last end records) ≡ dead
    by (has fits e) = rw e refl
    by (lacks full e) = rw e refl

right_verdict : (last end : ℕ) (records : List Record) → 1 ≤ count_of records → last_with last records ≤ end → IsAnswer last None (count_of records) (answer_with last end records)
right_verdict last end records some below = by (room last records)
  where
    by : Room last records → IsAnswer last None (count_of records) (answer_with last end records)
    by (has fits e) = let n : last_with last records ≡ last + count_of records = rw e refl in rw e (refl, some, refl, fits, omega (arith, n, below))
    by (lacks full e) = rw e (refl, refl, full)

pub planned_end : (heard : Heard) (last end : ℕ) (requests : List CommitRequest) → last_after_all last (commits_of_plan heard last end requests) ≡ last_with_all last requests
planned_end heard last end [] = refl
planned_end heard last end (a ∷ requests) = ap (λ n. last_after_all n (commits_of_plan heard (last_with last a.records) end requests)) (after_verdict last end a.records) ∙ planned_end heard (last_with last a.records) end requests

pub planned_dead : (heard : Heard) (last end : ℕ) (dead : Option ℕ) (requests : List CommitRequest) → fault_after_all dead (commits_of_plan heard last end requests) ≡ dead
planned_dead heard last end dead [] = refl
planned_dead heard last end dead (a ∷ requests) = ap (λ d. fault_after_all d (commits_of_plan heard (last_with last a.records) end requests)) (alive_after last end a.records dead) ∙ planned_dead heard (last_with last a.records) end dead requests

pub planned_answered : (heard : Heard) (clients last end : ℕ) (requests : List CommitRequest) → AreLawful clients requests → last_with_all last requests ≤ end → AreAnswered last None (commits_of_plan heard last end requests)
planned_answered heard clients last end [] h below = tt
planned_answered heard clients last end (a ∷ requests) h below = (
  right_verdict last end a.records h.0.0 (let r = rises (last_with last a.records) requests in omega (arith, r, below)),
  subst (λ (z : ℕ × Option ℕ). AreAnswered z.0 z.1 (commits_of_plan heard (last_with last a.records) end requests)) (λ i. (sym (after_verdict last end a.records) i, sym (alive_after last end a.records None) i)) (planned_answered heard clients (last_with last a.records) end requests h.1 below),
)

pub planned_clients : (heard : Heard) (clients last end : ℕ) (requests : List CommitRequest) → AreLawful clients requests → AreOfClients clients (commits_of_plan heard last end requests)
planned_clients heard clients last end [] h = tt
planned_clients heard clients last end (a ∷ requests) h = ((h.0.1, h.0.2), planned_clients heard clients (last_with last a.records) end requests h.1)

pub planned_versions : (heard : Heard) (last end : ℕ) (requests : List CommitRequest) → made_by versions_made (commits_of_plan heard last end requests) ≡ versions_from last requests
planned_versions heard last end [] = refl
planned_versions heard last end (a ∷ requests) = by (room last a.records) (planned_versions heard (last_with last a.records) end requests)
  where
    by : Room last a.records → made_by versions_made (commits_of_plan heard (last_with last a.records) end requests) ≡ versions_from (last_with last a.records) requests
        → versions_with (commit_of_request heard a (answer_with last end a.records)) (answer_with last end a.records) ++ made_by versions_made (commits_of_plan heard (last_with last a.records) end requests) ≡ versions_at last a.records ++ versions_from (last_with last a.records) requests
    by (has fits e) h =
        let v : answer_with last end a.records ≡ accepted (last + 1) end = rw e refl in
        let is : versions_at last a.records ≡ number_from (last + 1) (new_versions a.records) = rw e refl in
        (λ i. versions_with (commit_of_request heard a (answer_with last end a.records)) (v i) ++ h i) ∙ ap (λ vs. vs ++ versions_from (last_with last a.records) requests) (sym is)
    by (lacks full e) h =
        let v : answer_with last end a.records ≡ no_room last = rw e refl in
        let is : versions_at last a.records ≡ [] = rw e refl in
        (λ i. versions_with (commit_of_request heard a (answer_with last end a.records)) (v i) ++ h i) ∙ ap (λ vs. vs ++ versions_from (last_with last a.records) requests) (sym is)

-- the versions of a group are one run
abbrev counts : Record → ℕ
counts r = cond (is_counted r) 1 0

pub made_length : (records : List Record) → length (new_versions records) ≡ count_of records
made_length [] = refl
made_length (value family key v ∷ records) = let e : count_of (value family key v ∷ records) ≡ 1 + count_of records = sum_by-cons counts (value family key v) records in let h = made_length records in omega (arith, e, h)
made_length (deletion family key ∷ records) = let e : count_of (deletion family key ∷ records) ≡ 1 + count_of records = sum_by-cons counts (deletion family key) records in let h = made_length records in omega (arith, e, h)
made_length (single_deletion family key ∷ records) = let e : count_of (single_deletion family key ∷ records) ≡ 1 + count_of records = sum_by-cons counts (single_deletion family key) records in let h = made_length records in omega (arith, e, h)
made_length (log_data blob ∷ records) = let e : count_of (log_data blob ∷ records) ≡ 0 + count_of records = sum_by-cons counts (log_data blob) records in let h = made_length records in omega (arith, e, h)

pub numbered_length : (first : ℕ) (vs : List Version) → length (number_from first vs) ≡ length vs
numbered_length first [] = refl
numbered_length first (v ∷ vs) = ap suc (numbered_length (first + 1) vs)

runs_append : (last : ℕ) (vs ws : List Version) → Runs last vs → Runs (last + length vs) ws → Runs last (vs ++ ws)
runs_append last [] ws a b = subst (λ n. Runs n ws) (let e : last + 0 ≡ last = omega arith in e) b
runs_append last (v ∷ vs) ws a b = (a.0, runs_append (suc last) vs ws a.1 (subst (λ n. Runs n ws) (let e : last + suc (length vs) ≡ suc last + length vs = omega arith in e) b))

numbered_runs : (last : ℕ) (vs : List Version) → Runs last (number_from (last + 1) vs)
numbered_runs last [] = tt
numbered_runs last (v ∷ vs) = (omega arith, subst (λ n. Runs n (number_from (last + 1 + 1) vs)) (let e : last + 1 ≡ suc last = omega arith in e) (numbered_runs (last + 1) vs))

pub versions_runs : (last : ℕ) (requests : List CommitRequest) → Runs last (versions_from last requests) × (last + length (versions_from last requests) ≡ last_with_all last requests)
versions_runs last [] = (tt, omega arith)
versions_runs last (a ∷ requests) = by (room last a.records) (versions_runs (last_with last a.records) requests)
  where
    by : Room last a.records → Runs (last_with last a.records) (versions_from (last_with last a.records) requests) × (last_with last a.records + length (versions_from (last_with last a.records) requests) ≡ last_with_all (last_with last a.records) requests)
        → Runs last (versions_at last a.records ++ versions_from (last_with last a.records) requests) × (last + length (versions_at last a.records ++ versions_from (last_with last a.records) requests) ≡ last_with_all (last_with last a.records) requests)
    by (has fits e) h =
        let rest = versions_from (last_with last a.records) requests in
        let own_versions = number_from (last + 1) (new_versions a.records) in
        let step : last_with last a.records ≡ last + count_of a.records = rw e refl in
        let n : last_with last a.records ≡ last + length own_versions = step ∙ ap (λ k. last + k) (sym (numbered_length (last + 1) (new_versions a.records) ∙ made_length a.records)) in
        let is : versions_at last a.records ≡ own_versions = rw e refl in (
          subst (λ vs. Runs last (vs ++ rest)) (sym is) (runs_append last own_versions rest (numbered_runs last (new_versions a.records)) (subst (λ k. Runs k rest) n h.0)),
          (let l = ap (λ vs. length (vs ++ rest)) is ∙ length-append own_versions rest in let m = h.1 in omega (arith, l, m, n)),
        )
    by (lacks full e) h =
        let rest = versions_from (last_with last a.records) requests in
        let n : last_with last a.records ≡ last = rw e refl in
        let is : versions_at last a.records ≡ [] = rw e refl in (
          subst (λ vs. Runs last (vs ++ rest)) (sym is) (subst (λ k. Runs k rest) n h.0),
          (let l = ap (λ vs. length (vs ++ rest)) is in let m = h.1 in omega (arith, l, m, n)),
        )

-- the entries of a group: their batches, their first sequence, and their flags
pub planned_batches : (heard : Heard) (last end : ℕ) (before : List Entry) (requests : List CommitRequest) → map (λ (e : Entry). e.records) (entries_after before (commits_of_plan heard last end requests)) ≡ batches_from last requests
planned_batches heard last end before [] = refl
planned_batches heard last end before (a ∷ requests) = by (room last a.records) (planned_batches heard (last_with last a.records) end (before ++ entry_after before (commit_of_request heard a (answer_with last end a.records))) requests)
  where
    by : Room last a.records → map (λ (e : Entry). e.records) (entries_after (before ++ entry_after before (commit_of_request heard a (answer_with last end a.records))) (commits_of_plan heard (last_with last a.records) end requests)) ≡ batches_from (last_with last a.records) requests
        → map (λ (e : Entry). e.records) (entry_after before (commit_of_request heard a (answer_with last end a.records)) ++ entries_after (before ++ entry_after before (commit_of_request heard a (answer_with last end a.records))) (commits_of_plan heard (last_with last a.records) end requests)) ≡ batch_with last a.records ++ batches_from (last_with last a.records) requests
    by (has fits e) h =
        let v : answer_with last end a.records ≡ accepted (last + 1) end = rw e refl in
        let is : batch_with last a.records ≡ a.records ∷ [] = rw e refl in
        let rest = entries_after (before ++ entry_after before (commit_of_request heard a (answer_with last end a.records))) (commits_of_plan heard (last_with last a.records) end requests) in
        ap (λ w. map (λ (e : Entry). e.records) (entry_with a.client (entries_of_client a.client before) (commit_of_request heard a (answer_with last end a.records)) w ++ rest)) v ∙ (ap (λ l. a.records ∷ l) h ∙ ap (λ l. l ++ batches_from (last_with last a.records) requests) (sym is))
    by (lacks full e) h =
        let v : answer_with last end a.records ≡ no_room last = rw e refl in
        let is : batch_with last a.records ≡ [] = rw e refl in
        let rest = entries_after (before ++ entry_after before (commit_of_request heard a (answer_with last end a.records))) (commits_of_plan heard (last_with last a.records) end requests) in
        ap (λ w. map (λ (e : Entry). e.records) (entry_with a.client (entries_of_client a.client before) (commit_of_request heard a (answer_with last end a.records)) w ++ rest)) v ∙ (h ∙ ap (λ l. l ++ batches_from (last_with last a.records) requests) (sym is))
