-- Where the runs of commits end.
use Rattle.std.proofs.Common.{◌≡◌, ℕ, ◌+◌, ◌≤◌, List, [], ◌∷◌, Option, length, ap, ◌∙◌, arith, length-append}
use Rattle.model_base.specs.Batch.{count_of}
use Rattle.model_base.specs.History.{max_sequence}
use Rattle.table_rule.specs.Histories.{made_by}
use Rattle.table_rule.specs.Batches.{new_versions}
use Rattle.engine_rule.specs.Commits.{Answer, AreAnswered, Commit, IsAnswer, accepted, held_up, failed, fault_after, last_after, last_after_all, no_room}
use Rattle.engine_rule.specs.Entries.{versions_made, versions_with}
use Rattle.engine_rule.proofs.Plans.{made_length, numbered_length}

bound_by : (last : ℕ) (dead : Option ℕ) (count : ℕ) (v : Answer) → IsAnswer last dead count v → last ≤ max_sequence → last_after last count v ≤ max_sequence
bound_by last dead count (accepted first end) h low = h.3
bound_by last dead count (held_up numbers) h low = low
bound_by last dead count (failed n) h low = low
bound_by last dead count (no_room l) h low = low

pub last_bound : (last : ℕ) (dead : Option ℕ) (cs : List Commit) → AreAnswered last dead cs → last ≤ max_sequence → last_after_all last cs ≤ max_sequence
last_bound last dead [] h low = low
last_bound last dead (c ∷ cs) h low = last_bound (last_after last (count_of c.records) c.answer) (fault_after dead c.answer) cs h.1 (bound_by last dead (count_of c.records) c.answer h.0 low)

length_by : (last : ℕ) (c : Commit) (v : Answer) → last + length (versions_with c v) ≡ last_after last (count_of c.records) v
length_by last c (accepted first end) = ap (λ n. last + n) (numbered_length first (new_versions c.records) ∙ made_length c.records)
length_by last c (held_up numbers) = omega arith
length_by last c (failed n) = omega arith
length_by last c (no_room l) = omega arith

pub versions_length : (last : ℕ) (dead : Option ℕ) (cs : List Commit) → AreAnswered last dead cs → last + length (made_by versions_made cs) ≡ last_after_all last cs
versions_length last dead [] h = omega arith
versions_length last dead (c ∷ cs) h =
    let more = versions_length (last_after last (count_of c.records) c.answer) (fault_after dead c.answer) cs h.1 in
    let now = length_by last c c.answer in
    let l = length-append (versions_with c c.answer) (made_by versions_made cs) in
    omega (arith, more, now, l)
