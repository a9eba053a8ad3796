-- What is published of the commits, where groups go into the table in a stage of their own, separate from the log.
use Rattle.std.specs.Prelude.{ℕ, ◌+◌, nat_le, if◌then◌else◌, List, [], ◌∷◌, ◌++◌}
use Rattle.model_base.specs.History.{max_sequence}
use Rattle.model_base.specs.Batch.{count_of}
use Rattle.table_rule.specs.declared.content.MemberVersions.{MemberVersions}
use Rattle.table_rule.specs.Batches.{new_versions, number_from}
use Rattle.table_rule.specs.Histories.{Images, made_by}
use Rattle.engine_rule.specs.Asked.{LedGroup}
use Rattle.engine_rule.specs.Commits.{Answer, accepted, held_up, failed, no_room, Commit}
use Rattle.engine_rule.specs.Entries.{versions_made}
use Rattle.engine_rule.specs.Plans.{CommitRequest, last_with}

-- those of the commits that have runs
abbrev pub if_accepted : Commit → Answer → List Commit
if_accepted c (accepted first group_last) = c ∷ []
if_accepted c (held_up numbers) = []
if_accepted c (failed count) = []
if_accepted c (no_room at) = []

abbrev pub accepted_of : List Commit → List Commit
accepted_of [] = []
accepted_of (c ∷ commits) = if_accepted c c.answer ++ accepted_of commits

-- the published groups were made by exactly these commits, group by group, in their order
abbrev pub AreServed : List Commit → List (List MemberVersions) → Type 0
AreServed = Images versions_made

-- Each published group was made by whole groups of commits as leaders led them, in their order. So no group of commits
-- is published in two pieces.
abbrev pub ArePublishedAtOnce : List LedGroup → List (List MemberVersions) → Type 0
ArePublishedAtOnce = Images (λ (g : LedGroup). made_by versions_made g.commits)

-- a group's parts, where each member with a run inserts its own: the part of one request, if its run fits after `last`,
-- and the parts of all requests
abbrev pub part_at : ℕ → CommitRequest → List MemberVersions
part_at last q = if nat_le (last + count_of q.records) max_sequence then
    (record { member = q.client; versions = number_from (last + 1) (new_versions q.records) }) ∷ [] else []

abbrev pub parts_from : ℕ → List CommitRequest → List MemberVersions
parts_from last [] = []
parts_from last (q ∷ requests) = part_at last q ++ parts_from (last_with last q.records) requests
