-- What a leader lays out while it gives its group runs, and its answers.
use Rattle.std.specs.Prelude.{◌≡◌, ◌⊎◌, ℕ, ◌+◌, ◌<◌, Bool, false, not, ◌==◌, List, [], ◌∷◌, ◌++◌, length, map, filter, Ok, Err, nat_le, if◌then◌else◌, ⊤}
use Rattle.std.specs.List.{AllByRecursion}
use Rattle.model_base.specs.declared.write.Refusal.TheVariants as why
use Rattle.model_base.specs.Batch.{Record, count_of}
use Rattle.model_base.specs.History.{max_sequence}
use Rattle.log_batch.specs.Contents.{Contents}
use Rattle.log_batch.specs.declared.run.Run.{Run}
use Rattle.table_rule.specs.declared.content.MemberVersions.{MemberVersions}
use Rattle.table_rule.specs.declared.content.Version.{Version}
use Rattle.table_rule.specs.Batches.{new_versions, number_from}
use Rattle.table_rule.specs.Histories.{In, Members, versions_in}
use Rattle.table_nodes.specs.Parts.{with_part}
use Rattle.table_nodes.specs.declared.parts.MemberNodes.{MemberNodes}
use Rattle.engine_rule.specs.Parts.{HaveParts}
use Rattle.engine_rule.specs.Plans.{last_with}
use Rattle.engine_parts.specs.declared.requests.Request.{Request}
use Rattle.engine_parts.specs.declared.numbering.Numbering.{Numbering}
use Rattle.engine_parts.specs.declared.numbering.Numbering.TheVariants.{Given, SequenceFull}
use Rattle.engine_parts.specs.declared.numbering.GroupFate.{GroupFate}
use Rattle.engine_parts.specs.declared.numbering.GroupFate.TheVariants.{Written, Faulted}
use Rattle.engine_parts.specs.declared.requests.Answer.{Answer}
use Rattle.engine_parts.specs.declared.requests.Delay.{Delay}
use Rattle.engine_parts.specs.Handled.{reply_with, run_after}

-- the numbering of a request, where `last` was given last: either its run, and the sequence that its batch has; or no
-- room
abbrev pub numbering_at : ℕ → ℕ × Request → Numbering
numbering_at last x = if nat_le (last + count_of x.1.batch.records) max_sequence then
    Given x.0 (run_after last x.1.batch.records) x.1.batch.sequence tt
    else SequenceFull x.0 last x.1.batch tt

abbrev pub numberings_of : ℕ → List (ℕ × Request) → List Numbering
numberings_of last [] = []
numberings_of last (x ∷ requests) = numbering_at last x ∷ numberings_of (last_with last x.1.batch.records) requests

-- the batches that have runs, each with the first sequence of its run
abbrev pub batch_at : ℕ → Request → List Contents
batch_at last q = if nat_le (last + count_of q.batch.records) max_sequence then
    record q.batch { sequence = last + 1 } ∷ [] else []

abbrev pub batches_of : ℕ → List (ℕ × Request) → List Contents
batches_of last [] = []
batches_of last (x ∷ requests) = batch_at last x.1 ++ batches_of (last_with last x.1.batch.records) requests

-- the parts are one part of this member, with these versions; or there are no versions, and no parts
abbrev pub HasVersions : ℕ → List Version → List MemberNodes → Type 0
HasVersions member versions parts = ((versions ≡ []) × (parts ≡ []))
    ⊎ (parts ≡ record { member = member; nodes = versions } ∷ [])

-- the parts, once the versions of a request are added to the member's, if the request has a run
abbrev pub parts_with : ℕ → ℕ → List Record → List MemberNodes → List MemberNodes
parts_with member last records parts = if nat_le (last + count_of records) max_sequence then
    with_part parts member (number_from (last + 1) (new_versions records)) else parts

-- the members without the leader
abbrev pub others_than : ℕ → List ℕ → List ℕ
others_than leader members = filter (λ (member : ℕ). not (member == leader)) members

-- The parts have these versions together, and no member has two parts. Where there are versions, the parts are the
-- leader's and those of exactly the members that should work in parallel with it (`beside`).
pub record AreParts (leader clients : ℕ) (beside : List ℕ) (versions : List Version) (parts : List MemberVersions) :
    Type 0 where
  pub versions_are : versions_in parts ≡ versions
  pub members : Members clients parts
  pub each : 0 < length versions → HaveParts leader beside parts

-- the clients of a leader's requests, without its own request, which is the first
abbrev pub others_in : List (ℕ × Request) → List ℕ
others_in [] = []
others_in (x ∷ requests) = map (λ (y : ℕ × Request). y.0) requests

-- The members that should work in parallel with the leader are other clients of its group. There are none where the
-- parts must not be apart.
pub record AreHelpers (apart : Bool) (others beside : List ℕ) : Type 0 where
  pub of_group : AllByRecursion (λ (member : ℕ). In member others) beside
  pub alone : apart ≡ false → beside ≡ []

-- The answers to what was laid out

abbrev pub full_with : GroupFate → Delay → ℕ → Contents → Answer
full_with (Written group_last) delay last b = reply_with delay (Err (record { batch = b; why = why.SequenceFull last }))
full_with (Faulted count) delay last b = reply_with delay (Err (record { batch = b; why = why.LogFault count }))

-- the answer to a batch that has the first sequence of its run, and had `before` when it was handed in
abbrev pub run_with : GroupFate → Delay → Run → ℕ → Contents → Answer
run_with (Written group_last) delay run before b =
    reply_with delay (Ok (record { run = run; group_last = group_last; batch = b }))
run_with (Faulted count) delay run before b =
    reply_with delay (Err (record { batch = record b { sequence = before }; why = why.LogFault count }))

abbrev pub answers : GroupFate → Delay → List Numbering → List Contents → List (ℕ × Answer)
answers o delay [] bs = []
answers o delay (Given client run before envelope ∷ numberings) [] = []
answers o delay (Given client run before envelope ∷ numberings) (b ∷ bs) =
    (client, run_with o delay run before b) ∷ answers o delay numberings bs
answers o delay (SequenceFull client last b envelope ∷ numberings) bs =
    (client, full_with o delay last b) ∷ answers o delay numberings bs

-- there is a batch for each run, and no more
abbrev pub AreEnough : List Numbering → List Contents → Type 0
AreEnough [] bs = bs ≡ []
AreEnough (Given client run before envelope ∷ numberings) [] = ⊥
AreEnough (Given client run before envelope ∷ numberings) (b ∷ bs) = AreEnough numberings bs
AreEnough (SequenceFull client last b envelope ∷ numberings) bs = AreEnough numberings bs

-- one numbering's answer, and the batches that are left
abbrev pub IsAnswer : GroupFate → Delay → Numbering → List Contents → ℕ × Answer → List Contents → Type 0
IsAnswer o delay (Given client run before envelope) [] y left = ⊥
IsAnswer o delay (Given client run before envelope) (b ∷ bs) y left =
    (y ≡ (client, run_with o delay run before b)) × (left ≡ bs)
IsAnswer o delay (SequenceFull client last b envelope) bs y left =
    (y ≡ (client, full_with o delay last b)) × (left ≡ bs)

abbrev pub HasBatch : Numbering → List Contents → Type 0
HasBatch (Given client run before envelope) [] = ⊥
HasBatch (Given client run before envelope) (b ∷ bs) = ⊤
HasBatch (SequenceFull client last b envelope) bs = ⊤
