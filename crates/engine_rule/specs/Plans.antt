-- How a leader gives runs, one after another, to those of its group whose runs fit (none may go above the greatest
-- sequence), and what allows the group to go on at all.
use Rattle.std.specs.Prelude.{◌≡◌, ◌≢◌, ◌⊎◌, ℕ, ◌+◌, ◌<◌, ◌≤◌, Bool, false, true, nat_le, if◌then◌else◌, List, [], ◌∷◌, ◌++◌, length, map, ⊤, Some}
use Rattle.std.specs.List.{AllByRecursion}
use mathlib.Core.List.{IsPrefix}
use Rattle.model_base.specs.declared.group.Item.{Item}
use Rattle.model_base.specs.declared.write.WriteOptions.{WriteOptions}
use Rattle.model_base.specs.Batch.{Record, count_of, size_of_batch}
use Rattle.model_base.specs.Grouping.{group_len, size_of}
use Rattle.model_base.specs.History.{max_sequence}
use Rattle.model_base.specs.Trace.{Settings}
use Rattle.table_rule.specs.declared.content.Version.{Version}
use Rattle.table_rule.specs.Batches.{new_versions, number_from}
use Rattle.model_base.specs.Controller.{ControllerCall, Look, HoldUp, delay, look}
use Rattle.model_base.specs.Replies.{IsLater}
use Rattle.engine_rule.specs.Commits.{Answer, accepted, held_up, failed, no_room, Heard, Commit}

-- what a client wants to commit
pub record CommitRequest : Type 0 where
  pub client : ℕ
  pub records : List Record
  pub options : WriteOptions

-- the commit that a request makes with this answer, where the group's leader had seen this
abbrev pub commit_of_request : Heard → CommitRequest → Answer → Commit
commit_of_request heard q answer = record {
  client = q.client;
  records = q.records;
  options = q.options;
  answer = answer;
  heard = heard;
}

-- Of a batch, where `last` was given last: what is given last after it (`last`, if its run doesn't fit); its answer, in
-- a group that ends with `group_last`; the batch itself, if it has a run; and the versions that it makes.
abbrev pub last_with : ℕ → List Record → ℕ
last_with last records = if nat_le (last + count_of records) max_sequence then last + count_of records else last

abbrev pub answer_with : ℕ → ℕ → List Record → Answer
answer_with last group_last records =
    if nat_le (last + count_of records) max_sequence then accepted (last + 1) group_last else no_room last

abbrev pub batch_with : ℕ → List Record → List (List Record)
batch_with last records = if nat_le (last + count_of records) max_sequence then records ∷ [] else []

abbrev pub versions_at : ℕ → List Record → List Version
versions_at last records =
    if nat_le (last + count_of records) max_sequence then number_from (last + 1) (new_versions records) else []

-- These four for a group, in the order of its requests
abbrev pub last_with_all : ℕ → List CommitRequest → ℕ
last_with_all last [] = last
last_with_all last (q ∷ requests) = last_with_all (last_with last q.records) requests

abbrev pub commits_of_plan : Heard → ℕ → ℕ → List CommitRequest → List Commit
commits_of_plan heard last group_last [] = []
commits_of_plan heard last group_last (q ∷ requests) = commit_of_request heard q (answer_with last group_last q.records)
    ∷ commits_of_plan heard (last_with last q.records) group_last requests

abbrev pub batches_from : ℕ → List CommitRequest → List (List Record)
batches_from last [] = []
batches_from last (q ∷ requests) = batch_with last q.records ++ batches_from (last_with last q.records) requests

abbrev pub versions_from : ℕ → List CommitRequest → List Version
versions_from last [] = []
versions_from last (q ∷ requests) = versions_at last q.records ++ versions_from (last_with last q.records) requests

-- all requests get the log's fault as their answer
abbrev pub all_failed : Heard → ℕ → List CommitRequest → List Commit
all_failed heard count requests = map (λ (q : CommitRequest). commit_of_request heard q (failed count)) requests

-- where nothing more was seen than the delay, which is the last of these calls
abbrev pub up_to_delay : List ControllerCall → Heard
up_to_delay known = record { known = known; went = known }

-- all requests get the answer that writes are held up, as the delay has it
abbrev pub all_held_up : List ControllerCall → Look → List CommitRequest → List Commit
all_held_up known numbers requests =
    map (λ (q : CommitRequest). commit_of_request (up_to_delay known) q (held_up numbers)) requests

-- each request has at least one record that takes a sequence, and a client's number
abbrev pub AreLawful : ℕ → List CommitRequest → Type 0
AreLawful clients requests = AllByRecursion (λ (q : CommitRequest). (1 ≤ count_of q.records) × (1 ≤ q.client)
    × (q.client ≤ clients)) requests

-- all requests go into the log, or none does
abbrev pub AreLogged : List CommitRequest → Type 0
AreLogged requests = AllByRecursion (λ (q : CommitRequest). q.options.no_log ≡ false) requests

abbrev pub AreUnlogged : List CommitRequest → Type 0
AreUnlogged requests = AllByRecursion (λ (q : CommitRequest). q.options.no_log ≡ true) requests

-- no two requests are of the same client
abbrev pub HaveOwnClients : List CommitRequest → Type 0
HaveOwnClients [] = ⊤
HaveOwnClients (q ∷ requests) = AllByRecursion (λ (r : CommitRequest). q.client ≢ r.client) requests
    × HaveOwnClients requests

-- what grouping sees of a request
abbrev pub item_of_request : CommitRequest → Item
item_of_request q = record { size = size_of_batch q.records; options = q.options; alone = false }

-- the requests are a whole group by the grouping rule, and no two are of the same client
pub record IsWholeGroup (group_bytes : ℕ) (requests : List CommitRequest) : Type 0 where
  pub some : 0 < length requests
  pub whole : group_len group_bytes (map item_of_request requests) ≡ length requests
  pub of_others : HaveOwnClients requests

-- none of the requests may wait
abbrev pub MayNotWait : List CommitRequest → Type 0
MayNotWait requests = AllByRecursion (λ (q : CommitRequest). q.options.no_slowdown ≡ true) requests

-- the last call of this history of the controller is the delay that the group's leader, the first, asked for, with the
-- sum of the group's sizes; these numbers are its answer
pub record IsAskedFor (requests : List CommitRequest) (numbers : Look) (known : List ControllerCall) : Type 0 where
  pub leader : CommitRequest
  pub rest : List CommitRequest
  pub leads : requests ≡ leader ∷ rest
  pub before : List ControllerCall
  pub now : ℕ
  pub is : known ≡ before ++ record {
    client = leader.client;
    action = delay now (size_of (map item_of_request requests));
    told = Some numbers;
  } ∷ []

-- after the delay, the leader made a look that showed no stop
pub record HasLooked (leader : ℕ) (known went : List ControllerCall) : Type 0 where
  pub place : ℕ
  pub numbers : Look
  pub is_later : IsLater went (length known) place
      (record { client = leader; action = look; told = Some numbers })
  pub free : numbers.stops ≡ 0

-- What the leader saw allows a commit to go on. One that may not wait goes on where the delay said that writes aren't
-- held up. One that may wait goes on once the delay, or a later look of the leader, showed no stop.
abbrev pub LetsProceed : ℕ → Look → List ControllerCall → List ControllerCall → Bool → Type 0
LetsProceed leader numbers known went true = HoldUp numbers → ⊥
LetsProceed leader numbers known went false = (numbers.stops ≡ 0) ⊎ HasLooked leader known went

-- The leader of a group, the first, has seen `went` of the controller's history when the group goes on, and what it saw
-- there allows all of the group to go on.
pub record ProceedsWith (requests : List CommitRequest) (numbers : Look)
    (known went : List ControllerCall) : Type 0 where
  pub leader : CommitRequest
  pub rest : List CommitRequest
  pub leads : requests ≡ leader ∷ rest
  pub begins : IsPrefix known went
  pub each : AllByRecursion
      (λ (q : CommitRequest). LetsProceed leader.client numbers known went q.options.no_slowdown) requests

-- `known` is what the leaders before had seen (`asked`), and more calls, and one last call
pub record ComesAfter (asked known : List ControllerCall) : Type 0 where
  pub more : List ControllerCall
  pub call : ControllerCall
  pub is : known ≡ (asked ++ more) ++ call ∷ []

-- A leader's group: its requests; the controller's history up to the delay that the leader asked for it (`known`); the
-- answer to that delay (`numbers`); and the history as the leader had seen it when the group went on (`went`)
pub record LeadersGroup : Type 0 where
  pub requests : List CommitRequest
  pub known : List ControllerCall
  pub numbers : Look
  pub went : List ControllerCall

abbrev pub heard_of : LeadersGroup → Heard
heard_of g = record { known = g.known; went = g.went }

-- It is a whole group of lawful requests, and its leader asked for its delay after all that the leaders before it had
-- seen (`asked`).
pub record IsBuilt (settings : Settings) (asked : List ControllerCall) (g : LeadersGroup) : Type 0 where
  pub lawful : AreLawful settings.clients g.requests
  pub whole : IsWholeGroup settings.group_bytes g.requests
  pub asked_for : IsAskedFor g.requests g.numbers g.known
  pub comes_after : ComesAfter asked g.known

-- it is such a group, and what its leader saw allows all of the group to go on
pub record GoesAhead (settings : Settings) (asked : List ControllerCall) (g : LeadersGroup) : Type 0 where
  pub built : IsBuilt settings asked g
  pub proceeds : ProceedsWith g.requests g.numbers g.known g.went
