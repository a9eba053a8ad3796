-- Commits that a leader took into its group, in the order in which they were linked, and the answers to them.
use Rattle.std.specs.Prelude.{◌≡◌, ℕ, ◌+◌, ◌<◌, ◌≤◌, List, [], ◌∷◌, filter, ◌==◌, Option, Some, None, MatchOption, ⊤}
use Rattle.std.specs.List.{AllByRecursion}
use Rattle.model_base.specs.declared.write.WriteOptions.{WriteOptions}
use Rattle.model_base.specs.Batch.{Record, count_of}
use Rattle.model_base.specs.History.{max_sequence}
use Rattle.model_base.specs.Controller.{ControllerCall, Look}

pub data Answer : Type 0 where
  -- the batch has the run that begins with the first sequence, in a group that ends with the second
  accepted : ℕ → ℕ → Answer
  -- writes are held up, as these numbers say, and the batch may not wait
  held_up : Look → Answer
  -- the log has failed, with this count of faults
  failed : ℕ → Answer
  -- after this sequence, the last one given, there was no room for the batch's run
  no_room : ℕ → Answer

-- What the leader of a group had seen of the controller's history: up to the delay that it asked for the group
-- (`known`), and when it was decided whether the group goes on (`went`).
pub record Heard : Type 0 where
  pub known : List ControllerCall
  pub went : List ControllerCall

-- a client's commit with its answer, and what the leader of its group had seen
pub record Commit : Type 0 where
  pub client : ℕ
  pub records : List Record
  pub options : WriteOptions
  pub answer : Answer
  pub heard : Heard

-- the last sequence given, and the log's fault, after the answer to a batch with this count of records that take a
-- sequence
abbrev pub last_after : ℕ → ℕ → Answer → ℕ
last_after last count (accepted first group_last) = last + count
last_after last count (held_up numbers) = last
last_after last count (failed fault) = last
last_after last count (no_room at) = last

abbrev pub fault_after : Option ℕ → Answer → Option ℕ
fault_after fault (accepted first group_last) = fault
fault_after fault (held_up numbers) = fault
fault_after fault (failed count) = Some count
fault_after fault (no_room at) = fault

-- When an answer is right, where `last` was given last and the log has this fault, if any. A log that failed gives no
-- more runs, and its fault stays the same.
abbrev pub IsAnswer : ℕ → Option ℕ → ℕ → Answer → Type 0
IsAnswer last fault count (accepted first group_last) = (fault ≡ None) × (1 ≤ count) × (first ≡ last + 1)
    × (last + count ≤ max_sequence) × (last + count ≤ group_last)
IsAnswer last fault count (held_up numbers) = ⊤
IsAnswer last fault count (failed told) = MatchOption fault ⊤ (λ known. told ≡ known)
IsAnswer last fault count (no_room at) = (fault ≡ None) × (at ≡ last) × (max_sequence < last + count)

-- an accepted answer names this sequence as the last one of its group
abbrev pub NamesEnd : ℕ → Answer → Type 0
NamesEnd end (accepted first group_last) = group_last ≡ end
NamesEnd end (held_up numbers) = ⊤
NamesEnd end (failed count) = ⊤
NamesEnd end (no_room at) = ⊤

-- the last sequence given, and the log's fault, after all these commits
abbrev pub last_after_all : ℕ → List Commit → ℕ
last_after_all last [] = last
last_after_all last (c ∷ commits) = last_after_all (last_after last (count_of c.records) c.answer) commits

abbrev pub fault_after_all : Option ℕ → List Commit → Option ℕ
fault_after_all fault [] = fault
fault_after_all fault (c ∷ commits) = fault_after_all (fault_after fault c.answer) commits

-- all answers are right, each one after the answers before it
abbrev pub AreAnswered : ℕ → Option ℕ → List Commit → Type 0
AreAnswered last fault [] = ⊤
AreAnswered last fault (c ∷ commits) = IsAnswer last fault (count_of c.records) c.answer
    × AreAnswered (last_after last (count_of c.records) c.answer) (fault_after fault c.answer) commits

-- a client's commits among all
abbrev pub commits_of : ℕ → List Commit → List Commit
commits_of client commits = filter (λ (c : Commit). c.client == client) commits

-- all these commits are of clients with the numbers from 1 to this
abbrev pub AreOfClients : ℕ → List Commit → Type 0
AreOfClients clients commits = AllByRecursion (λ (c : Commit). (1 ≤ c.client) × (c.client ≤ clients)) commits
