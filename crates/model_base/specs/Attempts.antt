-- The commits of a client that leaders took into their groups, and how each of them ended.
use Rattle.std.specs.Prelude.{ℕ, Bool, true, false, List, [], ◌∷◌, ◌++◌, Option, Some, None}
use Rattle.std.specs.List.{list_any}
use Rattle.model_base.specs.declared.group.Item.{Item}
use Rattle.model_base.specs.declared.write.WriteOptions.{WriteOptions}
use Rattle.model_base.specs.Batch.{Record, size_of_batch}

pub data WriteStatus : Type 0 where
  succeeded : WriteStatus
  -- writes were held up, as the delay of its group answered
  slowed : WriteStatus
  -- the log failed, with this count of faults
  faulted : ℕ → WriteStatus
  -- after this sequence there was no room for its run
  full : ℕ → WriteStatus

-- How a commit ended in its group; the place (from 0) in the controller's history of the delay that was asked for that
-- group; and how many calls of that history, from the first one on, the group's leader had seen when it decided whether
-- the group goes on.
pub record Fate : Type 0 where
  pub status : WriteStatus
  pub place : ℕ
  pub decided : ℕ

abbrev pub fate_at : ℕ → ℕ → WriteStatus → Option Fate
fate_at place decided status = Some (record { status = status; place = place; decided = decided })

-- the status, where a leader took the commit into a group
abbrev pub status_in : Option Fate → Option WriteStatus
status_in None = None
status_in (Some fate) = Some fate.status

pub record Attempt : Type 0 where
  pub records : List Record
  pub options : WriteOptions
  pub status : WriteStatus
  -- the place of its group's delay
  pub place : ℕ
  -- how many of the controller's calls its leader had seen when it decided
  pub decided : ℕ

-- what grouping sees of a commit
abbrev pub item_of : Attempt → Item
item_of h = record { size = size_of_batch h.records; options = h.options; alone = false }

-- a client's commits, with one more if a leader took it into a group, where it had this fate
abbrev pub with_attempt : List Attempt → List Record → WriteOptions → Option Fate → List Attempt
with_attempt attempts records how None = attempts
with_attempt attempts records how (Some fate) = attempts
    ++ record {
      records = records;
      options = how;
      status = fate.status;
      place = fate.place;
      decided = fate.decided;
    } ∷ []

abbrev pub is_faulted : WriteStatus → Bool
is_faulted (faulted count) = true
is_faulted other = false

-- the client has learned, by an answer, that the log has failed
abbrev pub knows_log_failed : List Attempt → Bool
knows_log_failed attempts = list_any (λ (h : Attempt). is_faulted h.status) attempts
