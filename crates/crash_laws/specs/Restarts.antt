-- From a crash to the next call: what the next call goes on from, and what is left after any number of calls, each with
-- a crash after it.
use Rattle.std.specs.Prelude.{◌≡◌, ◌≢◌, ⊤, ◌⊎◌, ℕ, ◌+◌, ◌<◌, ◌≤◌, slice_get, List, [], ◌∷◌, ◌++◌, length, take, drop, map, flat_map, fold, Option, Some, IfSome}
use Rattle.base_devices.specs.Disk.{Disk, IsImage}
use Rattle.base_devices.specs.declared.disk.Disk.{Ghosts}
use Rattle.model_base.specs.Batch.{Record}
use Rattle.model_base.specs.Map.{Pairs, after_records}
use Rattle.model_base.specs.Log.{SpellsWhole, text_after}
use Rattle.model_base.specs.History.{Entry, logged_entries, map_over, last_sequence as last_of_entries}
use Rattle.model_base.specs.Calls.{Outcome, Call as Answered}
use Rattle.model_base.specs.Script.{Script}
use Rattle.model_base.specs.LogContents.{GroupCall, records_of}
use Rattle.model_base.specs.Recovery.{Logged, logged_bytes, NoChance, last_sequence, Recovered, recovered_map, recovered_last}
use Rattle.model_base.specs.Text.{recovered_text}
use Rattle.model_base.specs.declared.options.Options.{Options}
use Rattle.log_recovery_laws.specs.Images.{MeetsNoOther}
use Rattle.log_recovery.specs.declared.modes.Mode.{Mode}
use Rattle.model_runs.specs.Acknowledged.{IsAcknowledged, HasBatch}
use Rattle.model_runs.specs.Crashes.{with_failed_record, failed_record, HasSync}
use Rattle.run_outcome.specs.declared.log_start.LogStart.{LogStart}
use Rattle.run_outcome.specs.declared.log_start.LogStart.TheVariants.{New, Over, Behind}
use Rattle.run_outcome.specs.Running.{Execution, Before, number_in, beginning_of, batch_of_group, batches_of_log}
use Rattle.run_execution.specs.Ends.{execution_on}
use Rattle.program_call.specs.OneLog.{RanOverLog, Recovers}

-- One call of `run` over the log of one disk, which ran a script with this outcome. What the program promises of it
-- holds (`RanOverLog`). The disk told what it held as the call began (`found`), and after it (`left`).
pub record Call {D : Type 0} (disk : Ghosts D) : Type 0 where
  pub options : Options
  pub start : LogStart
  pub mode : Mode
  pub script : Script
  pub outcome : Outcome
  pub opened : D
  pub ended : D
  pub ran : RanOverLog disk options start mode opened ended script outcome
  pub found : Disk
  pub left : Disk
  pub told_found : disk.told opened ≡ Some found
  pub told_left : disk.told ended ≡ Some left

-- the map that these batches make, one after another
abbrev pub map_of_batches : List Logged → Pairs
map_of_batches batches = fold (λ m b. after_records m b.records) [] batches

-- the log is new or was resumed: nothing is on its disk after it
abbrev pub IsAlone : LogStart → Type 0
IsAlone New = ⊤
IsAlone (Over number) = ⊥
IsAlone (Behind number) = ⊤

module _ {D : Type 0} {disk : Ghosts D} where
  -- how it ran, and what a crash in it may leave
  abbrev pub execution_of : Call disk → Execution
  execution_of call = execution_on disk call.options call.start call.ran.before call.script call.opened call.ended

  -- the number of its log, if it has one
  abbrev pub number_of : Call disk → Option ℕ
  number_of call = number_in call.start

  -- the batches that the log had, and that the call kept
  abbrev pub kept_in : Call disk → List Logged
  kept_in call = call.ran.before.batches

  -- the groups of batches that were logged: each is one record of the log, and one batch there
  abbrev pub groups_in : Call disk → List (List Entry)
  groups_in call = call.ran.is_outcome.run.writes.parts

  -- the calls that wrote the log, the last of which may have failed
  abbrev pub calls_in : Call disk → List GroupCall
  calls_in call = call.ran.is_outcome.run.writes.calls ++ call.ran.is_outcome.run.writes.lost

  -- the last of these calls failed, and this is the record that it should have written
  abbrev pub IsFailedRecord : Call disk → List ℕ → Type 0
  IsFailedRecord call x = failed_record call.ran.is_outcome.run.writes.lost ≡ Some x

  -- The first of what the call adds to its log: the batches of some first groups, one for each; or those of all groups,
  -- and then that of the record whose write failed.
  pub data AreFirstAdded (call : Call disk) (added : List Logged) : Type 0 where
    of_groups : (n : ℕ) → added ≡ map batch_of_group (take n (groups_in call)) → AreFirstAdded call added
    and_failed : (b : Logged) → IsFailedRecord call (logged_bytes b)
        → added ≡ map batch_of_group (groups_in call) ++ b ∷ [] → AreFirstAdded call added

  -- The first batches of the log, none left out and none in part: some first ones of those that the call kept; or all
  -- of these, and then the first of what it adds.
  pub data AreFirst (call : Call disk) (batches : List Logged) : Type 0 where
    of_kept : (n : ℕ) → batches ≡ take n (kept_in call) → AreFirst call batches
    and_added : (added : List Logged) → AreFirstAdded call added → batches ≡ kept_in call ++ added
        → AreFirst call batches

  -- the batches begin with all that the log kept, and after these with one for each of the first `k` groups
  abbrev pub HaveGroups : Call disk → ℕ → List Logged → Type 0
  HaveGroups call k batches =
      take (length (kept_in call) + k) batches ≡ batches_of_log call.ran.before (take k (groups_in call))

  -- the group with `k` groups before it should be synced
  abbrev pub ShouldSync : Call disk → ℕ → Type 0
  ShouldSync call k = (group : List Entry) × (slice_get (groups_in call) k ≡ Some group) × HasSync group

  -- Nothing in the image is right by chance: recovery of it meets no fragment with a right checksum, except those that
  -- the log's text has at the same place. The text has the record of each group, and perhaps that of the failed write.
  pub record NoneByChance (call : Call disk) (image : List ℕ) : Type 0 where
    pub failed : Option (List ℕ)
    pub may_be : IfSome failed (IsFailedRecord call)
    pub none : NoChance (number_of call) image (text_after (beginning_of call.start call.ran.before)
        (with_failed_record (records_of (groups_in call)) failed))

  -- The call resumed its log, and a crash at some moment of it may leave the image. Recovery of the image meets no
  -- fragment with a right checksum, except those that recovery of the file met as the call began. So it is while the
  -- log is being opened: what the log doesn't keep may still be there.
  pub record IsLeftInOpening (call : Call disk) (image : List ℕ) : Type 0 where
    pub number : Option ℕ
    pub resumed : call.start ≡ Behind number
    pub left : (execution_of call).images image
    pub no_other : MeetsNoOther (number_of call) image call.found.content

  -- The first `many` batches that the log had were safe as the call began: its first bytes spell them, and that many
  -- bytes of the disk were safe.
  pub record WereSafe (call : Call disk) (many : ℕ) : Type 0 where
    pub some : many ≤ length (kept_in call)
    pub bytes : ℕ
    pub kept : bytes ≤ length call.ran.before.kept
    pub safe : bytes ≤ call.found.synced
    pub spelled : SpellsWhole (number_of call) (take bytes call.ran.before.kept)
        (map logged_bytes (take many (kept_in call)))

  -- a crash may leave this image once the first `n` of the calls that wrote the log had returned, while others went on
  -- or after them
  abbrev pub IsLeftAfter : Call disk → ℕ → List ℕ → Type 0
  IsLeftAfter call n image = (execution_of call).since (take n (calls_in call)) (drop n (calls_in call)) image

  -- the map and the last sequence that the call began with, and then those of the entries of these groups
  pub record IsAfterGroups (call : Call disk) (groups : List (List Entry)) (next : Before) : Type 0 where
    pub map : next.map ≡ map_over call.ran.before.map (flat_map (λ (g : List Entry). g) groups)
    pub last : next.last ≡ last_of_entries call.ran.before.last (flat_map (λ (g : List Entry). g) groups)

  -- The later call resumes the log of the earlier one, as `run --resume` does: it takes the log for one with the same
  -- number, or for a plain one, and its disk had this image.
  pub record Resumes (earlier : Call disk) (image : List ℕ) (later : Call disk) : Type 0 where
    pub resumed : later.start ≡ Behind (number_of earlier)
    pub found : later.found.content ≡ image

  -- What the next call goes on from, if it finds this image: the call left it, or a crash.
  pub record IsAfterCrash (call : Call disk) (image : List ℕ) (next : Before) : Type 0 where
    -- Whatever the image is: if nothing in it is right by chance, or if it is one that the log's opening leaves, these
    -- are the first batches of the log.
    pub found : NoneByChance call image ⊎ IsLeftInOpening call image → AreFirst call next.batches
    -- Which of them are there for certain depends on the moment of the crash. At each moment of the call these are
    -- those that were safe as it began,
    pub safe : (many : ℕ) → (execution_of call).images image → WereSafe call many
        → take many next.batches ≡ take many (kept_in call)
    -- once the log has begun all that it kept,
    pub begun : IsLeftAfter call 0 image → HaveGroups call 0 next.batches
    -- and once some calls have returned all up to each group of theirs that should be synced. All this needs no premise
    -- on chance.
    pub synced : (n k : ℕ) → IsLeftAfter call n image → k < n → ShouldSync call k → HaveGroups call (k + 1) next.batches
    -- So a batch that a client was answered `ok` for, and had asked to be synced, is among them, if the calls had
    -- returned that the client knew of by then.
    pub acknowledged : (i : ℕ) (calls : List Answered) (first knew : ℕ) (records : List Record)
        → slice_get call.outcome.transcripts i ≡ Some calls
        → IsAcknowledged (execution_of call).settings call.ran.is_outcome.run.trace (i + 1) calls first knew records
        → IsLeftAfter call knew image → (k : ℕ) × (group : List Entry) × (slice_get (groups_in call) k ≡ Some group)
        × HasBatch first records group × HaveGroups call (k + 1) next.batches
    -- After the call's end they have all that the log kept, and all up to each group that should be synced.
    pub ended : IsImage call.left image → NoneByChance call image → HaveGroups call 0 next.batches
        × ((k : ℕ) → ShouldSync call k → HaveGroups call (k + 1) next.batches)
    -- Its map is the one that these batches make, and its last sequence is theirs.
    pub map : next.map ≡ map_of_batches next.batches
    pub last : next.last ≡ last_sequence 0 next.batches
    -- So it goes on from the printed history up to the last group that is left.
    pub history : (n : ℕ) → next.batches ≡ batches_of_log call.ran.before (take n (groups_in call))
        → IsAfterGroups call (take n (groups_in call)) next
    -- What `recover` prints of the image is exactly what the next call goes on from.
    pub printed : (mode : Mode) (text : List ℕ) → Recovers (number_of call) mode image text
        → (r : Recovered) × (text ≡ recovered_text r) × (r.batches ≡ next.batches)
        × (recovered_map r ≡ next.map) × (recovered_last r ≡ next.last)

  -- What the next call goes on from, if no crash came and the log has no fault: all of the log. If no batch was kept
  -- out of the log, these are the map and the last sequence that were printed.
  pub record IsAfterEnd (call : Call disk) (next : Before) : Type 0 where
    pub all : next.batches ≡ batches_of_log call.ran.before (groups_in call)
    pub state : logged_entries call.outcome.history ≡ call.outcome.history → (next.map ≡ call.outcome.state)
        × (call.outcome.history ≢ [] → next.last ≡ call.outcome.last)

  -- A crash left this image: at some moment of the call, while its log was being opened, or after its end. If it isn't
  -- one that the opening leaves, nothing in it is right by chance.
  pub data CrashLeaves (call : Call disk) (image : List ℕ) : Type 0 where
    in_call : (execution_of call).images image → NoneByChance call image → CrashLeaves call image
    in_opening : IsLeftInOpening call image → CrashLeaves call image
    after_end : IsImage call.left image → NoneByChance call image → CrashLeaves call image

-- Any number of calls

-- A call, and the image that a crash left. If none came, it is what the disk holds after the call's end, which is an
-- image too.
pub record Crashed {D : Type 0} (disk : Ghosts D) : Type 0 where
  pub call : Call disk
  pub image : List ℕ
  pub left : CrashLeaves call image

module _ {D : Type 0} {disk : Ghosts D} where
  -- Calls over one log, the last one first, each of them with the crash after it. The log of the first call had no
  -- batches.
  abbrev pub AreInTurn : List (Crashed disk) → Type 0
  AreInTurn [] = ⊤
  AreInTurn (first ∷ []) = kept_in first.call ≡ []
  AreInTurn (later ∷ earlier ∷ calls) =
      Resumes earlier.call earlier.image later.call × AreInTurn (earlier ∷ calls)

  -- What a crash left was safe as the next call found it. So it is where the machine stopped: what is then on the disk
  -- is all that there is.
  abbrev pub WereLeftSafe : List (Crashed disk) → Type 0
  WereLeftSafe [] = ⊤
  WereLeftSafe (first ∷ []) = ⊤
  WereLeftSafe (later ∷ earlier ∷ calls) =
      (length earlier.image ≤ later.call.found.synced) × WereLeftSafe (earlier ∷ calls)

  -- One history: what is left after the last call is the first of its log, which is what that call kept and then what
  -- it adds. What it kept was left after the call before it, in the same way. The first call kept nothing.
  abbrev pub AreOneHistory : List (Crashed disk) → List Logged → Type 0
  AreOneHistory [] batches = batches ≡ []
  AreOneHistory (c ∷ calls) batches = AreFirst c.call batches × AreOneHistory calls (kept_in c.call)

  -- The same, if no crash takes away what an earlier one left: all that the last call kept is left, and then the first
  -- of what it adds; and so for each call before it.
  abbrev pub AllStays : List (Crashed disk) → List Logged → Type 0
  AllStays [] batches = batches ≡ []
  AllStays (c ∷ calls) batches = (added : List Logged) × AreFirstAdded c.call added
      × (batches ≡ kept_in c.call ++ added) × AllStays calls (kept_in c.call)
