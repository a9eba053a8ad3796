-- What a run over several logs leaves in them, and what a crash at any moment of the run leaves to recover.
use Rattle.std.specs.Prelude.{◌≡◌, ℕ, ◌-◌, ◌<◌, ◌≤◌, ⊤, List, [], ◌∷◌, ◌++◌, length, take, drop, map, flat_map, replicate}
use Rattle.std.specs.Prelude.{Option, Some, None, IfSome, MatchOption}
use Rattle.std.specs.List.{AllByRecursion}
use Rattle.model_base.specs.Log.{new_log}
use Rattle.model_base.specs.History.{Entry}
use Rattle.model_base.specs.Trace.{Trace, Settings}
use Rattle.model_base.specs.Attempts.{Attempt}
use Rattle.model_base.specs.Calls.{Command, Outcome}
use Rattle.model_base.specs.Outcomes.{IsLegalIn}
use Rattle.model_base.specs.LogContents.{GroupCall, AreGroupsOf, records_of}
use Rattle.log_laws.specs.Prefixes.{HoldsFront}
use Rattle.log_laws.specs.Fronts.{plain_text, HaveFront, NoChances, AreFilledTo, RecoverPrefix}
use Rattle.model_runs.specs.Written.{WritesLog}
use Rattle.model_runs.specs.Acknowledged.{KeepAcknowledged}
use Rattle.model_runs.specs.Crashes.{with_failed_record, failed_record, HaveSynced, HoldsSynced, IsFailedWrite}

-- The records of each log that was begun, those of the last one with that of the failed call, if one failed. The other
-- logs have none.
abbrev pub begun_records : List (List (List Entry)) → Option (List ℕ) → ℕ → List (List (List ℕ))
begun_records [] x unused = replicate unused []
begun_records (groups ∷ []) x unused = with_failed_record (records_of groups) x ∷ replicate unused []
begun_records (groups ∷ next ∷ logs) x unused = records_of groups ∷ begun_records (next ∷ logs) x unused

-- what a disk holds, and its place
pub record Held : Type 0 where
  pub content : List ℕ
  pub place : ℕ

-- What the disks hold at the end. Each log before the last one that was begun has its text alone. The last one has its
-- text, and nothing else where no call failed; where one did, it has up to its place, which is at the log's end or
-- after it, its text and a front of the text of the failed call's record `x`, and nothing that nobody wrote. What is
-- after the place was left by the disk's own call, which failed. The others have nothing.
pub data HoldLogs (x : Option (List ℕ)) : List (List (List Entry)) → List Held → Type 0 where
  last_one : {groups : List (List Entry)} {held : Held} {others : List Held}
      → (x ≡ None → held.content ≡ plain_text (records_of groups))
      → length (plain_text (records_of groups)) ≤ held.place
      → HoldsFront (plain_text (with_failed_record (records_of groups) x)) held.place held.content
      → AllByRecursion (λ other. other.content ≡ []) others → HoldLogs x (groups ∷ []) (held ∷ others)
  full : {groups next : List (List Entry)} {logs : List (List (List Entry))} {held : Held} {others : List Held}
      → held.content ≡ plain_text (records_of groups) → HoldLogs x (next ∷ logs) others
      → HoldLogs x (groups ∷ next ∷ logs) (held ∷ others)

-- A run over several logs: its outcome is legal in one trace, with these commits in the leaders' groups, and its logs
-- were written by the right calls for exactly these groups, one log after another. A log is full once it is at least
-- `limit` long, `disks` is how many logs there may be, and `wrote` says which calls turned the set that began into the
-- one that was taken apart, and how long its logs were then. The printed lengths are those of the logs that were begun.
pub record IsRunOverLogs (settings : Settings) (ended : ℕ) (script : List (List Command)) (limit disks : ℕ)
    (wrote : List GroupCall → List ℕ → Type 0) (o : Outcome) : Type 0 where
  pub trace : Trace
  pub attempts : List (List Attempt)
  pub legal : IsLegalIn settings ended script trace attempts o
  pub writes : WritesLog settings.group_bytes (λ calls. wrote calls o.log_lens) trace attempts legal.groups o.fault
  pub logs : List (List (List Entry))
  pub cut : flat_map (λ groups. groups) logs ≡ writes.parts
  pub some : 0 < length logs
  pub within : length logs ≤ disks
  pub filled : AreFilledTo limit (disks - length logs) (map records_of logs)
  pub lens_are : o.log_lens ≡ map (λ groups. length (plain_text (records_of groups))) logs

-- in each log that was begun, a group that was to be synced is there as far as the image goes past it
abbrev pub HoldEachSynced : List ℕ → List (List (List Entry)) → List (List ℕ) → Type 0
HoldEachSynced reached [] images = ⊤
HoldEachSynced [] (groups ∷ logs) images = ⊥
HoldEachSynced (reach ∷ reached) (groups ∷ logs) [] = ⊥
HoldEachSynced (reach ∷ reached) (groups ∷ logs) (image ∷ images) =
    HoldsSynced new_log groups reach image × HoldEachSynced reached logs images

module _ (group_bytes : ℕ) (attempts : List (List Attempt)) (o : Outcome) (logs : List (List (List Entry)))
    (unused : ℕ) where
  abbrev pub all_groups : List (List Entry)
  all_groups = flat_map (λ groups. groups) logs

  -- Images that may be found (`left`) recover a prefix of all logs' records in their order, and perhaps the failed one,
  -- unless by chance. `enough` says how many must be found. This holds for each record that may be the failed one.
  abbrev pub LeaveFrontPrefix : (List (List ℕ) → Type 0) → (ℕ → Type 0) → Type 0
  LeaveFrontPrefix left enough = (x : Option (List ℕ)) → IfSome x (IsFailedWrite group_bytes attempts o)
      → (images : List (List ℕ)) → left images → NoChances (begun_records logs x unused) images
      → RecoverPrefix (with_failed_record (records_of all_groups) x) images enough

  -- Whatever matches by chance, such images are a front of the logs, in the last of which the record `x` was begun. So
  -- no log is written to before those before it are safe. `enough` says how many records must be there for certain.
  abbrev pub LeaveFront : Option (List ℕ) → (List (List ℕ) → Type 0) → (ℕ → Type 0) → Type 0
  LeaveFront x left enough = (images : List (List ℕ)) → left images
      → (safe : ℕ) × enough safe × HaveFront safe (begun_records logs x unused) images

  -- What the disks hold at the end, and what a crash leaves of them: at some moment of the run (`any`); once some calls
  -- have returned (`since`); and at the end (`now`). Once a call has returned all is safe that it and those before it
  -- were to sync, and a group that is to be synced is there before that as far as the image goes past it (`held`).
  pub record AreCrashSafe (ended : List Held) (reached : List ℕ) (made lost : List GroupCall)
      (any : List (List ℕ) → Type 0) (since : List GroupCall → List GroupCall → List (List ℕ) → Type 0)
      (now : List (List ℕ) → Type 0) : Type 0 where
    pub failed : MatchOption o.fault (HoldLogs None logs ended) (λ count. (x : List ℕ)
        × (failed_record lost ≡ Some x) × IsFailedWrite group_bytes attempts o x × HoldLogs (Some x) logs ended)
    pub any_moment : LeaveFrontPrefix any (λ n. ⊤)
    pub held : (images : List (List ℕ)) → any images → HoldEachSynced reached logs images
    pub by_calls : (n : ℕ) → LeaveFrontPrefix (since (take n made) (drop n made)) (HaveSynced (take n all_groups))
    pub fronts : (n : ℕ)
        → LeaveFront (failed_record lost) (since (take n made) (drop n made)) (HaveSynced (take n all_groups))
    pub at_end : LeaveFrontPrefix now (HaveSynced all_groups)

-- What the logs of a run hold, and what a crash leaves of them. A batch that was to be synced is safe from the moment
-- on at which its client got its `ok`. The client then knew of calls that had returned, and once these have, the
-- batch's group is among the records that are there for certain.
pub record AreSafe {settings : Settings} {ended : ℕ} {script : List (List Command)} {limit disks : ℕ}
    {wrote : List GroupCall → List ℕ → Type 0} {o : Outcome}
    (run : IsRunOverLogs settings ended script limit disks wrote o) (held : List Held) (reached : List ℕ)
    (any : List (List ℕ) → Type 0) (since : List GroupCall → List GroupCall → List (List ℕ) → Type 0)
    (now : List (List ℕ) → Type 0) : Type 0 where
  pub of_history : AreGroupsOf o.history run.writes.parts
  pub crash : AreCrashSafe settings.group_bytes run.attempts o run.logs (disks - length run.logs) held reached
      (run.writes.calls ++ run.writes.lost) run.writes.lost any since now
  pub acknowledged : KeepAcknowledged settings run.trace o.transcripts run.writes.parts
      (run.writes.calls ++ run.writes.lost) since (λ k images. (safe : ℕ) × (k < safe)
      × HaveFront safe (begun_records run.logs (failed_record run.writes.lost) (disks - length run.logs)) images)
