-- What a run leaves in its log, and what a crash at any moment of the run leaves to recover.
use Rattle.std.specs.Prelude.{◌≡◌, ℕ, ◌+◌, ◌-◌, ◌<◌, ◌≤◌, ⊤, Bool, true, false, IsTrue, List, [], ◌∷◌, ◌++◌, length, take, drop}
use Rattle.std.specs.Prelude.{Option, Some, None, slice_get, IfSome, MatchOption}
use Rattle.std.specs.List.{AllByRecursion, list_any}
use Rattle.model_base.specs.declared.history.Flag.{Flag}
use Rattle.model_base.specs.declared.history.Flag.TheVariants.{Log, NoLog, Sync}
use Rattle.model_base.specs.Batch.{Record, group_record}
use Rattle.model_base.specs.Log.{Beginning, text_after, SpellsWhole}
use Rattle.model_base.specs.History.{Entry}
use Rattle.model_base.specs.Trace.{Trace, Settings}
use Rattle.model_base.specs.Attempts.{Attempt}
use Rattle.model_base.specs.Calls.{Command, Outcome}
use Rattle.model_base.specs.Outcomes.{IsLegalIn}
use Rattle.model_base.specs.LogContents.{GroupCall, record_of_call, records_of, IsLogOf}
pub use Rattle.model_base.specs.LogContents.{HoldsUpTo}
use Rattle.model_base.specs.Recovery.{NoChance}
use Rattle.log_laws.specs.Prefixes.{RecoversPrefix, BeginsWith, HoldsFront}
use Rattle.model_runs.specs.Lost.{IsLostGroup}
use Rattle.model_runs.specs.Written.{WritesLog}
use Rattle.model_runs.specs.Acknowledged.{KeepAcknowledged}

-- a crash at some moment from `old` to `now` might have left this image, and the disk still tells of that time
abbrev pub IsImageSince : {D : Type 0} → (D → ℕ) → (D → ℕ) → (D → ℕ → List ℕ → Type 0) → D → D → List ℕ → Type 0
IsImageSince moment from since old now image = (from now ≤ moment old) × since now (moment old) image

-- all records that were to be in the log: those of the groups, and perhaps the one whose write failed
abbrev pub with_failed_record : List (List ℕ) → Option (List ℕ) → List (List ℕ)
with_failed_record records None = records
with_failed_record records (Some x) = records ++ x ∷ []

abbrev pub is_sync : Flag → Bool
is_sync Sync = true
is_sync Log = false
is_sync NoLog = false

-- a group with an entry that was to be synced
abbrev pub HasSync : List Entry → Type 0
HasSync group = IsTrue (list_any (λ (e : Entry). is_sync e.flag) group)

-- each group that was to be synced is among the first n
abbrev pub HaveSynced : List (List Entry) → ℕ → Type 0
HaveSynced groups n = AllByRecursion (λ group. HasSync group → ⊥) (drop n groups)

-- the text of the log up to the end of the group that has k groups before it
abbrev pub text_through : Beginning → List (List Entry) → ℕ → List ℕ
text_through b groups k = text_after b (records_of (take (k + 1) groups))

-- Nothing is written after a group that was to be synced until that group is safe. So an image that is longer than the
-- text up to the end of such a group begins with this text. An image no longer than one could be before the run
-- (`reached`) tells nothing.
abbrev pub HoldsSynced : Beginning → List (List Entry) → ℕ → List ℕ → Type 0
HoldsSynced b groups reached image = (k : ℕ) (group : List Entry) → slice_get groups k ≡ Some group → HasSync group
    → HoldsUpTo reached (text_through b groups k) image

-- A group that was to be synced is safe once the call that wrote it has returned: from then on each image begins with
-- the text up to the group's end. This is said by the calls, since over old bytes an image's length tells nothing.
-- `since before after` are the images that a crash may leave once the calls `before` have returned, during the calls
-- `after` or later.
abbrev pub KeepsSynced : Beginning → List (List Entry) → List GroupCall
    → (List GroupCall → List GroupCall → List ℕ → Type 0) → Type 0
KeepsSynced b groups made since = (k n : ℕ) (group : List Entry) → slice_get groups k ≡ Some group → HasSync group
    → k < n → (image : List ℕ) → since (take n made) (drop n made) image → BeginsWith (text_through b groups k) image

-- n found records include all those that the log kept, and after these each group that was to be synced
abbrev pub HasAllSafe : List (List Entry) → ℕ → ℕ → Type 0
HasAllSafe groups kept n = (kept ≤ n) × HaveSynced groups (n - kept)

-- the bytes after a text was written over old ones, from their start on
abbrev pub over : List ℕ → List ℕ → List ℕ
over t old = t ++ drop (length t) old

-- the record that the failed call was to write, if a call failed
abbrev pub failed_record : List GroupCall → Option (List ℕ)
failed_record [] = None
failed_record (c ∷ lost) = Some (record_of_call c)

module _ (group_bytes : ℕ) (attempts : List (List Attempt)) (o : Outcome) where
  -- this may be the record of the one group whose log write failed
  pub record IsFailedWrite (x : List ℕ) : Type 0 where
    pub count : ℕ
    pub fault : o.fault ≡ Some count
    pub batches : List (List Record)
    pub lost : IsLostGroup group_bytes attempts count o.last batches
    pub same : x ≡ group_record (o.last + 1) batches

  module _ (b : Beginning) (groups : List (List Entry)) where
    -- An image that may be found (`left`) recovers a prefix of these records, unless by chance: those that the log
    -- kept, those of the groups, and perhaps the failed one. `enough` says how many must be found, given how many were
    -- kept.
    abbrev pub LeavesPrefix : (List ℕ → Type 0) → (ℕ → ℕ → Type 0) → Type 0
    LeavesPrefix left enough = (x : Option (List ℕ)) → IfSome x IsFailedWrite → (image : List ℕ) → left image
        → NoChance b.number image (text_after b (with_failed_record (records_of groups) x))
        → (kept : List (List ℕ)) → SpellsWhole b.number b.kept kept
        → RecoversPrefix b.number (kept ++ with_failed_record (records_of groups) x) image (enough (length kept))

    -- The write of the record x failed. Up to the disk's place, which is at the log's end or after it, the disk holds
    -- the log's text and a front of that record's text, and nothing that nobody wrote. What is after the place was left
    -- by the disk's own call, which failed.
    pub record HoldsFailedWrite (x : List ℕ) (place : ℕ) (content : List ℕ) : Type 0 where
      pub failed : IsFailedWrite x
      pub behind : length (text_after b (records_of groups)) ≤ place
      pub front : HoldsFront (text_after b (records_of groups ++ x ∷ [])) place content

    -- What the disk holds at the end, and its place there. If no call failed, it holds the log's text over what was
    -- there when the log began. Otherwise the failed call's record is named, of which a front may come after the log.
    -- And what is recovered: of any bytes, whatever becomes of the file (`any_moment`); of what a crash leaves at some
    -- moment of the run (`any`); once some calls have returned (`since`; if these are none, once the log has begun);
    -- and at the end (`now`), where all that was synced is found. This holds for each record that may be the failed
    -- one, and the one that was tried is among these. So nobody can choose a record whose premise excludes an image.
    pub record IsCrashSafe (begun content : List ℕ) (place : ℕ) (made lost : List GroupCall) (reached : ℕ)
        (any : List ℕ → Type 0) (since : List GroupCall → List GroupCall → List ℕ → Type 0) (now : List ℕ → Type 0)
        : Type 0 where
      pub failed : MatchOption o.fault (content ≡ over (text_after b (records_of groups)) begun) (λ count.
          (x : List ℕ) × (failed_record lost ≡ Some x) × HoldsFailedWrite x place content)
      pub any_moment : LeavesPrefix (λ image. ⊤) (λ kept n. ⊤)
      pub held : (image : List ℕ) → any image → HoldsSynced b groups reached image
      pub kept : (image : List ℕ) → since [] made image → BeginsWith b.kept image
      pub kept_since : KeepsSynced b groups made since
      pub at_end : LeavesPrefix now (HasAllSafe groups)

-- A run over a log that began as `b`: its outcome is legal in one trace, with these commits in the leaders' groups, and
-- its log was written by the right calls for exactly these groups. `wrote` says which calls of the log writer turned
-- the log that began into the log that was handed back. The printed length is that of the bytes that the log kept and
-- of the text of the groups' records.
pub record IsRun (settings : Settings) (ended : ℕ) (script : List (List Command)) (b : Beginning)
    (wrote : List GroupCall → Type 0) (o : Outcome) : Type 0 where
  pub trace : Trace
  pub attempts : List (List Attempt)
  pub legal : IsLegalIn settings ended script trace attempts o
  pub writes : WritesLog settings.group_bytes wrote trace attempts legal.groups o.fault
  pub length_is : o.log_lens ≡ length (text_after b (records_of writes.parts)) ∷ []

-- What the log of a run holds, and what a crash leaves of it. A batch that was to be synced is safe from the moment on
-- at which its client got its `ok`. The client then knew of calls that had returned, and once these have, each image
-- begins with the text up to the end of the batch's group.
pub record IsSafe {settings : Settings} {ended : ℕ} {script : List (List Command)} {b : Beginning}
    {wrote : List GroupCall → Type 0} {o : Outcome} (run : IsRun settings ended script b wrote o)
    (begun content : List ℕ) (place reached : ℕ) (any : List ℕ → Type 0)
    (since : List GroupCall → List GroupCall → List ℕ → Type 0) (now : List ℕ → Type 0) : Type 0 where
  pub log : IsLogOf b o content run.writes.parts
  pub crash : IsCrashSafe settings.group_bytes run.attempts o b run.writes.parts begun content place
      (run.writes.calls ++ run.writes.lost) run.writes.lost reached any since now
  pub acknowledged : KeepAcknowledged settings run.trace o.transcripts run.writes.parts
      (run.writes.calls ++ run.writes.lost) since (λ k image. BeginsWith (text_through b run.writes.parts k) image)
