-- What a run of a script results in: an outcome, and the log that it leaves.
use Rattle.std.specs.Prelude.{◌≡◌, ◌⊎◌, ℕ, ◌≤◌, ⊤, min, List, [], ◌∷◌, ◌++◌, length, take, map, flat_map, Option, Some, None, option_map, IfSome}
use Rattle.std.specs.List.{AllByRecursion}
use Rattle.base_devices.specs.Disk.{Disk, Told, IsImage, all_safe, rewound, cut_at}
use Rattle.model_base.specs.Batch.{Record, IsBatch}
use Rattle.model_base.specs.Counts.{Rose}
use Rattle.model_base.specs.History.{Entry}
use Rattle.model_base.specs.Map.{Pairs}
use Rattle.model_base.specs.Trace.{Settings}
use Rattle.model_base.specs.Calls as calls
use Rattle.model_base.specs.Log.{Beginning, plain_log, SpellsWhole}
use Rattle.model_base.specs.Recovery.{Logged, logged_bytes, AreInOrder, Recovered, IsRecovered, recovered_map, recovered_last}
use Rattle.model_base.specs.LogContents.{GroupCall}
use Rattle.run_outcome.specs.declared.outcome.Outcome.{Outcome}
use Rattle.run_outcome.specs.declared.log_start.LogStart.{LogStart}
use Rattle.run_outcome.specs.declared.log_start.LogStart.TheVariants.{New, Over, Behind}
use Rattle.run_outcome.specs.Shows.{ShowsOutcome}
use Rattle.log_laws.specs.Prefixes.{RecoversPrefix}
use Rattle.log_recovery_laws.specs.Images.{MeetsNoOther}
use Rattle.model_runs.specs.Refusals.{AreRefusedForThemselves}
use Rattle.model_runs.specs.Crashes.{IsRun, IsSafe}

-- the number of a log that is opened in this way, if it has one
abbrev pub number_in : LogStart → Option ℕ
number_in New = plain_log
number_in (Over number) = Some number
number_in (Behind number) = number

-- what a run goes on from: a map with its last sequence, and the bytes that its log keeps with the batches in them
pub record Before : Type 0 where
  pub map : Pairs
  pub last : ℕ
  pub kept : List ℕ
  pub batches : List Logged

abbrev pub nothing : Before
nothing = record { map = []; last = 0; kept = []; batches = [] }

-- the batches that a log had kept, where its disk tells what it holds
abbrev pub batches_told : Option Disk → Before → Option (List Logged)
batches_told told before = option_map (λ (d : Disk). before.batches) told

-- the file, read as a log with this number or without one, recovers `before`, whose kept bytes reach to the end of the
-- last record that is kept
pub record RecoversTo (number : Option ℕ) (file : List ℕ) (before : Before) : Type 0 where
  pub recovered : Recovered
  pub is : IsRecovered number file recovered
  pub map : before.map ≡ recovered_map recovered
  pub last : before.last ≡ recovered_last recovered
  pub kept : before.kept ≡ take recovered.kept file
  pub batches : before.batches ≡ recovered.batches

-- A run whose log begins anew goes on from nothing. Else it goes on from what the log recovers; that is said where the
-- disk tells its content.
abbrev pub GoesOnFrom : LogStart → Option Disk → Before → Type 0
GoesOnFrom New told before = before ≡ nothing
GoesOnFrom (Over number) told before = before ≡ nothing
GoesOnFrom (Behind number) told before = IfSome told (λ d. RecoversTo number d.content before)

-- How a run was set up, the commands of its clients, the count of faults of the log's disk at its end, how its log was
-- opened, and what it went on from. Then what a crash may have left: at some moment of the run (`images`), and once
-- some calls of the log writer had returned, while others went on or after them (`since`). Last, the calls by which the
-- disk became as it was handed back (`wrote`).
pub record Execution : Type 1 where
  pub settings : Settings
  pub script : List (List calls.Command)
  pub ended : ℕ
  pub start : LogStart
  pub before : Before
  pub images : List ℕ → Type 0
  pub since : List GroupCall → List GroupCall → List ℕ → Type 0
  pub wrote : List GroupCall → Type 0

-- how a log begins that is opened in this way
abbrev pub beginning_of : LogStart → Before → Beginning
beginning_of start before = record { number = number_in start; kept = before.kept }

-- a legal outcome, and how the log was written
abbrev pub IsRunOf : Execution → calls.Outcome → Type 0
IsRunOf execution o = IsRun execution.settings execution.ended execution.script
    (beginning_of execution.start execution.before) execution.wrote o

-- what is on the disk as the log begins: all that was there, or what the log keeps
abbrev pub begun_on : LogStart → Before → List ℕ → List ℕ
begun_on New before content = content
begun_on (Over number) before content = content
begun_on (Behind number) before content = before.kept

-- A log that goes on was opened after what its file recovers. Until the file is cut, a crash may leave it as it was,
-- with what was there after the kept records. So this too is said of an image: it recovers a prefix of the kept
-- records, where its recovery meets nothing that recovery of the file doesn't meet.
abbrev pub RecoversKept : LogStart → Before → List ℕ → (List ℕ → Type 0) → Type 0
RecoversKept start before content images = (image : List ℕ) → images image
    → MeetsNoOther (number_in start) image content → (kept : List (List ℕ))
    → SpellsWhole (number_in start) before.kept kept → RecoversPrefix (number_in start) kept image (λ n. ⊤)

-- the image has the first `n` bytes of the content, as they were
abbrev pub HasFirst : ℕ → List ℕ → List ℕ → Type 0
HasFirst n content image = (n ≤ length image) × (take n image ≡ take n content)

-- What was safe as the run began stays, as far as its log keeps it: at each moment of the run, the opening of its log
-- too, an image has these bytes.
abbrev pub SafeStays : Before → Disk → (List ℕ → Type 0) → Type 0
SafeStays before opened images = (image : List ℕ) → images image
    → HasFirst (min opened.synced (length before.kept)) opened.content image

abbrev pub IfGoesOn : LogStart → Type 0 → Type 0
IfGoesOn New T = Unit {0}
IfGoesOn (Over number) T = Unit {0}
IfGoesOn (Behind number) T = T

-- the batch that the one record of a group is: with the group's first sequence, and the records of all its entries
abbrev pub batch_of_group : List Entry → Logged
batch_of_group [] = record { first = 0; records = [] }
batch_of_group (e ∷ entries) = record {
  first = e.first;
  records = flat_map (λ (records : List Record). records) (map (λ (x : Entry). x.records) (e ∷ entries));
}

-- the batches of a log: those that it kept, and one for each group
abbrev pub batches_of_log : Before → List (List Entry) → List Logged
batches_of_log before groups = before.batches ++ map batch_of_group groups

-- recovery reads these batches from their bytes, each after those before it, since their runs rise
abbrev pub AreReadable : List Logged → Type 0
AreReadable batches = AllByRecursion (λ b. IsBatch (logged_bytes b) b.first b.records) batches × AreInOrder 0 batches

-- Where the log is a new one, the disk was found empty. The log holds the logged batches of the outcome after what it
-- keeps, and a crash leaves a prefix of them, unless a checksum matches by chance. What a log that goes on keeps, and
-- was safe, stays. All that the log holds can be recovered.
pub record LeavesSafeLog (execution : Execution) (o : calls.Outcome) (run : IsRunOf execution o)
    (opened ended : Disk) : Type 0 where
  pub found_empty : execution.start ≡ New → opened.content ≡ []
  pub safe : IsSafe run (begun_on execution.start execution.before opened.content) ended.content ended.place
      opened.reach execution.images execution.since (IsImage ended)
  pub went_on : IfGoesOn execution.start
      (RecoversKept execution.start execution.before opened.content execution.images)
  pub stays : IfGoesOn execution.start (SafeStays execution.before opened execution.images)
  pub readable : AreReadable (batches_of_log execution.before run.writes.parts)

-- the disk as the opening of the log leaves it, or would leave it
abbrev pub IsOpened : LogStart → Before → Disk → Disk → Type 0
IsOpened New before old new = new ≡ old
IsOpened (Over number) before old new = new ≡ rewound old
IsOpened (Behind number) before old new =
    (new ≡ cut_at (length before.kept) old) ⊎ (new ≡ all_safe before.kept)

-- Nothing was written: the disk tells what it told before, or it is as the opening of the log leaves it.
abbrev pub IsAsFound : LogStart → Option Disk → Option Disk → Type 0
IsAsFound start old new =
    (new ≡ old) ⊎ ((before : Before) × GoesOnFrom start old before × Told old new (IsOpened start before))

-- The values show the outcome of a run, and the log is that of the outcome, where the disk tells its content. Where the
-- log has no fault, commits were refused only for causes of their own.
pub record HasRun (execution : Execution) (old new : Option Disk) (shown : Outcome Pairs) : Type 0 where
  pub outcome : calls.Outcome
  pub shows : ShowsOutcome shown outcome
  pub run : IsRunOf execution outcome
  pub refusals : shown.fault ≡ None → AllByRecursion AreRefusedForThemselves outcome.transcripts
  pub log : Told old new (LeavesSafeLog execution outcome run)

-- a count of faults that rose in a call, and what it is after the call
abbrev pub IsReached : ℕ → ℕ → ℕ → Type 0
IsReached before count now = Rose before count × (count ≡ now)

-- The disk's time goes on: its moments don't turn back, and what it has forgotten isn't told again.
pub record GoesOn {D : Type 0} (moment from : D → ℕ) (old new : D) : Type 0 where
  pub later : moment old ≤ moment new
  pub forgets : from old ≤ from new
