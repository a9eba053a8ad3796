-- How a run over several logs ends, and what is true then.
use Rattle.std.specs.Prelude.{◌≡◌, ℕ, List, [], ◌∷◌, ◌++◌, length, map, Option, None, Some, option_and_then, IfSome}
use Rattle.std.specs.List.{AllByRecursion, AllZip}
use Rattle.base_devices.specs.Disk.{Disk}
use Rattle.base_devices.specs.Faults.{Rose, count_in_all}
use Rattle.base_devices.specs.declared.disk.Disk.{Ghosts}
use Rattle.model_base.specs.Outcomes.{read_faults_in}
use Rattle.model_base.specs.Recovery.{Logged}
use Rattle.model_base.specs.Settings.{settings_of, with_kept}
use Rattle.model_base.specs.Calls as calls
use Rattle.model_base.specs.LogContents.{GroupCall}
use Rattle.model_base.specs.declared.options.Options.{Options}
use Rattle.model_base.specs.Trace.{Settings}
use Rattle.model_runs.specs.Refusals.{AreRefusedForThemselves}
use Rattle.model_runs.specs.SeveralLogs.{Held, IsRunOverLogs, AreSafe}
use Rattle.run_outcome.specs.declared.outcome.Outcome.{Outcome}
use Rattle.run_outcome.specs.Shows.{ShowsOutcome}
use Rattle.model_base.specs.Map.{Pairs}
use Rattle.log_writer.specs.declared.set.LogSet.{LogSet}
use Rattle.log_writer.specs.Words.{len_of}
use Rattle.log_writer.specs.Opening.{IsLookedAt, LeavesAsBefore}
use Rattle.log_writer.specs.Sets.{begun_in, fault_in}
use Rattle.log_writer.specs.SetCrashes.{AreLeft, IsLeftNow, AreSafeAfterFirst}
use Rattle.log_writer.specs.SetOpening.{HasFirstBytes}
use Rattle.log_writer.specs.SetWritten.{AreLeftSince, IsSetWrittenFrom}
use Rattle.run_threads.specs.declared.run.ClientsEnd.{ClientsEnd}
use Rattle.run_threads.specs.declared.run.ClientsEnd.TheVariants as clients
use Rattle.run_threads.specs.Runs.{outcome_with}
use Rattle.run_execution.specs.declared.end.RunEnd.{RunEnd}
use Rattle.run_execution.specs.declared.end.RunEnd.TheVariants as end

-- how a run over an opened set of logs ended
abbrev pub IsEndOfSet : {D : Type 0} {ghosts : Ghosts D} → ClientsEnd (LogSet D ghosts) → RunEnd → Type 0
IsEndOfSet (clients.NotRun set) told = told ≡ end.NoMemory
IsEndOfSet (clients.Untold set last) told = told ≡ end.NoOutcome
IsEndOfSet (clients.Told set last transcripts history state) told = (shown : Outcome Pairs) × (told ≡ end.Ran shown)
    × (shown.full_lens.items ++ shown.log_len ∷ [] ≡ map len_of (begun_in set))
    × (shown ≡ outcome_with transcripts history last state shown.full_lens shown.log_len (fault_in set))

-- A run over several logs: how it was set up, the commands of its clients, the count of all disks' faults at its end,
-- the length from which on a log is full, and how many logs there may be. Then what a crash may have left of the disks:
-- at some moment of the run, once some calls had returned, and at the end. Last, the calls by which the disks became as
-- they were handed back, and the logs as long as they were then. `since` is told those lengths too.
pub record SetExecution : Type 1 where
  pub settings : Settings
  pub script : List (List calls.Command)
  pub ended : ℕ
  pub limit : ℕ
  pub disks : ℕ
  pub images : List (List ℕ) → Type 0
  pub since : List ℕ → List GroupCall → List GroupCall → List (List ℕ) → Type 0
  pub now : List (List ℕ) → Type 0
  pub wrote : List GroupCall → List ℕ → Type 0

-- new logs have kept nothing, which is known where each of their disks tells what it holds
abbrev pub nothing_told : {D : Type 0} → Ghosts D → List D → Option (List Logged)
nothing_told ghosts [] = Some []
nothing_told ghosts (disk ∷ disks) = option_and_then (λ (d : Disk). nothing_told ghosts disks) (ghosts.told disk)

abbrev pub set_execution_on : {D : Type 0} → Ghosts D → Options → ℕ → List (List calls.Command) → List D → List D
    → SetExecution
set_execution_on ghosts options limit script olds news = record {
  settings = with_kept (nothing_told ghosts olds)
      (settings_of options [] (length script) (count_in_all ghosts.faults olds));
  script = script;
  ended = count_in_all ghosts.faults news;
  limit = limit;
  disks = length olds;
  images = AreLeft ghosts olds news;
  since = AreLeftSince ghosts limit olds news;
  now = AllZip (IsLeftNow ghosts) news;
  wrote = IsSetWrittenFrom ghosts limit olds news;
}

abbrev pub IsRunOfSet : SetExecution → calls.Outcome → Type 0
IsRunOfSet x o = IsRunOverLogs x.settings x.ended x.script x.limit x.disks x.wrote o

-- what the disks tell that they hold, and how far writes could have reached, where all of them tell it
abbrev pub TellHeld : {D : Type 0} → Ghosts D → List D → List Held → Type 0
TellHeld ghosts disks held = AllZip (λ disk h. (d : Disk) × (ghosts.told disk ≡ Some d) × (d.content ≡ h.content)
    × (d.place ≡ h.place)) disks held

abbrev pub TellReach : {D : Type 0} → Ghosts D → List D → List ℕ → Type 0
TellReach ghosts disks reached =
    AllZip (λ disk reach. (d : Disk) × (ghosts.told disk ≡ Some d) × (d.reach ≡ reach)) disks reached

-- Where the disks tell what they are, and of each after the first a crash leaves nothing but its content: all were
-- found empty, the logs hold the logged batches of the outcome, and a crash leaves a prefix of them, unless a checksum
-- matches by chance.
pub record LeaveSafeLogs {D : Type 0} (ghosts : Ghosts D) (olds news : List D) (x : SetExecution) (o : calls.Outcome)
    (run : IsRunOfSet x o) : Type 0 where
  pub found_empty : AllByRecursion (λ disk. IfSome (ghosts.told disk) (λ d. d.content ≡ [])) olds
  pub safe : AreSafeAfterFirst ghosts olds → (held : List Held) → TellHeld ghosts news held → (reached : List ℕ)
      → TellReach ghosts olds reached → AreSafe run held reached x.images (x.since o.log_lens) x.now

-- A script was run, and this is its outcome. Where no write of a log failed and no read of one, the disks have counted
-- no fault in the run. Where the logs have no fault, commits were refused only for causes of their own.
pub record HasSetOutcome {D : Type 0} (ghosts : Ghosts D) (olds news : List D) (x : SetExecution) (o : calls.Outcome)
    : Type 0 where
  pub run : IsRunOfSet x o
  pub refusals : o.fault ≡ None → AllByRecursion AreRefusedForThemselves o.transcripts
  pub counted : o.fault ≡ None → read_faults_in o.transcripts ≡ [] → x.ended ≡ x.settings.opened
  pub logs : LeaveSafeLogs ghosts olds news x o run

-- each disk tells what it told before, and a crash leaves no less
abbrev pub AreLeftAlone : {D : Type 0} → Ghosts D → List D → List D → Type 0
AreLeftAlone ghosts olds news =
    AllZip (λ old new. IsLookedAt ghosts old new × LeavesAsBefore ghosts old new) olds news

-- the disks have counted no fault
abbrev pub CountNone : {D : Type 0} → Ghosts D → List D → List D → Type 0
CountNone ghosts olds news = AllZip (λ old new. ghosts.faults new ≡ ghosts.faults old) olds news

-- how a run of a script over a new set of logs on these disks ends, and what it leaves
module _ {D : Type 0} (ghosts : Ghosts D) (options : Options) (limit : ℕ) (script : List (List calls.Command))
    (olds news : List D) where
  abbrev pub this_execution : SetExecution
  this_execution = set_execution_on ghosts options limit script olds news

  abbrev pub EndsOnSet : RunEnd → Type 0
  EndsOnSet (end.DiskFault count) = AreLeftAlone ghosts olds news × Rose (count_in_all ghosts.faults olds) count
      × (count ≡ count_in_all ghosts.faults news)
  EndsOnSet (end.NotEmpty len) =
      HasFirstBytes ghosts olds len × AreLeftAlone ghosts olds news × CountNone ghosts olds news
  EndsOnSet (end.Damage at why) = ⊥
  EndsOnSet (end.Family family) = ⊥
  EndsOnSet end.NoMemory = AreLeftAlone ghosts olds news
      × (count_in_all ghosts.faults news ≡ count_in_all ghosts.faults olds)
  EndsOnSet end.NoOutcome = (o : calls.Outcome) × HasSetOutcome ghosts olds news this_execution o
  EndsOnSet (end.Ran shown) = (o : calls.Outcome) × HasSetOutcome ghosts olds news this_execution o
      × ShowsOutcome shown o
