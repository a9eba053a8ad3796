-- What the commands that run a script promise: every reply that is printed is that of a plain map at its point of one
-- printed history. Each device tells its bytes, or it doesn't (`None`). What is said of one device holds whatever the
-- others tell.
use Rattle.std.specs.Prelude.{◌≡◌, ◌⊎◌, ℕ, List, [], Option, Some, None, false, Ok, IfSome, slice_get}
use Rattle.std.specs.List.{AllByRecursion}
use Rattle.std.specs.Io.KnownBytes.{Appends}
use Rattle.base_devices.specs.declared.sink.Sink as sink
use Rattle.model_base.specs.Calls as calls
use Rattle.model_base.specs.Script.{Script, script_of, whole_grammar}
use Rattle.model_base.specs.Generator.{script_of_seed}
use Rattle.model_base.specs.Runs.{NoneWithoutMemory}
use Rattle.model_base.specs.declared.log.EndReason.{EndReason}
use Rattle.model_base.specs.declared.write.WriteOptions.{WriteOptions}
use Rattle.model_base.specs.Progress.{batch_after}
use Rattle.model_base.specs.Trace.{Settings}
use Rattle.run_outcome.specs.Running.{IsReached}
use Rattle.model_base.specs.Outcomes.{read_faults_in}
use Rattle.run_laws.specs.Accepting.{ReachesCommit, ReachesUpdates, PassesChecks, HasRoom, IsNotHeldUp, IsAccepted, IsGiven, stops_after}
use Rattle.program_text.specs.Refusals.{damage, disk_fault, high_family}
use Rattle.program_call.specs.declared.report.Form.{Form}
use Rattle.program_call.specs.Logs.{LogsOfRun}
use Rattle.program_call.specs.Reports.{text_of}
use Rattle.program_call.specs.Texts.{SaysTo, TakesPrefix}

-- Where the log has no fault, each commit that a client reached was accepted, or found no memory, if three things hold:
-- its batch and its options pass the checks, and its client holds no stop token; there are sequences for the batches of
-- all commits that the clients reached; and the commit may wait, or no client asks for a stop or a slowdown.
abbrev pub AcceptsCommits : Settings → Script → calls.Outcome → Type 0
AcceptsCommits settings script o =
    (client : ℕ) (before : List calls.Call) (how : WriteOptions) (reply : calls.Reply)
    → o.fault ≡ None → ReachesCommit o client before how reply → PassesChecks settings before how
    → HasRoom settings o → IsNotHeldUp script how
    → IsAccepted (batch_after before) reply ⊎ (reply ≡ calls.no_memory)

-- Where no read of the log failed, each read of the log that a client reached gave its records, or found no memory, if
-- the client holds no stop token.
abbrev pub GivesUpdates : calls.Outcome → Type 0
GivesUpdates o = (client : ℕ) (before : List calls.Call) (s : ℕ) (reply : calls.Reply)
    → read_faults_in o.transcripts ≡ [] → ReachesUpdates o client before s reply
    → stops_after before ≡ false → IsGiven reply ⊎ (reply ≡ calls.no_memory)

-- no write of the log failed, and no read of it by a client
abbrev pub IsUnharmed : calls.Outcome → Type 0
IsUnharmed o = (o.fault ≡ None) × (read_faults_in o.transcripts ≡ [])

-- What is known of a call that should run a script: which script, how it prints the outcome, and its logs. Then what
-- the sink had taken before the call, and after it, and how many calls of the sink had failed.
pub record Observation : Type 1 where
  pub says : Script → Type 0
  pub form : Form
  pub logs : LogsOfRun
  pub before : Option (List ℕ)
  pub after : Option (List ℕ)
  pub failed : ℕ
  pub fails : ℕ

abbrev pub observation_of : {K : Type 0} → sink.Ghosts K → (Script → Type 0) → Form → LogsOfRun → K → K → Observation
observation_of sink says form logs before after = record {
  says = says;
  form = form;
  logs = logs;
  before = sink.taken before;
  after = sink.taken after;
  failed = sink.faults before;
  fails = sink.faults after;
}

-- the script is that of the text, if the text is told
abbrev pub SaysScript : Option (List ℕ) → Script → Type 0
SaysScript text script = IfSome text (λ t. script_of whole_grammar t ≡ Ok script)

-- this very script
abbrev pub IsScript : Script → Script → Type 0
IsScript this script = script ≡ this

-- the script that a seed makes
abbrev pub IsGenerated : ℕ → ℕ → ℕ → Script → Type 0
IsGenerated seed clients batches script = script ≡ script_of_seed seed clients batches

-- some client's call found no memory
pub record LacksMemory (o : calls.Outcome) : Type 0 where
  pub client : ℕ
  pub transcript : List calls.Call
  pub of_client : slice_get o.transcripts client ≡ Some transcript
  pub place : ℕ
  pub call : calls.Call
  pub there : slice_get transcript place ≡ Some call
  pub reply : call.reply ≡ calls.no_memory

module _ (seen : Observation) where
  -- this text of a refusal was printed
  abbrev pub IsSaid : List ℕ → Type 0
  IsSaid text = SaysTo seen.before seen.after text seen.failed seen.fails

  -- a script was run, and this is its outcome
  pub record RanScript (o : calls.Outcome) : Type 0 where
    pub script : Script
    pub said : seen.says script
    pub ran : seen.logs.ran script o

  -- status 0: the outcome was printed, no write of the log failed and no read of it, and no client ran out of memory
  pub record RanWhole : Type 0 where
    pub outcome : calls.Outcome
    pub ran : RanScript outcome
    pub printed : Appends seen.before seen.after (text_of seen.form outcome)
    pub no_fault : IsUnharmed outcome
    pub whole : AllByRecursion NoneWithoutMemory outcome.transcripts

  -- Status 3, where the log was opened: the outcome was printed, and a write of the log failed, or a read of it. The
  -- sink has counted no fault.
  pub record RanToFault : Type 0 where
    pub outcome : calls.Outcome
    pub ran : RanScript outcome
    pub printed : Appends seen.before seen.after (text_of seen.form outcome)
    pub fault : IsUnharmed outcome → ⊥
    pub sink_counted : seen.fails ≡ seen.failed

  -- status 3, where the log wasn't opened: it was left alone, and the disks' count of faults was printed
  pub record DiskRefused : Type 0 where
    pub script : Script
    pub said : seen.says script
    pub count : ℕ
    pub reached : IsReached seen.logs.failed count seen.logs.fails
    pub untouched : seen.logs.left_alone
    pub refused : IsSaid (disk_fault count)

  -- status 3, in either case
  abbrev pub DiskFailed : Type 0
  DiskFailed = DiskRefused ⊎ RanToFault

  -- status 5: the sink took a prefix of the outcome's text
  pub record RanToSinkFault : Type 0 where
    pub outcome : calls.Outcome
    pub ran : RanScript outcome
    pub printed : TakesPrefix seen.before seen.after (text_of seen.form outcome)

  -- status 8: the log should be resumed, but the mode doesn't accept where its recovery ends
  pub record MetDamage : Type 0 where
    pub at : ℕ
    pub why : EndReason
    pub damaged : seen.logs.damaged at why
    pub refused : IsSaid (damage at why)

  -- status 9: the log should be resumed, but a key that it recovers is in this family, the greatest one, and no run is
  -- set up for it
  pub record MetHighFamily : Type 0 where
    pub family : ℕ
    pub high : seen.logs.high_family family
    pub refused : IsSaid (high_family family)

  -- Status 6: nothing was run or printed. The log was left alone, and its disk has counted no fault.
  pub record RanNothing : Type 0 where
    pub untouched : seen.logs.left_alone
    pub counted : seen.logs.fails ≡ seen.logs.failed
    pub silent : seen.after ≡ seen.before

  -- status 6 too: a script was run, and there was no memory for its outcome, or for the text
  pub record RanSilent : Type 0 where
    pub outcome : calls.Outcome
    pub ran : RanScript outcome
    pub silent : seen.after ≡ seen.before

  -- status 6 too: the outcome was printed, and only clients' calls found no memory
  pub record RanShort : Type 0 where
    pub outcome : calls.Outcome
    pub ran : RanScript outcome
    pub printed : Appends seen.before seen.after (text_of seen.form outcome)
    pub no_fault : IsUnharmed outcome
    pub short : LacksMemory outcome

  abbrev pub RanOutOfMemory : Type 0
  RanOutOfMemory = RanNothing ⊎ RanSilent ⊎ RanShort
