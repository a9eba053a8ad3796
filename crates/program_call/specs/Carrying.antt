-- What is promised of each invocation, over the disks that are handed in. The clauses of a call say the same, command
-- by command, of the words that ask for it.
use Rattle.std.specs.Prelude.{◌≡◌, ℕ, ◌<◌, min, List, length, Option, IfSome}
use Rattle.base_devices.specs.declared.source.Source as source
use Rattle.base_devices.specs.declared.disk.Disk as disk
use Rattle.base_devices.specs.declared.sink.Sink as sink
use Rattle.model_base.specs.declared.options.Options.{Options}
use Rattle.replay_core.specs.declared.state.CoreOptions.{CoreOptions}
use Rattle.log_recovery.specs.declared.modes.Mode.{Mode}
use Rattle.run_outcome.specs.declared.log_start.LogStart.{LogStart}
use Rattle.program_words.specs.declared.invocation.Invocation.{Invocation}
use Rattle.program_words.specs.declared.invocation.Invocation.TheVariants.{Run, Generate, Recover, Replay}
use Rattle.program_call.specs.Answers.{AnswersRun, AnswersGenerate, AnswersRecover, AnswersReplay}
use Rattle.program_call.specs.Asking.{start_of, used_of}
use Rattle.program_call.specs.OneLog.{log_of_run, log_of_generated, log_to_recover}
use Rattle.program_call.specs.SeveralDisks.{OverFirst, OverFront}
use Rattle.program_call.specs.SeveralLogs.{logs_of_run, logs_to_recover}

module _ {S D K : Type 0} (source : source.Ghosts S) (disk : disk.Ghosts D) (sink : sink.Ghosts K) (had has : S)
    (before after : K) (olds news : List D) (status : ℕ) where
  -- a run over the log of the first disk, or over those of the first ones
  abbrev pub RunsOne : Options → LogStart → Mode → Type 0
  RunsOne options start mode = OverFirst olds news (λ opened ended.
      AnswersRun source sink had has before after (log_of_run disk options start mode opened ended) status)

  abbrev pub RunsSeveral : Options → ℕ → ℕ → Type 0
  RunsSeveral options limit used = OverFront used olds news (λ opened ended.
      AnswersRun source sink had has before after (logs_of_run disk options limit opened ended) status)

  abbrev pub GeneratesOne : ℕ → ℕ → ℕ → ℕ → Type 0
  GeneratesOne seed clients batches families = OverFirst olds news (λ opened ended.
      AnswersGenerate source sink had has before after (log_of_generated disk families opened ended) seed clients
      batches status)

  -- recovery of one log, or of several
  abbrev pub RecoversOne : Option ℕ → Mode → Type 0
  RecoversOne number mode = OverFirst olds news (λ opened ended.
      AnswersRecover source sink had has before after (log_to_recover disk number mode opened ended) status)

  abbrev pub RecoversSeveral : Mode → ℕ → Type 0
  RecoversSeveral mode used = OverFront used olds news (λ opened ended.
      AnswersRecover source sink had has before after (logs_to_recover disk mode opened ended) status)

  abbrev pub RunsSchedule : CoreOptions → Type 0
  RunsSchedule options = AnswersReplay source sink had has before after olds news options status

  abbrev pub AnswersAsked : Invocation → Type 0
  AnswersAsked (Run pipelined shards group_bytes batch_bytes last number resume mode logs limit families) =
      let options : Options =
      record { last = last; group_bytes = group_bytes; batch_bytes = batch_bytes; families = families } in
      let used : ℕ = used_of logs (length olds) in
      (used ≡ 1 → RunsOne options (start_of number resume) mode) × (1 < used → RunsSeveral options limit used)
  AnswersAsked (Generate pipelined shards seed clients batches families) =
      GeneratesOne seed clients batches families
  AnswersAsked (Recover number mode logs) = (IfSome logs (λ n. n ≡ 1) → RecoversOne number mode)
      × IfSome logs (λ n. 1 < n → RecoversSeveral mode (min n (length olds)))
  AnswersAsked (Replay pipelined group_bytes batch_bytes last families) = RunsSchedule (record {
    pipelined = pipelined;
    families = families;
    group_bytes = group_bytes;
    batch_bytes = batch_bytes;
    last = last;
  })
