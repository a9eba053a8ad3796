-- What each command's branch promises is what is promised of the command.
use Rattle.std.proofs.Common.{◌≡◌, ℕ, ◌<◌, ◌≤◌, min, List, ◌∷◌, length, Option, Some, None, IfSome, refl, ap, sym, ◌∙◌, subst, arith}
use Rattle.std.specs.Option.{unwrap_or}
use Rattle.base_devices.specs.declared.source.Source as source
use Rattle.base_devices.specs.declared.disk.Disk as disk
use Rattle.base_devices.specs.declared.sink.Sink as sink
use Rattle.model_base.specs.declared.options.Options.{Options}
use Rattle.log_recovery.specs.declared.modes.Mode.{Mode}
use Rattle.run_outcome.specs.declared.log_start.LogStart.{LogStart}
use Rattle.program_words.specs.declared.invocation.Invocation.TheVariants.{Recover}
use Rattle.program_call.specs.Answers.{AnswersRun, AnswersRecover, RecoversLogs}
use Rattle.program_call.specs.Asking.{used_of}
use Rattle.program_call.specs.Carrying.{AnswersAsked, RecoversSeveral, RunsOne, RunsSeveral}
use Rattle.program_call.specs.OneLog.{log_of_run, log_to_recover}
use Rattle.program_call.specs.SeveralDisks.{OverFront}
use Rattle.program_call.specs.SeveralLogs.{logs_to_recover}
use Rattle.program_call.proofs.Joining.{over_first}
use Rattle.program_call.proofs.many.carry_out.Goals as goal

module _ {S D K : Type 0} (source : source.Ghosts S) (disk : disk.Ghosts D) (sink : sink.Ghosts K) (had has : S) (before after : K) (olds news : List D) (old new : D) (others : List D) (n ran : ℕ) where
  -- what was done over the log of the first disk
  runs_first : (options ran_options : Options) (start ran_start : LogStart) (mode ran_mode : Mode) → olds ≡ old ∷ others → news ≡ new ∷ others → n ≡ ran → ran_options ≡ options → ran_start ≡ start → ran_mode ≡ mode
      → AnswersRun source sink had has before after (log_of_run disk ran_options ran_start ran_mode old new) ran → RunsOne source disk sink had has before after olds news n options start mode
  runs_first options ran_options start ran_start mode ran_mode was is same so_options so_start so_mode answers =
      over_first olds news old new others (λ opened ended. AnswersRun source sink had has before after (log_of_run disk options start mode opened ended) n) was is (rw (same, sym so_options, sym so_start, sym so_mode) answers)

-- a recovery of one log, where no other number is asked for
recovers_first : {S D K : Type 0} (source : source.Ghosts S) (disk : disk.Ghosts D) (sink : sink.Ghosts K) (had : S) (before after : K) (olds news : List D) (old new : D) (others : List D) (n ran : ℕ)
    (number ran_number : Option ℕ) (mode : Mode) (logs : Option ℕ) (given : ℕ) → given ≡ unwrap_or logs 1 → given ≤ 1 → olds ≡ old ∷ others → news ≡ new ∷ others → n ≡ ran → ran_number ≡ number
    → RecoversLogs sink before after (log_to_recover disk ran_number mode old new) ran → AnswersAsked source disk sink had had before after olds news n (Recover number mode logs)
recovers_first source disk sink had before after olds news old new others n ran number ran_number mode logs given asked few was is same so_number recovers =
    (λ one. over_first olds news old new others (λ opened ended. AnswersRecover source sink had had before after (log_to_recover disk number mode opened ended) n) was is (refl, rw (same, sym so_number) recovers), not_several logs asked)
  where
    not_several : (logs : Option ℕ) → given ≡ unwrap_or logs 1 → IfSome logs (λ m. 1 < m → RecoversSeveral source disk sink had had before after olds news n mode (min m (length olds)))
    not_several None asked = tt
    not_several (Some m) asked = λ more. absurd (omega (arith, asked, few, more))

-- and one of several
recovers_several : {S D K : Type 0} (source : source.Ghosts S) (disk : disk.Ghosts D) (sink : sink.Ghosts K) (had : S) (before after : K) (olds news : List D) (n : ℕ) (number : Option ℕ) (mode : Mode) (logs : Option ℕ)
    (given used : ℕ) → given ≡ unwrap_or logs 1 → 1 < given → used ≡ used_of logs (length olds)
    → OverFront used olds news (λ opened ended. RecoversLogs sink before after (logs_to_recover disk mode opened ended) n) → AnswersAsked source disk sink had had before after olds news n (Recover number mode logs)
recovers_several source disk sink had before after olds news n number mode None given used asked more number_is over = absurd (omega (arith, asked, more))
recovers_several source disk sink had before after olds news n number mode (Some m) given used asked more number_is over =
    (λ one. absurd (omega (arith, asked, more, one)), λ some. subst (λ u. RecoversSeveral source disk sink had had before after olds news n mode u) number_is ((refl, over.0), over.1))

abbrev options_of : ℕ → ℕ → ℕ → ℕ → Options
options_of last group_bytes batch_bytes families = record { last = last; group_bytes = group_bytes; batch_bytes = batch_bytes; families = families }

pub returns-then-used-gt1-clause-answers : goal.returns-then-used-gt1-clause-answers
returns-then-used-gt1-clause-answers g c =
    let given = c.in-Run in
    let disks = c.args.disks in
    let number = c.used_of-used.ensures ∙ ap (used_of given.logs) (c.len.ensures ∙ disks.ok.0) in
    let more = c.if-used-gt1.true in
    let end = c.run_logs.result in
    let options = c.setup_of-setup.ensures.options ∙ ap (options_of given.last given.group_bytes given.batch_bytes) c.families_of.ensures in
    rw given.is (
      λ one. absurd (omega (arith, one, number, more)),
      λ several.
          subst (λ options. RunsSeveral g.S.Source g.D.Disk g.K.Sink c.args.source.now c.run_logs.new.source c.args.sink.now c.run_logs.new.sink disks.items end.disks.items end.status options given.log_bytes (used_of given.logs (length disks.items))) options
          (subst (λ used. RunsSeveral g.S.Source g.D.Disk g.K.Sink c.args.source.now c.run_logs.new.source c.args.sink.now c.run_logs.new.sink disks.items end.disks.items end.status c.setup_of-setup.result.options given.log_bytes used) number c.run_logs.ensures.runs),
    )

pub returns-else-used-gt1-clause-answers : goal.returns-else-used-gt1-clause-answers
returns-else-used-gt1-clause-answers g c =
    let given = c.in-Run in
    let disks = c.args.disks in
    let number = c.used_of-used.ensures ∙ ap (used_of given.logs) (c.len.ensures ∙ disks.ok.0) in
    let few = c.if-used-gt1.false in
    let setup = c.setup_of-setup in
    let options = setup.ensures.options ∙ ap (options_of given.last given.group_bytes given.batch_bytes) c.families_of.ensures in
    let first = c.first_of-first in
    let ran = c.run_script in
    rw given.is (
      λ one.
          runs_first g.S.Source g.D.Disk g.K.Sink c.args.source.now ran.new.source c.args.sink.now ran.new.sink disks.items c.with_others.result.disks.items first.result.0 ran.result.disk first.result.1.items c.with_others.result.status ran.result.status
          _ setup.result.options _ setup.result.start _ setup.result.mode first.ensures.items c.with_others.ensures.disks c.with_others.ensures.status options (setup.ensures.start ∙ c.log_start-start.ensures) setup.ensures.mode ran.ensures,
      λ more. absurd (omega (arith, more, number, few)),
    )

pub returns-in-Generate-clause-answers : goal.returns-in-Generate-clause-answers
returns-in-Generate-clause-answers g c =
    let given = c.in-Generate in
    let ended = c.run_generated-ended.result in
    rw (given.is, c.with_others-in-Generate.ensures.status, sym c.families_of-families.ensures) (over_first c.args.disks.items c.with_others-in-Generate.result.disks.items c.first_of-first-in-Generate.result.0 ended.disk c.first_of-first-in-Generate.result.1.items _
    c.first_of-first-in-Generate.ensures.items c.with_others-in-Generate.ensures.disks (refl, c.run_generated-ended.ensures))

pub returns-then-unwrap_or-gt1-clause-answers : goal.returns-then-unwrap_or-gt1-clause-answers
returns-then-unwrap_or-gt1-clause-answers g c =
    let given = c.in-Recover in
    let disks = c.args.disks in
    let told = c.recover_logs in
    let used = c.used_of-used-then-unwrap_or-gt1 in
    let number = used.ensures ∙ ap (used_of given.logs) (c.len-then-unwrap_or-gt1.ensures ∙ disks.ok.0) in
    rw given.is (recovers_several g.S.Source g.D.Disk g.K.Sink c.args.source.now c.args.sink.now told.new.sink disks.items told.result.disks.items told.result.status given.number given.mode given.logs c.unwrap_or.result used.result
    c.unwrap_or.ensures c.if-unwrap_or-gt1.true number told.ensures.recovers)

pub returns-else-unwrap_or-gt1-clause-answers : goal.returns-else-unwrap_or-gt1-clause-answers
returns-else-unwrap_or-gt1-clause-answers g c =
    let given = c.in-Recover in
    let first = c.first_of-first-in-Recover in
    let told = c.recover_log-ended in
    let with = c.with_others-in-Recover in
    rw given.is (recovers_first g.S.Source g.D.Disk g.K.Sink c.args.source.now c.args.sink.now told.new.sink c.args.disks.items with.result.disks.items first.result.0 told.result.disk first.result.1.items with.result.status told.result.status
    given.number c.log_number.result given.mode given.logs c.unwrap_or.result c.unwrap_or.ensures c.if-unwrap_or-gt1.false first.ensures.items with.ensures.disks with.ensures.status c.log_number.ensures told.ensures)

pub returns-in-Replay-clause-answers : goal.returns-in-Replay-clause-answers
returns-in-Replay-clause-answers g c =
    let does = c.replay-status.ensures in
    rw (c.in-Replay.is, sym c.families_of-in-Replay.ensures) (record {
      one = does.status;
      disk_untouched = ap (λ v. v.items) does.disk;
      schedule = does.schedule;
      other_schedule = does.other_schedule;
      source_failed = λ four. let said = does.source four in record { failed = said.0; count = said.1.0; reached = said.1.1; said = said.1.2 };
      source_fault_is_told = does.source_fault_is_told;
      no_fault = does.no_fault;
      sink_failed = does.sink_failed;
      read_to_end = does.read_to_end;
      replayed = does.replayed;
      replayed_prefix = does.replayed_prefix;
      silent = does.silent;
      completes = does.completes;
    })
