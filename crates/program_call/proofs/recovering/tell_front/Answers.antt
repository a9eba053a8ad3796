-- What is printed of several logs, also where a disk failed, what the devices have counted, and what a crash leaves.
use Rattle.std.proofs.Common.{◌≡◌, ℕ, true, List, ◌++◌, drop, length, take, refl, ap, ◌∙◌, subst, arith, length-append}
use Rattle.base_devices.specs.declared.disk.Disk as disk
use Rattle.base_devices.specs.declared.sink.Sink as sink
use Rattle.base_devices.specs.OnlyReads.{OnlyReads}
use Rattle.log_recovery.specs.declared.modes.Mode.{Mode}
use Rattle.program_call.specs.Answers.{RecoversLogs}
use Rattle.program_call.specs.Reports.{IsTextOfLogs, code}
use Rattle.program_call.specs.SeveralDisks.{OverFront}
use Rattle.program_call.specs.SeveralLogs.{logs_to_recover}
use Rattle.program_call.proofs.Finding.{fails_several, finds_several}
use Rattle.program_call.proofs.Joining.{over_front, same_length}
use Rattle.program_call.proofs.Leaving.{each_read}
use Rattle.program_call.proofs.Recoveries.{recovers_so}
use Rattle.program_call.proofs.recovering.tell_front.Goals as goal

-- what is promised of the first disks, with the others behind them
recovers_front : {D K : Type 0} (disk : disk.Ghosts D) (sink : sink.Ghosts K) (before after : K) (n used : ℕ) (mode : Mode) (olds front ran back : List D) → front ≡ take used olds → back ≡ drop used olds → length ran ≡ used
    → RecoversLogs sink before after (logs_to_recover disk mode front ran) n → OverFront used olds (ran ++ back) (λ opened ended. RecoversLogs sink before after (logs_to_recover disk mode opened ended) n)
recovers_front disk sink before after n used mode olds front ran back first behind few recovers =
    over_front used olds ran (ran ++ back) (λ opened ended. RecoversLogs sink before after (logs_to_recover disk mode opened ended) n) few (ap (λ xs. ran ++ xs) behind)
    (subst (λ opened. RecoversLogs sink before after (logs_to_recover disk mode opened ran) n) first recovers)

pub returns-clause-recovers : goal.returns-clause-recovers
returns-clause-recovers g c =
    let split = c.split_at_mut-front in
    let recover = c.recover_many-found in
    let does = recover.ensures in
    let front = split.result.0.now in
    let ran = recover.new.disks in
    let found = recover.result in
    let mode = c.args.mode in
    recovers_front g.D.Disk g.K.Sink c.args.sink.now c.tell_logs.new.sink (code c.tell_logs.result) c.args.used mode c.args.disks.now front ran split.result.1.now split.ensures.front split.ensures.back
    (same_length (OnlyReads g.D.Disk) front ran does.disks ∙ split.ensures.front_len)
    (recovers_so IsTextOfLogs true (logs_to_recover g.D.Disk mode front ran) g.K.Sink c.args.sink.now c.tell_logs.new.sink _ found c.tell_logs.result refl
    (record { each = each_read g.D.Disk g.met.D.Disk.only_now front ran does.disks; in_turn = does.in_turn }) does.worked
    (finds_several g.D.Disk mode front ran found does.recovered does.accepted) (fails_several g.D.Disk mode front ran found does.error does.damage) c.tell_logs.ensures)

pub returns-clause-number : goal.returns-clause-number
returns-clause-number g c =
    let split = c.split_at_mut-front in
    let ran = c.recover_many-found.new.disks in
    let few = same_length (OnlyReads g.D.Disk) split.result.0.now ran c.recover_many-found.ensures.disks in
    let behind = split.ensures.back_len in
    let first = split.ensures.front_len in
    omega (arith, length-append ran split.result.1.now, few, behind, first)
