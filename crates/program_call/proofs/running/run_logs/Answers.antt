-- The disks that aren't used come behind the others again, as they were.
use Rattle.std.proofs.Common.{◌≡◌, ℕ, List, ◌++◌, drop, length, take, ap, sym, ◌∙◌, subst, arith, length-append, length-drop, length-take}
use Rattle.base_devices.specs.declared.source.Source as source
use Rattle.base_devices.specs.declared.disk.Disk as disk
use Rattle.base_devices.specs.declared.sink.Sink as sink
use Rattle.model_base.specs.declared.options.Options.{Options}
use Rattle.program_call.specs.Answers.{AnswersRun}
use Rattle.program_call.specs.Carrying.{RunsSeveral}
use Rattle.program_call.specs.SeveralLogs.{logs_of_run}
use Rattle.program_call.proofs.Carried.{none_run_logs}
use Rattle.program_call.proofs.Joining.{over_front}
use Rattle.program_call.proofs.running.run_logs.Goals as goal

-- The disk's laws hold wherever a thread may run, and so in this one.
pub returns-in-Err-clause-runs : goal.returns-in-Err-clause-runs
returns-in-Err-clause-runs g c =
    let disks = c.args.disks.items in
    let end = c.end_many in
    let n = end.result.status in
    let options = c.args.setup.options in
    let laws = g.met.D.Disk g.world.𝓛 g.world.𝓜 g.world.𝓡 ((λ s x. x), (λ x. x), (λ x. x), λ x. x) in
    let same = ap (λ v. v.items) end.ensures.disks ∙ c.in-Err.ensures.err in
    let used = c.requires.used in
    subst (λ news. RunsSeveral g.S.Source g.D.Disk g.K.Sink c.args.source.now c.args.source.now c.args.sink.now c.args.sink.now disks news n options c.args.limit c.args.used) (sym same)
    (none_run_logs g.S.Source g.D.Disk g.K.Sink c.args.source.now c.args.sink.now n end.ensures.status laws.only_now disks (omega (arith, used)) options c.args.limit c.args.used)

pub returns-in-Err-clause-number : goal.returns-in-Err-clause-number
returns-in-Err-clause-number g c = ap (λ v. length v.items) c.end_many.ensures.disks ∙ ap length c.in-Err.ensures.err

-- what is promised of the first disks, once the others were put behind them again
runs_front : {S D K : Type 0} (source : source.Ghosts S) (disk : disk.Ghosts D) (sink : sink.Ghosts K) (had has : S) (before after : K) (n used limit : ℕ) (options : Options) (olds front ran news : List D)
    → front ≡ take used olds → length ran ≡ used → news ≡ ran ++ drop used olds → AnswersRun source sink had has before after (logs_of_run disk options limit front ran) n
    → RunsSeveral source disk sink had has before after olds news n options limit used
runs_front source disk sink had has before after n used limit options olds front ran news first few is runs =
    over_front used olds ran news (λ opened ended. AnswersRun source sink had has before after (logs_of_run disk options limit opened ended) n) few is
    (subst (λ opened. AnswersRun source sink had has before after (logs_of_run disk options limit opened ran) n) first runs)

pub returns-clause-runs : goal.returns-clause-runs
returns-clause-runs g c =
    let disks = c.args.disks.items in
    let run = c.run_over-status in
    let ran = run.result.disks.items in
    let used = c.requires.used in
    let front = c.in-Ok.ensures.front in
    let few = run.ensures.number ∙ ap length front ∙ length-take c.args.used disks in
    runs_front g.S.Source g.D.Disk g.K.Sink c.args.source.now run.new.source c.args.sink.now run.new.sink run.result.status c.args.used c.args.limit c.args.setup.options disks c.in-Ok.parts.front.items ran c.joined.result.items
    front (omega (arith, few, used)) (c.joined.ensures ∙ ap (λ xs. ran ++ xs) c.in-Ok.ensures.others) run.ensures.runs

pub returns-clause-number : goal.returns-clause-number
returns-clause-number g c =
    let disks = c.args.disks.items in
    let used = c.requires.used in
    let front = ap length c.in-Ok.ensures.front ∙ length-take c.args.used disks in
    let others = ap length c.in-Ok.ensures.others ∙ length-drop c.args.used disks in
    let ran = c.run_over-status.ensures.number in
    let all = ap length c.joined.ensures ∙ length-append c.run_over-status.result.disks.items c.in-Ok.parts.others.items in
    omega (arith, all, ran, front, others, used)
