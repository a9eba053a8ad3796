use Rattle.std.proofs.Common.{◌≡◌, List, length, take, ap, ◌∙◌, sym, append-nil, arith}
use Rattle.std.proofs.Math.Seq.{take-length}
use Rattle.model_base.specs.Batch.{Record}
use Rattle.log_batch.specs.Contents.{with_additions}
use Rattle.replay_schedules.specs.Maps.{records_added}
use Rattle.replay_schedules.proofs.ReplayedHistory.{line_more}
use Rattle.replay_schedules.proofs.history.add_lines.Goals as goal

pub loop-line-init : goal.loop-line-init
loop-line-init c = ap (λ (all : List Record). record c.args.batch.now { records = all }) (sym (append-nil c.args.batch.now.records))

pub loop-line-preserved : goal.loop-line-preserved
loop-line-preserved c =
    line_more c.args.lines.now c.loop-line.line-index c.line-item.result c.args.batch.now c.loop-line.batch c.add_line.new.batch c.loop-line-test.true c.line-item.is c.loop-line.invariant c.in_ok-add_line.ensures

pub returns : goal.returns
returns c =
    let lines = c.args.lines.now in
    let end : c.loop-line.line-index ≡ length lines = omega arith in
    c.loop-line.invariant ∙ ap (λ n. with_additions c.args.batch.now (records_added (take n lines))) end ∙ ap (λ ls. with_additions c.args.batch.now (records_added ls)) (take-length lines)
