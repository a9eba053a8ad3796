use Rattle.std.proofs.Common.{◌≡◌, length, take, fold, ap, ◌∙◌, arith}
use Rattle.std.proofs.Math.Seq.{take-length}
use Rattle.model_base.specs.Map.{Pairs}
use Rattle.run_command_list.specs.declared.command_view.CommandView.{CommandView}
use Rattle.run_command_list.specs.Views.{command_of}
use Rattle.replay_schedules.specs.Maps.{after_line}
use Rattle.replay_schedules.proofs.MapLemmas.{lines_written}
use Rattle.replay_schedules.proofs.maps.write_lines.Goals as goal

pub returns : goal.returns
returns c =
    let lines = c.args.lines.now in
    let end : c.loop-line.line-index ≡ length lines = omega arith in
    let write = λ (p : Pairs) (v : CommandView). after_line p (command_of v) in
    c.loop-line.invariant ∙ ap (λ n. fold write c.args.map.now (take n lines)) end ∙ ap (fold write c.args.map.now) (take-length lines) ∙ lines_written c.args.map.now lines
