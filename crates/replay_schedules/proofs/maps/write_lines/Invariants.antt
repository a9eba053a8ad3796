use Rattle.std.proofs.Common.{◌≡◌, take, fold}
use Rattle.model_base.specs.Map.{Pairs}
use Rattle.run_command_list.specs.declared.command_view.CommandView.{CommandView}
use Rattle.run_command_list.specs.Views.{command_of}
use Rattle.replay_schedules.specs.Maps.{after_line}
use Rattle.replay_schedules.proofs.maps.write_lines.Given as goal

-- the lines so far are written
abbrev pub invariant-loop-line : goal.invariant-loop-line
invariant-loop-line l = l.map ≡ fold (λ (p : Pairs) (v : CommandView). after_line p (command_of v)) l.initial.map (take l.line-index l.lines)
