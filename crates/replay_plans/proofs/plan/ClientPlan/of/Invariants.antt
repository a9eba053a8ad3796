use Rattle.std.proofs.Common.{◌≡◌, ◌++◌, map}
use Rattle.run_command_list.specs.Views.{command_of}
use Rattle.replay_plans.proofs.plan.ClientPlan.of.Given as goal

-- the lines so far and the commands that are left are all commands
abbrev pub invariant-loop-command : goal.invariant-loop-command
invariant-loop-command l = map command_of l.lines.items ++ l.command-iterator ≡ l.fn.commands
