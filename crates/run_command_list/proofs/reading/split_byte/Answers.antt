use Rattle.std.proofs.Common.{rules}
use Rattle.run_command_list.proofs.Steps as steps
use Rattle.run_command_list.proofs.reading.split_byte.Goals as goal

pub returns-in_err-first : goal.returns-in_err-first
returns-in_err-first c = rw c.from_residual.ensures (steps.no_byte c.args.bytes.now (search rules))

pub returns : goal.returns
returns c = steps.a_byte c.args.bytes.now c.in_ok-first.first.now c.in_ok-first.rest.now (search rules)
