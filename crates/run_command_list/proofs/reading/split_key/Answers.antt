use Rattle.std.proofs.Common.{rules}
use Rattle.run_command_list.proofs.Steps as steps
use Rattle.run_command_list.proofs.reading.split_key.Goals as goal

pub returns-in_err-family-clause-read : goal.returns-in_err-family-clause-read
returns-in_err-family-clause-read c = rw c.from_residual.ensures (steps.no_family c.args.bytes.now (search rules))

pub returns-in_err-key-clause-read : goal.returns-in_err-key-clause-read
returns-in_err-key-clause-read c = rw c.from_residual-in_err-key.ensures (steps.key_cut c.args.bytes.now c.in_ok-family.family c.in_ok-family.behind.now c.in_ok-family.ensures.read (search rules))

pub returns-clause-read : goal.returns-clause-read
returns-clause-read c =
    steps.a_key c.args.bytes.now c.in_ok-family.family c.in_ok-family.behind.now c.in_ok-key.key.now c.in_ok-key.rest.now c.in_ok-family.ensures.read c.in_ok-key.ensures.read

pub returns-clause-spelled : goal.returns-clause-spelled
returns-clause-spelled c =
    steps.key_spelled c.args.bytes.now c.in_ok-family.family c.in_ok-family.behind.now c.in_ok-key.key.now c.in_ok-key.rest.now c.in_ok-family.ensures.spelled c.in_ok-key.ensures.spelled
