use Rattle.std.proofs.Common.{arith}
use Rattle.run_command_list.proofs.Steps as steps
use Rattle.run_command_list.proofs.reading.split_fixed32.Goals as goal

pub returns-then-bytes-lt4-clause-read : goal.returns-then-bytes-lt4-clause-read
returns-then-bytes-lt4-clause-read c = steps.no_fixed32 c.args.bytes.now (omega arith)

pub returns-clause-read : goal.returns-clause-read
returns-clause-read c =
    steps.a_fixed32 c.args.bytes.now c.get_fixed32.result c.split_at.result.1.now (omega arith) c.get_fixed32.ensures.value c.split_at.ensures.back

pub returns-clause-spelled : goal.returns-clause-spelled
returns-clause-spelled c =
    steps.fixed32_spelled c.args.bytes.now c.get_fixed32.result c.split_at.result.1.now c.get_fixed32.ensures.spelled c.split_at.ensures.back
