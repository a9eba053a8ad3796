use Rattle.std.proofs.Common.{arith}
use Rattle.run_command_list.proofs.Steps as steps
use Rattle.run_command_list.proofs.reading.split_fixed64.Goals as goal

pub returns-then-bytes-lt8 : goal.returns-then-bytes-lt8
returns-then-bytes-lt8 c = steps.no_fixed64 c.args.bytes.now (omega arith)

pub returns : goal.returns
returns c = steps.a_fixed64 c.args.bytes.now c.get_fixed64.result c.split_at.result.1.now (omega arith) c.get_fixed64.ensures.value c.split_at.ensures.back
