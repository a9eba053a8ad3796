use Rattle.std.proofs.Common.{arith, rules}
use Rattle.run_command_list.proofs.Steps as steps
use Rattle.run_command_list.proofs.reading.split_word.Goals as goal

pub returns-in_err-len-clause-read : goal.returns-in_err-len-clause-read
returns-in_err-len-clause-read c = rw c.from_residual.ensures (steps.no_length c.args.bytes.now (search rules))

pub returns-then-behind-len-clause-read : goal.returns-then-behind-len-clause-read
returns-then-behind-len-clause-read c = steps.word_cut c.args.bytes.now c.in_ok-len.len c.in_ok-len.behind.now c.in_ok-len.ensures.read (omega arith)

pub returns-clause-read : goal.returns-clause-read
returns-clause-read c =
    steps.a_word c.args.bytes.now c.in_ok-len.len c.in_ok-len.behind.now c.split_at.result.0.now c.split_at.result.1.now c.in_ok-len.ensures.read (omega arith) c.split_at.ensures.front c.split_at.ensures.back

pub returns-clause-spelled : goal.returns-clause-spelled
returns-clause-spelled c =
    steps.word_spelled c.args.bytes.now c.in_ok-len.len c.in_ok-len.behind.now c.split_at.result.0.now c.split_at.result.1.now c.in_ok-len.ensures.spelled c.split_at.ensures.front_len c.split_at.ensures.front c.split_at.ensures.back
