use Rattle.std.proofs.Common.{arith, rules}
use Rattle.base_maps.proofs.WordSteps.{no_word, word_cut, a_word}
use Rattle.base_maps.proofs.pairs.split_word.Goals as goal

pub returns-in_err-len : goal.returns-in_err-len
returns-in_err-len c = rw c.from_residual.ensures (no_word c.args.bytes.now (search rules))

pub returns-then-after-len : goal.returns-then-after-len
returns-then-after-len c = word_cut c.args.bytes.now c.in_ok-len.len c.in_ok-len.after.now c.in_ok-len.ensures (omega arith)

pub returns : goal.returns
returns c =
    a_word c.args.bytes.now c.in_ok-len.len c.in_ok-len.after.now c.split_at.result.0.now c.split_at.result.1.now c.in_ok-len.ensures (omega arith) c.split_at.ensures.front c.split_at.ensures.back
