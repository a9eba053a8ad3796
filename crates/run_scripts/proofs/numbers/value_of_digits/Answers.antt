use Rattle.std.proofs.Common.{arith}
use Rattle.run_scripts.proofs.ScriptNumbers.{value_of_all, value_too_large}
use Rattle.run_scripts.proofs.numbers.value_of_digits.Goals as goal

pub returns-in_err-checked_mul : goal.returns-in_err-checked_mul
returns-in_err-checked_mul c =
    rw c.from_residual.ensures (value_too_large c.loop-byte.value _ c.loop-byte.byte-index c.args.word.now (omega arith) (omega (arith, c.in_err-checked_mul.ensures)) c.loop-byte.invariant.goes_on)

pub returns-in_err-value : goal.returns-in_err-value
returns-in_err-value c =
    rw c.from_residual-in_err-value.ensures (value_too_large c.loop-byte.value _ c.loop-byte.byte-index c.args.word.now (omega arith) (omega (arith, c.in_err-value.ensures, c.in_ok-checked_mul.ensures)) c.loop-byte.invariant.goes_on)

pub returns : goal.returns
returns c = value_of_all c.loop-byte.value _ c.loop-byte.byte-index c.args.word.now c.loop-byte.invariant.fits (omega arith) c.loop-byte.invariant.goes_on
