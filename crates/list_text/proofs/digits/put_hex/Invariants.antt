use Rattle.std.proofs.Common.{◌≡◌, ◌++◌, length}
use Rattle.model_base.specs.Text.{hex}
use Rattle.list_text.proofs.digits.put_hex.Given as goal

-- with the digits of the bytes that are left the text would be whole
abbrev pub invariant-loop-rest : goal.invariant-loop-rest
invariant-loop-rest l = l.text ++ hex l.rest ≡ l.initial.text ++ hex l.bytes

abbrev pub decreases-loop-rest : goal.decreases-loop-rest
decreases-loop-rest l = length l.rest
