use Rattle.std.proofs.Common.{refl}
use Rattle.hex.proofs.OnLiterals.{hex_on_literals}
use Rattle.list_text.proofs.rows.given_keys.Goals as goal

pub returns : goal.returns
unfolding hex_on_literals
returns c = record { digits = refl; upper_case = refl; nothing = refl; shown_nothing = refl; odd = refl; no_digit = refl; text = refl; minus_as_text = refl; escapes = refl; broken_escape = refl; other_escape = refl }
