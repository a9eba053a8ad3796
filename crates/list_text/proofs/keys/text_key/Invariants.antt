use Rattle.std.proofs.Common.{◌≡◌, ◌++◌, length, List, ℕ}
use Rattle.std.specs.Prelude.{option_map}
use Rattle.list_text.specs.Keys as keys
use Rattle.list_text.proofs.keys.text_key.Given as goal

-- what the text that is left spells, after the key so far, is what all of it spells
abbrev pub invariant-loop-rest : goal.invariant-loop-rest
invariant-loop-rest l = option_map (λ (bytes : List ℕ). l.key ++ bytes) (keys.text_key l.rest) ≡ keys.text_key l.text

abbrev pub decreases-loop-rest : goal.decreases-loop-rest
decreases-loop-rest l = length l.rest
