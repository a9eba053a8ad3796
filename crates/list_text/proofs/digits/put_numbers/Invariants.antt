use Rattle.std.proofs.Common.{◌≡◌, ◌∷◌, ◌++◌, take, flat_map, decimal}
use Rattle.list_text.proofs.digits.put_numbers.Given as goal

-- the numbers so far are appended to the text
abbrev pub invariant-loop-number : goal.invariant-loop-number
invariant-loop-number l = l.text ≡ l.initial.text ++ flat_map (λ n. 32 ∷ decimal n) (take l.number-index l.numbers)
