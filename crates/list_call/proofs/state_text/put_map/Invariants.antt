use Rattle.std.proofs.Common.{◌≡◌, ◌++◌, flat_map}
use Rattle.list_call.specs.StateTexts.{pair_line}
use Rattle.list_call.proofs.state_text.put_map.Given as goal

-- with the lines of the pairs that are left, the lines of all pairs would be appended to the text
abbrev pub invariant-loop-family : goal.invariant-loop-family
invariant-loop-family l = l.text ++ flat_map (pair_line l.form) l.family-iterator ≡ l.initial.text ++ flat_map (pair_line l.form) l.map
