-- What is said of how the groups of the second list were handled, where a group comes or leaves.
use Rattle.std.proofs.Common.{List, [], ◌∷◌, ◌++◌}
use Rattle.line_rule.specs.declared.view.Handling.{Handling}
use Rattle.line_rule.specs.declared.view.Squad.{Squad}
use Rattle.line_rule.specs.Standing.{Lead2, level, ahead, handed_on}
use Rattle.line_rule.specs.Made.{AreMade}

module _ {Request Reply : Type 0} (given : List (Handling Request Reply) → List (Handling Request Reply)) where
  -- there is no group
  pub none_made : (lead : Lead2) → AreMade given (handed_on [] lead)
  none_made level = tt
  none_made (ahead c) = tt

  made_front : (newer older : List (Squad Request Reply)) → AreMade given (newer ++ older) → AreMade given newer
  made_front [] older ok = tt
  made_front (g ∷ gs) older ok = (ok.0, made_front gs older ok.1)

  -- the oldest groups leave
  pub made_newer : (lead : Lead2) (newer older : List (Squad Request Reply)) → AreMade given (handed_on (newer ++ older) lead) → AreMade given (handed_on newer lead)
  made_newer level newer older ok = made_front newer older ok
  made_newer (ahead c) [] older ok = tt
  made_newer (ahead c) (g ∷ gs) older ok = made_front gs older ok
