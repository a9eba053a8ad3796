-- The kind of the slot that is on top.
use Rattle.std.proofs.Common.{◌≡◌, ℕ, List, [], ◌∷◌, ap}
use mathlib.Core.Path.{Path}
use Rattle.line_rule.specs.declared.content.LineSlot.{LineSlot}
use Rattle.line_rule.specs.declared.content.LineSlot.TheVariants.{Empty, Asked, Told, TheLog, TheRight}

module _ {Request Reply Log Right : Type 0} where
  abbrev pub log_in : Log → LineSlot Request Reply Log Right → Log
  log_in d Empty = d
  log_in d (Asked q) = d
  log_in d (Told p) = d
  log_in d (TheLog l) = l
  log_in d (TheRight r) = d

  abbrev pub log_at : Log → List (ℕ × LineSlot Request Reply Log Right) → Log
  log_at d [] = d
  log_at d (x ∷ xs) = log_in d x.1

  abbrev pub asked_in : Request → LineSlot Request Reply Log Right → Request
  asked_in d Empty = d
  asked_in d (Asked q) = q
  asked_in d (Told p) = d
  asked_in d (TheLog l) = d
  asked_in d (TheRight r) = d

  abbrev pub asked_at : Request → List (ℕ × LineSlot Request Reply Log Right) → Request
  asked_at d [] = d
  asked_at d (x ∷ xs) = asked_in d x.1

  abbrev pub right_of_slot : Right → LineSlot Request Reply Log Right → Right
  right_of_slot d Empty = d
  right_of_slot d (Asked q) = d
  right_of_slot d (Told p) = d
  right_of_slot d (TheLog l) = d
  right_of_slot d (TheRight r) = r

  abbrev pub right_on : Right → List (ℕ × LineSlot Request Reply Log Right) → Right
  right_on d [] = d
  right_on d (x ∷ xs) = right_of_slot d x.1

  abbrev pub told_in : Reply → LineSlot Request Reply Log Right → Reply
  told_in d Empty = d
  told_in d (Asked q) = d
  told_in d (Told p) = p
  told_in d (TheLog l) = d
  told_in d (TheRight r) = d

  abbrev pub told_at : Reply → List (ℕ × LineSlot Request Reply Log Right) → Reply
  told_at d [] = d
  told_at d (x ∷ xs) = told_in d x.1

  pub told_one : (k j : ℕ) (p p' : Reply) → Path (List (ℕ × LineSlot Request Reply Log Right)) ((k, Told p) ∷ []) ((j, Told p') ∷ []) → p ≡ p'
  told_one k j p p' e = ap (told_at p) e
