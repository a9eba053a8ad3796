-- How a writer leaves the queue while writes are stalled.
use Rattle.std.proofs.Common.{◌≡◌, ℕ, true, List, [], ◌∷◌, ◌++◌, Option, refl, sym, ap, ◌∙◌, subst, append_assoc}
use mathlib.Core.Option.{none}
use Rattle.atomic_table.specs.Table.{step, Allows}
use Rattle.line_rule.specs.declared.view.QueuedWriter.{QueuedWriter}
use Rattle.line_rule.specs.declared.view.Lead.{Lead}
use Rattle.line_rule.specs.declared.view.LineStage.TheVariants.{Stalling}
use Rattle.line_rule.specs.declared.view.Stall.TheVariants.{Holds}
use Rattle.line_rule.specs.declared.content.LineSlot.{LineSlot}
use Rattle.line_rule.specs.declared.content.LineSlot.TheVariants.{Told}
use Rattle.line_rule.specs.Chain.{newest}
use Rattle.line_rule.specs.Events.{is_hasty}
use Rattle.line_rule.specs.Laws.{Laws}
use Rattle.line_rule.specs.Rule.{Listed}
use Rattle.line_rule.specs.Plays.{Sat, At}
use Rattle.line_rule.specs.Stalls.{after_pass_first}
use Rattle.line_rule.proofs.Departs.{passes_first}
use Rattle.line_writers.specs.Stalled.{EndsWith, EndsBefore}

module _ {Request : Type 0} where
  pub ends_before_any : (rest newer : List (QueuedWriter Request)) (known : Option (ℕ × ℕ)) → EndsWith newer known → EndsBefore rest newer known
  ends_before_any [] newer known ends = tt
  ends_before_any (e ∷ es) newer known ends = ends

  -- what comes after the newest writer that stays doesn't count
  newest_front : (more l l' : List (QueuedWriter Request)) (y : QueuedWriter Request) → newest (more ++ y ∷ l) ≡ newest (more ++ y ∷ l')
  newest_front [] l l' y = refl
  newest_front (e ∷ es) l l' y = refl

  module _ (newer more rest members : List (QueuedWriter Request)) (y : QueuedWriter Request) (ends : newer ≡ more ++ y ∷ []) where
    -- the queue with x, and without it, after y, which is the next newer one
    pub with_next : (x : QueuedWriter Request) → (newer ++ x ∷ rest) ++ members ≡ more ++ y ∷ x ∷ (rest ++ members)
    with_next x = append_assoc newer (x ∷ rest) members ∙ (ap (λ z. z ++ (x ∷ (rest ++ members))) ends ∙ append_assoc more (y ∷ []) (x ∷ (rest ++ members)))

    pub without_next : (newer ++ rest) ++ members ≡ more ++ y ∷ (rest ++ members)
    without_next = append_assoc newer rest members ∙ (ap (λ z. z ++ (rest ++ members)) ends ∙ append_assoc more (y ∷ []) (rest ++ members))

    pub same_newest : (x : QueuedWriter Request) → newest ((newer ++ x ∷ rest) ++ members) ≡ newest ((newer ++ rest) ++ members)
    same_newest x = ap newest (with_next x) ∙ (newest_front more (x ∷ (rest ++ members)) (rest ++ members) y ∙ ap newest (sym without_next))

module _ {Request Reply Log Right : Type 0} (stands : Laws Request Reply Log Right) (n : ℕ) where
  -- the newest writer leaves, where the word is known by its number
  pub passes_first_at : (slots id : ℕ) (me : Sat Request Reply Log Right) (c k w value : ℕ) (lead : Lead Request Reply) (mine : List (Request × Reply)) (older : List (QueuedWriter Request)) (x : QueuedWriter Request) (p : Reply) (t : List (ℕ × LineSlot Request Reply Log Right))
      → At c (Stalling lead (Holds w x)) mine me → me.1 ≡ (x.by, Told p) ∷ t → lead.taken ≡ lead.group → stands.drops x.asked p → is_hasty x.code ≡ true → lead.walk ≡ x ∷ older → x.by ≡ w → value ≡ newest older → k ≡ 3
      → Allows (Listed stands n) slots id me k (λ _. value) (λ _. after_pass_first (step slots k value 0 none) me value)
  passes_first_at slots id me c k w value lead mine older x p t mid slot all dropped_ok hasty is_walk is_first is_value is =
      subst (λ (j : ℕ). Allows (Listed stands n) slots id me j (λ _. value) (λ _. after_pass_first (step slots j value 0 none) me value)) (sym is) (passes_first stands n slots id me c w value lead mine older x p t mid slot all dropped_ok hasty is_walk is_first is_value)
