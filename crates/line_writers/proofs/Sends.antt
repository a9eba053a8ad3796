-- How a leader sends its group on.
use Rattle.std.proofs.Common.{true, false, ◌≡◌, ℕ, zero, suc, ◌+◌, ◌<◌, ◌≤◌, length, get_or, List, [], ◌∷◌, ◌++◌, refl, ap, arith}
use mathlib.Core.Logic.{dite}
use native.Mathlib.Decide.{ℕ_discrete}
use Rattle.line_rule.specs.declared.view.QueuedWriter.{QueuedWriter}
use Rattle.line_rule.specs.declared.view.Handling.{Handling}
use Rattle.line_rule.specs.declared.view.Lead.{Lead}
use Rattle.line_rule.specs.declared.view.Squad.{Squad}
use Rattle.line_rule.specs.declared.view.LineStage.{LineStage}
use Rattle.line_rule.specs.declared.view.LineStage.TheVariants.{Marking, Cutting}
use Rattle.line_rule.specs.declared.view.Back.TheVariants.{Parting, Joining, Holding}
use Rattle.line_rule.specs.declared.content.LineSlot.{LineSlot}
use Rattle.line_rule.specs.declared.content.LineSlot.TheVariants.{Told, TheRight}
use Rattle.line_rule.specs.Plays.{Sat, AtWith, squad_with_end, slots_of}
use Rattle.line_writers.specs.Roles.{HasStage, HasJoined, AreMembers}

pub slots_snoc : {Request Reply Log Right : Type 0} (gs : List (QueuedWriter Request × Reply)) (t u : List (ℕ × LineSlot Request Reply Log Right)) → slots_of gs t ++ u ≡ slots_of gs (t ++ u)
slots_snoc [] t u = refl
slots_snoc (g ∷ gs) t u = ap (λ l. (g.0.by, Told g.1) ∷ l) (slots_snoc gs t u)

pub long_slots : {Request Reply Log Right : Type 0} (gs : List (QueuedWriter Request × Reply)) (t : List (ℕ × LineSlot Request Reply Log Right)) → length (slots_of gs t) ≡ length gs + length t
long_slots [] t = omega arith
long_slots (g ∷ gs) t = let r = long_slots gs t in omega arith

module _ {Request Reply Log Right : Type 0} (serves : Right → List (Handling Request Reply) → Type 0) (n c : ℕ) (to : List (Handling Request Reply)) (next : ℕ) (lead : Lead Request Reply) (mine : List (Request × Reply)) (g : Squad Request Reply) (m m' : Sat Request Reply Log Right) where
  pub joined_behind : HasStage c lead mine (Parting g 0) next m → ((st : LineStage Request Reply) → AtWith c st mine (Parting g 0) m → HasJoined serves n c to false st mine g m m') → HasStage c lead mine (Joining (squad_with_end g to)) next m' × (m'.1 ≡ m.1)
  joined_behind s f = dite (ℕ_discrete next 0)
      (λ z. let j = f (Marking lead) (s.0 z) in (((λ _. j.0), (λ ne. absurd (ne z))), j.1))
      (λ nz. let x = s.1 nz in let j = f (Cutting lead x.0) x.2 in (((λ z. absurd (nz z)), (λ _. (x.0, x.1, j.0))), j.1))

  pub joined_alone : HasStage c lead mine (Parting g 0) next m → ((st : LineStage Request Reply) → AtWith c st mine (Parting g 0) m → HasJoined serves n c to true st mine g m m') → (right : Right) × serves right g.from × HasStage c lead mine (Holding (squad_with_end g to)) next m' × (m'.1 ≡ (n + 1, TheRight right) ∷ m.1)
  joined_alone s f = dite (ℕ_discrete next 0)
      (λ z. let j = f (Marking lead) (s.0 z) in (j.0, j.1, ((λ _. j.2), (λ ne. absurd (ne z))), j.3))
      (λ nz. let x = s.1 nz in let j = f (Cutting lead x.0) x.2 in (j.0, j.1, ((λ z. absurd (nz z)), (λ _. (x.0, x.1, j.2))), j.3))

pub member_at : {Request Reply : Type 0} (n : ℕ) (ks : List ℕ) (gs : List (QueuedWriter Request × Reply)) (i d : ℕ) → AreMembers n ks gs → i < length ks → (pre : List (QueuedWriter Request × Reply)) × (y : QueuedWriter Request × Reply) × (post : List (QueuedWriter Request × Reply)) × (gs ≡ pre ++ y ∷ post) × (y.0.by ≡ get_or ks i d) × (0 < get_or ks i d) × (get_or ks i d ≤ n)
member_at n [] gs i d ok small = absurd (omega arith)
member_at n (k ∷ ks) gs zero d ok small = ok.0
member_at n (k ∷ ks) gs (suc i) d ok small = member_at n ks gs i d ok.1 (omega arith)
