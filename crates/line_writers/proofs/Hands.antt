-- How a leader finds the writer after its group.
use Rattle.std.proofs.Common.{◌≡◌, ◌≢◌, ℕ, ◌+◌, ◌<◌, List, [], ◌∷◌, ◌++◌, length, refl, ap, ◌∙◌, subst, inl, arith, append_assoc, length-append}
use Rattle.line_rule.specs.declared.view.QueuedWriter.{QueuedWriter}
use Rattle.line_rule.specs.declared.view.Lead.{Lead}
use Rattle.line_rule.specs.declared.view.LineStage.TheVariants.{Leading}
use Rattle.line_rule.specs.Chain.{newest}
use Rattle.line_rule.specs.Plays.{Sat, At, AllBelow, Walks, lead_with_walk, in_hand}
use Rattle.line_writers.specs.Roles.{HasRead}
use Rattle.line_writers.proofs.Surveys.{some_newest, oldest_newer, below_at}

pub record Behind {Request Reply Log Right : Type 0} (c slots : ℕ) (lead : Lead Request Reply) (mine : List (Request × Reply)) (found : ℕ) (was now : Sat Request Reply Log Right) : Type 0 where
  pub queue : List (QueuedWriter Request)
  pub pre : List (QueuedWriter Request)
  pub x : QueuedWriter Request
  pub at : At c (Leading (lead_with_walk lead (queue ++ in_hand lead))) mine now
  pub slots_same : now.1 ≡ was.1
  pub parts : queue ++ in_hand lead ≡ pre ++ x ∷ in_hand lead
  pub read : HasRead 0 slots c found now
  pub range : (0 < x.by) × (x.by + 1 < slots)
  pub long : length (queue ++ in_hand lead) ≡ length pre + 1 + length (in_hand lead)

pub behind : {Request Reply Log Right : Type 0} (c slots : ℕ) (lead : Lead Request Reply) (mine : List (Request × Reply)) (found old : ℕ) (was now : Sat Request Reply Log Right) → Walks slots c lead mine found was now → old ≡ newest (in_hand lead) → found ≢ old → Behind c slots lead mine found was now
behind c slots lead mine found old was now w is_old ne =
    let n = oldest_newer w.0 lead.taken lead.own found old w.3 is_old ne in
    let parts : w.0 ++ in_hand lead ≡ n.0 ++ n.1 ∷ in_hand lead = ap (λ l. l ++ in_hand lead) n.2 ∙ append_assoc n.0 (n.1 ∷ []) (in_hand lead) in
    let b = below_at slots n.0 n.1 (in_hand lead) (subst (AllBelow slots) parts w.5) in
    let f = some_newest w.0 lead.taken lead.own in
    record {
      queue = w.0;
      pre = n.0;
      x = n.1;
      at = w.1;
      slots_same = w.2;
      parts = parts;
      read = (w.0 ++ in_hand lead, f.0, f.1, inl (refl, (Leading (lead_with_walk lead (w.0 ++ in_hand lead)), mine, w.1, refl)), f.2, w.3 ∙ ap newest f.2, w.4, w.5);
      range = (b.0, b.1);
      long = ap length parts ∙ (length-append n.0 (n.1 ∷ in_hand lead) ∙ omega arith);
    }
