-- How a leader finds the writer after its mark.
use Rattle.std.proofs.Common.{◌≡◌, ◌≢◌, ℕ, ◌+◌, ◌<◌, List, [], ◌∷◌, ◌++◌, length, refl, ap, ◌∙◌, subst, inl, inr, arith, append_assoc, length-append}
use Rattle.line_rule.specs.declared.view.QueuedWriter.{QueuedWriter}
use Rattle.line_rule.specs.declared.view.Lead.{Lead}
use Rattle.line_rule.specs.declared.view.Back.{Back}
use Rattle.line_rule.specs.declared.view.LineStage.TheVariants.{Marking, Settling}
use Rattle.line_rule.specs.declared.view.Debt.{Debt}
use Rattle.line_rule.specs.declared.view.Squad.{Squad}
use Rattle.line_rule.specs.declared.view.Back.TheVariants.{Serving}
use Rattle.line_rule.specs.Standing.{line_of}
use Rattle.line_rule.specs.Chain.{newest, newest_from}
use Rattle.line_rule.specs.Plays.{Sat, AtWith, AllBelow, WalksMarked, WalksSecond, lead_with_walk}
use Rattle.line_writers.specs.Roles.{HasRead}
use Rattle.line_writers.proofs.Surveys.{below_at, oldest_newer, some_newest}
use Rattle.line_rule.specs.declared.words.TheConstants.{MARK}

pub record BehindMarked {Request Reply Log Right : Type 0} (c slots : ℕ) (lead : Lead Request Reply) (mine : List (Request × Reply)) (b : Back Request Reply) (found : ℕ) (was now : Sat Request Reply Log Right) : Type 0 where
  pub walk : List (QueuedWriter Request)
  pub pre : List (QueuedWriter Request)
  pub x : QueuedWriter Request
  pub at : AtWith c (Marking (lead_with_walk lead walk)) mine b now
  pub slots_same : now.1 ≡ was.1
  pub parts : walk ≡ pre ++ x ∷ []
  pub read : HasRead MARK slots c found now
  pub range : (0 < x.by) × (x.by + 1 < slots)
  pub long : length walk ≡ length pre + 1

last_one : {Request : Type 0} (e : QueuedWriter Request) (es : List (QueuedWriter Request)) → (pre : List (QueuedWriter Request)) × (x : QueuedWriter Request) × (e ∷ es ≡ pre ++ x ∷ [])
last_one e [] = ([], e, refl)
last_one e (f ∷ fs) = let r = last_one f fs in (e ∷ r.0, r.1, ap (λ l. e ∷ l) r.2)

some_first : {Request : Type 0} (walk : List (QueuedWriter Request)) (found : ℕ) → found ≡ newest_from MARK walk → found ≢ MARK → (y : QueuedWriter Request) × (ys : List (QueuedWriter Request)) × (walk ≡ y ∷ ys)
some_first [] found is ne = absurd (ne is)
some_first (y ∷ ys) found is ne = (y, ys, refl)

pub behind_marked : {Request Reply Log Right : Type 0} (c slots : ℕ) (lead : Lead Request Reply) (mine : List (Request × Reply)) (b : Back Request Reply) (found : ℕ) (was now : Sat Request Reply Log Right) → WalksMarked slots c lead mine b found was now → found ≢ MARK → BehindMarked c slots lead mine b found was now
behind_marked c slots lead mine b found was now w ne =
    let f = some_first w.0 found w.3 ne in let n = last_one f.0 f.1 in
    let parts : w.0 ≡ n.0 ++ n.1 ∷ [] = f.2 ∙ n.2 in
    let r = below_at slots n.0 n.1 [] (subst (AllBelow slots) parts w.5) in
    record {
      walk = w.0;
      pre = n.0;
      x = n.1;
      at = w.1;
      slots_same = w.2;
      parts = parts;
      read = (w.0, f.0, f.1, inr (inl (refl, (lead_with_walk lead w.0, mine, b, w.1, refl))), f.2, w.3 ∙ ap (newest_from MARK) f.2, w.4, w.5);
      range = (r.0, r.1);
      long = ap length parts ∙ (length-append n.0 (n.1 ∷ []));
    }

pub record BehindSecond {Request Reply Log Right : Type 0} (c slots : ℕ) (d : Debt Request Reply) (mine : List (Request × Reply)) (g : Squad Request Reply) (found : ℕ) (was now : Sat Request Reply Log Right) : Type 0 where
  pub walk : List (QueuedWriter Request)
  pub pre : List (QueuedWriter Request)
  pub x : QueuedWriter Request
  pub at : AtWith c (Settling d) mine (Serving g walk) now
  pub slots_same : now.1 ≡ was.1
  pub parts : walk ≡ pre ++ x ∷ line_of g
  pub read : HasRead 0 slots c found now
  pub range : (0 < x.by) × (x.by + 1 < slots)
  pub long : length walk ≡ length pre + 1 + length (line_of g)

pub behind_second : {Request Reply Log Right : Type 0} (c slots : ℕ) (d : Debt Request Reply) (mine : List (Request × Reply)) (g : Squad Request Reply) (found old : ℕ) (was now : Sat Request Reply Log Right) → WalksSecond slots c d mine g found was now → old ≡ newest (line_of g) → found ≢ old → BehindSecond c slots d mine g found was now
behind_second c slots d mine g found old was now w is_old ne =
    let n = oldest_newer w.0 g.rest g.own found old w.3 is_old ne in
    let parts : w.0 ++ line_of g ≡ n.0 ++ n.1 ∷ line_of g = ap (λ l. l ++ line_of g) n.2 ∙ append_assoc n.0 (n.1 ∷ []) (line_of g) in
    let r = below_at slots n.0 n.1 (line_of g) (subst (AllBelow slots) parts w.5) in
    let f = some_newest w.0 g.rest g.own in
    record {
      walk = w.0 ++ line_of g;
      pre = n.0;
      x = n.1;
      at = w.1;
      slots_same = w.2;
      parts = parts;
      read = (w.0 ++ line_of g, f.0, f.1, inr (inr (refl, (Settling d, mine, g, w.1))), f.2, w.3 ∙ ap newest f.2, w.4, w.5);
      range = (r.0, r.1);
      long = ap length parts ∙ (length-append n.0 (n.1 ∷ line_of g) ∙ omega arith);
    }
