-- The seats of all writers, joined into one.
use Rattle.std.proofs.Common.{◌≡◌, ℕ, List, [], ◌∷◌, ◌++◌, reverse, refl, sym, ap, ◌∙◌, subst, inl, inr, ⊎_elim}
use Rattle.std.proofs.lemmas.List.{reverse-append}
use Rattle.atomic_table.specs.Seated.{TableId}
use Rattle.line_rule.specs.declared.view.LineHold.{LineHold}
use Rattle.line_rule.specs.declared.view.Handling.{Handling}
use Rattle.line_rule.specs.declared.view.LineStage.TheVariants.{Idle}
use Rattle.line_rule.specs.Rule.{hold, Has, AllIdle, Merges}
use Rattle.line_writers.specs.declared.writer.Writer.{Writer}
use Rattle.line_writers.specs.Seats.{answers_told, IsOut, AllOut, HasClient, AllThere, Merged, holds_of}

module _ {Request Reply : Type 0} where
  has_back : (h : LineHold Request Reply) (a b : List (LineHold Request Reply)) → Has h b → Has h (a ++ b)
  has_back h [] b x = x
  has_back h (y ∷ ys) b x = inr (has_back h ys b x)

  has_front : (h : LineHold Request Reply) (a b : List (LineHold Request Reply)) → Has h a → Has h (a ++ b)
  has_front h [] b x = absurd x
  has_front h (y ∷ ys) b x = ⊎_elim (λ e. inl e) (λ t. inr (has_front h ys b t)) x

  has_reverse : (h : LineHold Request Reply) (l : List (LineHold Request Reply)) → Has h l → Has h (reverse l)
  has_reverse h [] x = absurd x
  has_reverse h (y ∷ ys) x = subst (Has h) (sym (reverse-append (y ∷ []) ys)) (⊎_elim (λ e. has_back h (reverse ys) (y ∷ []) (inl e)) (λ t. has_front h (reverse ys) (y ∷ []) (has_reverse h ys t)) x)

module _ {Request Reply Log Right : Type 0} where
  pub holds-append : (a b : List (Writer Request Reply Log Right)) → holds_of (a ++ b) ≡ holds_of a ++ holds_of b
  holds-append [] b = refl
  holds-append (w ∷ ws) b = ap (λ l. hold w.client Idle (answers_told w) ∷ l) (holds-append ws b)

  pub holds_back : (a : List (Writer Request Reply Log Right)) (w : Writer Request Reply Log Right) → reverse (holds_of (a ++ w ∷ [])) ≡ hold w.client Idle (answers_told w) ∷ reverse (holds_of a)
  holds_back a w = ap reverse (holds-append a (w ∷ [])) ∙ reverse-append (holds_of a) (hold w.client Idle (answers_told w) ∷ [])

  pub out_last : (table : TableId) (a : List (Writer Request Reply Log Right)) (w : Writer Request Reply Log Right) → AllOut table (a ++ w ∷ []) → (w.seat.table_id ≡ table) × IsOut w × AllOut table a
  out_last table [] w ok = (ok.0, ok.1, tt)
  out_last table (x ∷ xs) w ok = let t = out_last table xs w ok.2 in (t.0, t.1, (ok.0, ok.1, t.2))

  has_hold : (ws : List (Writer Request Reply Log Right)) (i : ℕ) → HasClient i ws → (m : List (Request × Reply)) × Has (hold i Idle m) (holds_of ws)
  has_hold [] i x = absurd x
  has_hold (w ∷ ws) i x = ⊎_elim (λ (e : w.client ≡ i). (answers_told w, inl (ap (λ (j : ℕ). hold j Idle (answers_told w)) e))) (λ (t : HasClient i ws). let r = has_hold ws i t in (r.0, inr r.1)) x

  pub all_idle : (n : ℕ) (ws : List (Writer Request Reply Log Right)) (v : List (LineHold Request Reply)) → v ≡ reverse (holds_of ws) → AllThere n ws → AllIdle n v
  all_idle n ws v is all i lo hi = let r = has_hold ws i (all i lo hi) in (r.0, subst (Has (hold i Idle r.0)) (sym is) (has_reverse (hold i Idle r.0) (holds_of ws) r.1))

  pub merged : (handled : List (Handling Request Reply)) (all ws : List (Writer Request Reply Log Right)) → ((h : LineHold Request Reply) → Has h (holds_of ws) → Has h (holds_of all)) → Merges handled (reverse (holds_of all)) → Merged handled ws
  merged handled all [] to ok = tt
  merged handled all (w ∷ ws) to ok = (ok (hold w.client Idle (answers_told w)) (has_reverse (hold w.client Idle (answers_told w)) (holds_of all) (to (hold w.client Idle (answers_told w)) (inl refl))), merged handled all ws (λ h x. to h (inr x)) ok)
