-- A transcript at one of its calls: the run before it, the call, and the run after it, or it was cut off there.
use Rattle.std.proofs.Common.{◌≡◌, ◌⊎◌, ℕ, zero, suc, ◌<◌, List, [], ◌∷◌, ◌++◌, length, Some, slice_get, refl, sym, ap, ◌∙◌, subst, inl, inr, arith, length-append, append-nil}
use Rattle.model_base.specs.Trace.{Trace, Settings}
use Rattle.model_base.specs.Progress.{Progress, fresh}
use Rattle.model_base.specs.Runs.{Step, Run, IsTranscript, whole, cut_off}
use Rattle.model_base.specs.Calls.{Command, no_memory, Call}

pub place_within : {X : Type 0} (xs : List X) (i : ℕ) (x : X) → slice_get xs i ≡ Some x → i < length xs
place_within [] i x there = absurd (cc)
place_within (y ∷ xs) zero x there = omega arith
place_within (y ∷ xs) (suc i) x there = omega (arith, place_within xs i x there)

head_same : {X : Type 0} {x y : X} {xs ys : List X} → x ∷ xs ≡ y ∷ ys → x ≡ y
head_same e = cc

tail_same : {X : Type 0} {x y : X} {xs ys : List X} → x ∷ xs ≡ y ∷ ys → xs ≡ ys
tail_same e = cc

-- an element of a list with one more at its end is that last one, or comes before it
last_or_before : {X : Type 0} (front before after : List X) (cut c : X) → front ++ cut ∷ [] ≡ before ++ c ∷ after
    → (c ≡ cut) ⊎ ((rest : List X) × (front ≡ before ++ c ∷ rest) × (after ≡ rest ++ cut ∷ []))
last_or_before [] [] after cut c e = inl (sym (head_same e))
last_or_before [] (b ∷ before) after cut c e = let long = ap length e in absurd (omega (arith, long, length-append before (c ∷ after)))
last_or_before (f ∷ front) [] after cut c e = inr (front, ap (λ x. x ∷ front) (head_same e), sym (tail_same e))
last_or_before (f ∷ front) (b ∷ before) after cut c e =
    elim (last_or_before front before after cut c (tail_same e)) [
      | inl is ↦ inl is
      | inr more ↦ inr (more.0, ap (λ x. x ∷ front) (head_same e) ∙ ap (λ xs. b ∷ xs) more.1, more.2)
    ]

-- the run up to a call, the call, and the run of those calls after it that weren't cut off
pub record Comes (settings : Settings) (trace : Trace) (client : ℕ) (start : Progress) (before : List Call) (c : Call) (after : List Call) (end : Progress) : Type 0 where
  pub at : Progress
  pub run : Run settings trace client start before at
  pub next : Progress
  pub step : Step settings trace client at c.command c.reply next
  pub kept : List Call
  pub rest : Run settings trace client next kept end
  pub lost : List Call
  pub split : after ≡ kept ++ lost

comes : (settings : Settings) (trace : Trace) (client : ℕ) (p : Progress) (before : List Call) (c : Call) (kept lost after : List Call) (q : Progress) → after ≡ kept ++ lost → Run settings trace client p (before ++ c ∷ kept) q
    → Comes settings trace client p before c after q
comes settings trace client p [] c kept lost after q split run =
    record { at = p; run = refl; next = run.0; step = run.1; kept = kept; rest = run.2; lost = lost; split = split }
comes settings trace client p (b ∷ before) c kept lost after q split run =
    let later = comes settings trace client run.0 before c kept lost after q split run.2 in
    record {
      at = later.at;
      run = (run.0, run.1, later.run);
      next = later.next;
      step = later.step;
      kept = later.kept;
      rest = later.rest;
      lost = later.lost;
      split = later.split;
    }

pub comes_to : (settings : Settings) (trace : Trace) (client : ℕ) (commands : List Command) (calls before : List Call) (c : Call) (after : List Call) (end : Progress) → calls ≡ before ++ c ∷ after
    → IsTranscript settings trace client commands calls end → Comes settings trace client fresh before c after end ⊎ (c.reply ≡ no_memory)
comes_to settings trace client commands calls before c after end split (whole is run) =
    inl (comes settings trace client fresh before c after [] after end (sym (append-nil after)) (subst (λ cs. Run settings trace client fresh cs end) split run))
comes_to settings trace client commands calls before c after end split (cut_off front last rest cut is run lacks) =
    elim (last_or_before front before after (record { command = last; reply = no_memory }) c (sym cut ∙ split)) [
      | inl here ↦ inr (ap (λ (x : Call). x.reply) here)
      | inr more ↦ inl (comes settings trace client fresh before c more.0 _ after end more.2 (subst (λ cs. Run settings trace client fresh cs end) more.1 run))
    ]
