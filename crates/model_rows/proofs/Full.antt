-- A batch that is accepted at a sequence after which there was no room for an earlier one.
use Rattle.std.proofs.Common.{◌≡◌, ℕ, ◌<◌, ◌≤◌, false, None, List, [], ◌∷◌, ◌++◌, refl, arith, ap, ◌∙◌, subst}
use Rattle.model_base.specs.Varint.{varint_within}
use Rattle.model_base.specs.Batch.{Record}
use Rattle.model_base.specs.Calls.{clear, quiet, refused}
use Rattle.model_base.specs.declared.write.Refusal.TheVariants as no
use Rattle.model_base.specs.Trace.{Trace}
use Rattle.model_base.specs.Attempts.{Attempt, full, fate_at, with_attempt}
use Rattle.model_base.specs.Progress.{Progress, fresh, early_refusal}
use Rattle.model_base.specs.Replies.{AreFullBelow, Commits}
use Rattle.model_base.specs.Runs.{Run}
use Rattle.model_base.specs.Outcomes.{IsLegal}
use Rattle.model_base.proofs.Fates.{fate_with}
use Rattle.model_rows.specs.Examples.{put_a1, put_b2, plain}
use Rattle.model_rows.specs.Runs.{nearly_full, adds, commits, finds_full, filling_script, filling_calls, lower_than_full}
use Rattle.model_rows.proofs.Steps.{run_of, is_accepted, is_attempted}

-- a batch of two records passes the checks
passes : early_refusal 1 16777216 false (put_a1 ∷ put_b2 ∷ []) plain ≡ None
unfolding varint_within
passes = refl

-- a commit that was refused for want of sequences is then the client's last attempt
told_full : (trace : Trace) (p q : Progress) (last : ℕ) → p.pending ≡ put_a1 ∷ put_b2 ∷ [] → p.asked ≡ [] → Commits nearly_full trace 1 p plain (refused (no.SequenceFull last)) q → (place : ℕ) × (decided : ℕ) × (q.attempts ≡ with_attempt p.attempts p.pending plain (fate_at place decided (full last)))
told_full trace p q last pending asked s =
    let refusal = is_attempted nearly_full trace 1 p plain (refused (no.SequenceFull last)) q (rw (pending, asked) passes) s in
    let fate = fate_with refusal.0 (full last) refusal.1.0 in
    (fate.0, fate.1, ap (λ (x : Progress). x.attempts) refusal.2 ∙ ap (with_attempt p.attempts p.pending plain) fate.2)

-- and a later run is above that sequence
above_full : (attempts : List Attempt) (records : List Record) (place decided last first : ℕ) → AreFullBelow first (with_attempt attempts records plain (fate_at place decided (full last))) → last < first
above_full [] records place decided last first s = s.0
above_full (h ∷ attempts) records place decided last first s = above_full attempts records place decided last first s.1

-- so no commit at or below it is accepted
no_run : (trace : Trace) (last first : ℕ) (end : Progress) → first ≤ last
    → Run nearly_full trace 1 fresh (adds put_a1 ∷ adds put_b2 ∷ finds_full last ∷ record { command = clear; reply = quiet } ∷ adds put_a1 ∷ commits first put_a1 ∷ []) end → ⊥
no_run trace last first end low run =
    let one = run.1.replies in let both = run.2.1.replies in let two = run.2.0 in let begun = run.2.2.2.2.0 in
    let pending : two.pending ≡ put_a1 ∷ put_b2 ∷ [] = ap (λ (x : Progress). x.pending) both ∙ ap (λ (x : Progress). x.pending ++ put_b2 ∷ []) one in
    let asked : two.asked ≡ [] = ap (λ (x : Progress). x.asked) both ∙ ap (λ (x : Progress). x.asked) one in
    let told = told_full trace two run.2.2.0 last pending asked run.2.2.1.replies in
    let kept : begun.attempts ≡ run.2.2.0.attempts = ap (λ (x : Progress). x.attempts) run.2.2.2.2.1.replies ∙ ap (λ (x : Progress). x.attempts) run.2.2.2.1.replies in
    let accepted_at = is_accepted nearly_full trace 1 begun plain first first (put_a1 ∷ []) run.2.2.2.2.2.0 run.2.2.2.2.2.1.replies in
    let behind = subst (AreFullBelow first) told.2 (subst (AreFullBelow first) kept accepted_at.behind) in
    absurd (omega (arith, low, above_full two.attempts two.pending told.0 told.1 last first behind))

pub not_lower : (ended : ℕ) → IsLegal nearly_full ended filling_script lower_than_full → ⊥
not_lower ended legal =
    let one = legal.legal.each 0 _ _ refl refl in
    no_run legal.trace _ _ one.2.end (omega arith) (run_of nearly_full legal.trace 1 _ filling_calls one.2.end (λ e. cc) one.2.is_transcript)
