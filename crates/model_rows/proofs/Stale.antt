-- Reads of older maps than the client was shown, and runs below what it was shown.
use Rattle.std.proofs.Common.{◌≡◌, ℕ, ◌≤◌, Option, None, List, [], ◌∷◌, refl, arith, ap}
use Rattle.model_base.specs.Trace.{Trace, Settings}
use Rattle.model_base.specs.declared.key.Key.{Key}
use Rattle.model_base.specs.Calls.{found}
use Rattle.model_base.specs.Progress.{Progress, fresh, first_missing}
use Rattle.model_base.specs.Replies.{Gets}
use Rattle.model_base.specs.Runs.{Run}
use Rattle.model_base.specs.Outcomes.{IsLegal}
use Rattle.model_rows.specs.Examples.{put_a1, put_a2, plain}
use Rattle.model_rows.specs.Runs.{one_client, two_clients, adds, commits, reads, stale_script, stale_calls, stale_read, early_script, early_calls, read_ahead, crossing_script, crossing_calls, run_below_what_was_read}
use Rattle.model_rows.proofs.Steps.{run_of, is_accepted, is_answered}

-- in no trace do these calls run, whatever the client knew of the controller
no_run : (trace : Trace) (end : Progress) → Run one_client trace 1 fresh stale_calls end → ⊥
no_run trace end run =
    let before = run.2.2.0 in
    let after = run.2.2.2.0 in
    let shown : after.seen_up_to ≡ _ = ap (λ (x : Progress). x.seen_up_to) (is_accepted one_client trace 1 before plain 2 2 (put_a2 ∷ []) after run.2.2.2.1.replies).after in
    let below : after.seen_up_to ≤ 1 = run.2.2.2.2.1.replies.not_below in
    absurd (omega arith)

-- no trace has the outcome
pub not_legal : (ended : ℕ) → IsLegal one_client ended stale_script stale_read → ⊥
not_legal ended legal =
    let one = legal.legal.each 0 _ _ refl refl in
    no_run legal.trace one.2.end (run_of one_client legal.trace 1 _ stale_calls one.2.end (λ e. cc) one.2.is_transcript)

-- after a read at 1 or above no run begins at 1
no_run_behind : (settings : Settings) (trace : Trace) (key : Key) (at : ℕ) (v : Option (List ℕ)) (end : Progress) → first_missing settings.families (key.family ∷ []) ≡ None → 1 ≤ at → Run settings trace 1 fresh (reads key at v ∷ adds put_a1 ∷ commits 1 put_a1 ∷ []) end → ⊥
no_run_behind settings trace key at v end there some run =
    let answered = is_answered settings (key.family ∷ []) fresh (found at v) run.0 (Gets trace fresh key (found at v) run.0) there run.1.replies in
    let read : run.0.seen_up_to ≡ at = ap (λ (x : Progress). x.seen_up_to) answered.after in
    let added : run.2.0.seen_up_to ≡ run.0.seen_up_to = ap (λ (x : Progress). x.seen_up_to) run.2.1.replies in
    let above = (is_accepted settings trace 1 run.2.0 plain 1 1 (put_a1 ∷ []) run.2.2.0 run.2.2.1.replies).above in
    absurd (omega (arith, some, read, added, above))

pub not_ahead : (ended : ℕ) → IsLegal one_client ended early_script read_ahead → ⊥
not_ahead ended legal =
    let one = legal.legal.each 0 _ _ refl refl in
    no_run_behind one_client legal.trace _ _ _ one.2.end refl (omega arith) (run_of one_client legal.trace 1 _ early_calls one.2.end (λ e. cc) one.2.is_transcript)

pub not_below_what_was_read : (ended : ℕ) → IsLegal two_clients ended crossing_script run_below_what_was_read → ⊥
not_below_what_was_read ended legal =
    let one = legal.legal.each 0 _ _ refl refl in
    no_run_behind two_clients legal.trace _ _ _ one.2.end refl (omega arith) (run_of two_clients legal.trace 1 _ crossing_calls one.2.end (λ e. cc) one.2.is_transcript)
