-- Accepted batches that no call of the log writer had written by then.
use Rattle.std.proofs.Common.{◌≡◌, ℕ, Some, List, [], ◌∷◌, slice_get, refl, arith, subst}
use Rattle.std.proofs.lemmas.Option.{slice_get_within}
use Rattle.model_base.specs.Trace.{Trace}
use Rattle.model_base.specs.Attempts.{Attempt}
use Rattle.model_base.specs.Progress.{Progress, fresh}
use Rattle.model_base.specs.Runs.{Run}
use Rattle.model_base.specs.Outcomes.{IsLegalIn}
use Rattle.model_rows.specs.Examples.{put_a1, put_b2, plain}
use Rattle.model_rows.specs.Runs.{one_client, one_script, one_calls, one_commit}
use Rattle.model_rows.specs.Ignored.{two_script, two_calls, two_commits, written_at_once}
use Rattle.model_rows.proofs.Steps.{run_of, is_accepted}

no_call : (trace : Trace) (end : Progress) → trace.log_calls ≡ [] → Run one_client trace 1 fresh one_calls end → ⊥
no_call trace end none run =
    let logged = (is_accepted one_client trace 1 run.0 plain 1 1 (put_a1 ∷ []) run.2.0 run.2.1.replies).logged refl in
    absurd (cc (subst (λ calls. slice_get calls logged.place ≡ Some logged.call) none logged.there))

pub not_unwritten : (ended : ℕ) (trace : Trace) (attempts : List (List Attempt)) → trace.log_calls ≡ [] → IsLegalIn one_client ended one_script trace attempts one_commit → ⊥
not_unwritten ended trace attempts none l =
    let right = (l.each 0 _ _ refl refl).2 in
    no_call trace right.end none (run_of one_client trace 1 _ one_calls right.end (λ e. cc) right.is_transcript)

-- the second batch's call comes after the one that the client knew of, and there is only one
one_call : (trace : Trace) (end : Progress) → trace.log_calls ≡ written_at_once → Run one_client trace 1 fresh two_calls end → ⊥
one_call trace end is run =
    let first = (is_accepted one_client trace 1 run.0 plain 1 1 (put_a1 ∷ []) run.2.0 run.2.1.replies).logged refl in
    let begun = run.2.2.0 in
    let second = (is_accepted one_client trace 1 begun plain 2 2 (put_b2 ∷ []) run.2.2.2.0 run.2.2.2.1.replies).logged refl in
    let within = slice_get_within written_at_once second.place second.call (subst (λ calls. slice_get calls second.place ≡ Some second.call) is second.there) in
    let knew = first.known in let kept = run.2.2.1.logs_rise in let later = second.later in
    absurd (omega (arith, within, knew, kept, later))

pub not_at_once : (ended : ℕ) (trace : Trace) (attempts : List (List Attempt)) → trace.log_calls ≡ written_at_once → IsLegalIn one_client ended two_script trace attempts two_commits → ⊥
not_at_once ended trace attempts is l =
    let right = (l.each 0 _ _ refl refl).2 in
    one_call trace right.end is (run_of one_client trace 1 _ two_calls right.end (λ e. cc) right.is_transcript)
