-- The batches of a single client are the history.
use Rattle.std.proofs.Common.{◌≡◌, ℕ, ◌≤◌, ◌==◌, cond, Some, List, [], ◌∷◌, length, get_or, refl, ap, sym, ◌∙◌, subst, arith}
use Rattle.std.proofs.lemmas.Option.{slice_get-get_or}
use Rattle.std.specs.List.{AllByRecursion}
use Rattle.model_base.specs.History as history
use Rattle.model_base.specs.Outcomes.{entries_of_client}
use Rattle.log_batch.specs.Contents.{Contents}
use Rattle.run_batches.specs.declared.accepted.AcceptedBatch.{AcceptedBatch}
use Rattle.run_threads.specs.Answers.{ShowsAccepted}
use Rattle.run_threads.specs.Histories.{MakeUp}

all_own : (n : ℕ) (entries : List history.Entry) → n ≡ 1 → AllByRecursion (λ (e : history.Entry). (1 ≤ e.client) × (e.client ≤ n)) entries
    → entries_of_client 1 entries ≡ entries
all_own n [] one all = refl
all_own n (e ∷ es) one all =
    let is : e.client ≡ 1 = omega (arith, all.0, one) in
    let rest = entries_of_client 1 es in
    subst (λ (k : ℕ). cond (k == 1) (e ∷ rest) rest ≡ e ∷ es) (sym is) (ap (λ (l : List history.Entry). e ∷ l) (all_own n es one all.1))

pub alone_shows : (start : ℕ) (accepted : List (List (AcceptedBatch Contents))) (batches : List (AcceptedBatch Contents)) (entries : List history.Entry)
    → MakeUp start accepted entries → length accepted ≡ 1 → batches ≡ get_or accepted 0 batches → ShowsAccepted 1 batches entries
alone_shows start accepted batches entries make one first =
    subst (ShowsAccepted 1 batches) (all_own (length accepted) entries one make.clients)
    (make.each 0 batches (slice_get-get_or accepted 0 batches (omega (arith, one)) ∙ ap Some (sym first)))
