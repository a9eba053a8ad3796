-- The one history of all clients, and each client's part of it.
use Rattle.std.specs.Prelude.{◌≡◌, ℕ, ◌+◌, ◌≤◌, List, length, Some, slice_get}
use Rattle.std.specs.List.{AllByRecursion}
use Rattle.model_base.specs.History as history
use Rattle.model_base.specs.Outcomes.{entries_of_client}
use Rattle.log_batch.specs.Contents.{Contents}
use Rattle.run_batches.specs.declared.accepted.AcceptedBatch.{AcceptedBatch}
use Rattle.run_threads.specs.Answers.{ShowsAccepted}

-- The clients' accepted batches, those of the client numbered 1 first, make up the history above the number `start`:
-- each client's batches are exactly its entries there, and there are no other entries.
pub record MakeUp (start : ℕ) (accepted : List (List (AcceptedBatch Contents)))
    (entries : List history.Entry) : Type 0 where
  pub is_history : history.IsHistory start entries
  pub clients : AllByRecursion (λ (e : history.Entry). (1 ≤ e.client) × (e.client ≤ length accepted)) entries
  pub each : (i : ℕ) (batches : List (AcceptedBatch Contents)) → slice_get accepted i ≡ Some batches
      → ShowsAccepted (i + 1) batches (entries_of_client (i + 1) entries)
