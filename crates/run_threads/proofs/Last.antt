-- The last accepted batch of a client.
use Rattle.std.proofs.Common.{◌≡◌, [], refl}
use Rattle.log_batch.specs.Contents.{Contents}
use Rattle.run_batches.specs.declared.accepted.AcceptedBatch.{AcceptedBatch}
use Rattle.run_threads.specs.declared.batches.CurrentBatch.{CurrentBatch}
use Rattle.run_threads.specs.declared.batches.CurrentBatch.TheVariants.{Nothing, Pending, Accepted}
use Rattle.run_threads.specs.Answers.{last_accepted}

-- there is none where no accepted batch is at hand
pub none_accepted : (h : CurrentBatch) → ((kept : AcceptedBatch Contents) → h ≡ Accepted kept → ⊥) → last_accepted h ≡ []
none_accepted Nothing other = refl
none_accepted (Pending batch) other = refl
none_accepted (Accepted kept) other = absurd (other kept refl)
