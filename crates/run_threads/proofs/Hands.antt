-- What a client has at hand, and its accepted batches.
use Rattle.std.proofs.Common.{◌≡◌, List, [], ◌++◌, refl, ap, ◌∙◌}
use Rattle.std.proofs.lemmas.List.{append-nil}
use Rattle.log_batch.specs.Contents.{Contents}
use Rattle.run_batches.specs.declared.accepted.AcceptedBatch.{AcceptedBatch}
use Rattle.run_threads.specs.declared.batches.CurrentBatch.{CurrentBatch}
use Rattle.run_threads.specs.declared.batches.CurrentBatch.TheVariants.{Nothing, Pending, Accepted}
use Rattle.run_threads.specs.Answers.{records_in, last_accepted}

-- where no batch is in the making there are no records
pub none_pending : (current : CurrentBatch) → ((batch : Contents) → current ≡ Pending batch → ⊥) → records_in current ≡ []
none_pending Nothing other = refl
none_pending (Pending batch) other = absurd (other batch refl)
none_pending (Accepted kept) other = refl

-- a batch in the making is not accepted yet
pub kept_with_pending : (list : List (AcceptedBatch Contents)) (current : CurrentBatch) (batch : Contents) → current ≡ Pending batch → list ++ last_accepted current ≡ list
kept_with_pending list current batch is = ap (λ (a : CurrentBatch). list ++ last_accepted a) is ∙ append-nil list

pub kept_with_nothing : (list : List (AcceptedBatch Contents)) (current : CurrentBatch) → current ≡ Nothing → list ++ last_accepted current ≡ list
kept_with_nothing list current is = ap (λ (a : CurrentBatch). list ++ last_accepted a) is ∙ append-nil list
