-- The records of a log from a sequence on and up to another one.
use Rattle.std.specs.Prelude.{◌≡◌, ℕ, List, [], ◌∷◌, ◌++◌, map}
use Rattle.model_base.specs.Recovery.{Logged, last_after}
use Rattle.model_base.specs.Since.{record_of_batch, since}
use Rattle.log_recovery.specs.declared.picked.Picked.{Picked}
use Rattle.log_recovery.specs.Keeping.{MayBeKept}

-- of these batches, the bytes of those from the sequence s on and up to `upto`
abbrev pub updates_in : ℕ → ℕ → List Logged → List (List ℕ)
updates_in s upto batches = since s upto (map record_of_batch batches)

-- the record of a batch, which would be kept after the others, is picked if it is asked for, and it ends at this offset
pub record Picks (s upto : ℕ) (old new : Picked) (bytes : List ℕ) (end : ℕ) : Type 0 where
  pub kept : MayBeKept old.last bytes
  pub records : new.records.items ≡ old.records.items ++ updates_in s upto (kept.batch ∷ [])
  pub last : new.last ≡ last_after old.last kept.batch
  pub end_is : new.end ≡ end
