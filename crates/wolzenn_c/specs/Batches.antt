-- What C's calls do to the batch in a handle.
use Rattle.std.specs.Prelude.{◌≡◌, ◌≢◌, ◌⊎◌, ◌≤◌, ◌<◌, ℕ, List, Option, Some, MatchOption}
use Rattle.model_base.specs.declared.limits.TheConstants.{MAX_SIZE}
use Rattle.model_base.specs.Batch.{Record, batch}
use Rattle.log_batch.specs.Contents.{Contents, with_additions, size_with_all}
use Rattle.wolzenn_c.specs.declared.codes.TheConstants.{DONE, NO_MEMORY, CLOSED, TOO_LARGE}
use Rattle.wolzenn_c.specs.declared.object.Object.{Object}
use Rattle.wolzenn_c.specs.declared.object.Object.TheVariants as object
use Rattle.wolzenn_c.specs.Objects.{as_batch}

-- a handle that holds this batch
abbrev pub holding : Contents → Option Object
holding contents = Some (object.Batch contents)

-- the bytes of a batch
abbrev pub bytes_of : Contents → List ℕ
bytes_of contents = batch contents.sequence contents.records

-- The answer of adding records to a batch, and what the handle holds then. Too many bytes are always refused;
-- otherwise only memory can be missing.
pub record AddsTo (old : Contents) (additions : List Record) (code : ℕ) (new : Option Object) : Type 0 where
  pub done : code ≡ DONE → new ≡ holding (with_additions old additions)
  pub refused : code ≢ DONE → new ≡ holding old
  pub too_large : MAX_SIZE < size_with_all old additions → code ≡ TOO_LARGE
  pub fits : size_with_all old additions ≤ MAX_SIZE → (code ≡ DONE) ⊎ (code ≡ NO_MEMORY)

-- The answer where a handle holds no batch: the handle holds what it held.
pub record IsClosed (old : Option Object) (code : ℕ) (new : Option Object) : Type 0 where
  pub closed : code ≡ CLOSED
  pub same : new ≡ old

-- adding records to the batch in a handle
abbrev pub Adds : Option Object → List Record → ℕ → Option Object → Type 0
Adds old additions code new = MatchOption (as_batch old) (IsClosed old code new)
    (λ contents. AddsTo contents additions code new)

-- changing the batch in a handle to another one
abbrev pub Changes : (Contents → Contents) → Option Object → ℕ → Option Object → Type 0
Changes change old code new = MatchOption (as_batch old) (IsClosed old code new)
    (λ contents. (code ≡ DONE) × (new ≡ holding (change contents)))
