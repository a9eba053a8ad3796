-- The records that the bytes after a header spell.
use Rattle.std.specs.Prelude.{◌≡◌, ℕ, List}
use Rattle.std.specs.List.{AllByRecursion}
use Rattle.model_base.specs.Batch.{Record, IsReadable, body}

-- The bytes are those of readable records. No other readable records have these bytes.
pub record IsBody (bytes : List ℕ) : Type 0 where
  pub records : List Record
  pub readable : AllByRecursion IsReadable records
  pub spelled : bytes ≡ body records
