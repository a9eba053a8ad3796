-- What C learns of an operation of a batch, of whatever kind.
use Rattle.std.specs.Prelude.{◌≡◌, ◌≤◌, ℕ, ◌+◌, false, List, ◌++◌, length, drop, slice_get, MatchOption, if◌then◌else◌}
use Rattle.std.specs.Option.{option_map_or}
use Rattle.model_base.specs.Batch.{family_bytes}
use Rattle.model_base.specs.Map.{family_of}
use Rattle.batch_operations.specs.Operations.{Operation, IsOperation, layout_of, operation_bytes}
use Rattle.wolzenn_c.specs.BatchBytes.{IsAt}
use Rattle.wolzenn_c.specs.declared.operations.WzOperation.{WzOperation}

-- how many sequences an operation with this tag takes: one or none
abbrev pub sequences_of : ℕ → ℕ
sequences_of tag = if option_map_or (λ layout. layout.counts) (layout_of tag) false then 1 else 0

-- where the length of the first string begins in an operation that begins at a place: after the tag, and after the
-- number of the family, if the operation names one
abbrev pub strings_from : ℕ → Operation → ℕ
strings_from from o = from + 1 + length (family_bytes o.family)

-- the place and the length of a string that isn't there
abbrev pub IsNowhere : ℕ → ℕ → Type 0
IsNowhere place len = (place ≡ 0) × (len ≡ 0)

-- What is told shows the operation that begins at a place of the bytes: its tag, the family that it names, or else the
-- default one, and where its strings are. The second one's length comes after the first one.
pub record ShowsOperation (bytes : List ℕ) (from : ℕ) (op : WzOperation) (o : Operation) : Type 0 where
  pub tag : op.tag ≡ o.tag
  pub family : op.family ≡ family_of o.family
  pub sequences : op.sequences ≡ sequences_of o.tag
  pub as_many : op.strings ≡ length o.strings
  pub first : MatchOption (slice_get o.strings 0) (IsNowhere op.first_at op.first_len)
      (IsAt bytes (strings_from from o) op.first_at op.first_len)
  pub second : MatchOption (slice_get o.strings 1) (IsNowhere op.second_at op.second_len)
      (IsAt bytes (op.first_at + op.first_len) op.second_at op.second_len)

-- Between the two places of the bytes there is an operation, and this is what is told of it.
pub record IsOperationBetween (bytes : List ℕ) (from to : ℕ) (op : WzOperation) : Type 0 where
  pub found : Operation
  pub is : IsOperation found
  pub spelled : drop from bytes ≡ operation_bytes found ++ drop to bytes
  pub within : to ≤ length bytes
  pub shown : ShowsOperation bytes from op found
