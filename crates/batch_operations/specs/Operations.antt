-- The operations of a write batch, of every kind that RocksDB writes and whose layout is public: the head comment of
-- its db/write_batch.cc, `ReadRecordFromWriteBatch` there, and `ValueType` of db/dbformat.h. An operation is a tag, the
-- number of a column family as a varint32 if the tag says that one follows, and up to two strings, each after its
-- length. Recovery applies seven of these tags (`model_base/specs/Batch`); here all of them are shown.
use Rattle.std.specs.Prelude.{◌≡◌, ℕ, ◌^◌, ◌<◌, Bool, true, false, List, [], ◌∷◌, ◌++◌, length, count_by, flat_map, slice_index_or, is_some, Option, Some, None, IfSome, MatchOption}
use Rattle.std.specs.List.{AllByRecursion}
use Rattle.std.specs.Option.{option_map_or}
use Rattle.model_base.specs.declared.batch.BatchError.{BatchError}
use Rattle.model_base.specs.declared.batch.BatchError.TheVariants.{Tag}
use Rattle.model_base.specs.Batch.{family_bytes, varstring, RestBreaks}
use Rattle.batch_operations.specs.declared.layout.Layout.{Layout}

-- an operation about a key: one string, or two; in a family that is named, or in the default one
abbrev about_key : Bool → ℕ → Option Layout
about_key in_family strings = Some (record { names_family = in_family; strings = strings; counts = true })

-- a mark, or a note in the log: it takes no sequence
abbrev note : ℕ → Option Layout
note strings = Some (record { names_family = false; strings = strings; counts = false })

-- What follows each tag, from the tag 0 on.
abbrev pub layouts : List (Option Layout)
layouts =
    about_key false 1  -- 00 kTypeDeletion
    ∷ about_key false 2  -- 01 kTypeValue
    ∷ about_key false 2  -- 02 kTypeMerge
    ∷ note 1  -- 03 kTypeLogData
    ∷ about_key true 1  -- 04 kTypeColumnFamilyDeletion
    ∷ about_key true 2  -- 05 kTypeColumnFamilyValue
    ∷ about_key true 2  -- 06 kTypeColumnFamilyMerge
    ∷ about_key false 1  -- 07 kTypeSingleDeletion
    ∷ about_key true 1  -- 08 kTypeColumnFamilySingleDeletion
    ∷ note 0  -- 09 kTypeBeginPrepareXID
    ∷ note 1  -- 0a kTypeEndPrepareXID
    ∷ note 1  -- 0b kTypeCommitXID
    ∷ note 1  -- 0c kTypeRollbackXID
    ∷ note 0  -- 0d kTypeNoop
    ∷ about_key true 2  -- 0e kTypeColumnFamilyRangeDeletion
    ∷ about_key false 2  -- 0f kTypeRangeDeletion
    ∷ about_key true 2  -- 10 kTypeColumnFamilyBlobIndex
    ∷ about_key false 2  -- 11 kTypeBlobIndex
    ∷ note 0  -- 12 kTypeBeginPersistedPrepareXID
    ∷ note 0  -- 13 kTypeBeginUnprepareXID
    ∷ None  -- 14 kTypeDeletionWithTimestamp, never in a log
    ∷ note 2  -- 15 kTypeCommitXIDAndTimestamp
    ∷ about_key false 2  -- 16 kTypeWideColumnEntity
    ∷ about_key true 2  -- 17 kTypeColumnFamilyWideColumnEntity
    ∷ about_key false 2  -- 18 kTypeValuePreferredSeqno
    ∷ about_key true 2  -- 19 kTypeColumnFamilyValuePreferredSeqno
    ∷ []

-- what follows this tag, if it is known
abbrev pub layout_of : ℕ → Option Layout
layout_of tag = slice_index_or layouts tag None

-- an operation: its tag, the family that it names, if it names one, and its strings
pub record Operation : Type 0 where
  pub tag : ℕ
  pub family : Option ℕ
  pub strings : List (List ℕ)

abbrev pub operation_bytes : Operation → List ℕ
operation_bytes o = o.tag ∷ (family_bytes o.family ++ flat_map varstring o.strings)

abbrev pub body : List Operation → List ℕ
body operations = flat_map operation_bytes operations

-- what follows the tag is what its layout says, and the numbers fit in a varint32
pub record IsOperation (o : Operation) : Type 0 where
  pub layout : Layout
  pub known : layout_of o.tag ≡ Some layout
  pub named : is_some o.family ≡ layout.names_family
  pub family : IfSome o.family (λ family. family < 2 ^ 32)
  pub as_many : length o.strings ≡ layout.strings
  pub short : AllByRecursion (λ s. length s < 2 ^ 32) o.strings

-- whether an operation takes a sequence
abbrev pub is_counted : Operation → Bool
is_counted o = option_map_or (λ layout. layout.counts) (layout_of o.tag) false

abbrev pub count_of : List Operation → ℕ
count_of operations = count_by is_counted operations

-- these bytes don't begin with an operation, and why: the tag isn't known, or what should follow it isn't there
abbrev pub NoOperation : List ℕ → BatchError → Type 0
NoOperation [] error = ⊥
NoOperation (tag ∷ bytes) error = MatchOption (layout_of tag) (error ≡ Tag tag)
    (λ layout. RestBreaks layout.names_family layout.strings bytes error)
