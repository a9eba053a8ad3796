-- What C learns of a batch's bytes.
use Rattle.std.specs.Prelude.{◌≡◌, ◌≤◌, ℕ, ◌+◌, List, ◌++◌, length, drop, slice_range, Option, Some, None, MatchOption}
use Rattle.model_base.specs.Varint.{varint}
use Rattle.model_base.specs.declared.batch.BatchError.{BatchError}
use Rattle.model_base.specs.declared.batch.BatchError.TheVariants as error
use Rattle.model_base.specs.declared.log.EndReason.{EndReason}
use Rattle.model_base.specs.declared.log.EndReason.TheVariants as ends
use Rattle.model_base.specs.Batch.{Record, value, deletion, single_deletion, log_data, tag_of, named_by, family_bytes, record_bytes, IsReadable}
use Rattle.model_base.specs.Map.{family_of}
use Rattle.wolzenn_c.specs.declared.batch_bytes.WzOp.{WzOp}

-- the reason for which bytes are no batch, as a reason for which a log ends
abbrev pub reason_of : BatchError → EndReason
reason_of error.Short = ends.Short
reason_of error.BadVarint = ends.BadVarint
reason_of (error.Tag tag) = ends.Tag tag
reason_of (error.Count said found) = ends.Count said found

-- The string is in the bytes at this place, and has this length. It comes right after the varint of its length, which
-- begins at `start`.
pub record IsAt (bytes : List ℕ) (start place len : ℕ) (string : List ℕ) : Type 0 where
  pub len_is : len ≡ length string
  pub after_length : place ≡ start + length (varint (length string))
  pub there : slice_range bytes place (place + len) ≡ string

-- A record's key. For log data it is the whole data.
abbrev pub key_of : Record → List ℕ
key_of (value family key v) = key
key_of (deletion family key) = key
key_of (single_deletion family key) = key
key_of (log_data blob) = blob

-- a record's value, if it has one
abbrev pub value_of : Record → Option (List ℕ)
value_of (value family key v) = Some v
value_of (deletion family key) = None
value_of (single_deletion family key) = None
value_of (log_data blob) = None

-- where the key's length begins in a record that begins at a place: after the tag, and after the number of the family
-- that the record names, if it names one
abbrev pub strings_from : ℕ → Record → ℕ
strings_from from r = from + 1 + length (family_bytes (named_by r))

-- The operation shows the record that begins at a place of the bytes: its tag, the family that it names, or else the
-- default one, and where its strings are. The value's length comes after the key. Where the record has no value, the
-- value's place and length are 0.
pub record Shows (bytes : List ℕ) (from : ℕ) (op : WzOp) (r : Record) : Type 0 where
  pub kind : op.kind ≡ tag_of r
  pub family : op.family ≡ family_of (named_by r)
  pub key : IsAt bytes (strings_from from r) op.key_at op.key_len (key_of r)
  pub value : MatchOption (value_of r) ((op.value_at ≡ 0) × (op.value_len ≡ 0))
      (IsAt bytes (op.key_at + op.key_len) op.value_at op.value_len)

-- Between the two places of the bytes there is a record, which the operation shows.
pub record IsRecordBetween (bytes : List ℕ) (from to : ℕ) (op : WzOp) : Type 0 where
  pub found : Record
  pub readable : IsReadable found
  pub spelled : drop from bytes ≡ record_bytes found ++ drop to bytes
  pub within : to ≤ length bytes
  pub shown : Shows bytes from op found
