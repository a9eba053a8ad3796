-- Bytes are those of at most one batch, so that they determine it.
use Rattle.std.specs.Prelude.{◌≡◌, ℕ, List, take, drop}
use Rattle.std.specs.Int.{w64, from_le_bytes}
use Rattle.std.specs.List.{AllByRecursion-prop}
use Rattle.std.specs.Coded.{le_prop, Coded-set, coded_ℕ, coded_list}
use Rattle.std.proofs.Common.{sym, ap, ◌∙◌}
use Rattle.std.proofs.lemmas.Nat.{from_le_bytes-to_le_bytes_8}
use mathlib.Core.HLevel.{is_prop→PathP}
use Rattle.base_bytes.proofs.Records.{one_read}
use Rattle.model_base.specs.Batch.{IsReadable, IsBatch, batch, body}
use Rattle.log_batch.specs.Contents.{Contents}
use Rattle.log_batch.specs.OneBody.{IsReadable-prop}

abbrev pub batch_bytes : Contents → List ℕ
batch_bytes contents = batch contents.sequence contents.records

abbrev pub IsBatchOf : List ℕ → Contents → Type 0
IsBatchOf bytes contents = IsBatch bytes contents.sequence contents.records

-- The bytes are those of a batch. No other batch has these bytes.
pub record IsOneBatch (bytes : List ℕ) : Type 0 where
  pub contents : Contents
  pub is : IsBatchOf bytes contents

pub sequence_read : (bytes : List ℕ) (b : Contents) → IsBatchOf bytes b
    → from_le_bytes w64 (take 8 bytes) ≡ b.sequence
sequence_read bytes b is =
    ap (λ (l : List ℕ). from_le_bytes w64 (take 8 l)) is.spelled
    ∙ from_le_bytes-to_le_bytes_8 b.sequence is.sequence_fits

records_behind : (bytes : List ℕ) (b : Contents) → IsBatchOf bytes b → drop 12 bytes ≡ body b.records
records_behind bytes b is = ap (drop 12) is.spelled

pub one_batch : (bytes : List ℕ) (a b : Contents) → IsBatchOf bytes a → IsBatchOf bytes b → a ≡ b
one_batch bytes a b x y =
    let sequences : a.sequence ≡ b.sequence = sym (sequence_read bytes a x) ∙ sequence_read bytes b y in
    let records : a.records ≡ b.records =
    one_read a.records b.records x.readable y.readable (sym (records_behind bytes a x) ∙ records_behind bytes b y) in
    λ i. record { sequence = sequences i; records = records i }

pub IsBatchOf-prop : (bytes : List ℕ) (b : Contents) → IsProp (IsBatchOf bytes b)
IsBatchOf-prop bytes b x y = λ i. record {
  spelled = Coded-set (coded_list coded_ℕ) bytes (batch_bytes b) x.spelled y.spelled i;
  readable = AllByRecursion-prop IsReadable IsReadable-prop b.records x.readable y.readable i;
  sequence_fits = le_prop x.sequence_fits y.sequence_fits i;
  count_fits = le_prop x.count_fits y.count_fits i;
}

same_contents : (bytes : List ℕ) (x y : IsOneBatch bytes) → x.contents ≡ y.contents
same_contents bytes x y = one_batch bytes x.contents y.contents x.is y.is

pub IsOneBatch-prop : (bytes : List ℕ) → IsProp (IsOneBatch bytes)
IsOneBatch-prop bytes x y = λ i. record {
  contents = same_contents bytes x y i;
  is = is_prop→PathP (λ j. IsBatchOf bytes (same_contents bytes x y j))
      (λ j. IsBatchOf-prop bytes (same_contents bytes x y j)) x.is y.is i;
}
