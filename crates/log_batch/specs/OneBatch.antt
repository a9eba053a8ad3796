-- Bytes are those of one batch at most, so a batch's bytes determine its additions.
use Rattle.std.specs.Prelude.{◌≡◌, ◌++◌, ℕ, List}
use Rattle.std.specs.Coded.{le_prop, Coded-set, coded_ℕ, coded_list}
use Rattle.std.proofs.Common.{sym, ◌∙◌}
use mathlib.Core.HLevel.{is_prop→PathP}
use Rattle.std.specs.List.{AllByRecursion, AllByRecursion-prop}
use Rattle.std.proofs.lemmas.List.{append_cancel_left}
use Rattle.base_bytes.proofs.Records.{one_read}
use Rattle.model_base.specs.Batch.{count_of, header, body, IsReadable}
use Rattle.log_batch.specs.Contents.{IsBatch}
use Rattle.log_batch.specs.OneBody.{IsReadable-prop}

pub same_records : (bytes : List ℕ) (sequence count : ℕ) (x y : IsBatch bytes sequence count) → x.records ≡ y.records
same_records bytes sequence count x y =
    one_read x.records y.records x.readable y.readable
    (append_cancel_left (header sequence count) (body x.records) (body y.records) (sym x.bytes_are ∙ y.bytes_are))

pub IsBatch-prop : (bytes : List ℕ) (sequence count : ℕ) → IsProp (IsBatch bytes sequence count)
IsBatch-prop bytes sequence count x y = λ i. record {
  records = same_records bytes sequence count x y i;
  count_is = is_prop→PathP (λ j. count ≡ count_of (same_records bytes sequence count x y j))
      (λ j. Coded-set coded_ℕ count (count_of (same_records bytes sequence count x y j))) x.count_is y.count_is i;
  readable = is_prop→PathP (λ j. AllByRecursion IsReadable (same_records bytes sequence count x y j))
      (λ j. AllByRecursion-prop IsReadable IsReadable-prop (same_records bytes sequence count x y j))
      x.readable y.readable i;
  bytes_are = is_prop→PathP (λ j. bytes ≡ header sequence count ++ body (same_records bytes sequence count x y j))
      (λ j. Coded-set (coded_list coded_ℕ) bytes (header sequence count
      ++ body (same_records bytes sequence count x y j))) x.bytes_are y.bytes_are i;
  fits = le_prop x.fits y.fits i;
}
