-- Bytes are those of one list of readable records at most, so they determine their records.
use Rattle.std.specs.Prelude.{◌≡◌, ℕ, ◌<◌, ◌^◌, List, Option, Some, None, IfSome}
use Rattle.std.proofs.Common.{sym, ◌∙◌}
use Rattle.std.specs.List.{AllByRecursion, AllByRecursion-prop}
use Rattle.std.specs.Coded.{le_prop, Coded-set, coded_ℕ, coded_bool, coded_list}
use mathlib.Core.HLevel.{is_prop→PathP}
use Rattle.base_bytes.proofs.Records.{one_read}
use Rattle.model_base.specs.Batch.{Record, IsReadable, body, named_by, strings_of}
use Rattle.log_batch.specs.Body.{IsBody}

small-prop : (named : Option ℕ) → IsProp (IfSome named (λ family. family < 2 ^ 32))
small-prop None x y = λ i. tt
small-prop (Some family) x y = le_prop x y

pub IsReadable-prop : (r : Record) → IsProp (IsReadable r)
IsReadable-prop r x y = λ i. record {
  tag = Coded-set coded_bool _ _ x.tag y.tag i;
  family = small-prop (named_by r) x.family y.family i;
  lengths = AllByRecursion-prop _ (λ s. le_prop) (strings_of r) x.lengths y.lengths i;
}

pub same_records : (bytes : List ℕ) (x y : IsBody bytes) → x.records ≡ y.records
same_records bytes x y = one_read x.records y.records x.readable y.readable (sym x.spelled ∙ y.spelled)

pub IsBody-prop : (bytes : List ℕ) → IsProp (IsBody bytes)
IsBody-prop bytes x y = λ i. record {
  records = same_records bytes x y i;
  readable = is_prop→PathP (λ j. AllByRecursion IsReadable (same_records bytes x y j))
      (λ j. AllByRecursion-prop IsReadable IsReadable-prop (same_records bytes x y j)) x.readable y.readable i;
  spelled = is_prop→PathP (λ j. bytes ≡ body (same_records bytes x y j))
      (λ j. Coded-set (coded_list coded_ℕ) bytes (body (same_records bytes x y j))) x.spelled y.spelled i;
}
