-- A batch's bytes after the header are those of its records, and these are readable.
use Rattle.std.proofs.Common.{◌≡◌, ℕ, List, drop, sym, ap, ◌∙◌}
use Rattle.std.specs.List.{AllByRecursion}
use Rattle.base_bytes.proofs.Records.{one_read}
use Rattle.model_base.specs.Batch.{Record, body, IsReadable}
use Rattle.log_batch.specs.Body.{IsBody}
use Rattle.log_batch.specs.Contents.{IsBatch}

pub own_readable : (bytes : List ℕ) (s n : ℕ) (h : IsBatch bytes s n) → AllByRecursion IsReadable h.records
own_readable bytes s n h = h.readable

pub own_spelled : (bytes : List ℕ) (s n : ℕ) (h : IsBatch bytes s n) → drop 12 bytes ≡ body h.records
own_spelled bytes s n h = ap (drop 12) h.bytes_are

pub own_body : (bytes : List ℕ) (s n : ℕ) → IsBatch bytes s n → IsBody (drop 12 bytes)
own_body bytes s n h = record { records = h.records; readable = own_readable bytes s n h; spelled = own_spelled bytes s n h }

pub own_records : (bytes : List ℕ) (s n : ℕ) (h : IsBatch bytes s n) (records : List Record) → AllByRecursion IsReadable records → drop 12 bytes ≡ body records → records ≡ h.records
own_records bytes s n h records readable spelled = one_read records h.records readable (own_readable bytes s n h) (sym spelled ∙ own_spelled bytes s n h)
