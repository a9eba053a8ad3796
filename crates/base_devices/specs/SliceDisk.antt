-- What bytes in memory show as a file to read.
use Rattle.std.proofs.Common.{◌≡◌, ℕ, ◌≤◌, List, Option, Some, ◌∙◌, ap, arith}
use Rattle.base_devices.specs.declared.slice_disk.SliceDisk.{SliceDisk}

abbrev pub slice_bytes : SliceDisk → List ℕ
slice_bytes d = d.bytes.now

-- reading changes nothing of them, and never fails
pub slice_reads_on : (a b c : SliceDisk) → b ≡ a → c ≡ b → c ≡ a
slice_reads_on a b c first second = second ∙ first

pub slice_reads_keep : (a b : SliceDisk) → b ≡ a → ◌≡◌ {A = Option (List ℕ)} (Some (slice_bytes b)) (Some (slice_bytes a))
slice_reads_keep a b same = ap (λ (d : SliceDisk). Some (slice_bytes d)) same

pub slice_counts_none : (a b : SliceDisk) → b ≡ a → 0 ≤ 0
slice_counts_none a b same = omega (arith)
