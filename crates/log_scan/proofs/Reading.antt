-- Reading the bytes from a place on, piece by piece: as `log_reader/proofs/FromDisk` has it for a block, for a buffer of
-- any length.
use Rattle.std.proofs.Common.{◌≡◌, ℕ, ◌+◌, ◌-◌, ◌<◌, ◌≤◌, min, List, length, take, drop, arith, length-drop}
use Rattle.log_scan.specs.Fronts.{IsFront}

-- where the whole buffer was read
pub front_whole : (file buffer : List ℕ) (at len : ℕ) → len ≡ length buffer → len ≤ length (drop at file) → take len buffer ≡ take len (drop at file) → IsFront file at buffer len
front_whole file buffer at len full within read = (omega (arith, full, within, length-drop at file), read)

-- where the file ends before
pub front_to_end : (file buffer : List ℕ) (at len more room : ℕ) → room ≡ length buffer - len → len < length buffer → more ≡ 0 → more ≡ min room (length file - (at + len))
    → len ≤ length (drop at file) → take len buffer ≡ take len (drop at file) → IsFront file at buffer len
front_to_end file buffer at len more room room_is less none more_is within read = (omega (arith, room_is, less, none, more_is, within, length-drop at file), read)
