-- Bytes that are copied to the front of a buffer.
use Rattle.std.proofs.Common.{◌≡◌, ℕ, ◌+◌, ◌<◌, ◌≤◌, min, List, ◌++◌, length, take, drop, sym, ◌∙◌, ap, arith, length-take, length-drop, length-append, Some, Ok}
use Rattle.std.proofs.Math.Seq.{take-append_seam}
use Rattle.std.proofs.Math.ListN.{drop_of_length-le}
use Rattle.std.proofs.lemmas.List.{take-append-drop, drop-drop}
use Rattle.std.proofs.lemmas.Slice.{drop-append-drop}
use Rattle.base_devices.specs.declared.failed.Failed.{Failed}
use Rattle.base_devices.specs.Streams.{Reads}

pub front_copied : (rest copied buf : List ℕ) (n : ℕ) → copied ≡ take n rest → n ≤ length rest → take n (copied ++ drop n buf) ≡ take n rest
front_copied rest copied buf n e le =
    let len : length copied ≡ n = omega (arith, ap length e, length-take n rest) in
    ap (λ (k : ℕ). take k (copied ++ drop n buf)) (sym len) ∙ take-append_seam copied (drop n buf) ∙ e

-- what the buffer has after them is as it was
pub rest_kept : (rest copied buf : List ℕ) (n : ℕ) → copied ≡ take n rest → n ≤ length rest → drop n (copied ++ drop n buf) ≡ drop n buf
rest_kept rest copied buf n e le = drop-append-drop n buf copied n (omega arith) (omega (arith, ap length e, length-take n rest, le))

-- a read gives as many bytes as are left, as the buffer holds and as a piece has: the least of the three
pub reads_front : (bytes buf copied : List ℕ) (at n m piece : ℕ) → copied ≡ take n (drop at bytes) → m ≡ min (length (drop at bytes)) (length buf) → n ≡ min m piece → 0 < piece
    → Reads {E = Failed} (Some (drop at bytes)) (Some (drop (at + n) bytes)) (Ok n) (copied ++ drop n buf)
reads_front bytes buf copied at n m piece copy most few some =
    let within : n ≤ length (drop at bytes) = omega (arith, most, few) in
    let in_buf : n ≤ length buf = omega (arith, most, few) in
    let len : length copied ≡ n = omega (arith, ap length copy, length-take n (drop at bytes)) in
    let whole : length (copied ++ drop n buf) ≡ length buf = omega (arith, length-append copied (drop n buf), length-drop n buf, len, in_buf) in
    record {
      at_most = omega (arith, whole, in_buf);
      bytes = (
        sym (take-append-drop n (drop at bytes)) ∙ ap (λ (l : List ℕ). l ++ drop n (drop at bytes)) (sym (front_copied (drop at bytes) copied buf n copy within))
            ∙ ap (λ (l : List ℕ). take n (copied ++ drop n buf) ++ l) (drop-drop n at bytes),
        λ none has. drop_of_length-le bytes (omega (arith, whole, most, few, some, none, has, length-drop at bytes)),
      );
    }
