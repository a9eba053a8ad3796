-- Bytes that are written one after the other into others.
use Rattle.std.proofs.Common.{◌≡◌, ℕ, ◌+◌, ◌-◌, List, ◌++◌, length, take, ap, ◌∙◌, arith, length-append}
use Rattle.std.proofs.Math.Seq.{take-append_seam}
use Rattle.std.proofs.lemmas.Slice.{take-put_mid}
use borrow.Rule.Slice.PartMut.{put_mid}

-- The first of them are where others were, and the second ones right after them.
pub both_written : (key value first second rest : List ℕ) → first ≡ key → second ≡ value
    → take (length key + length value) (put_mid (length key) (length key + length value - length key) (first ++ rest) second) ≡ key ++ value
both_written key value first second rest one two =
    let n = length key + length value in
    take-put_mid (length key) (n - length key) (first ++ rest) second n (omega (arith, ap length two)) (omega (arith, ap length one, length-append first rest))
    ∙ (λ i. take (length key) (one i ++ rest) ++ two i) ∙ ap (λ (l : List ℕ). l ++ value) (take-append_seam key rest)
