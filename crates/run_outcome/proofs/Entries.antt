-- The entries of a client's batches: how many there are, the one at a place, and one more of them.
use Rattle.std.specs.Prelude.{Some, slice_get}
use Rattle.std.proofs.Common.{◌≡◌, ℕ, zero, suc, ◌+◌, List, [], ◌∷◌, ◌++◌, length, ap, ◌∙◌, refl, arith}
use Rattle.log_batch.specs.Contents.{Contents}
use Rattle.run_outcome.specs.declared.history_entry.HistoryEntry.{HistoryEntry}
use Rattle.run_batches.specs.declared.accepted.AcceptedBatch.{AcceptedBatch}
use Rattle.run_outcome.specs.Histories.{entry_of, entries_from, entries_of}

pub entries_from-append : (client ordinal : ℕ) (xs ys : List (AcceptedBatch Contents)) → entries_from client ordinal (xs ++ ys) ≡ entries_from client ordinal xs ++ entries_from client (ordinal + length xs) ys
entries_from-append client ordinal [] ys = let same : ordinal ≡ ordinal + 0 = omega arith in ap (λ (n : ℕ). entries_from client n ys) same
entries_from-append client ordinal (x ∷ xs) ys =
    let same : ordinal + 1 + length xs ≡ ordinal + suc (length xs) = omega arith in
    ap (λ (es : List (HistoryEntry Contents)). entry_of client ordinal x ∷ es)
    (entries_from-append client (ordinal + 1) xs ys ∙ ap (λ (n : ℕ). entries_from client (ordinal + 1) xs ++ entries_from client n ys) same)

pub entries_of-append : (client : ℕ) (xs ys : List (AcceptedBatch Contents)) → entries_of client (xs ++ ys) ≡ entries_of client xs ++ entries_from client (length xs + 1) ys
entries_of-append client xs ys =
    let same : 1 + length xs ≡ length xs + 1 = omega arith in
    entries_from-append client 1 xs ys ∙ ap (λ (n : ℕ). entries_of client xs ++ entries_from client n ys) same

-- one more batch
pub entries_of-push : (client : ℕ) (kept : List (AcceptedBatch Contents)) (k : AcceptedBatch Contents) → entries_of client (kept ++ k ∷ []) ≡ entries_of client kept ++ entry_of client (length kept + 1) k ∷ []
entries_of-push client kept k = entries_of-append client kept (k ∷ [])

pub length-entries_from : (client ordinal : ℕ) (kept : List (AcceptedBatch Contents)) → length (entries_from client ordinal kept) ≡ length kept
length-entries_from client ordinal [] = refl
length-entries_from client ordinal (x ∷ xs) = ap suc (length-entries_from client (ordinal + 1) xs)

pub length-entries_of : (client : ℕ) (kept : List (AcceptedBatch Contents)) → length (entries_of client kept) ≡ length kept
length-entries_of client kept = length-entries_from client 1 kept

pub entries_from-at : (client ordinal : ℕ) (kept : List (AcceptedBatch Contents)) (at : ℕ) (k : AcceptedBatch Contents) → slice_get kept at ≡ Some k → slice_get (entries_from client ordinal kept) at ≡ Some (entry_of client (ordinal + at) k)
entries_from-at client ordinal [] at k here = absurd (cc here)
entries_from-at client ordinal (x ∷ xs) zero k here =
    let is : x ≡ k = cc here in
    let same : ordinal ≡ ordinal + 0 = omega arith in
    ap (λ (y : AcceptedBatch Contents). Some (entry_of client ordinal y)) is ∙ ap (λ (n : ℕ). Some (entry_of client n k)) same
entries_from-at client ordinal (x ∷ xs) (suc at) k here =
    let same : ordinal + 1 + at ≡ ordinal + suc at = omega arith in
    entries_from-at client (ordinal + 1) xs at k here ∙ ap (λ (n : ℕ). Some (entry_of client n k)) same

-- the one at a place, from 0 on
pub entries_of-at : (client : ℕ) (kept : List (AcceptedBatch Contents)) (at : ℕ) (k : AcceptedBatch Contents) → slice_get kept at ≡ Some k → slice_get (entries_of client kept) at ≡ Some (entry_of client (at + 1) k)
entries_of-at client kept at k here =
    let same : 1 + at ≡ at + 1 = omega arith in
    entries_from-at client 1 kept at k here ∙ ap (λ (n : ℕ). Some (entry_of client n k)) same
