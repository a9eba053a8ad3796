-- The value of digits.
use Rattle.std.proofs.Common.{◌≡◌, ℕ, ◌-◌, ◌+◌, ◌*◌, ◌^◌, ◌<◌, ◌≤◌, ltb, cond, Some, None, List, ◌∷◌, [], length, get_or, drop, fold, sym, ◌∙◌, arith}
use Rattle.std.proofs.lemmas.Bool.{cond-true, cond-false, lt-ltb, le-ltb}
use Rattle.std.proofs.lemmas.List.{at_drop_more, at_drop_all}

-- one more digit, after those so far
abbrev pub more : ℕ → ℕ → ℕ
more n d = 10 * n + (d - 48)

-- a value never gets smaller when more digits follow
fold_more-ge : (n : ℕ) (ds : List ℕ) → n ≤ fold more n ds
fold_more-ge n [] = omega arith
fold_more-ge n (d ∷ ds) = let h = fold_more-ge (more n d) ds in omega arith

-- after the last digit the value is that of all
pub value_of_all : (n value i : ℕ) (ds : List ℕ) → n < 2 ^ 64 → length ds ≤ i → fold more n (drop i ds) ≡ value → Some n ≡ cond (ltb value (2 ^ 64)) (Some value) None
value_of_all n value i ds fits past is =
    let same = sym (at_drop_all (fold more n) ds i past) ∙ is in
    rw (← same) (sym (cond-true _ _ _ (lt-ltb n (2 ^ 64) fits)))

-- a value that doesn't fit with some of the digits doesn't fit with all of them
pub value_too_large : (n value i : ℕ) (ds : List ℕ) → i < length ds → 2 ^ 64 ≤ 10 * n + (get_or ds i 0 - 48) → fold more n (drop i ds) ≡ value → None ≡ cond (ltb value (2 ^ 64)) (Some value) None
value_too_large n value i ds inside large is =
    let next = at_drop_more (fold more n) ds i 0 inside in
    let above = fold_more-ge (more n (get_or ds i 0)) (drop (i + 1) ds) in
    let big : 2 ^ 64 ≤ value = omega arith in
    sym (cond-false _ _ _ (le-ltb value (2 ^ 64) big))
