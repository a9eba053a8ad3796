-- What grouping takes from the front of a queue is a whole group by itself: the rest of the queue isn't needed to see
-- that.
use Rattle.std.proofs.Common.{◌≡◌, ℕ, zero, suc, ◌+◌, ◌-◌, ◌<◌, ◌≤◌, Bool, true, false, List, [], ◌∷◌, length, take, take_while, slice_get, refl, ap, ◌∙◌, arith}
use Rattle.std.specs.List.{range_with_len}
use Rattle.std.proofs.lemmas.List.Sums.{take_while-cons}
use Rattle.model_base.specs.declared.group.Item.{Item}
use Rattle.model_base.specs.Grouping.{fits_at, group_len}

take_prefix : {A : Type 0} (n i : ℕ) (xs : List A) → i ≤ n → take i (take n xs) ≡ take i xs
take_prefix n zero xs h = refl
take_prefix zero (suc i) xs h = absurd (omega arith)
take_prefix (suc n) (suc i) [] h = refl
take_prefix (suc n) (suc i) (x ∷ xs) h = ap (λ ys. x ∷ ys) (take_prefix n i xs (omega arith))

get_prefix : {A : Type 0} (n i : ℕ) (xs : List A) → i < n → slice_get (take n xs) i ≡ slice_get xs i
get_prefix zero i xs h = absurd (omega arith)
get_prefix (suc n) i [] h = refl
get_prefix (suc n) zero (x ∷ xs) h = refl
get_prefix (suc n) (suc i) (x ∷ xs) h = get_prefix n i xs (omega arith)

length_prefix : {A : Type 0} (n : ℕ) (xs : List A) → n ≤ length xs → length (take n xs) ≡ n
length_prefix zero xs h = refl
length_prefix (suc n) [] h = absurd (omega arith)
length_prefix (suc n) (x ∷ xs) h = let e = length_prefix n xs (omega arith) in omega arith

-- how many of the k places from s on pass a test, up to the first that doesn't
abbrev run : (ℕ → Bool) → ℕ → ℕ → ℕ
run p s k = length (take_while p (range_with_len s k))

run_true : (p : ℕ → Bool) (s k : ℕ) → p s ≡ true → run p s (suc k) ≡ run p (s + 1) k + 1
run_true p s k e = let cons = take_while-cons p s (range_with_len (s + 1) k) in rw (cons, e) (omega arith)

run_false : (p : ℕ → Bool) (s k : ℕ) → p s ≡ false → run p s (suc k) ≡ 0
run_false p s k e = let cons = take_while-cons p s (range_with_len (s + 1) k) in rw (cons, e) refl

run_within : (p : ℕ → Bool) (s k : ℕ) → run p s k ≤ k
run_within p s zero = omega arith
run_within p s (suc k) = by_test (p s) refl (run_within p (s + 1) k)
  where
    by_test : (b : Bool) → p s ≡ b → run p (s + 1) k ≤ k → run p s (suc k) ≤ suc k
    by_test true e h = let r = run_true p s k e in omega arith
    by_test false e h = let r = run_false p s k e in omega arith

-- a second test that agrees with the first one as far as that passes, passes as far
same_run : (p q : ℕ → Bool) (s k : ℕ) → ((i : ℕ) → s ≤ i → i < s + run p s k → q i ≡ p i) → run q s (run p s k) ≡ run p s k
same_run p q s zero h = refl
same_run p q s (suc k) h = by_test (p s) refl (λ e. same_run p q (s + 1) k (λ i low high. h i (omega arith) (let r = run_true p s k e in omega arith)))
  where
    by_test : (b : Bool) → p s ≡ b → (p s ≡ true → run q (s + 1) (run p (s + 1) k) ≡ run p (s + 1) k) → run q s (run p s (suc k)) ≡ run p s (suc k)
    by_test true e later =
        let r : run p s (suc k) ≡ suc (run p (s + 1) k) = (let more = run_true p s k e in omega arith) in
        let here : q s ≡ true = h s (omega arith) (omega arith) ∙ e in
        let more = run_true q s (run p (s + 1) k) here in
        let rest = later e in
        rw r (omega arith)
    by_test false e later = let r = run_false p s k e in rw r refl

fits_in_prefix : (max n i : ℕ) (queue : List Item) → i < n → fits_at max (take n queue) i ≡ fits_at max queue i
fits_in_prefix max zero i queue h = absurd (omega arith)
fits_in_prefix max (suc n) i [] h = refl
fits_in_prefix max (suc n) i (leader ∷ items) h =
    let taken : take (i + 1) (leader ∷ take n items) ≡ take (i + 1) (leader ∷ items) = take_prefix (suc n) (i + 1) (leader ∷ items) (omega arith) in
    let got : slice_get (leader ∷ take n items) i ≡ slice_get (leader ∷ items) i = get_prefix (suc n) i (leader ∷ items) h in
    rw (taken, got) refl

pub whole_of_queue : (max : ℕ) (queue : List Item) → 0 < length queue → group_len max (take (group_len max queue) queue) ≡ length (take (group_len max queue) queue)
whole_of_queue max queue some =
    let r = run (fits_at max queue) 1 (length queue - 1) in
    let within : r ≤ length queue - 1 = run_within (fits_at max queue) 1 (length queue - 1) in
    let long : length (take (1 + r) queue) ≡ 1 + r = length_prefix (1 + r) queue (omega arith) in
    let same : run (fits_at max (take (1 + r) queue)) 1 r ≡ r = same_run (fits_at max queue) (fits_at max (take (1 + r) queue)) 1 (length queue - 1) (λ i low high. fits_in_prefix max (1 + r) i queue (omega arith)) in
    let less : length (take (1 + r) queue) - 1 ≡ r = omega (arith, long) in
    rw (less, same, long) refl
