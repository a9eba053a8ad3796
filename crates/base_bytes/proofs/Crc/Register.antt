-- Laws of the register of the long division, a number whose lowest bit is the coefficient of the highest power. A sum
-- is an exclusive or.
use Rattle.std.proofs.Common.{◌≡◌, ℕ, zero, suc, ◌*◌, ◌/◌, ◌%◌, ◌<◌, Bool, true, false, not, List, [], ◌∷◌, map, replicate, fold, refl, sym, ap, ap₂, ◌∙◌, arith, zero-mul}
use Rattle.std.specs.Int.Bits.{bit_xor, xor_self, xor_zero_r}
use Rattle.std.proofs.lemmas.Nat.{xor_comm, xor_shr, xor_mod}
use lib.Bits.{xor_assoc}
use Rattle.model_base.specs.Checksum.{differ}
use Rattle.base_bytes.specs.Register.{low_divisor, lowest, highest, step, shift, take_in}

-- a sum of two sums, with the two inner terms exchanged
xor_swap : (a b c d : ℕ) → bit_xor (bit_xor a b) (bit_xor c d) ≡ bit_xor (bit_xor a c) (bit_xor b d)
xor_swap a b c d =
    cc (xor_assoc a b (bit_xor c d), xor_assoc b c d, xor_comm b c, xor_assoc c b d, xor_assoc a c (bit_xor b d))

-- two numbers whose sum is 0 are equal
same_from_xor : (a b : ℕ) → bit_xor a b ≡ 0 → a ≡ b
same_from_xor a b none = cc (xor_assoc a b b, xor_self b, xor_zero_r a, ap (λ x. bit_xor x b) none)

-- a sum of two digits, times m, is the sum of each times m
digit_times : (a b m : ℕ) → a < 2 → b < 2 → bit_xor a b * m ≡ bit_xor (a * m) (b * m)
digit_times zero b m ha hb = ap (λ x. bit_xor x (b * m)) (sym (zero-mul m))
digit_times (suc zero) zero m ha hb = cc (zero-mul m, xor_zero_r (1 * m))
digit_times (suc zero) (suc zero) m ha hb = cc (zero-mul m, xor_self (1 * m))
digit_times (suc zero) (suc (suc b)) m ha hb = absurd (omega arith)
digit_times (suc (suc a)) b m ha hb = absurd (omega arith)

-- the sum of two bits, at the high place
highest-differ : (b c : Bool) → highest (differ b c) ≡ bit_xor (highest b) (highest c)
highest-differ true true = refl
highest-differ true false = refl
highest-differ false c = refl

-- what a step takes away from a sum is the sum of what it takes away from each term
less-xor : (x y : ℕ) → bit_xor x y % 2 * low_divisor ≡ bit_xor (x % 2 * low_divisor) (y % 2 * low_divisor)
less-xor x y =
    ap (λ d. d * low_divisor) (xor_mod x y 1) ∙ digit_times (x % 2) (y % 2) low_divisor (omega arith) (omega arith)

-- the step of a sum is the sum of the steps
pub step-xor : (x y : ℕ) (b c : Bool) → step (bit_xor x y) (differ b c) ≡ bit_xor (step x b) (step y c)
unfolding step
step-xor x y b c =
    let low = ap₂ bit_xor (xor_shr x y 1) (less-xor x y) ∙ xor_swap (x / 2) (y / 2) (x % 2 * low_divisor) (y % 2 * low_divisor) in
    ap₂ bit_xor low (highest-differ b c)
    ∙ xor_swap (bit_xor (x / 2) (x % 2 * low_divisor)) (bit_xor (y / 2) (y % 2 * low_divisor)) (highest b) (highest c)

-- the shift of a sum is the sum of the shifts
pub shift-xor : (k x y : ℕ) → shift k (bit_xor x y) ≡ bit_xor (shift k x) (shift k y)
unfolding shift
shift-xor zero x y = refl
shift-xor (suc k) x y = ap (shift k) (step-xor x y false false) ∙ shift-xor k (step x false) (step y false)

-- one more step gives the same before the others as after them
pub shift-step : (k n : ℕ) → shift k (step n false) ≡ step (shift k n) false
unfolding shift
shift-step zero n = refl
shift-step (suc k) n = shift-step k (step n false)

-- Dividing the inverted list from y on is dividing the list from x on, if as many ones take the sum of x and y to 0.
pub fold_step-turned : (bits : List Bool) (x y : ℕ)
    → fold step (bit_xor x y) (map (λ _. true) bits) ≡ 0
    → fold step x bits ≡ fold step y (map not bits)
fold_step-turned [] x y none = same_from_xor x y none
fold_step-turned (true ∷ bits) x y none =
    fold_step-turned bits (step x true) (step y false)
    (ap (λ n. fold step n (map (λ _. true) bits)) (sym (step-xor x y true false)) ∙ none)
fold_step-turned (false ∷ bits) x y none =
    fold_step-turned bits (step x false) (step y true)
    (ap (λ n. fold step n (map (λ _. true) bits)) (sym (step-xor x y false true)) ∙ none)

-- taking b in at the low power, followed by 32 zeros, is taking it in at the high power
shift-bit : (b : Bool) → shift 32 (step 0 b) ≡ step (lowest b) false
unfolding shift step
shift-bit true = refl
shift-bit false = refl

-- taking b in at the low power and then shifting by 32 is shifting by 32 first, and then taking b in at the high power
shift-step_bit : (n : ℕ) (b : Bool) → shift 32 (step n b) ≡ take_in (shift 32 n) b
unfolding take_in
shift-step_bit n b =
    let apart : step n b ≡ bit_xor (step n false) (step 0 b) = ap (λ m. step m b) (sym (xor_zero_r n)) ∙ step-xor n 0 false b in
    ap (shift 32) apart ∙ shift-xor 32 (step n false) (step 0 b) ∙ ap₂ bit_xor (shift-step 32 n) (shift-bit b)
    ∙ sym (step-xor (shift 32 n) (lowest b) false false)

-- dividing a list that 32 zeros follow is taking in its bits at the high power
pub shift-fold_step : (bits : List Bool) (n : ℕ) → shift 32 (fold step n bits) ≡ fold take_in (shift 32 n) bits
shift-fold_step [] n = refl
shift-fold_step (b ∷ bits) n = shift-fold_step bits (step n b) ∙ ap (λ m. fold take_in m bits) (shift-step_bit n b)

-- dividing k zeros is a shift by k
pub fold_step-zeros : (k n : ℕ) → fold step n (replicate k false) ≡ shift k n
unfolding shift
fold_step-zeros zero n = refl
fold_step-zeros (suc k) n = fold_step-zeros k (step n false)
