-- The long division of the definition, over lists of coefficients, gives what the steps of the register give.
use Rattle.std.proofs.Common.{◌≡◌, ℕ, suc, ◌+◌, ◌*◌, ◌/◌, ◌%◌, ◌^◌, ◌<◌, Bool, true, false, not, List, [], ◌∷◌, ◌++◌, map, length, fold, replicate, refl, sym, ap, ap₂, ◌∙◌, subst, arith, pow-suc, length-append}
use Rattle.std.specs.Int.Bits.{bit_xor, xor_zero_r}
use Rattle.std.proofs.lemmas.Nat.{xor_comm, xor_block}
use lib.Bits.{xor_assoc, xor_shifted}
use Rattle.model_base.specs.Checksum.{number_of_bits, add_bits, divisor, less_divisor, remainder}
use Rattle.base_bytes.specs.Register.{low_divisor, lowest, highest, step}

-- a number of k bits is below 2 ^ k
number_of_bits-lt : (bits : List Bool) → number_of_bits bits < 2 ^ length bits
number_of_bits-lt [] = omega arith
number_of_bits-lt (true ∷ bits) = omega (arith, number_of_bits-lt bits, pow-suc 2 (length bits))
number_of_bits-lt (false ∷ bits) = omega (arith, number_of_bits-lt bits, pow-suc 2 (length bits))

-- a bit appended to the list is the highest bit of the number
number_of_bits-push : (bits : List Bool) (b : Bool)
    → number_of_bits (bits ++ b ∷ []) ≡ lowest b * 2 ^ length bits + number_of_bits bits
number_of_bits-push [] true = refl
number_of_bits-push [] false = refl
number_of_bits-push (true ∷ bits) true = omega (arith, number_of_bits-push bits true, pow-suc 2 (length bits))
number_of_bits-push (true ∷ bits) false = omega (arith, number_of_bits-push bits false, pow-suc 2 (length bits))
number_of_bits-push (false ∷ bits) true = omega (arith, number_of_bits-push bits true, pow-suc 2 (length bits))
number_of_bits-push (false ∷ bits) false = omega (arith, number_of_bits-push bits false, pow-suc 2 (length bits))

-- a bit appended to 31 bits is the highest of 32
number_of_bits-push_32 : (bits : List Bool) (b : Bool) → length bits ≡ 31
    → number_of_bits (bits ++ b ∷ []) ≡ bit_xor (number_of_bits bits) (highest b)
number_of_bits-push_32 bits b long =
    let below : number_of_bits bits < 2 ^ 31 = subst (λ k. number_of_bits bits < 2 ^ k) long (number_of_bits-lt bits) in
    number_of_bits-push bits b ∙ ap (λ k. lowest b * 2 ^ k + number_of_bits bits) long
    ∙ sym (xor_shifted (lowest b) 31 (number_of_bits bits) below)
    ∙ xor_comm (lowest b * 2 ^ 31) (number_of_bits bits) ∙ ap (bit_xor (number_of_bits bits)) (top b)
  where
    top : (c : Bool) → lowest c * 2 ^ 31 ≡ highest c
    top true = refl
    top false = refl

-- the exclusive or of two numbers, with their lowest bits split off
xor_lowest : (a b r s : ℕ) → r < 2 → s < 2 → bit_xor (r + 2 * a) (s + 2 * b) ≡ bit_xor r s + 2 * bit_xor a b
xor_lowest a b r s hr hs =
    let left : r + 2 * a ≡ a * 2 ^ 1 + r = omega arith in
    let right : s + 2 * b ≡ b * 2 ^ 1 + s = omega arith in
    let turned : bit_xor a b * 2 ^ 1 + bit_xor r s ≡ bit_xor r s + 2 * bit_xor a b = omega arith in
    ap₂ bit_xor left right ∙ xor_block 1 a b r s hr hs ∙ turned

-- the number of the sum of two lists of coefficients is the exclusive or of their numbers
number_of_bits-add_bits : (a b : List Bool) → length a ≡ length b
    → number_of_bits (add_bits a b) ≡ bit_xor (number_of_bits a) (number_of_bits b)
number_of_bits-add_bits [] [] same = refl
number_of_bits-add_bits [] (y ∷ b) same = cc
number_of_bits-add_bits (x ∷ a) [] same = cc
number_of_bits-add_bits (true ∷ a) (true ∷ b) same =
    ap (λ n. 0 + 2 * n) (number_of_bits-add_bits a b (omega arith))
    ∙ sym (xor_lowest (number_of_bits a) (number_of_bits b) 1 1 (omega arith) (omega arith))
number_of_bits-add_bits (true ∷ a) (false ∷ b) same =
    ap (λ n. 1 + 2 * n) (number_of_bits-add_bits a b (omega arith))
    ∙ sym (xor_lowest (number_of_bits a) (number_of_bits b) 1 0 (omega arith) (omega arith))
number_of_bits-add_bits (false ∷ a) (true ∷ b) same =
    ap (λ n. 1 + 2 * n) (number_of_bits-add_bits a b (omega arith))
    ∙ sym (xor_lowest (number_of_bits a) (number_of_bits b) 0 1 (omega arith) (omega arith))
number_of_bits-add_bits (false ∷ a) (false ∷ b) same =
    ap (λ n. 0 + 2 * n) (number_of_bits-add_bits a b (omega arith))
    ∙ sym (xor_lowest (number_of_bits a) (number_of_bits b) 0 0 (omega arith) (omega arith))

-- a sum of two lists is as long as each of them
length-add_bits : (a b : List Bool) → length a ≡ length b → length (add_bits a b) ≡ length a
length-add_bits [] [] same = refl
length-add_bits [] (y ∷ b) same = refl
length-add_bits (x ∷ a) [] same = cc
length-add_bits (x ∷ a) (y ∷ b) same = ap suc (length-add_bits a b (omega arith))

-- the number of the inverted bits is how much the number of the bits is below the greatest of this length
pub number_of_bits-not : (bits : List Bool) → number_of_bits (map not bits) + number_of_bits bits + 1 ≡ 2 ^ length bits
number_of_bits-not [] = refl
number_of_bits-not (true ∷ bits) = omega (arith, number_of_bits-not bits, pow-suc 2 (length bits))
number_of_bits-not (false ∷ bits) = omega (arith, number_of_bits-not bits, pow-suc 2 (length bits))

-- the step of a number whose lowest bit is 1
step-odd : (n : ℕ) (b : Bool) → step (1 + 2 * n) b ≡ bit_xor (bit_xor n low_divisor) (highest b)
unfolding step
step-odd n b =
    let half : (1 + 2 * n) / 2 ≡ n = omega arith in
    let odd : (1 + 2 * n) % 2 ≡ 1 = omega arith in
    ap₂ (λ h d. bit_xor (bit_xor h (d * low_divisor)) (highest b)) half odd

-- the step of a number whose lowest bit is 0
step-even : (n : ℕ) (b : Bool) → step (0 + 2 * n) b ≡ bit_xor n (highest b)
unfolding step
step-even n b =
    let half : (0 + 2 * n) / 2 ≡ n = omega arith in
    let even : (0 + 2 * n) % 2 ≡ 0 = omega arith in
    ap₂ (λ h d. bit_xor (bit_xor h (d * low_divisor)) (highest b)) half even ∙ ap (λ m. bit_xor m (highest b)) (xor_zero_r n)

-- the list has 32 coefficients, and n is their number
pub record Mirrors (r : List Bool) (n : ℕ) : Type 0 where
  pub long : length r ≡ 32
  pub same : number_of_bits r ≡ n

-- this still holds after a step of both
Mirrors-step : (r : List Bool) (n : ℕ) (b : Bool) → Mirrors r n
    → Mirrors (less_divisor (r ++ b ∷ [])) (step n b)
Mirrors-step [] n b m = absurd (omega (arith, m.long))
Mirrors-step (true ∷ r) n b m =
    let short : length r ≡ 31 = omega (arith, m.long) in
    let pushed : length (r ++ b ∷ []) ≡ 32 = omega (arith, length-append r (b ∷ [])) in
    let value =
    number_of_bits-add_bits (r ++ b ∷ []) divisor pushed
    ∙ ap (λ k. bit_xor k low_divisor) (number_of_bits-push_32 r b short) in
    let there = ap (λ k. step k b) (sym m.same) ∙ step-odd (number_of_bits r) b in
    record {
      long = length-add_bits (r ++ b ∷ []) divisor pushed ∙ pushed;
      same = cc (
        xor_assoc (number_of_bits r) (highest b) low_divisor,
        xor_assoc (number_of_bits r) low_divisor (highest b),
        xor_comm (highest b) low_divisor,
      );
    }
Mirrors-step (false ∷ r) n b m =
    let short : length r ≡ 31 = omega (arith, m.long) in
    record {
      long = omega (arith, length-append r (b ∷ []));
      same = number_of_bits-push_32 r b short ∙ sym (ap (λ k. step k b) (sym m.same) ∙ step-even (number_of_bits r) b);
    }

-- and after all steps
Mirrors-fold : (bits r : List Bool) (n : ℕ) → Mirrors r n
    → Mirrors (fold (λ r b. less_divisor (r ++ b ∷ [])) r bits) (fold step n bits)
Mirrors-fold [] r n m = m
Mirrors-fold (b ∷ bits) r n m = Mirrors-fold bits (less_divisor (r ++ b ∷ [])) (step n b) (Mirrors-step r n b m)

-- the remainder of the definition, as the register after all steps
pub Mirrors-remainder : (bits : List Bool) → Mirrors (remainder bits) (fold step 0 bits)
Mirrors-remainder bits = Mirrors-fold bits (replicate 32 false) 0 (record { long = refl; same = refl })
