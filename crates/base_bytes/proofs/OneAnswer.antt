-- Bytes begin with at most one varint32, have at most one error, and never both.
use Rattle.std.proofs.Common.{◌≡◌, ℕ, zero, suc, ◌*◌, ◌^◌, ◌<◌, ◌≤◌, List, [], ◌∷◌, length, take, drop, Some, refl, sym, ◌∙◌, ap, arith, length-take, pow-suc}
use Rattle.std.proofs.lemmas.List.{take-append-drop}
use Rattle.std.specs.List.{slice_get, AllByRecursion}
use Rattle.model_base.specs.declared.coding.CodeError.{CodeError}
use Rattle.model_base.specs.declared.coding.CodeError.TheVariants.{Short, NotShortest, TooLong}
use Rattle.model_base.specs.Varint.{IsVarint, BeginsVarint, GoesOn, IsCodeError}
use Rattle.base_bytes.proofs.Spellings.{one_varint}

-- Bytes begin with at most one varint32.
pub one_front : (bytes : List ℕ) (m a n b : ℕ) → BeginsVarint bytes m a → BeginsVarint bytes n b → (m ≡ n) × (a ≡ b)
one_front bytes m a n b x y =
    let same = one_varint (take a bytes) (take b bytes) (drop a bytes) (drop b bytes) m n x.spelled y.spelled (take-append-drop a bytes ∙ sym (take-append-drop b bytes)) in
    (same.1, omega (arith, ap length same.0, length-take a bytes, length-take b bytes, x.within, y.within))

-- if each of the first k bytes says that another follows, so does a byte at a place before k
goes_at : (k j b : ℕ) (bytes : List ℕ) → AllByRecursion (λ b. 128 ≤ b) (take k bytes) → j < k → slice_get bytes j ≡ Some b → 128 ≤ b
goes_at k j b [] goes before is = absurd (cc)
goes_at zero j b (c ∷ bytes) goes before is = absurd (omega (arith, before))
goes_at (suc k) zero b (c ∷ bytes) goes before is = let same : c ≡ b = cc in omega (arith, same, goes.0)
goes_at (suc k) (suc j) b (c ∷ bytes) goes before is = goes_at k j b bytes goes.1 (omega (arith, before)) is

-- bytes that all say that another follows spell no number
goes_only : (used n : ℕ) (bytes : List ℕ) → AllByRecursion (λ b. 128 ≤ b) bytes → IsVarint (take used bytes) n → ⊥
goes_only zero n [] goes is = is
goes_only (suc used) n [] goes is = is
goes_only zero n (b ∷ bytes) goes is = is
goes_only (suc zero) n (b ∷ bytes) goes is = omega (arith, is.0, goes.0)
goes_only (suc (suc used)) n (b ∷ []) goes is = omega (arith, is.0, goes.0)
goes_only (suc (suc used)) n (b ∷ c ∷ bytes) goes is = goes_only (suc used) is.2 (c ∷ bytes) goes.1 is.5

-- after k bytes that all say that another follows, a byte b adds at least b * 128 ^ k to the number
at_least : (k b used n : ℕ) (bytes : List ℕ) → AllByRecursion (λ b. 128 ≤ b) (take k bytes) → slice_get bytes k ≡ Some b → IsVarint (take used bytes) n → b * 128 ^ k ≤ n
at_least k b used n [] goes at is = absurd (cc)
at_least k b zero n (c ∷ bytes) goes at is = absurd is
at_least zero b (suc zero) n (c ∷ bytes) goes at is = let same : c ≡ b = cc in omega (arith, same, is.1)
at_least zero b (suc (suc used)) n (c ∷ []) goes at is = let same : c ≡ b = cc in omega (arith, same, is.1)
at_least zero b (suc (suc used)) n (c ∷ d ∷ bytes) goes at is = let same : c ≡ b = cc in omega (arith, same, is.3, is.4)
at_least (suc k) b (suc zero) n (c ∷ bytes) goes at is = absurd (omega (arith, goes.0, is.0))
at_least (suc k) b (suc (suc used)) n (c ∷ []) goes at is = absurd (omega (arith, goes.0, is.0))
at_least (suc k) b (suc (suc used)) n (c ∷ d ∷ bytes) goes at is =
    let rest : b * 128 ^ k ≤ is.2 = at_least k b (suc used) is.2 (d ∷ bytes) goes.1 at is.5 in
    let power : b * 128 ^ suc k ≡ 128 * (b * 128 ^ k) = omega (arith, ap (λ (p : ℕ). b * p) (pow-suc 128 k)) in
    omega (arith, rest, power, is.4, goes.0)

-- after k bytes that all say that another follows, a byte 0 lets them spell only 0
zero_last : (k used n : ℕ) (bytes : List ℕ) → AllByRecursion (λ b. 128 ≤ b) (take k bytes) → slice_get bytes k ≡ Some 0 → IsVarint (take used bytes) n → n ≡ 0
zero_last k used n [] goes at is = absurd (cc)
zero_last k zero n (c ∷ bytes) goes at is = absurd is
zero_last zero (suc zero) n (c ∷ bytes) goes at is = let same : c ≡ 0 = cc in is.1 ∙ same
zero_last zero (suc (suc used)) n (c ∷ []) goes at is = let same : c ≡ 0 = cc in is.1 ∙ same
zero_last zero (suc (suc used)) n (c ∷ d ∷ bytes) goes at is = let same : c ≡ 0 = cc in absurd (omega (arith, same, is.0))
zero_last (suc k) (suc zero) n (c ∷ bytes) goes at is = absurd (omega (arith, goes.0, is.0))
zero_last (suc k) (suc (suc used)) n (c ∷ []) goes at is = absurd (omega (arith, goes.0, is.0))
zero_last (suc k) (suc (suc used)) n (c ∷ d ∷ bytes) goes at is = absurd (omega (arith, zero_last k (suc used) is.2 (d ∷ bytes) goes.1 at is.5, is.3))

-- and if k isn't 0, they spell nothing
zero_behind : (k used n : ℕ) (bytes : List ℕ) → 1 ≤ k → AllByRecursion (λ b. 128 ≤ b) (take k bytes) → slice_get bytes k ≡ Some 0 → IsVarint (take used bytes) n → ⊥
zero_behind zero used n bytes some goes at is = omega (arith, some)
zero_behind (suc k) used n [] some goes at is = cc
zero_behind (suc k) zero n (c ∷ bytes) some goes at is = is
zero_behind (suc k) (suc zero) n (c ∷ bytes) some goes at is = omega (arith, goes.0, is.0)
zero_behind (suc k) (suc (suc used)) n (c ∷ []) some goes at is = omega (arith, goes.0, is.0)
zero_behind (suc k) (suc (suc used)) n (c ∷ d ∷ bytes) some goes at is = omega (arith, zero_last k (suc used) is.2 (d ∷ bytes) goes.1 at is.5, is.3)

all_of : (bytes : List ℕ) → GoesOn (length bytes) bytes → AllByRecursion (λ b. 128 ≤ b) bytes
all_of [] goes = tt
all_of (b ∷ bytes) goes = (goes.1.0, all_of bytes (omega (arith, goes.0), goes.1.1))

-- Bytes that begin with a varint32 have no error.
pub no_error : (bytes : List ℕ) (n used : ℕ) (e : CodeError) → BeginsVarint bytes n used → IsCodeError bytes e → ⊥
no_error bytes n used Short front is = goes_only used n bytes (all_of bytes is.1) front.spelled
no_error bytes n used TooLong front is = omega (arith, at_least 4 is.1 used n bytes is.0.1 is.2 front.spelled, is.3, front.fits)
no_error bytes n used NotShortest front is = zero_behind is.0 used n bytes is.1 is.3.1 is.4 front.spelled

inside : (k b : ℕ) (bytes : List ℕ) → slice_get bytes k ≡ Some b → k < length bytes
inside k b [] at = absurd (cc)
inside zero b (c ∷ bytes) at = omega arith
inside (suc k) b (c ∷ bytes) at = omega (arith, inside k b bytes at)

-- bytes with the error `Short` have no other error
short_alone : (bytes : List ℕ) (e : CodeError) → IsCodeError bytes Short → IsCodeError bytes e → Short ≡ e
short_alone bytes Short x y = refl
short_alone bytes TooLong x y = absurd (omega (arith, x.0, inside 4 y.1 bytes y.2))
short_alone bytes NotShortest x y = absurd (omega (arith, goes_at (length bytes) y.0 0 bytes x.1.1 (inside y.0 0 bytes y.4) y.4))

long_not_shortest : (bytes : List ℕ) → IsCodeError bytes TooLong → IsCodeError bytes NotShortest → ⊥
long_not_shortest bytes x y =
    let last : y.0 ≡ 4 → ⊥ = λ e. let same : x.1 ≡ 0 = cc (x.2, y.4, ap (slice_get bytes) e) in omega (arith, same, x.3) in
    let before : y.0 < 4 = omega (arith, y.2, last) in
    omega (arith, goes_at 4 y.0 0 bytes x.0.1 before y.4)

-- Bytes have at most one error.
pub one_error : (bytes : List ℕ) (d e : CodeError) → IsCodeError bytes d → IsCodeError bytes e → d ≡ e
one_error bytes Short e x y = short_alone bytes e x y
one_error bytes TooLong Short x y = sym (short_alone bytes TooLong y x)
one_error bytes TooLong TooLong x y = refl
one_error bytes TooLong NotShortest x y = absurd (long_not_shortest bytes x y)
one_error bytes NotShortest Short x y = sym (short_alone bytes NotShortest y x)
one_error bytes NotShortest TooLong x y = absurd (long_not_shortest bytes y x)
one_error bytes NotShortest NotShortest x y = refl
