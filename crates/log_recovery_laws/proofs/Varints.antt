-- Bytes begin with a varint32, or there is an error.
use Rattle.std.proofs.Common.{◌≡◌, ◌⊎◌, inl, inr, ℕ, zero, suc, ◌+◌, ◌-◌, ◌*◌, ◌^◌, ◌<◌, ◌≤◌, List, [], ◌∷◌, length, take, slice_get, Some, refl, sym, ap, subst, arith, nat_lt, ◌==◌, pow-suc}
use Rattle.std.proofs.Math.Seq.{take-length}
use Rattle.std.proofs.lemmas.Bool.{ltb-true, ltb-false, eqb-true, eqb-false}
use Rattle.std.specs.List.{AllByRecursion}
use Rattle.model_base.specs.declared.coding.CodeError.{CodeError}
use Rattle.model_base.specs.declared.coding.CodeError.TheVariants.{Short, NotShortest, TooLong}
use Rattle.model_base.specs.Varint.{IsVarint, BeginsVarint, GoesOn, IsCodeError}
use Rattle.base_bytes.proofs.Spellings.{in_front}
use Rattle.log_laws.proofs.Next.{cases_bool}
use Rattle.log_recovery_laws.specs.Reads.{AreBytes}

abbrev pub GoOn : List ℕ → Type 0
GoOn bytes = AllByRecursion (λ b. 128 ≤ b) bytes

-- what the bytes are after bytes each of which says that another follows, where a varint may have the next byte and m
-- more
data Rest (m : ℕ) (bytes : List ℕ) : Type 0 where
  number : (n used : ℕ) → IsVarint (take used bytes) n → used ≤ length bytes → 0 < n → n < 16 * 128 ^ m → Rest m bytes
  short : length bytes ≤ m → GoOn bytes → Rest m bytes
  long : (b : ℕ) → GoesOn m bytes → slice_get bytes m ≡ Some b → 15 < b → Rest m bytes
  zero_last : (k : ℕ) → k ≤ m → GoesOn k bytes → slice_get bytes k ≡ Some 0 → Rest m bytes

some_power : (m : ℕ) → 0 < 128 ^ m
some_power zero = omega arith
some_power (suc m) = omega (arith, pow-suc 128 m, some_power m)

-- the same with one more byte in front, which says that another follows
rest_more : (m b : ℕ) (bytes : List ℕ) → 128 ≤ b → b < 256 → Rest m bytes → Rest (suc m) (b ∷ bytes)
rest_more m b bytes large fits (number n used is within some small) =
    number (b - 128 + 128 * n) (suc used) (in_front b n (b - 128 + 128 * n) (take used bytes) large fits some (omega (arith, large)) is) (omega (arith, within)) (omega (arith, some)) (omega (arith, small, fits, pow-suc 128 m))
rest_more m b bytes large fits (short few all) = short (omega (arith, few)) (large, all)
rest_more m b bytes large fits (long c goes at past) = long c (omega (arith, goes.0), (large, goes.1)) at past
rest_more m b bytes large fits (zero_last k le goes at) = zero_last (suc k) (omega (arith, le)) (omega (arith, goes.0), (large, goes.1)) at

rest_of : (m : ℕ) (bytes : List ℕ) → AreBytes bytes → Rest m bytes
rest_of m [] are = short (omega arith) tt
rest_of zero (b ∷ bytes) are = cases_bool (b == 0)
    (λ e. zero_last zero (omega arith) (omega arith, tt) (ap Some (eqb-true b 0 e)))
    (λ ne. cases_bool (nat_lt 15 b)
    (λ past. long b (omega arith, tt) refl (ltb-true 15 b past))
    (λ fits. let low = ltb-false 15 b fits in let some : 0 < b = omega (arith, eqb-false b 0 ne) in number b (suc zero) (omega (arith, low), refl) (omega arith) some (omega (arith, low))))
rest_of (suc m) (b ∷ bytes) are = cases_bool (nat_lt b 128)
    (λ last. cases_bool (b == 0)
    (λ e. zero_last zero (omega arith) (omega arith, tt) (ap Some (eqb-true b 0 e)))
    (λ ne. let low = ltb-true b 128 last in let some : 0 < b = omega (arith, eqb-false b 0 ne) in number b (suc zero) (low, refl) (omega arith) some (omega (arith, low, pow-suc 128 m, some_power m))))
    (λ more. rest_more m b bytes (ltb-false b 128 more) are.0 (rest_of m bytes are.1))

abbrev pub VarintOrError : List ℕ → Type 0
VarintOrError bytes = ((n : ℕ) × (used : ℕ) × BeginsVarint bytes n used) ⊎ ((e : CodeError) × IsCodeError bytes e)

after_first : (b : ℕ) (bytes : List ℕ) → 128 ≤ b → b < 256 → Rest 3 bytes → VarintOrError (b ∷ bytes)
after_first b bytes large fits (number n used is within some small) =
    inl (b - 128 + 128 * n, suc used, record { spelled = in_front b n (b - 128 + 128 * n) (take used bytes) large fits some (omega (arith, large)) is; within = omega (arith, within); fits = omega (arith, small, fits) })
after_first b bytes large fits (short few all) = inr (Short, (omega (arith, few), (omega arith, (large, subst GoOn (sym (take-length bytes)) all))))
after_first b bytes large fits (long c goes at past) = inr (TooLong, ((omega (arith, goes.0), (large, goes.1)), c, at, past))
after_first b bytes large fits (zero_last k le goes at) = inr (NotShortest, (suc k, omega arith, omega (arith, le), (omega (arith, goes.0), (large, goes.1)), at))

pub varint_or_error : (bytes : List ℕ) → AreBytes bytes → VarintOrError bytes
varint_or_error [] are = inr (Short, (omega arith, (omega arith, tt)))
varint_or_error (b ∷ bytes) are = cases_bool (nat_lt b 128)
    (λ last. let low = ltb-true b 128 last in inl (b, suc zero, record { spelled = (low, refl); within = omega arith; fits = omega (arith, low) }))
    (λ more. after_first b bytes (ltb-false b 128 more) are.0 (rest_of 3 bytes are.1))
