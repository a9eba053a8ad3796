-- The types of fragments.
use Rattle.std.proofs.Common.{◌≡◌, ℕ, zero, suc, ◌+◌, ◌-◌, ◌≤◌, Option, Some, None, refl, sym, ◌∙◌, ap, arith}
use Rattle.model_base.specs.Log.{Kind, full, first, middle, last, kind_code, plain_log}
use Rattle.model_base.specs.Reading.{kind_of_code}

-- in a log with a number the types are four higher
pub four_higher : (n : ℕ) (kind : Kind) → kind_code (Some n) kind ≡ 4 + kind_code plain_log kind
four_higher n full = refl
four_higher n first = refl
four_higher n middle = refl
four_higher n last = refl

plain_kind : (code : ℕ) → 1 ≤ code → code ≤ 4 → (kind : Kind) × (code ≡ kind_code plain_log kind)
plain_kind zero low high = absurd (omega arith)
plain_kind (suc zero) low high = (full, refl)
plain_kind (suc (suc zero)) low high = (first, refl)
plain_kind (suc (suc (suc zero))) low high = (middle, refl)
plain_kind (suc (suc (suc (suc zero)))) low high = (last, refl)
plain_kind (suc (suc (suc (suc (suc code))))) low high = absurd (omega arith)

-- each type between the first and the last is that of a kind
pub some_kind : (number : Option ℕ) (code : ℕ) → kind_code number full ≤ code → code ≤ kind_code number last → (kind : Kind) × (code ≡ kind_code number kind)
some_kind None code low high = plain_kind code low high
some_kind (Some n) code low high =
    let plain = plain_kind (code - 4) (omega (arith, low)) (omega (arith, high)) in
    let back : code ≡ 4 + (code - 4) = omega (arith, low) in
    (plain.0, back ∙ (ap (λ (c : ℕ). 4 + c) plain.1 ∙ sym (four_higher n plain.0)))

-- the type of a kind is read as this kind
pub own_code : (number : Option ℕ) (kind : Kind) → kind_of_code number (kind_code number kind) ≡ Some kind
own_code None full = refl
own_code None first = refl
own_code None middle = refl
own_code None last = refl
own_code (Some n) full = refl
own_code (Some n) first = refl
own_code (Some n) middle = refl
own_code (Some n) last = refl
