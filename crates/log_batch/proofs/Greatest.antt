-- The greatest family that records name.
use Rattle.std.proofs.Common.{◌≡◌, ℕ, ◌<◌, nat_le, max, fold, Bool, true, false, cond, List, [], ◌∷◌, ◌++◌, refl, ap, ◌∙◌, arith}
use Rattle.std.specs.Prelude.{Some, None}
use Rattle.std.specs.Option.{unwrap_or}
use Rattle.std.proofs.lemmas.Bool.{leb-true}
use Rattle.std.proofs.lemmas.List.Elements.{filter_map-append}
use Rattle.std.proofs.lemmas.List.Sums.{fold-append}
use Rattle.model_base.specs.Batch.{Record, value, deletion, single_deletion, log_data}
use Rattle.model_base.specs.Progress.{family_about, families_in, first_missing}
use Rattle.log_batch.specs.Contents.{greatest_named}

abbrev greatest_behind : ℕ → List ℕ → ℕ
greatest_behind n fs = fold (λ (m : ℕ) (f : ℕ). max m f) n fs

-- it is the greater of what came before and what comes
from_any : (n : ℕ) (fs : List ℕ) → greatest_behind n fs ≡ max n (greatest_behind 0 fs)
from_any n [] = omega arith
from_any n (f ∷ fs) = let here = from_any (max n f) fs in let there = from_any (max 0 f) fs in omega (arith, here, there)

pub greatest_appended : (records more : List Record) → greatest_named (records ++ more) ≡ max (greatest_named records) (greatest_named more)
greatest_appended records more =
    ap (greatest_behind 0) (filter_map-append family_about records more) ∙ (fold-append (λ (m : ℕ) (f : ℕ). max m f) 0 (families_in records) (families_in more) ∙ from_any (greatest_named records) (families_in more))

-- of one record it is the family that the record is about
pub greatest_one : (r : Record) → unwrap_or (family_about r) 0 ≡ greatest_named (r ∷ [])
greatest_one (value family k v) = omega arith
greatest_one (deletion family k) = omega arith
greatest_one (single_deletion family k) = omega arith
greatest_one (log_data blob) = refl

-- the rest of some records, after the greatest family of the first ones
pub next_greatest : (n : ℕ) (r : Record) (records : List Record) → max n (greatest_behind 0 (families_in (r ∷ records))) ≡ max (max n (greatest_named (r ∷ []))) (greatest_behind 0 (families_in records))
next_greatest n r records = let both = greatest_appended (r ∷ []) records in omega (arith, both)

-- where the greatest is there, all are there
all_there : (families : ℕ) (fs : List ℕ) → greatest_behind 0 fs < families → first_missing families fs ≡ None
all_there families [] low = refl
all_there families (f ∷ fs) low =
    let high = from_any (max 0 f) fs in
    by (nat_le families f) refl high (all_there families fs (omega (arith, low, high)))
  where
    by : (b : Bool) → nat_le families f ≡ b → greatest_behind (max 0 f) fs ≡ max (max 0 f) (greatest_behind 0 fs) → first_missing families fs ≡ None → cond b (Some f) (first_missing families fs) ≡ None
    by true is high rest = absurd (omega (arith, low, high, leb-true families f is))
    by false is high rest = rest

pub none_missing : (families : ℕ) (records : List Record) → greatest_named records < families → first_missing families (families_in records) ≡ None
none_missing families records low = all_there families (families_in records) low

-- the first record of some is about no family
pub skips_record : (families : ℕ) (r : Record) (records : List Record) → family_about r ≡ None → first_missing families (families_in (r ∷ records)) ≡ first_missing families (families_in records)
skips_record families r records none = rw none refl
