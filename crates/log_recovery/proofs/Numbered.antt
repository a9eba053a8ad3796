-- What is kept takes sequences, one for each record but log data.
use Rattle.std.proofs.Common.{◌≡◌, ◌≢◌, ℕ, ◌+◌, List, [], ◌∷◌, ◌==◌, Bool, true, false, cond, refl, sym, ◌∙◌, subst, arith}
use Rattle.std.proofs.lemmas.Bool.{eqb-true, eq-eqb}
use Rattle.std.proofs.lemmas.List.Sums.{sum_by-append}
use Rattle.model_base.specs.Batch.{Record, value, deletion, single_deletion, log_data, is_counted, count_of}
use Rattle.model_base.specs.Map.{Pairs, after_records}
use Rattle.model_base.specs.Recovery.{Logged, last_of, last_after, MayFollow}
use Rattle.log_recovery.specs.declared.kept.Kept.{Kept}
use Rattle.log_recovery.specs.Keeping.{Adds}
use Rattle.log_recovery.specs.Recovering.{IsNumbered}

one_more : (r : Record) (records : List Record) → count_of (r ∷ records) ≡ count_of (r ∷ []) + count_of records
one_more r records = sum_by-append (λ x. cond (is_counted x) 1 0) (r ∷ []) records

-- records of which none counts change no key
none_counted : (m : Pairs) (records : List Record) → count_of records ≡ 0 → after_records m records ≡ m
none_counted m [] none = refl
none_counted m (value f key v ∷ records) none = let more : count_of (value f key v ∷ records) ≡ 1 + count_of records = one_more (value f key v) records in absurd (omega (arith, more, none))
none_counted m (deletion f key ∷ records) none = let more : count_of (deletion f key ∷ records) ≡ 1 + count_of records = one_more (deletion f key) records in absurd (omega (arith, more, none))
none_counted m (single_deletion f key ∷ records) none = let more : count_of (single_deletion f key ∷ records) ≡ 1 + count_of records = one_more (single_deletion f key) records in absurd (omega (arith, more, none))
none_counted m (log_data blob ∷ records) none = let same : count_of (log_data blob ∷ records) ≡ 0 + count_of records = one_more (log_data blob) records in none_counted m records (omega (arith, same, none))

after_batch : (m : Pairs) (last : ℕ) (b : Logged) → MayFollow last b → IsNumbered m last → IsNumbered (after_records m b.records) (last_after last b)
after_batch m last b may is = by_count (count_of b.records == 0) refl
  where
    by_count : (none : Bool) → (count_of b.records == 0) ≡ none → IsNumbered (after_records m b.records) (cond none last (last_of b))
    by_count true e = record { within = is.within; none = λ z. none_counted m b.records (eqb-true (count_of b.records) 0 e) ∙ is.none z }
    by_count false e =
        let some : count_of b.records ≢ 0 = λ z. let yes = eq-eqb (count_of b.records) 0 z in cc (e, yes) in
        let runs = may some in
        record { within = runs.1; none = λ z. let first = runs.0 in absurd (omega (arith, some, first, z)) }

-- so this holds with one batch more, too
pub numbered_more : (old new : Kept) (bytes : List ℕ) (end : ℕ) → Adds old new bytes end → IsNumbered old.map old.last → IsNumbered new.map new.last
numbered_more old new bytes end a is =
    let b = a.kept.batch in
    subst (λ (m : Pairs). IsNumbered m new.last) (sym a.map)
    (subst (IsNumbered (after_records old.map b.records)) (sym a.last) (after_batch old.map old.last b a.kept.may is))

-- it holds of what is kept at first
pub none_numbered : (map : Pairs) (last : ℕ) → map ≡ [] → last ≡ 0 → IsNumbered map last
none_numbered map last map_is last_is = record { within = omega (arith, last_is); none = λ z. map_is }
