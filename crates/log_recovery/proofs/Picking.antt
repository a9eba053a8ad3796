-- One record more is picked, if it is asked for.
use Rattle.std.proofs.Common.{◌≡◌, ◌≢◌, ℕ, ◌+◌, ◌-◌, ◌<◌, ◌≤◌, nat_lt, Bool, true, false, cond, List, [], ◌∷◌, ◌++◌, map, ◌==◌, refl, sym, ◌∙◌, ap, subst, arith}
use Rattle.std.proofs.lemmas.Bool.{eqb-true, ltb-true, ltb-false, false≢true}
use Rattle.std.proofs.lemmas.List.{map-append}
use Rattle.std.proofs.lemmas.List.Elements.{filter-append}
use Rattle.model_base.specs.Batch.{Record, count_of, batch, IsBatch}
use Rattle.model_base.specs.Recovery.{Logged}
use Rattle.model_base.specs.Since.{LogRecord, record_of_batch, is_since, since}
use Rattle.log_recovery.specs.declared.picked.Picked.{Picked}
use Rattle.log_recovery.specs.Keeping.{MayRun}
use Rattle.log_recovery.specs.Updating.{updates_in, Picks}
use Rattle.log_recovery.specs.Following.{PicksWithin, IsPast}
use Rattle.log_recovery.proofs.Keeping.{may_be_kept}

since_append : (s upto : ℕ) (xs ys : List LogRecord) → since s upto (xs ++ ys) ≡ since s upto xs ++ since s upto ys
since_append s upto xs ys =
    ap (map (λ (r : LogRecord). r.bytes)) (filter-append (is_since s upto) xs ys)
    ∙ map-append (λ (r : LogRecord). r.bytes) _ _

pub updates_append : (s upto : ℕ) (xs ys : List Logged) → updates_in s upto (xs ++ ys) ≡ updates_in s upto xs ++ updates_in s upto ys
updates_append s upto xs ys = ap (since s upto) (map-append record_of_batch xs ys) ∙ since_append s upto (map record_of_batch xs) (map record_of_batch ys)

pub updates_more : (s upto : ℕ) (bs : List Logged) (b : Logged) → updates_in s upto (bs ++ b ∷ []) ≡ updates_in s upto bs ++ updates_in s upto (b ∷ [])
updates_more s upto bs b =
    ap (since s upto) (map-append record_of_batch bs (b ∷ []))
    ∙ since_append s upto (map record_of_batch bs) (record_of_batch b ∷ [])

pub one_since : (s upto : ℕ) (r : LogRecord) → since s upto (r ∷ []) ≡ cond (is_since s upto r) (r.bytes ∷ []) []
one_since s upto r = go (is_since s upto r)
  where
    go : (b : Bool) → map (λ (x : LogRecord). x.bytes) (cond b (r ∷ []) []) ≡ cond b (r.bytes ∷ []) []
    go true = refl
    go false = refl

-- what the code adds is this record, if it is asked for
pub adds_since : (s upto first count : ℕ) (bytes : List ℕ) (records : List Record) (old new : List (List ℕ)) (b : Bool) → IsBatch bytes first records → count ≡ count_of records
    → b ≡ is_since s upto (record { first = first; count = count; bytes = bytes }) → new ≡ old ++ cond b (bytes ∷ []) []
    → new ≡ old ++ updates_in s upto (record { first = first; records = records } ∷ [])
adds_since s upto first count bytes records old new b is count_is asked added =
    let counted : b ≡ is_since s upto (record { first = first; count = count_of records; bytes = bytes }) =
    asked ∙ ap (λ (n : ℕ). is_since s upto (record { first = first; count = n; bytes = bytes })) count_is in
    let spelled : bytes ≡ batch first records = is.spelled in
    let same : cond b (bytes ∷ []) [] ≡ cond (is_since s upto (record { first = first; count = count_of records; bytes = bytes })) (bytes ∷ []) [] =
    ap (λ (x : Bool). cond x (bytes ∷ []) []) counted in
    let known : updates_in s upto (record { first = first; records = records } ∷ []) ≡ cond (is_since s upto (record { first = first; count = count_of records; bytes = bytes })) (bytes ∷ []) [] =
    one_since s upto (record_of_batch (record { first = first; records = records }))
    ∙ ap (λ (l : List ℕ). cond (is_since s upto (record { first = first; count = count_of records; bytes = bytes })) (l ∷ []) []) (sym spelled) in
    added ∙ ap (λ (l : List (List ℕ)). old ++ l) (same ∙ sym known)

-- What the code changes is that it picks this record, if it is asked for.
picks : (s upto : ℕ) (old new : Picked) (bytes : List ℕ) (end first count : ℕ) (records : List Record) (b : Bool) → IsBatch bytes first records → count ≡ count_of records → MayRun old.last first count
    → b ≡ is_since s upto (record { first = first; count = count; bytes = bytes }) → new.records.items ≡ old.records.items ++ cond b (bytes ∷ []) []
    → new.last ≡ cond (count == 0) old.last (first + count - 1) → new.end ≡ end → Picks s upto old new bytes end
picks s upto old new bytes end first count records b is count_is may asked added last end_is = record {
  kept = may_be_kept old.last first bytes records is (subst (MayRun old.last first) count_is may);
  records = adds_since s upto first count bytes records old.records.items new.records.items b is count_is asked added;
  last = last ∙ ap (λ (n : ℕ). cond (n == 0) old.last (first + n - 1)) count_is;
  end_is = end_is;
}

-- Whether a run goes past `upto`.
abbrev pub goes_past : ℕ → ℕ → ℕ → Bool
goes_past first count upto = cond (count == 0) false (nat_lt upto (first + count - 1))

pub run_past : (first count upto : ℕ) → goes_past first count upto ≡ true → (count ≢ 0) × (upto < first + count - 1)
run_past first count upto e = by_test (count == 0) refl e
  where
    by_test : (b : Bool) → (count == 0) ≡ b → cond b false (nat_lt upto (first + count - 1)) ≡ true → (count ≢ 0) × (upto < first + count - 1)
    by_test true none e = absurd (false≢true e)
    by_test false none e = ((λ no. false≢true (sym none ∙ ap (λ (n : ℕ). n == 0) no)), (let less = ltb-true upto (first + count - 1) e in omega (arith, less)))

pub run_within : (first count upto : ℕ) → goes_past first count upto ≡ false → count ≢ 0 → first + count - 1 ≤ upto
run_within first count upto e some = by_test (count == 0) refl e
  where
    by_test : (b : Bool) → (count == 0) ≡ b → cond b false (nat_lt upto (first + count - 1)) ≡ false → first + count - 1 ≤ upto
    by_test true none e = absurd (some (eqb-true count 0 none))
    by_test false none e = let least = ltb-false upto (first + count - 1) e in omega (arith, least)

-- The code picks this record, if it is asked for, and it doesn't go past `upto`.
pub picks_within : (s upto : ℕ) (old new : Picked) (bytes : List ℕ) (end first count : ℕ) (records : List Record) (b : Bool) → IsBatch bytes first records → count ≡ count_of records → MayRun old.last first count → goes_past first count upto ≡ false
    → b ≡ is_since s upto (record { first = first; count = count; bytes = bytes }) → new.records.items ≡ old.records.items ++ cond b (bytes ∷ []) []
    → new.last ≡ cond (count == 0) old.last (first + count - 1) → new.end ≡ end → PicksWithin s upto old new bytes end
unfolding picks
picks_within s upto old new bytes end first count records b is count_is may short asked added last end_is = record {
  picks = picks s upto old new bytes end first count records b is count_is may asked added last end_is;
  within = subst (λ n. n ≢ 0 → first + n - 1 ≤ upto) count_is (run_within first count upto short);
}

-- The record is one that would be kept, but it goes past `upto`.
pub record_past : (upto last first count : ℕ) (bytes : List ℕ) (records : List Record) → IsBatch bytes first records → count ≡ count_of records → MayRun last first count → goes_past first count upto ≡ true → IsPast upto last bytes
record_past upto last first count bytes records is count_is may goes = record {
  kept = may_be_kept last first bytes records is (subst (MayRun last first) count_is may);
  past = subst (λ n. (n ≢ 0) × (upto < first + n - 1)) count_is (run_past first count upto goes);
}
