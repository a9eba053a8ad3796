-- What reads of the log gave stays right while groups are logged.
use Rattle.std.proofs.Common.{◌≡◌, ◌⊎◌, inl, inr, ℕ, zero, suc, ◌+◌, ◌<◌, ◌≤◌, ◌==◌, ◌&&◌, not, nat_le, Bool, true, false, List, [], ◌∷◌, ◌++◌, map, filter, Option, None, Some, refl, ap, sym, ◌∙◌, arith, append_assoc, append-nil}
use Rattle.std.proofs.lemmas.Bool.{leb-true}
use Rattle.std.proofs.lemmas.List.Elements.{filter-append}
use Rattle.model_base.specs.LogContents.{GroupCall}
use Rattle.model_base.specs.Recovery.{Logged}
use Rattle.model_base.specs.Since.{LogRead, LogRecord, record_of_batch, is_since}
use Rattle.model_base.specs.Since as log
use Rattle.engine_rule.specs.Reading.{IsRight, AreRight, record_by, records_by, if_worked}

-- a later record isn't given
some_of : (k : ℕ) → (k == 0) ≡ false → 0 < k
some_of zero e = absurd (cc)
some_of (suc k) e = omega arith

pub none_since : (n at : ℕ) (r : LogRecord) → at < r.first → is_since n at r ≡ false
none_since n at r later = by (r.count == 0) refl (nat_le n (log.last_of r)) (nat_le (log.last_of r) at) refl
  where
    by : (a : Bool) → (r.count == 0) ≡ a → (b c : Bool) → nat_le (log.last_of r) at ≡ c → (not a && b && c) ≡ false
    by true none b c up = refl
    by false some false c up = refl
    by false some true false up = refl
    by false some true true up = absurd (let last = leb-true (log.last_of r) at up in let counts = some_of r.count some in omega (arith, last, counts, later))

-- one more call adds its record, or none
abbrev pub AddsTo : GroupCall → List LogRecord → List LogRecord → Type 0
AddsTo c old new = (new ≡ old) ⊎ (new ≡ old ++ record_by c ∷ [])

pub records_more : (calls : List GroupCall) (c : GroupCall) → AddsTo c (records_by calls) (records_by (calls ++ c ∷ []))
records_more [] c = by c.failed
  where
    by : (f : Option ℕ) → AddsTo c [] (if_worked f (record_by c ∷ []))
    by None = inr refl
    by (Some count) = inl refl
records_more (d ∷ calls) c = by d.failed (records_more calls c)
  where
    by : (f : Option ℕ) → AddsTo c (records_by calls) (records_by (calls ++ c ∷ [])) → AddsTo c (if_worked f (record_by d ∷ records_by calls)) (if_worked f (record_by d ∷ records_by (calls ++ c ∷ [])))
    by None (inl same) = inl (ap (λ rs. record_by d ∷ rs) same)
    by None (inr more) = inr (ap (λ rs. record_by d ∷ rs) more)
    by (Some count) more = inl refl

-- a call that failed adds none
pub records_failed : (calls : List GroupCall) (c : GroupCall) (count : ℕ) → c.failed ≡ Some count → records_by (calls ++ c ∷ []) ≡ records_by calls
records_failed [] c count is = ap (λ f. if_worked f (record_by c ∷ [])) is
records_failed (d ∷ calls) c count is = ap (λ rs. if_worked d.failed (record_by d ∷ rs)) (records_failed calls c count is)

-- a read gives the same of the records with a later one behind them
since_more : (n at : ℕ) (rs : List LogRecord) (r : LogRecord) → at < r.first → log.since n at (rs ++ r ∷ []) ≡ log.since n at rs
since_more n at rs r later =
    ap (map (λ (x : LogRecord). x.bytes)) (filter-append (is_since n at) rs (r ∷ []) ∙ rw (none_since n at r later) (append-nil (filter (is_since n at) rs)))

module _ (kept : List Logged → Type 0) where
  pub right_more : (last end : ℕ) (calls more : List GroupCall) → last ≤ end → ((c : GroupCall) × (more ≡ calls ++ c ∷ []) × (c.first ≡ last + 1)) ⊎ (more ≡ calls) → (r : LogRead) → IsRight kept last calls r → IsRight kept end more r
  right_more last end calls more rises (inr same) r is = record { low = omega (arith, is.low, rises); answer = λ batches was. is.answer batches was ∙ ap (λ cs. log.since r.since r.at (map record_of_batch batches ++ records_by cs)) (sym same) }
  right_more last end calls more rises (inl (c, one, first)) r is = record {
    low = omega (arith, is.low, rises);
    answer = λ batches was. is.answer batches was ∙ (by batches (records_more calls c) ∙ ap (λ cs. log.since r.since r.at (map record_of_batch batches ++ records_by cs)) (sym one));
  }
    where
      later : r.at < (record_by c).first
      later = omega (arith, is.low, first)

      by : (batches : List Logged) → AddsTo c (records_by calls) (records_by (calls ++ c ∷ []))
          → log.since r.since r.at (map record_of_batch batches ++ records_by calls) ≡ log.since r.since r.at (map record_of_batch batches ++ records_by (calls ++ c ∷ []))
      by batches (inl same) = ap (λ rs. log.since r.since r.at (map record_of_batch batches ++ rs)) (sym same)
      by batches (inr added) = sym (since_more r.since r.at (map record_of_batch batches ++ records_by calls) (record_by c) later)
          ∙ ap (log.since r.since r.at) (append_assoc (map record_of_batch batches) (records_by calls) (record_by c ∷ []) ∙ ap (λ rs. map record_of_batch batches ++ rs) (sym added))

  pub right_after_fault : (last count : ℕ) (calls : List GroupCall) (c : GroupCall) → c.failed ≡ Some count → (r : LogRead) → IsRight kept last calls r → IsRight kept last (calls ++ c ∷ []) r
  right_after_fault last count calls c failed r is = record {
    low = is.low;
    answer = λ batches was. is.answer batches was ∙ ap (λ rs. log.since r.since r.at (map record_of_batch batches ++ rs)) (sym (records_failed calls c count failed));
  }

  pub all_right : (last end : ℕ) (calls more : List GroupCall) (reads : List LogRead) → ((r : LogRead) → IsRight kept last calls r → IsRight kept end more r) → AreRight kept last calls reads → AreRight kept end more reads
  all_right last end calls more [] on a = tt
  all_right last end calls more (r ∷ reads) on a = (on r a.0, all_right last end calls more reads on a.1)
