-- Recovery of a file has at most one result.
use Rattle.std.proofs.Common.{◌≡◌, ◌⊎◌, inl, inr, ℕ, ◌<◌, ◌≤◌, List, take, map, Option, refl, sym, ◌∙◌, ap, subst, arith}
use Rattle.model_base.specs.declared.batch.BatchError.{BatchError}
use Rattle.model_base.specs.declared.batch.BatchError.TheVariants.{Short, BadVarint, Tag, Count}
use Rattle.model_base.specs.declared.log.EndReason.{EndReason}
use Rattle.model_base.specs.declared.log.EndReason.TheVariants as ends
use Rattle.model_base.specs.Batch.{Record, count_of, IsBatch, IsBatchError}
use Rattle.model_base.specs.Log.{Fragment, record_of, SpellsWhole}
use Rattle.model_base.specs.Recovery.{Logged, logged_bytes, last_sequence, RecordEnds, short, bad_varint, tag, count, order, high, RecoveryEnds, reading, record_read, Recovered, IsRecovered}
use Rattle.log_batch.proofs.OneAnswer.{one_batch, one_batch_error, no_batch_error}
use Rattle.log_laws.proofs.Synced.{spells_one}
use Rattle.log_recovery_laws.proofs.OneReading.{one_record, one_end, no_end}
use Rattle.log_recovery_laws.proofs.Kept.{same_logged}

-- the reason for which recovery ends, where a record's bytes are no batch
reason_of : BatchError → EndReason
reason_of Short = ends.Short
reason_of BadVarint = ends.BadVarint
reason_of (Tag t) = ends.Tag t
reason_of (Count said found) = ends.Count said found

-- a batch that may not follow: its run begins too low, or, below, passes the greatest sequence
record TooLow (last : ℕ) (bytes : List ℕ) (why : EndReason) : Type 0 where
  first : ℕ
  records : List Record
  is : IsBatch bytes first records
  low : first ≤ last
  reason : why ≡ ends.Order first last

record TooHigh (last : ℕ) (bytes : List ℕ) (why : EndReason) : Type 0 where
  first : ℕ
  records : List Record
  is : IsBatch bytes first records
  above : last < first
  reason : why ≡ ends.High first (count_of records)

record NoBatch (bytes : List ℕ) (why : EndReason) : Type 0 where
  error : BatchError
  is : IsBatchError bytes error
  reason : why ≡ reason_of error

abbrev Refused : ℕ → List ℕ → EndReason → Type 0
Refused last bytes why = NoBatch bytes why ⊎ (TooLow last bytes why ⊎ TooHigh last bytes why)

record_refused : (last : ℕ) (bytes : List ℕ) (why : EndReason) → RecordEnds last bytes why → Refused last bytes why
unfolding reason_of
record_refused last bytes why (short is) = inl (record { error = Short; is = is; reason = refl })
record_refused last bytes why (bad_varint is) = inl (record { error = BadVarint; is = is; reason = refl })
record_refused last bytes why (tag {t = t} is) = inl (record { error = Tag t; is = is; reason = refl })
record_refused last bytes why (count {said = said} {found = found} is) = inl (record { error = Count said found; is = is; reason = refl })
record_refused last bytes why (order {first = first} records is some low) = inr (inl (record { first = first; records = records; is = is; low = low; reason = refl }))
record_refused last bytes why (high {first = first} records is counted some above past) = inr (inr (record { first = first; records = records; is = is; above = above; reason = ap (ends.High first) counted }))

one_refusal : (last : ℕ) (bytes : List ℕ) (why other : EndReason) → Refused last bytes why → Refused last bytes other → why ≡ other
one_refusal last bytes why other (inl a) (inl b) = a.reason ∙ (ap reason_of (one_batch_error bytes a.error b.error a.is b.is) ∙ sym b.reason)
one_refusal last bytes why other (inl a) (inr (inl b)) = absurd (no_batch_error bytes b.first b.records a.error b.is a.is)
one_refusal last bytes why other (inl a) (inr (inr b)) = absurd (no_batch_error bytes b.first b.records a.error b.is a.is)
one_refusal last bytes why other (inr (inl a)) (inl b) = absurd (no_batch_error bytes a.first a.records b.error a.is b.is)
one_refusal last bytes why other (inr (inl a)) (inr (inl b)) =
    let same = one_batch bytes a.first b.first a.records b.records a.is b.is in a.reason ∙ (ap (λ (n : ℕ). ends.Order n last) same.0 ∙ sym b.reason)
one_refusal last bytes why other (inr (inl a)) (inr (inr b)) =
    let same = one_batch bytes a.first b.first a.records b.records a.is b.is in absurd (omega (arith, same.0, a.low, b.above))
one_refusal last bytes why other (inr (inr a)) (inl b) = absurd (no_batch_error bytes a.first a.records b.error a.is b.is)
one_refusal last bytes why other (inr (inr a)) (inr (inl b)) =
    let same = one_batch bytes a.first b.first a.records b.records a.is b.is in absurd (omega (arith, same.0, b.low, a.above))
one_refusal last bytes why other (inr (inr a)) (inr (inr b)) =
    let same = one_batch bytes a.first b.first a.records b.records a.is b.is in
    a.reason ∙ (ap (λ (n : ℕ). ends.High n (count_of a.records)) same.0 ∙ (ap (λ (rs : List Record). ends.High b.first (count_of rs)) same.1 ∙ sym b.reason))

one_recovery_end : (number : Option ℕ) (file : List ℕ) (kept last at other : ℕ) (why reason : EndReason) → RecoveryEnds number file kept last at why → RecoveryEnds number file kept last other reason → (at ≡ other) × (why ≡ reason)
one_recovery_end number file kept last at other why reason (reading a) (reading b) = one_end number file kept at other why reason a b
one_recovery_end number file kept last at other why reason (reading a) (record_read fs one stands b) = absurd (no_end number file kept at why fs one stands a)
one_recovery_end number file kept last at other why reason (record_read fs one stands a) (reading b) = absurd (no_end number file kept other reason fs one stands b)
one_recovery_end number file kept last at other why reason (record_read fs one stands a) (record_read gs one_g stands_g b) =
    let same = one_record number file kept fs gs one one_g stands stands_g in
    (refl, one_refusal last (record_of fs) why reason (record_refused last (record_of fs) why a) (record_refused last (record_of fs) reason (subst (λ (l : List Fragment). RecordEnds last (record_of l) reason) (sym same) b)))

pub recovers_one : (number : Option ℕ) (file : List ℕ) (r q : Recovered) → IsRecovered number file r → IsRecovered number file q → r ≡ q
recovers_one number file r q x y =
    let kept : r.kept ≡ q.kept = omega (arith, x.most q.kept q.batches y.keeps, y.most r.kept r.batches x.keeps) in
    let records : map logged_bytes r.batches ≡ map logged_bytes q.batches =
    spells_one number (take r.kept file) (map logged_bytes r.batches) (map logged_bytes q.batches) x.keeps.spelled (subst (λ n. SpellsWhole number (take n file) (map logged_bytes q.batches)) (sym kept) y.keeps.spelled) in
    let batches : r.batches ≡ q.batches = same_logged r.batches q.batches x.keeps.are_batches y.keeps.are_batches records in
    let end = subst (λ n. RecoveryEnds number file n (last_sequence 0 r.batches) q.at q.why) (sym kept) (subst (λ (bs : List Logged). RecoveryEnds number file q.kept (last_sequence 0 bs) q.at q.why) (sym batches) y.ends) in
    let ends = one_recovery_end number file r.kept (last_sequence 0 r.batches) r.at q.at r.why q.why x.ends end in
    λ i. record { batches = batches i; kept = kept i; at = ends.0 i; why = ends.1 i }
