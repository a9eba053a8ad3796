-- Recovery of any file has a result.
use Rattle.std.proofs.Common.{⊎_elim, ℕ, zero, suc, ◌+◌, ◌-◌, ◌<◌, ◌≤◌, ◌≢◌, List, [], ◌∷◌, ◌++◌, length, replicate, Option, nat_lt, nat_le, ◌==◌, refl, subst, arith}
use Rattle.std.proofs.lemmas.Bool.{ltb-true, ltb-false, leb-true, leb-false, eqb-true, eqb-false}
use Rattle.model_base.specs.declared.batch.BatchError.{BatchError}
use Rattle.model_base.specs.declared.batch.BatchError.TheVariants.{Short, BadVarint, Tag, Count}
use Rattle.model_base.specs.declared.log.EndReason.{EndReason}
use Rattle.model_base.specs.declared.log.EndReason.TheVariants as ends
use Rattle.model_base.specs.Batch.{Record, count_of, IsBatch, IsBatchError}
use Rattle.model_base.specs.History.{max_sequence}
use Rattle.model_base.specs.Log.{header, Fragment, fragment_bytes, kind_code, trailer, fragments_text, AreOneRecord, kinds_of, record_of, next_place}
use Rattle.model_base.specs.Reading.{end_of, HasFragments, ReadingEnds, IsRecord}
use Rattle.model_base.specs.Recovery.{Logged, MayFollow, last_sequence, Keeps, RecordEnds, short, bad_varint, tag, count, order, high, reading, record_read, Recovered, IsRecovered}
use Rattle.log_batch.proofs.OneAnswer.{one_batch, no_batch_error}
use Rattle.log_laws.proofs.Next.{cases_bool}
use Rattle.log_laws.proofs.Placed.{behind}
use Rattle.log_recovery_laws.specs.Reads.{AreBytes, found, ended}
use Rattle.log_recovery_laws.proofs.Bytes.{bytes_front, bytes_back, bytes_joined, bytes_drop}
use Rattle.log_recovery_laws.proofs.Reading.{Result, reads_some, record_long}
use Rattle.log_recovery_laws.proofs.OneReading.{one_record, no_end}
use Rattle.log_recovery_laws.proofs.Batches.{batch_or_error}
use Rattle.log_recovery_laws.proofs.Kept.{MayBeKept, no_more_kept, keeps_none, keeps_more}

-- if the fragments' text is bytes, their joined parts are bytes
placed_bytes : (number : Option ℕ) (offset : ℕ) (fs : List Fragment) → AreBytes (fragments_text number offset fs) → AreBytes (record_of fs)
placed_bytes number offset [] are = tt
placed_bytes number offset (f ∷ fs) are =
    let first : AreBytes (replicate (trailer number offset) 0 ++ fragment_bytes number f) = bytes_front (replicate (trailer number offset) 0 ++ fragment_bytes number f) (fragments_text number (behind number offset f) fs) are in
    let part : AreBytes f.part = bytes_back (header number (kind_code number f.kind) f.part) f.part (bytes_back (replicate (trailer number offset) 0) (fragment_bytes number f) first) in
    let later : AreBytes (fragments_text number (behind number offset f) fs) = bytes_back (replicate (trailer number offset) 0 ++ fragment_bytes number f) (fragments_text number (behind number offset f) fs) are in
    bytes_joined f.part (record_of fs) part (placed_bytes number (behind number offset f) fs later)

record_bytes_are : (number : Option ℕ) (file : List ℕ) (offset : ℕ) (fs : List Fragment) → AreBytes file → HasFragments number file offset fs → AreBytes (record_of fs)
record_bytes_are number file offset fs are s = placed_bytes number offset fs (bytes_front (fragments_text number offset fs) s.rest (subst AreBytes s.there (bytes_drop offset file are)))

abbrev pub Result-of : Option ℕ → List ℕ → Type 0
Result-of number file = (r : Recovered) × IsRecovered number file r

module _ (number : Option ℕ) (file : List ℕ) (kept : ℕ) (bs : List Logged) (are : AreBytes file) (keeps : Keeps number file kept bs) where
  last : ℕ
  last = last_sequence 0 bs

  -- Where no record is read, no more is kept.
  pub unread : (at : ℕ) (why : EndReason) → ReadingEnds number file kept at why → IsRecovered number file (record { batches = bs; kept = kept; at = at; why = why })
  unread at why end = record {
    keeps = keeps;
    most = no_more_kept number file kept bs keeps (λ next. no_end number file kept at why next.fs next.one next.stands end);
    ends = reading end;
  }

  -- where a record is read that may not be kept, no more is kept either
  unkept : (why : EndReason) (fs : List Fragment) → AreOneRecord (kinds_of fs) → HasFragments number file kept fs → RecordEnds last (record_of fs) why → (MayBeKept last (record_of fs) → ⊥) → Result-of number file
  unfolding last
  unkept why fs one stands end not_kept = (
    record { batches = bs; kept = kept; at = next_place number kept; why = why },
    record {
      keeps = keeps;
      most = no_more_kept number file kept bs keeps (λ next. not_kept (subst (λ (l : List Fragment). MayBeKept last (record_of l)) (one_record number file kept next.fs fs next.one one next.stands stands) next.may));
      ends = record_read fs one stands end;
    },
  )

  reason_of : (bytes : List ℕ) (e : BatchError) → IsBatchError bytes e → (why : EndReason) × RecordEnds last bytes why
  reason_of bytes Short is = (ends.Short, short is)
  reason_of bytes BadVarint is = (ends.BadVarint, bad_varint is)
  reason_of bytes (Tag t) is = (ends.Tag t, tag is)
  reason_of bytes (Count said n) is = (ends.Count said n, count is)

  no_batch : (fs : List Fragment) → AreOneRecord (kinds_of fs) → HasFragments number file kept fs → (e : BatchError) → IsBatchError (record_of fs) e → Result-of number file
  no_batch fs one stands e is =
      let why = reason_of (record_of fs) e is in
      unkept why.0 fs one stands why.1 (λ m. no_batch_error (record_of fs) m.batch.first m.batch.records e (subst (λ (l : List ℕ). IsBatch l m.batch.first m.batch.records) m.same m.is) is)

  -- how recovery continues once more is kept
  GoOn : Type 0
  GoOn = (further : ℕ) (cs : List Logged) → Keeps number file further cs → kept < further → Result-of number file

  -- the record that is read is a batch; its run may follow, or not
  module _ (fs : List Fragment) (one : AreOneRecord (kinds_of fs)) (stands : HasFragments number file kept fs) (first : ℕ) (records : List Record) (is : IsBatch (record_of fs) first records) where
    this : Logged
    this = record { first = first; records = records }

    may_follow : MayBeKept last (record_of fs) → MayFollow last this
    unfolding this
    may_follow m =
        let same = one_batch (record_of fs) m.batch.first first m.batch.records records (subst (λ (l : List ℕ). IsBatch l m.batch.first m.batch.records) m.same m.is) is in
        subst (λ (n : ℕ). MayFollow last (record { first = n; records = records })) same.0 (subst (λ (rs : List Record). MayFollow last (record { first = m.batch.first; records = rs })) same.1 m.may)

    keep : MayFollow last this → GoOn → Result-of number file
    unfolding last this GoOn
    keep may go_on = go_on (end_of number kept fs) (bs ++ this ∷ []) (keeps_more number file kept bs this fs keeps one stands is.spelled (subst (λ (l : List ℕ). IsBatch l first records) is.spelled is) may) (record_long number kept fs one)

    counted : count_of records ≢ 0 → GoOn → Result-of number file
    unfolding this
    counted some go_on = cases_bool (nat_lt last first)
        (λ above. cases_bool (nat_le (first + count_of records - 1) max_sequence)
        (λ low. keep (λ n. (ltb-true last first above, leb-true (first + count_of records - 1) max_sequence low)) go_on)
        (λ passes.
        let past : max_sequence < first + count_of records - 1 = leb-false (first + count_of records - 1) max_sequence passes in
        unkept (ends.High first (count_of records)) fs one stands (high records is refl some (ltb-true last first above) past) (λ m. let may = may_follow m some in omega (arith, may.1, past))))
        (λ below.
        let late : first ≤ last = ltb-false last first below in
        unkept (ends.Order first last) fs one stands (order records is some late) (λ m. let may = may_follow m some in omega (arith, may.0, late)))

    with_batch : GoOn → Result-of number file
    unfolding this
    with_batch go_on = cases_bool (count_of records == 0)
        (λ none. keep (λ some. absurd (some (eqb-true (count_of records) 0 none))) go_on)
        (λ some. counted (λ e. eqb-false (count_of records) 0 some e) go_on)

  step : GoOn → Result-of number file
  step go_on = by_answer (reads_some number file kept are)
    where
      by_record : (start end : ℕ) (bytes : List ℕ) (is : IsRecord number file kept start end bytes) → Result-of number file
      by_record start end bytes is = ⊎_elim
          (λ h. with_batch is.fragments is.one is.stand h.0 h.1 h.2 go_on)
          (λ e. no_batch is.fragments is.one is.stand e.0 e.1)
          (batch_or_error (record_of is.fragments) (record_bytes_are number file kept is.fragments are is.stand))

      by_answer : Result number file kept → Result-of number file
      by_answer (found start end bytes, is) = by_record start end bytes is
      by_answer (ended at why, is) = (record { batches = bs; kept = kept; at = at; why = why }, unread at why is)

recovers_from : (number : Option ℕ) (file : List ℕ) → AreBytes file → (fuel kept : ℕ) (bs : List Logged) → Keeps number file kept bs → length file < fuel + kept → Result-of number file
unfolding GoOn
recovers_from number file are zero kept bs keeps enough = absurd (omega (arith, enough, keeps.within))
recovers_from number file are (suc fuel) kept bs keeps enough = step number file kept bs are keeps (λ further cs more less. recovers_from number file are fuel further cs more (omega (arith, enough, less)))

pub recovers_some : (number : Option ℕ) (file : List ℕ) → AreBytes file → Result-of number file
recovers_some number file are = recovers_from number file are (suc (length file)) 0 [] (keeps_none number file) (omega arith)
