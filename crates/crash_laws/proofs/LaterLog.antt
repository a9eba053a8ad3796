-- Recovery of a log whose runs must rise above any sequence has a result, and only one. The steps are those of
-- `log_recovery_laws`, where the runs of a single log rise above 0.
use Rattle.std.proofs.Common.{◌≡◌, ◌≢◌, ◌⊎◌, inl, inr, ⊎_elim, ℕ, zero, suc, ◌+◌, ◌-◌, ◌<◌, Bool, cond, nat_lt, ◌==◌, List, [], ◌∷◌, ◌++◌, length, map, take, replicate, Option, refl, sym, ◌∙◌, ap, subst, arith}
use Rattle.std.proofs.lemmas.Bool.{eqb-true, eqb-false, lt-ltb, le-ltb, cases_lt}
use Rattle.model_base.specs.declared.batch.BatchError.{BatchError}
use Rattle.model_base.specs.declared.batch.BatchError.TheVariants.{Short, BadVarint, Tag, Count}
use Rattle.model_base.specs.declared.log.EndReason.{EndReason}
use Rattle.model_base.specs.declared.log.EndReason.TheVariants as ends
use Rattle.model_base.specs.Batch.{Record, count_of, IsBatch, IsBatchError}
use Rattle.model_base.specs.History.{max_sequence}
use Rattle.model_base.specs.Log.{header, Fragment, fragment_bytes, kind_code, trailer, fragments_text, record_of, SpellsWhole}
use Rattle.model_base.specs.Reading.{end_of, HasFragments, IsRecord}
use Rattle.model_base.specs.Recovery.{Logged, logged_bytes, last_sequence, RecordEnds, short, bad_varint, tag, count, order, high, RecoveryEnds, reading, record_read, Recovered}
use Rattle.model_base.specs.RecoveredLogs.{KeepsAfter, IsRecoveredAfter}
use Rattle.log_batch.proofs.OneAnswer.{one_batch, one_batch_error, no_batch_error}
use Rattle.log_laws.proofs.Next.{cases_bool}
use Rattle.log_laws.proofs.Placed.{behind}
use Rattle.log_laws.proofs.Synced.{spells_one}
use Rattle.log_recovery_laws.specs.Reads.{AreBytes, found, ended}
use Rattle.log_recovery_laws.proofs.Bytes.{bytes_front, bytes_back, bytes_joined, bytes_drop}
use Rattle.log_recovery_laws.proofs.Reading.{Result, reads_some, record_long}
use Rattle.log_recovery_laws.proofs.OneReading.{one_record, one_end, no_end}
use Rattle.log_recovery_laws.proofs.Batches.{batch_or_error}
use Rattle.log_recovery_laws.proofs.Kept.{same_logged}
use Rattle.log_recovery.specs.Keeping.{MayBeKept, Refuses}
use Rattle.log_recovery.proofs.MoreKept.{keeps_none, keeps_more}
use Rattle.log_recovery.proofs.Keeping.{refuses_run, may_be_kept}
use Rattle.log_recovery.proofs.Ending.{recovered_unread, recovered_unkept}

-- the reason for which recovery ends at a record that is no batch, and at one whose run may not follow
reason_of : BatchError → EndReason
reason_of Short = ends.Short
reason_of BadVarint = ends.BadVarint
reason_of (Tag t) = ends.Tag t
reason_of (Count said n) = ends.Count said n

abbrev run_reason : ℕ → ℕ → ℕ → EndReason
run_reason last first n = cond (nat_lt last first) (ends.High first n) (ends.Order first last)

-- There is at most one result.

-- the reason, computed from what the record's bytes are
abbrev Told : ℕ → List ℕ → EndReason → Type 0
Told last bytes why = ((e : BatchError) × IsBatchError bytes e × (why ≡ reason_of e)) ⊎ ((first : ℕ) × (records : List Record) × IsBatch bytes first records × (why ≡ run_reason last first (count_of records)))

told : (last : ℕ) (bytes : List ℕ) (why : EndReason) → RecordEnds last bytes why → Told last bytes why
unfolding reason_of
told last bytes why (short is) = inl (Short, is, refl)
told last bytes why (bad_varint is) = inl (BadVarint, is, refl)
told last bytes why (tag {t = t} is) = inl (Tag t, is, refl)
told last bytes why (count {said = said} {found = n} is) = inl (Count said n, is, refl)
told last bytes why (order {first = first} records is some low) =
    inr (first, records, is, sym (ap (λ (b : Bool). cond b (ends.High first (count_of records)) (ends.Order first last)) (le-ltb last first low)))
told last bytes why (high {first = first} records is counted some above past) =
    inr (first, records, is, ap (ends.High first) counted ∙ sym (ap (λ (b : Bool). cond b (ends.High first (count_of records)) (ends.Order first last)) (lt-ltb last first above)))

one_told : (last : ℕ) (bytes : List ℕ) (why other : EndReason) → Told last bytes why → Told last bytes other → why ≡ other
one_told last bytes why other (inl a) (inl b) = a.2 ∙ (ap reason_of (one_batch_error bytes a.0 b.0 a.1 b.1) ∙ sym b.2)
one_told last bytes why other (inl a) (inr b) = absurd (no_batch_error bytes b.0 b.1 a.0 b.2 a.1)
one_told last bytes why other (inr a) (inl b) = absurd (no_batch_error bytes a.0 a.1 b.0 a.2 b.1)
one_told last bytes why other (inr a) (inr b) =
    let same = one_batch bytes a.0 b.0 a.1 b.1 a.2 b.2 in
    a.3 ∙ (ap (λ (n : ℕ). run_reason last n (count_of a.1)) same.0 ∙ (ap (λ (rs : List Record). run_reason last b.0 (count_of rs)) same.1 ∙ sym b.3))

one_end_of : (number : Option ℕ) (file : List ℕ) (kept last at other : ℕ) (why reason : EndReason) → RecoveryEnds number file kept last at why → RecoveryEnds number file kept last other reason → (at ≡ other) × (why ≡ reason)
one_end_of number file kept last at other why reason (reading a) (reading b) = one_end number file kept at other why reason a b
one_end_of number file kept last at other why reason (reading a) (record_read fs one stands b) = absurd (no_end number file kept at why fs one stands a)
one_end_of number file kept last at other why reason (record_read fs one stands a) (reading b) = absurd (no_end number file kept other reason fs one stands b)
one_end_of number file kept last at other why reason (record_read fs one stands a) (record_read gs one_g stands_g b) =
    let same : gs ≡ fs = one_record number file kept gs fs one_g one stands_g stands in
    (refl, one_told last (record_of fs) why reason (told last (record_of fs) why a) (told last (record_of fs) reason (subst (λ (l : List Fragment). RecordEnds last (record_of l) reason) same b)))

pub later_one : (last : ℕ) (number : Option ℕ) (file : List ℕ) (r q : Recovered) → IsRecoveredAfter last number file r → IsRecoveredAfter last number file q → r ≡ q
later_one last number file r q x y =
    let kept : r.kept ≡ q.kept = omega (arith, x.most q.kept q.batches y.keeps, y.most r.kept r.batches x.keeps) in
    let records : map logged_bytes r.batches ≡ map logged_bytes q.batches =
    spells_one number (take r.kept file) (map logged_bytes r.batches) (map logged_bytes q.batches) x.keeps.spelled (subst (λ n. SpellsWhole number (take n file) (map logged_bytes q.batches)) (sym kept) y.keeps.spelled) in
    let batches : r.batches ≡ q.batches = same_logged r.batches q.batches x.keeps.are_batches y.keeps.are_batches records in
    let end = subst (λ n. RecoveryEnds number file n (last_sequence last r.batches) q.at q.why) (sym kept) (subst (λ (bs : List Logged). RecoveryEnds number file q.kept (last_sequence last bs) q.at q.why) (sym batches) y.ends) in
    let ends = one_end_of number file r.kept (last_sequence last r.batches) r.at q.at r.why q.why x.ends end in
    λ i. record { batches = batches i; kept = kept i; at = ends.0 i; why = ends.1 i }

-- There is a result.

-- a record's bytes may be kept, or recovery ends at them
abbrev KeptOrNot : ℕ → List ℕ → Type 0
KeptOrNot last bytes = MayBeKept last bytes ⊎ ((why : EndReason) × Refuses last bytes why)

no_batch_ends : (last : ℕ) (bytes : List ℕ) (e : BatchError) → IsBatchError bytes e → RecordEnds last bytes (reason_of e)
unfolding reason_of
no_batch_ends last bytes Short is = short is
no_batch_ends last bytes BadVarint is = bad_varint is
no_batch_ends last bytes (Tag t) is = tag is
no_batch_ends last bytes (Count said n) is = count is

batch_or_not : (last : ℕ) (bytes : List ℕ) (first : ℕ) (records : List Record) → IsBatch bytes first records → KeptOrNot last bytes
batch_or_not last bytes first records is = cases_bool (count_of records == 0)
    (λ none. inl (may_be_kept last first bytes records is (λ some. absurd (some (eqb-true (count_of records) 0 none)))))
    (λ counted.
    let some : count_of records ≢ 0 = λ e. eqb-false (count_of records) 0 counted e in
    ⊎_elim
    (λ above. ⊎_elim
    (λ past. inr (ends.High first (count_of records), refuses_run last first bytes records (ends.High first (count_of records)) is (refl, refl, some, above, past)))
    (λ fits. inl (may_be_kept last first bytes records is (λ n. (above, fits))))
    (cases_lt max_sequence (first + count_of records - 1)))
    (λ low. inr (ends.Order first last, refuses_run last first bytes records (ends.Order first last) is (refl, refl, some, low)))
    (cases_lt last first))

kept_or_not : (last : ℕ) (bytes : List ℕ) → AreBytes bytes → KeptOrNot last bytes
kept_or_not last bytes are = ⊎_elim (λ b. batch_or_not last bytes b.0 b.1 b.2)
    (λ e. inr (reason_of e.0, record { ends = no_batch_ends last bytes e.0 e.1; not_kept = λ m. no_batch_error bytes m.batch.first m.batch.records e.0 (subst (λ (l : List ℕ). IsBatch l m.batch.first m.batch.records) m.same m.is) e.1 }))
    (batch_or_error bytes are)

-- if the fragments' text is bytes, their joined parts are bytes
parts_bytes : (number : Option ℕ) (offset : ℕ) (fs : List Fragment) → AreBytes (fragments_text number offset fs) → AreBytes (record_of fs)
parts_bytes number offset [] are = tt
parts_bytes number offset (f ∷ fs) are =
    let zeros : List ℕ = replicate (trailer number offset) 0 in
    let later : List ℕ = fragments_text number (behind number offset f) fs in
    let first : AreBytes (fragment_bytes number f) = bytes_back zeros (fragment_bytes number f) (bytes_front (zeros ++ fragment_bytes number f) later are) in
    bytes_joined f.part (record_of fs) (bytes_back (header number (kind_code number f.kind) f.part) f.part first) (parts_bytes number (behind number offset f) fs (bytes_back (zeros ++ fragment_bytes number f) later are))

record_bytes : (number : Option ℕ) (file : List ℕ) (offset : ℕ) (fs : List Fragment) → AreBytes file → HasFragments number file offset fs → AreBytes (record_of fs)
record_bytes number file offset fs are s = parts_bytes number offset fs (bytes_front (fragments_text number offset fs) s.rest (subst AreBytes s.there (bytes_drop offset file are)))

module _ (last : ℕ) (number : Option ℕ) (file : List ℕ) (are : AreBytes file) where
  abbrev Found : Type 0
  Found = (r : Recovered) × IsRecoveredAfter last number file r

  -- The next record is kept, and recovery goes on; or it isn't, or there is none.
  step : (kept : ℕ) (bs : List Logged) → KeepsAfter last number file kept bs → ((further : ℕ) (more : List Logged) → KeepsAfter last number file further more → kept < further → Found) → Found
  step kept bs keeps go_on = by_answer (reads_some number file kept are)
    where
      by_record : (start end : ℕ) (bytes : List ℕ) → IsRecord number file kept start end bytes → Found
      by_record start end bytes is = ⊎_elim
          (λ (m : MayBeKept (last_sequence last bs) (record_of is.fragments)).
          go_on (end_of number kept is.fragments) (bs ++ m.batch ∷ []) (keeps_more last number file kept bs m.batch is.fragments keeps is.one is.stand (sym m.same) m.is m.may) (record_long number kept is.fragments is.one))
          (λ no. (_, recovered_unkept last number file kept no.0 bs is.fragments keeps is.one is.stand no.1.ends no.1.not_kept))
          (kept_or_not (last_sequence last bs) (record_of is.fragments) (record_bytes number file kept is.fragments are is.stand))

      by_answer : Result number file kept → Found
      by_answer (found start end bytes, is) = by_record start end bytes is
      by_answer (ended at why, is) = (_, recovered_unread last number file kept at why bs keeps is)

  from : (fuel kept : ℕ) (bs : List Logged) → KeepsAfter last number file kept bs → length file < fuel + kept → Found
  from zero kept bs keeps enough = absurd (omega (arith, enough, keeps.within))
  from (suc fuel) kept bs keeps enough = step kept bs keeps (λ further more keeps_more less. from fuel further more keeps_more (omega (arith, enough, less)))

  pub later_some : Found
  later_some = from (suc (length file)) 0 [] (keeps_none last number file) (omega arith)
