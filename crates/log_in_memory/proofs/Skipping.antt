-- Records that are skipped.
use Rattle.std.proofs.Common.{◌≡◌, ◌≢◌, ℕ, ◌+◌, ◌-◌, ◌<◌, ◌≤◌, ◌^◌, true, List, Option, Some, None, IfSome, Result, Ok, Err, refl, sym, ◌∙◌, ap, subst, arith}
use Rattle.std.proofs.lemmas.Bool.{false≢true}
use Rattle.model_base.specs.declared.batch.BatchError.{BatchError}
use Rattle.model_base.specs.Batch.{Record, count_of, IsBatch}
use Rattle.log_batch.specs.Contents.{Contents}
use Rattle.log_reader.specs.declared.reader.Next.{Next}
use Rattle.log_reader.specs.declared.reader.Next.TheVariants as next
use Rattle.log_reader.specs.Reader.{Reader}
use Rattle.log_in_memory.specs.Faults.{IsNoRecord}
use Rattle.log_in_memory.specs.Readings.{ReadsOn, IsSkipped, ReadsSince, skips, is_record}

-- one more record is read, and skipped
pub read_one : (file : List ℕ) (since : ℕ) (old mid new : Reader) (one answer : Next) → ReadsOn file old mid one → is_record one ≡ true → IsSkipped since mid.in_hand → ReadsSince file since mid new answer → ReadsSince file since old new answer
read_one file since old mid new (next.Record start end) answer reads is skipped later = skips reads skipped later
read_one file since old mid new (next.End at why) answer reads is skipped later = absurd (false≢true is)
read_one file since old mid new (next.Fault count) answer reads is skipped later = absurd (false≢true is)
read_one file since old mid new next.NoMemory answer reads is skipped later = absurd (false≢true is)

-- and it goes forward
pub goes_forward : (file : List ℕ) (old new : Reader) (answer : Next) → ReadsOn file old new answer → is_record answer ≡ true → IsNoRecord old.stopped → 2 ^ 63 - new.place < 2 ^ 63 - old.place
goes_forward file old new (next.End at why) reads is stops = absurd (false≢true is)
goes_forward file old new (next.Fault count) reads is stops = absurd (false≢true is)
goes_forward file old new next.NoMemory reads is stops = absurd (false≢true is)
goes_forward file old new (next.Record start end) reads is stops = by_stopped old.stopped refl
  where
    by_stopped : (stopped : Option Next) → old.stopped ≡ stopped → 2 ^ 63 - new.place < 2 ^ 63 - old.place
    by_stopped None none =
        let goes = reads.goes none in
        let place = goes.place in
        let forward = goes.forward in
        omega (arith, place, forward.0, forward.1)
    by_stopped (Some told) some =
        let again : (next.Record start end ≡ told) × (new ≡ old) = subst (λ (o : Option Next). IfSome o (λ t. (next.Record start end ≡ t) × (new ≡ old))) some reads.again in
        absurd (stops start end (some ∙ sym (ap (λ (t : Next). Some t) again.0)))

-- what the code finds of the bytes
pub skipped_read : (since : ℕ) (bytes : List ℕ) (view : Contents) (first count : ℕ) → IsBatch bytes view.sequence view.records → first ≡ view.sequence → count ≡ count_of view.records → (count ≢ 0 → first + count ≤ since) → IsSkipped since bytes
skipped_read since bytes view first count is first_is count_is ends = record {
  first = view.sequence;
  records = view.records;
  is = is;
  ends = subst (λ f. count_of view.records ≢ 0 → f + count_of view.records ≤ since) first_is (subst (λ n. n ≢ 0 → first + n ≤ since) count_is ends);
}

pub not_skipped_read : (since : ℕ) (bytes : List ℕ) (view : Contents) (first count : ℕ) (r : Result Contents BatchError) → r ≡ Ok view
    → ((sequence : ℕ) (records : List Record) → IsBatch bytes sequence records → r ≡ Ok (record { sequence = sequence; records = records })) → first ≡ view.sequence → count ≡ count_of view.records → (count ≢ 0) × (since < first + count) → IsSkipped since bytes → ⊥
not_skipped_read since bytes view first count r r_is reads first_is count_is later skipped =
    let read : r ≡ Ok (record { sequence = skipped.first; records = skipped.records }) = reads skipped.first skipped.records skipped.is in
    let one : view ≡ record { sequence = skipped.first; records = skipped.records } = cc in
    let count_there : count ≡ count_of skipped.records = count_is ∙ ap (λ (v : Contents). count_of v.records) one in
    let first_there : first ≡ skipped.first = first_is ∙ ap (λ (v : Contents). v.sequence) one in
    let ends = skipped.ends (subst (λ n. n ≢ 0) count_there later.0) in
    let over = later.1 in
    omega (arith, over, ends, count_there, first_there)

pub none_skipped : (since : ℕ) (bytes : List ℕ) (error : BatchError) (r : Result Contents BatchError) → r ≡ Err error
    → ((sequence : ℕ) (records : List Record) → IsBatch bytes sequence records → r ≡ Ok (record { sequence = sequence; records = records })) → IsSkipped since bytes → ⊥
none_skipped since bytes error r r_is reads skipped =
    let read : r ≡ Ok (record { sequence = skipped.first; records = skipped.records }) = reads skipped.first skipped.records skipped.is in cc
