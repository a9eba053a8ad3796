-- The count of a log's disks, call by call and read by read.
use Rattle.std.proofs.Common.{◌≡◌, ◌≢◌, ℕ, ◌-◌, ◌^◌, ◌<◌, ◌≤◌, List, [], ◌∷◌, Option, Some, None, IfSome, refl, sym, ◌∙◌, subst, arith}
use Rattle.std.proofs.lemmas.Option.{same_Some}
use Rattle.std.specs.List.{AllByRecursion}
use Rattle.model_base.specs.Counts.{Rose}
use Rattle.model_base.specs.Outcomes.{AreOwnFaults}
use Rattle.log_writer.specs.CountedFaults.{AreCounted}
use Rattle.log_writer.specs.FaultLaws.{reached_later}
use Rattle.log_writer.specs.GroupLogs.{CameInCall}

own_later : (now later : ℕ) (fault : Option ℕ) (reads : List ℕ) → now ≤ later → AreOwnFaults now fault reads → AreOwnFaults later fault reads
own_later now later fault [] le own = tt
own_later now later fault (n ∷ ns) le own = (omega (arith, own.0, le), own.1, own_later now later fault ns le own.2)

roses_later : (before now later : ℕ) (reads : List ℕ) → now ≤ later → AllByRecursion (λ (n : ℕ). Rose before n × (n ≤ now)) reads → AllByRecursion (λ (n : ℕ). Rose before n × (n ≤ later)) reads
roses_later before now later [] le all = tt
roses_later before now later (n ∷ ns) le all = ((all.0.0, omega (arith, all.0.1, le)), roses_later before now later ns le all.1)

-- a count to which another one rose is none of those before it
differs : (now before count : ℕ) → Rose now count → count < 2 ^ 64 - 1 → before ≤ now → before ≡ count → ⊥
differs now before count rose less le same = omega (arith, rose, less, le, same)

fault_differs : (before now count : ℕ) (fault : Option ℕ) → Rose now count → count < 2 ^ 64 - 1 → IfSome fault (λ n. Rose before n × (n ≤ now)) → fault ≢ Some count
fault_differs before now count None rose less reached = λ e. let wrong : ◌≡◌ {A = Option ℕ} None (Some count) = e in cc
fault_differs before now count (Some n) rose less reached = λ e. differs now n count rose less reached.1 (same_Some n count e)

reads_differ : (before now count : ℕ) (reads : List ℕ) → Rose now count → count < 2 ^ 64 - 1 → AllByRecursion (λ (n : ℕ). Rose before n × (n ≤ now)) reads → AllByRecursion (λ (other : ℕ). other ≢ count) reads
reads_differ before now count [] rose less all = tt
reads_differ before now count (n ∷ ns) rose less all = (λ e. differs now n count rose less all.0.1 e, reads_differ before now count ns rose less all.1)

-- the fault of a later call is none of the counts with which reads were answered
with_fault : (now later n : ℕ) (reads : List ℕ) → Rose now n → now ≤ later → AreOwnFaults now None reads → AreOwnFaults later (Some n) reads
with_fault now later n [] rose le own = tt
with_fault now later n (r ∷ rs) rose le own = (
  omega (arith, own.0, le),
  λ less. (λ e. let same : n ≡ r = same_Some n r e in omega (arith, rose, own.0, less, same), (own.1 less).1),
  with_fault now later n rs rose le own.2,
)

-- At first nothing has failed.
pub none_counted : (n : ℕ) → AreCounted n n None []
none_counted n = record { later = omega arith; rose = tt; reads_rose = tt; own = tt; no_fault = λ none no_reads. refl }

-- A call wrote the log, or failed.
pub call_counted : (before now later : ℕ) (failed : Option ℕ) (reads : List ℕ) → AreCounted before now None reads → CameInCall now later failed → AreCounted before later failed reads
call_counted before now later None reads so_far came = record {
  later = omega (arith, so_far.later, came.later);
  rose = tt;
  reads_rose = roses_later before now later reads came.later so_far.reads_rose;
  own = own_later now later None reads came.later so_far.own;
  no_fault = λ none no_reads. came.no_fault refl ∙ so_far.no_fault refl no_reads;
}
call_counted before now later (Some n) reads so_far came =
    let rose : Rose now n = came.rose.0 in
    record {
      later = omega (arith, so_far.later, came.later);
      rose = (omega (arith, so_far.later, rose), came.rose.1);
      reads_rose = roses_later before now later reads came.later so_far.reads_rose;
      own = with_fault now later n reads rose came.later so_far.own;
      no_fault = λ none no_reads. let wrong : ◌≡◌ {A = Option ℕ} (Some n) None = none in absurd (cc);
    }

-- The log was read, and no read failed.
pub read_counted : (before now later : ℕ) (fault : Option ℕ) (reads : List ℕ) → AreCounted before now fault reads → later ≡ now → AreCounted before later fault reads
read_counted before now later fault reads so_far same = subst (λ (n : ℕ). AreCounted before n fault reads) (sym same) so_far

-- A read failed, and was answered with this count.
pub read_fault_counted : (before now later count : ℕ) (fault : Option ℕ) (reads : List ℕ) → AreCounted before now fault reads → now ≤ later → Rose now count → count ≤ later → AreCounted before later fault (count ∷ reads)
read_fault_counted before now later count fault reads so_far le rose within = record {
  later = omega (arith, so_far.later, le);
  rose = reached_later before now later fault le so_far.rose;
  reads_rose = ((omega (arith, so_far.later, rose), within), roses_later before now later reads le so_far.reads_rose);
  own = (
    within,
    λ less. (fault_differs before now count fault rose less so_far.rose, reads_differ before now count reads rose less so_far.reads_rose),
    own_later now later fault reads le so_far.own,
  );
  no_fault = λ none no_reads. let wrong : ◌≡◌ {A = List ℕ} (count ∷ reads) [] = no_reads in absurd (cc);
}
