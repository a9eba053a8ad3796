-- What the law of the log says of reads of it, once a group of writes was handled, or one more read.
use Rattle.std.proofs.Common.{◌≡◌, ◌≢◌, inl, inr, ℕ, ◌+◌, ◌-◌, ◌^◌, ◌<◌, ◌≤◌, List, [], ◌∷◌, ◌++◌, length, Option, Some, None, IfSome, refl, sym, ap, subst, arith, append-nil, length-append}
use Rattle.std.specs.List.{AllByRecursion}
use Rattle.std.proofs.lemmas.Option.{same_Some}
use Rattle.log_writer.specs.CountedFaults.{AreCounted}
use Rattle.log_writer.specs.declared.group_log.GroupLog.{Ghosts}
use Rattle.model_base.specs.Counts.{Rose}
use Rattle.model_base.specs.LogContents.{GroupCall}
use Rattle.model_base.specs.Outcomes.{AreOwnFaults}
use Rattle.model_base.specs.Since.{LogRead}
use Rattle.line_rule.specs.declared.view.Handling.{Handling}
use Rattle.engine_rule.specs.Reading.{AnsweredRead, ReadAnswer, gave, broke, lacked, AreRight, IsRight, answers_in, faults_in, reads_in, faults_with, reads_with}
use Rattle.engine_rule.proofs.LogReads.{all_right, right_after_fault, right_more}
use Rattle.engine_rule.proofs.OneGroup.{all_append}
use Rattle.engine_parts.specs.declared.log.OpenLog.{OpenLog}
use Rattle.engine_parts.specs.declared.requests.Request.{Request}
use Rattle.engine_parts.specs.declared.requests.Answer.{Answer}
use Rattle.engine_parts.specs.Handled.{handled_with, read_by, reads_handled}
use Rattle.engine_parts.specs.Logs.{Adds, Had, fault_of, faults_of}
use Rattle.engine_parts.proofs.Commits.{Writes, faults_more, reads_more, same_reads}

-- Counts of faults

-- a count to which another one rose isn't that one
differs : (now before count : ℕ) → Rose now count → before ≤ now → before < 2 ^ 64 - 1 → count ≡ before → ⊥
differs now before count rose le less same = omega (arith, rose, le, less, same)

other_fault : (now count : ℕ) (fault : Option ℕ) → Rose now count → count < 2 ^ 64 - 1 → IfSome fault (λ n. n ≤ now) → fault ≢ Some count
other_fault now count None rose less up = λ e. let wrong : ◌≡◌ {A = Option ℕ} None (Some count) = e in cc
other_fault now count (Some n) rose less up = λ e. let same : n ≡ count = same_Some n count e in omega (arith, rose, less, up, same)

up_to_now : (before now : ℕ) (fault : Option ℕ) → IfSome fault (λ n. Rose before n × (n ≤ now)) → IfSome fault (λ n. n ≤ now)
up_to_now before now None rose = tt
up_to_now before now (Some n) rose = rose.1

own_last : (before now later count : ℕ) (fault : Option ℕ) (reads : List ℕ) → now ≤ later → Rose now count → count ≤ later → IfSome fault (λ n. n ≤ now) → AllByRecursion (λ (n : ℕ). Rose before n × (n ≤ now)) reads → AreOwnFaults now fault reads
    → AreOwnFaults later fault (reads ++ count ∷ [])
own_last before now later count fault [] le rose reached up all own = (reached, (λ less. (other_fault now count fault rose less up, tt)), tt)
own_last before now later count fault (n ∷ ns) le rose reached up all own = (
  omega (arith, own.0, le),
  (λ less. let others = own.1 less in (others.0, all_append (λ (other : ℕ). other ≢ n) ns (count ∷ []) others.1 ((λ e. differs now n count rose all.0.1 less e), tt))),
  own_last before now later count fault ns le rose reached up all.1 own.2,
)

roses_on : (before now later : ℕ) (reads : List ℕ) → now ≤ later → AllByRecursion (λ (n : ℕ). Rose before n × (n ≤ now)) reads → AllByRecursion (λ (n : ℕ). Rose before n × (n ≤ later)) reads
roses_on before now later [] le all = tt
roses_on before now later (n ∷ ns) le all = ((all.0.0, omega (arith, all.0.1, le)), roses_on before now later ns le all.1)

fault_on : (before now later : ℕ) (fault : Option ℕ) → now ≤ later → IfSome fault (λ n. Rose before n × (n ≤ now)) → IfSome fault (λ n. Rose before n × (n ≤ later))
fault_on before now later None le rose = tt
fault_on before now later (Some n) le rose = (rose.0, omega (arith, rose.1, le))

-- a read failed with this count
counted_more : (before now later count : ℕ) (fault : Option ℕ) (reads : List ℕ) → AreCounted before now fault reads → now ≤ later → Rose now count → count ≤ later → AreCounted before later fault (reads ++ count ∷ [])
counted_more before now later count fault reads so_far le rose reached = record {
  later = omega (arith, so_far.later, le);
  rose = fault_on before now later fault le so_far.rose;
  reads_rose = all_append (λ (n : ℕ). Rose before n × (n ≤ later)) reads (count ∷ []) (roses_on before now later reads le so_far.reads_rose) ((omega (arith, so_far.later, rose), reached), tt);
  own = own_last before now later count fault reads le rose reached (up_to_now before now fault so_far.rose) so_far.reads_rose so_far.own;
  no_fault = λ none no_reads. absurd (omega (arith, ap length no_reads, length-append reads (count ∷ [])));
}

-- the part of the log's law that is about reads
module _ {Log : Type 0} {ghosts : Ghosts Log} (opened : OpenLog Log ghosts) (start clients : ℕ) where
  abbrev pub IsReader : AnsweredRead → Type 0
  IsReader r = (1 ≤ r.client) × (r.client ≤ clients)

  pub record ReadsStand (calls : List GroupCall) (log : OpenLog Log ghosts) (last : ℕ) (reads : List AnsweredRead) : Type 0 where
    pub right : AreRight (Had opened start) last calls (reads_in (answers_in reads))
    pub readers : AllByRecursion IsReader reads
    pub counted : AreCounted (faults_of opened) (faults_of log) (fault_of log) (faults_in (answers_in reads))

  pub with_writes : (calls : List GroupCall) (log : OpenLog Log ghosts) (last : ℕ) (hs : List (Handling Request Answer)) (xs : List (ℕ × Request)) (ys : List (ℕ × Answer)) → AllByRecursion Writes xs
      → ReadsStand calls log last (reads_handled hs) → ReadsStand calls log last (reads_handled (hs ++ handled_with xs ys))
  with_writes calls log last hs xs ys writes s = subst (ReadsStand calls log last) (sym (same_reads hs xs ys writes)) s

  -- the sequence given last has risen, and no call was made
  pub with_no_call : (calls : List GroupCall) (log : OpenLog Log ghosts) (last end : ℕ) (reads : List AnsweredRead) → last ≤ end → ReadsStand calls log last reads → ReadsStand calls log end reads
  with_no_call calls log last end reads rises s = record {
    right = all_right (Had opened start) last end calls calls (reads_in (answers_in reads)) (right_more (Had opened start) last end calls calls rises (inr refl)) s.right;
    readers = s.readers;
    counted = s.counted;
  }

  counts_on : (c : GroupCall) (old new : OpenLog Log ghosts) (reads : List ℕ) → fault_of old ≡ None → Adds c old new → AreCounted (faults_of opened) (faults_of old) (fault_of old) reads → AreCounted (faults_of opened) (faults_of new) (fault_of new) reads
  counts_on c old new reads alive adds so_far =
      subst (λ (f : Option ℕ). AreCounted (faults_of opened) (faults_of new) f reads) (sym (adds.fault alive))
      (adds.counted (faults_of opened) reads alive (subst (λ (f : Option ℕ). AreCounted (faults_of opened) (faults_of old) f reads) alive so_far))

  -- a call has written a group
  pub with_call : (calls : List GroupCall) (c : GroupCall) (old new : OpenLog Log ghosts) (last end : ℕ) (reads : List AnsweredRead) → last ≤ end → c.first ≡ last + 1 → fault_of old ≡ None → Adds c old new → ReadsStand calls old last reads
      → ReadsStand (calls ++ c ∷ []) new end reads
  with_call calls c old new last end reads rises first alive adds s = record {
    right = all_right (Had opened start) last end calls (calls ++ c ∷ []) (reads_in (answers_in reads)) (right_more (Had opened start) last end calls (calls ++ c ∷ []) rises (inl (c, refl, first))) s.right;
    readers = s.readers;
    counted = counts_on c old new (faults_in (answers_in reads)) alive adds s.counted;
  }

  -- a call has failed
  pub with_failed_call : (calls : List GroupCall) (c : GroupCall) (old new : OpenLog Log ghosts) (last count : ℕ) (reads : List AnsweredRead) → c.failed ≡ Some count → fault_of old ≡ None → Adds c old new → ReadsStand calls old last reads
      → ReadsStand (calls ++ c ∷ []) new last reads
  with_failed_call calls c old new last count reads failed alive adds s = record {
    right = all_right (Had opened start) last last calls (calls ++ c ∷ []) (reads_in (answers_in reads)) (right_after_fault (Had opened start) last count calls c failed) s.right;
    readers = s.readers;
    counted = counts_on c old new (faults_in (answers_in reads)) alive adds s.counted;
  }

  -- why a read was answered so
  abbrev pub Explains : List GroupCall → OpenLog Log ghosts → OpenLog Log ghosts → ℕ → ReadAnswer → Type 0
  Explains calls old new last (gave r) = IsRight (Had opened start) last calls r × (faults_of new ≡ faults_of old)
  Explains calls old new last (broke count) = Rose (faults_of old) count × (count ≤ faults_of new)
  Explains calls old new last lacked = faults_of new ≡ faults_of old

  right_with : (calls : List GroupCall) (old new : OpenLog Log ghosts) (last : ℕ) (reads : List LogRead) (a : ReadAnswer) → Explains calls old new last a → AreRight (Had opened start) last calls reads → AreRight (Had opened start) last calls (reads ++ reads_with a)
  right_with calls old new last reads (gave r) why are = all_append (IsRight (Had opened start) last calls) reads (r ∷ []) are (why.0, tt)
  right_with calls old new last reads (broke count) why are = subst (AreRight (Had opened start) last calls) (sym (append-nil reads)) are
  right_with calls old new last reads lacked why are = subst (AreRight (Had opened start) last calls) (sym (append-nil reads)) are

  counted_with : (calls : List GroupCall) (old new : OpenLog Log ghosts) (last : ℕ) (fault : Option ℕ) (counts : List ℕ) (a : ReadAnswer) → faults_of old ≤ faults_of new → Explains calls old new last a
      → AreCounted (faults_of opened) (faults_of old) fault counts → AreCounted (faults_of opened) (faults_of new) fault (counts ++ faults_with a)
  counted_with calls old new last fault counts (gave r) later why so_far = subst (λ (z : ℕ × List ℕ). AreCounted (faults_of opened) z.0 fault z.1) (λ i. (sym why.1 i, sym (append-nil counts) i)) so_far
  counted_with calls old new last fault counts (broke count) later why so_far = counted_more (faults_of opened) (faults_of old) (faults_of new) count fault counts so_far later why.0 why.1
  counted_with calls old new last fault counts lacked later why so_far = subst (λ (z : ℕ × List ℕ). AreCounted (faults_of opened) z.0 fault z.1) (λ i. (sym why i, sym (append-nil counts) i)) so_far

  -- one more read
  pub with_answer : (calls : List GroupCall) (old new : OpenLog Log ghosts) (last : ℕ) (reads : List AnsweredRead) (client : ℕ) (a : ReadAnswer) → fault_of new ≡ fault_of old → faults_of old ≤ faults_of new → 1 ≤ client → client ≤ clients
      → Explains calls old new last a → ReadsStand calls old last reads → ReadsStand calls new last (reads ++ read_by client a ∷ [])
  with_answer calls old new last reads client a same later low high why s =
      let r : AnsweredRead = read_by client a in
      record {
        right = subst (AreRight (Had opened start) last calls) (sym (reads_more reads r)) (right_with calls old new last (reads_in (answers_in reads)) a why s.right);
        readers = all_append IsReader reads (r ∷ []) s.readers ((low, high), tt);
        counted = subst (λ (z : Option ℕ × List ℕ). AreCounted (faults_of opened) (faults_of new) z.0 z.1) (λ i. (sym same i, sym (faults_more reads r) i))
            (counted_with calls old new last (fault_of old) (faults_in (answers_in reads)) a later why s.counted);
      }
