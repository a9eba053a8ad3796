-- Reads of the log, as their leaders answered them, and which answers are right.
use Rattle.std.specs.Prelude.{◌≡◌, ℕ, ◌≤◌, ◌==◌, List, [], ◌∷◌, ◌++◌, filter, flat_map, map, Option, Some, None}
use Rattle.std.specs.List.{AllByRecursion}
use Rattle.model_base.specs.History.{Entry, IsUpTo, logged_entries}
use Rattle.model_base.specs.LogContents.{GroupCall}
use Rattle.model_base.specs.Recovery.{Logged}
use Rattle.model_base.specs.Since.{LogRead, LogRecord, record_of_batch, since}
use Rattle.table_rule.specs.declared.content.MemberVersions.{MemberVersions}
use Rattle.table_rule.specs.Histories.{Begins, last_of}

-- it gave records; or the log's disk failed, with this count of faults; or there was no memory
pub data ReadAnswer : Type 0 where
  gave : LogRead → ReadAnswer
  broke : ℕ → ReadAnswer
  lacked : ReadAnswer

-- a client's read of the log with its answer
pub record AnsweredRead : Type 0 where
  pub client : ℕ
  pub answer : ReadAnswer

abbrev pub answers_in : List AnsweredRead → List ReadAnswer
answers_in reads = map (λ (r : AnsweredRead). r.answer) reads

-- the answers to a client's own reads
abbrev pub answers_of : ℕ → List AnsweredRead → List ReadAnswer
answers_of client reads = answers_in (filter (λ (r : AnsweredRead). r.client == client) reads)

abbrev pub reads_with : ReadAnswer → List LogRead
reads_with (gave r) = r ∷ []
reads_with (broke count) = []
reads_with lacked = []

abbrev pub faults_with : ReadAnswer → List ℕ
faults_with (gave r) = []
faults_with (broke count) = count ∷ []
faults_with lacked = []

-- what reads with these answers gave, and with which counts of faults they failed
abbrev pub reads_in : List ReadAnswer → List LogRead
reads_in answers = flat_map reads_with answers

abbrev pub faults_in : List ReadAnswer → List ℕ
faults_in answers = flat_map faults_with answers

-- the record that a call of the log writer writes
abbrev pub record_by : GroupCall → LogRecord
record_by c = record_of_batch (record { first = c.first; records = flat_map (λ rs. rs) c.batches })

abbrev pub if_worked : Option ℕ → List LogRecord → List LogRecord
if_worked None records = records
if_worked (Some count) records = []

-- the records that calls have written, up to the first call that failed
abbrev pub records_by : List GroupCall → List LogRecord
records_by [] = []
records_by (c ∷ calls) = if_worked c.failed (record_by c ∷ records_by calls)

-- What a read gave is right: `last` is given last, and it was at a sequence up to there; these calls have written the
-- log, and it gave their records and, before these, those of the batches that the log had kept, as far as they are due.
-- `kept` says which batches the log had kept.
pub record IsRight (kept : List Logged → Type 0) (last : ℕ) (calls : List GroupCall) (r : LogRead) : Type 0 where
  pub low : r.at ≤ last
  pub answer : (batches : List Logged) → kept batches
      → r.records ≡ since r.since r.at (map record_of_batch batches ++ records_by calls)

abbrev pub AreRight : (List Logged → Type 0) → ℕ → List GroupCall → List LogRead → Type 0
AreRight kept last calls reads = AllByRecursion (IsRight kept last calls) reads

-- the read was at the end of groups that were seen published
pub record IsAtEnd (start : ℕ) (seen : List (List MemberVersions)) (r : LogRead) : Type 0 where
  pub shown : List (List MemberVersions)
  pub begins : Begins shown seen
  pub at : r.at ≡ last_of start shown

-- The entries are cut at this sequence, an end of a batch or `start`, and so are the log's parts: the first of them
-- have the logged entries up to there, and no others.
pub record IsCutAt (start : ℕ) (entries : List Entry) (parts : List (List Entry)) (at : ℕ) : Type 0 where
  pub front : List Entry
  pub is_front : IsUpTo start entries at front
  pub own : List (List Entry)
  pub more : List (List Entry)
  pub parts_are : parts ≡ own ++ more
  pub logged : flat_map (λ part. part) own ≡ logged_entries front
