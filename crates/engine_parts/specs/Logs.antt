-- What the log of a write path shows, whatever it is made of.
use Rattle.std.specs.Prelude.{◌≡◌, ℕ, ◌≤◌, List, [], ◌∷◌, ◌++◌, Option, None}
use Rattle.log_writer.specs.declared.group_log.GroupLog.{Ghosts}
use Rattle.std.specs.List.{AllByRecursion}
use Rattle.log_writer.specs.CountedFaults.{AreCounted}
use Rattle.log_writer.specs.GoOn.{GoOn}
use Rattle.model_base.specs.Batch.{IsBatch}
use Rattle.model_base.specs.LogContents.{GroupCall}
use Rattle.model_base.specs.Recovery.{AreInOrder, Logged, last_sequence, logged_bytes}
use Rattle.engine_parts.specs.declared.log.OpenLog.{OpenLog}

module _ {Log : Type 0} {ghosts : Ghosts Log} where
  -- the count of the fault that ended it, if one did
  abbrev pub fault_of : OpenLog Log ghosts → Option ℕ
  fault_of l = ghosts.fault l.log

  -- how many calls of its disks have failed
  abbrev pub faults_of : OpenLog Log ghosts → ℕ
  faults_of l = ghosts.faults l.log

  -- these calls, and no others, have turned the first into the second
  abbrev pub Wrote : OpenLog Log ghosts → List GroupCall → OpenLog Log ghosts → Type 0
  Wrote old calls new = ghosts.wrote old.log calls new.log

  -- As it was opened, this log had these batches and no others, in order and up to the sequence `start`, and what it
  -- holds is known.
  pub record Had (opened : OpenLog Log ghosts) (start : ℕ) (batches : List Logged) : Type 0 where
    pub keeps : ghosts.keeps opened.log batches
    pub are_batches : AllByRecursion (λ (b : Logged). IsBatch (logged_bytes b) b.first b.records) batches
    pub in_order : AreInOrder 0 batches
    pub up_to : last_sequence 0 batches ≤ start

  -- What one more call does: the log's fault is the call's, and the count of faults goes on with it. There are as many
  -- logs, with the same number, and what they held is where it was.
  pub record Adds (c : GroupCall) (old new : OpenLog Log ghosts) : Type 0 where
    pub wrote : (opened : OpenLog Log ghosts) (calls : List GroupCall) → Wrote opened calls old
        → Wrote opened (calls ++ c ∷ []) new
    pub fault : fault_of old ≡ None → fault_of new ≡ c.failed
    pub counted : (before : ℕ) (reads : List ℕ) → fault_of old ≡ None
        → AreCounted before (faults_of old) None reads → AreCounted before (faults_of new) c.failed reads
    pub number : ghosts.number new.log ≡ ghosts.number old.log
    pub many : ghosts.many new.log ≡ ghosts.many old.log
    pub grows : (opened : OpenLog Log ghosts) (kept : List Logged) (calls : List GroupCall) (files : List (List ℕ))
        → ghosts.keeps opened.log kept → Wrote opened calls old → ghosts.holds old.log files
        → (later : List (List ℕ)) × ghosts.holds new.log later × GoOn files later
