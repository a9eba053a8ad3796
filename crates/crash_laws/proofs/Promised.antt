-- What the program promises of a call, where its disk told what it held.
use Rattle.std.proofs.Common.{◌≡◌, ℕ, List, [], Option, Some, None, MatchOption, ap, sym, ◌∙◌, subst}
use Rattle.base_devices.specs.Disk.{Disk, Told}
use Rattle.base_devices.specs.declared.disk.Disk.{Ghosts}
use Rattle.model_base.specs.LogContents.{GroupCall}
use Rattle.model_runs.specs.Crashes.{failed_record, IsFailedWrite}
use Rattle.run_outcome.specs.declared.log_start.LogStart.{LogStart}
use Rattle.run_outcome.specs.Running.{Before, RecoversTo, GoesOnFrom, IsRunOf, LeavesSafeLog}
use Rattle.crash_laws.specs.Restarts.{Call, execution_of, number_of, IsFailedRecord, Resumes}

module _ {D : Type 0} {disk : Ghosts D} (call : Call disk) where
  abbrev pub is_run : IsRunOf (execution_of call) call.outcome
  is_run = call.ran.is_outcome.run

  pub goes_on : GoesOnFrom call.start (Some call.found) call.ran.before
  goes_on = subst (λ (t : Option Disk). GoesOnFrom call.start t call.ran.before) call.told_found call.ran.goes_on

  abbrev Leaves : Disk → Disk → Type 0
  Leaves = LeavesSafeLog (execution_of call) call.outcome is_run

  pub leaves : LeavesSafeLog (execution_of call) call.outcome is_run call.found call.left
  leaves = subst (λ (t : Option Disk). Told (Some call.found) t Leaves) call.told_left (subst (λ (t : Option Disk). Told t (disk.told call.ended) Leaves) call.told_found call.ran.is_outcome.log)

-- the record of the call that failed is that of a group whose write failed
tried_of : (lost : List GroupCall) (x : List ℕ) (f : Option ℕ) (A : Type 0) (B : ℕ → Type 0) (Held Tried : List ℕ → Type 0) → ((y : List ℕ) → Held y → Tried y) → MatchOption f (lost ≡ []) B
    → MatchOption f A (λ count. (y : List ℕ) × (failed_record lost ≡ Some y) × Held y) → failed_record lost ≡ Some x → Tried x
tried_of lost x None A B Held Tried to none held is = let clash : None ≡ Some x = sym (ap failed_record none) ∙ is in absurd (cc clash)
tried_of lost x (Some count) A B Held Tried to some held is =
    let same : Some held.0 ≡ Some x = sym held.1 ∙ is in
    let one : held.0 ≡ x = cc same in
    subst Tried one (to held.0 held.2)

module _ {D : Type 0} {disk : Ghosts D} (call : Call disk) where
  abbrev pub IsTried : List ℕ → Type 0
  IsTried x = IsFailedWrite (execution_of call).settings.group_bytes (is_run call).attempts call.outcome x

  pub failed_write : (x : List ℕ) → IsFailedRecord call x → IsTried x
  failed_write x is =
      let writes = (is_run call).writes in
      let crash = ((leaves call).safe).crash in
      tried_of writes.lost x call.outcome.fault _ _ _ IsTried (λ y held. held.failed) writes.none_else crash.failed is

  -- if the log has no fault there is none
  pub none_failed : call.outcome.fault ≡ None → (x : List ℕ) → IsFailedRecord call x → ⊥
  none_failed none x is = let tried = failed_write x is in let clash : None ≡ Some tried.count = sym none ∙ tried.fault in cc clash

-- what a call goes on from is what an image recovers, where it resumes over that
pub goes_after : {D : Type 0} {disk : Ghosts D} (earlier : Call disk) (image : List ℕ) (later : Call disk) → Resumes earlier image later → RecoversTo (number_of earlier) image later.ran.before
goes_after earlier image later resumes =
    let before : Before = later.ran.before in
    let went : RecoversTo (number_of earlier) later.found.content before = subst (λ (s : LogStart). GoesOnFrom s (Some later.found) before) resumes.resumed (goes_on later) in
    subst (λ (l : List ℕ). RecoversTo (number_of earlier) l before) resumes.found went
