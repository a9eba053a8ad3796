-- What was answered `ok`, and was to be synced, is found by the next call.
use Rattle.std.proofs.Common.{◌≡◌, ℕ, ◌+◌, List, Some, slice_get, arith}
use Rattle.base_devices.specs.declared.disk.Disk.{Ghosts}
use Rattle.model_base.specs.Batch.{Record}
use Rattle.model_base.specs.Calls.{Call as Answered}
use Rattle.crash_laws.specs.Restarts.{Call, execution_of, groups_in}
use Rattle.crash_laws.specs.Answered.{WasAnswered, KnewByThen, IsFoundAgain}
use Rattle.crash_laws.proofs.Promised.{is_run, leaves}
use Rattle.crash_laws.proofs.Certain.{within_list, through_found}
use Rattle.crash_laws.proofs.Answered.{knew_in_outcome}

pub found_again : {D : Type 0} {disk : Ghosts D} (call : Call disk) (i : ℕ) (calls : List Answered) (first last : ℕ) (records : List Record) → slice_get call.outcome.transcripts i ≡ Some calls
    → WasAnswered calls first last records → IsFoundAgain call i calls first records
found_again call i calls first last records at was =
    let run = is_run call in
    let told : KnewByThen (execution_of call).settings run.trace (i + 1) calls first records =
    knew_in_outcome (execution_of call).settings (execution_of call).ended (execution_of call).script run.trace run.attempts call.outcome run.legal i calls first last records at was in
    let stays = ((leaves call).safe).acknowledged i calls first told.knew records at told.acknowledged in
    let short = within_list (groups_in call) stays.0 stays.1 stays.2 in
    record { known = told; k = stays.0; group = stays.1; there = stays.2; has = stays.3; found = λ image next to left. through_found call image next to (stays.0 + 1) (omega (arith, short)) (stays.4 image left) }
