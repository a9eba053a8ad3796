-- What is printed for each way to end a call, and with which status.
use Rattle.std.specs.Prelude.{◌≡◌, ◌⊎◌, ℕ, Bool, true, false, List, take, Option, is_some, ◌||◌, if◌then◌else◌, Result, Ok, Err}
use Rattle.std.specs.Io.KnownBytes.{Appends}
use Rattle.model_base.specs.Counts.{Rose}
use Rattle.model_base.specs.Calls as calls
use Rattle.model_base.specs.History.{IsHistory}
use Rattle.model_base.specs.Map.{Pairs}
use Rattle.model_base.specs.Text as model
use Rattle.model_base.specs.Generator.{summary_text}
use Rattle.model_base.specs.declared.memory.NoMemory.{NoMemory}
use Rattle.replay_schedules.specs.declared.replaying.Replayed.{Replayed}
use Rattle.run_outcome.specs.declared.outcome.Outcome.{Outcome}
use Rattle.program_call.specs.declared.reading.ReadError.{ReadError}
use Rattle.program_call.specs.declared.reading.ReadError.TheVariants as read
use Rattle.run_execution.specs.declared.end.RunEnd.{RunEnd}
use Rattle.run_execution.specs.declared.end.RunEnd.TheVariants as end
use Rattle.program_call.specs.declared.report.Form.{Form}
use Rattle.program_call.specs.declared.report.Form.TheVariants as form
use Rattle.program_call.specs.declared.report.Status.{Status}
use Rattle.program_call.specs.declared.report.Status.TheVariants as status
use Rattle.program_printing.specs.declared.error.PrintError.{PrintError}
use Rattle.program_printing.specs.declared.error.PrintError.TheVariants as print
use Rattle.log_recovery.specs.declared.recovery.RecoverError.{RecoverError}
use Rattle.log_recovery.specs.declared.recovery.RecoverError.TheVariants as none
use Rattle.model_base.specs.declared.log.EndReason.{EndReason}
use Rattle.run_outcome.specs.Shows.{ShowsOutcome, has_read_fault, ran_short}
use Rattle.program_call.specs.Texts.{SaysTo}
pub use Rattle.program_text.specs.Results.{IsTextOf, IsTextOfLogs, IsReplayText}
use Rattle.program_text.specs.Refusals.{damage, high_family, logs_damage, script_fault, source_fault, disk_fault, not_empty}

-- the refusal's text was printed, and the status goes with it
abbrev pub PrintsRefusal : Option (List ℕ) → Option (List ℕ) → ℕ → ℕ → List ℕ → Status → Status → Type 0
PrintsRefusal old new failed fails text wanted given = (given ≡ wanted) × SaysTo old new text failed fails

-- There was no memory for a text. Nothing was printed, and the sink has counted no fault.
abbrev pub SaysNothing : Option (List ℕ) → Option (List ℕ) → ℕ → ℕ → Status → Type 0
SaysNothing old new failed fails given = (given ≡ status.Memory) × (new ≡ old) × (fails ≡ failed)

-- the refusal's text was printed, or there was no memory for it
abbrev pub Refuses : Option (List ℕ) → Option (List ℕ) → ℕ → ℕ → List ℕ → Status → Status → Type 0
Refuses old new failed fails text wanted given =
    PrintsRefusal old new failed fails text wanted given ⊎ SaysNothing old new failed fails given

abbrev pub TellsReadError : Option (List ℕ) → Option (List ℕ) → ℕ → ℕ → ReadError → Status → Type 0
TellsReadError old new failed fails (read.Fault count) given =
    PrintsRefusal old new failed fails (source_fault count) status.Source given
TellsReadError old new failed fails (read.Script line kind) given =
    Refuses old new failed fails (script_fault (record { line = line; kind = kind })) status.Script given
TellsReadError old new failed fails read.NoMemory given = SaysNothing old new failed fails given

-- the log's disk failed in a write, or in a client's read of the log
abbrev pub disk_failed : Outcome Pairs → Bool
disk_failed shown = is_some shown.fault || has_read_fault shown

-- The status of an outcome's text. At 5 the sink failed, and took a prefix of the text; else it has counted no fault.
-- At 3 the log's disk failed; at 6 there was no memory for the text, or for a client.
abbrev pub EndsWithOutcome : Option (List ℕ) → Option (List ℕ) → ℕ → ℕ → Outcome Pairs → List ℕ → Status → Type 0
EndsWithOutcome old new failed fails shown text status.Done = Appends old new text × (disk_failed shown ≡ false)
    × (ran_short shown ≡ false) × (fails ≡ failed)
EndsWithOutcome old new failed fails shown text status.Disk = Appends old new text × (disk_failed shown ≡ true)
    × (fails ≡ failed)
EndsWithOutcome old new failed fails shown text status.Sink = Rose failed fails × (n : ℕ)
    × Appends old new (take n text)
EndsWithOutcome old new failed fails shown text status.Memory = ((new ≡ old)
    ⊎ (Appends old new text × (disk_failed shown ≡ false) × (ran_short shown ≡ true))) × (fails ≡ failed)
EndsWithOutcome old new failed fails shown text other = ⊥

-- the status of an outcome that was printed whole
abbrev pub ran_status : Outcome Pairs → Status
ran_status shown = if disk_failed shown then status.Disk else if ran_short shown then status.Memory else status.Done

-- an outcome whole, or its summary
abbrev pub text_of : Form → calls.Outcome → List ℕ
text_of form.Whole o = model.outcome_text o
text_of form.Summary o = summary_text o

-- the status is right for whatever outcome the values show, if its entries are a history
abbrev pub TellsOutcome : Form → Option (List ℕ) → Option (List ℕ) → ℕ → ℕ → Outcome Pairs → Status → Type 0
TellsOutcome form old new failed fails shown given = (o : calls.Outcome) (start : ℕ) → IsHistory start o.history
    → ShowsOutcome shown o → EndsWithOutcome old new failed fails shown (text_of form o) given

abbrev pub TellsEnd : Form → Option (List ℕ) → Option (List ℕ) → ℕ → ℕ → RunEnd → Status → Type 0
TellsEnd form old new failed fails (end.DiskFault count) given =
    PrintsRefusal old new failed fails (disk_fault count) status.Disk given
TellsEnd form old new failed fails (end.NotEmpty len) given =
    Refuses old new failed fails (not_empty len) status.NotEmpty given
TellsEnd form old new failed fails (end.Damage at why) given =
    Refuses old new failed fails (damage at why) status.Damage given
TellsEnd form old new failed fails (end.Family family) given =
    Refuses old new failed fails (high_family family) status.Family given
TellsEnd form old new failed fails end.NoMemory given = SaysNothing old new failed fails given
TellsEnd form old new failed fails end.NoOutcome given = SaysNothing old new failed fails given
TellsEnd form old new failed fails (end.Ran shown) given = TellsOutcome form old new failed fails shown given

-- The status of a text that tells a result; `Is` says which texts do. At 5 the sink failed, and took a prefix of the
-- text; else it has counted no fault. At 6 there was no memory for the text.
abbrev pub EndsWithText : Option (List ℕ) → Option (List ℕ) → ℕ → ℕ → (List ℕ → Type 0) → Status → Type 0
EndsWithText old new failed fails Is status.Done = (text : List ℕ) × Is text × Appends old new text × (fails ≡ failed)
EndsWithText old new failed fails Is status.Sink = Rose failed fails × (text : List ℕ) × Is text × (n : ℕ)
    × Appends old new (take n text)
EndsWithText old new failed fails Is status.Memory = (new ≡ old) × (fails ≡ failed)
EndsWithText old new failed fails Is other = ⊥

-- the refusal of an end of recovery that isn't accepted, of several logs or of one
abbrev pub damage_of : Bool → ℕ → ℕ → EndReason → List ℕ
damage_of true log at why = logs_damage log at why
damage_of false log at why = damage at why

abbrev pub TellsRecoverError : Bool → Option (List ℕ) → Option (List ℕ) → ℕ → ℕ → RecoverError → Status → Type 0
TellsRecoverError several old new failed fails (none.Fault count) given =
    PrintsRefusal old new failed fails (disk_fault count) status.Disk given
TellsRecoverError several old new failed fails none.NoMemory given = SaysNothing old new failed fails given
TellsRecoverError several old new failed fails (none.Damage log at why) given =
    Refuses old new failed fails (damage_of several log at why) status.Damage given

-- The status of what was recovered from several logs or from one, or of why nothing was; `Is` says which texts tell
-- what was recovered.
abbrev pub TellsFound : {T : Type 0} → (T → List ℕ → Type 0) → Bool → Option (List ℕ) → Option (List ℕ) → ℕ → ℕ
    → Result T RecoverError → Status → Type 0
TellsFound Is several old new failed fails (Ok shown) given = EndsWithText old new failed fails (Is shown) given
TellsFound Is several old new failed fails (Err why) given = TellsRecoverError several old new failed fails why given

-- the status of a schedule's text, or there was no memory for the result itself
abbrev pub TellsReplay : Option (List ℕ) → Option (List ℕ) → ℕ → ℕ → Result Replayed NoMemory → Status → Type 0
TellsReplay old new failed fails (Ok shown) given = EndsWithText old new failed fails (IsReplayText shown) given
TellsReplay old new failed fails (Err why) given = SaysNothing old new failed fails given

-- the status of a text that tells a result, by how it was printed
abbrev pub print_status : {T : Type 0} → Result T PrintError → Status
print_status (Ok _) = status.Done
print_status (Err print.Failed) = status.Sink
print_status (Err print.NoMemory) = status.Memory

-- the status of a refusal, by how it was printed: its own, unless there was no memory for it
abbrev pub refusal_status : {T : Type 0} → Status → Result T PrintError → Status
refusal_status own (Ok _) = own
refusal_status own (Err print.Failed) = own
refusal_status own (Err print.NoMemory) = status.Memory

-- a status's number
abbrev pub code : Status → ℕ
code status.Done = 0
code status.Usage = 1
code status.Script = 2
code status.Disk = 3
code status.Source = 4
code status.Sink = 5
code status.Memory = 6
code status.NotEmpty = 7
code status.Damage = 8
code status.Family = 9

-- a status with which a run ends, once its script was read
abbrev pub HasRunStatus : ℕ → Type 0
HasRunStatus n = (n ≡ 0) ⊎ (n ≡ 3) ⊎ (n ≡ 5) ⊎ (n ≡ 6) ⊎ (n ≡ 7) ⊎ (n ≡ 8) ⊎ (n ≡ 9)
