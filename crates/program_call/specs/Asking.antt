-- What the words of a call ask for, with the options that they give.
use Rattle.std.specs.Prelude.{◌≡◌, ◌⊎◌, ℕ, ◌<◌, min, Bool, true, false, List, Option, Some, None, IfSome, IsSome, MatchOption, String, ⊤}
use Rattle.std.specs.declared.alloc.Global.{Global}
use Rattle.model_base.specs.declared.limits.TheConstants.{MAX_SIZE}
use Rattle.program_words.specs.declared.invocation.Invocation.{Invocation}
use Rattle.program_words.specs.declared.invocation.Invocation.TheVariants.{Run, Generate, Recover, Replay}
use Rattle.program_words.specs.Meaning.{invocation_of}
use Rattle.model_base.specs.declared.options.Options.{Options}
use Rattle.log_recovery.specs.declared.modes.Mode.{Mode}
use Rattle.replay_core.specs.declared.state.CoreOptions.{CoreOptions}
use Rattle.run_outcome.specs.declared.log_start.LogStart.{LogStart}
use Rattle.run_outcome.specs.declared.log_start.LogStart.TheVariants.{New, Over, Behind}

-- Several logs have no number, and don't go on: the option that says how many there are may come with neither option
-- for one log.
abbrev pub AreAtOdds : Invocation → Type 0
AreAtOdds (Run pipelined shards group_bytes batch_bytes last number resume mode logs log_bytes families) =
    IsSome logs × (IsSome number ⊎ (resume ≡ true))
AreAtOdds (Recover number mode logs) = IsSome logs × IsSome number
AreAtOdds (Replay pipelined group_bytes batch_bytes last families) = ⊥
AreAtOdds (Generate pipelined shards seed clients batches families) = ⊥

-- the words aren't lawful
abbrev pub AskNothing : List (String Global) → Type 0
AskNothing words = MatchOption (invocation_of words) ⊤ AreAtOdds

-- the words are lawful, and ask for this
abbrev pub IsAsked : List (String Global) → Invocation → Type 0
IsAsked words asked = (invocation_of words ≡ Some asked) × (AreAtOdds asked → ⊥)

-- the words are lawful, and ask for something of which this is true
abbrev pub Ask : List (String Global) → (Invocation → Type 0) → Type 0
Ask words P = (asked : Invocation) × IsAsked words asked × P asked

-- how many of these disks hold a log of the call: the first, or as many as are asked for, and no more than there are
abbrev pub used_of : Option ℕ → ℕ → ℕ
used_of None disks = 1
used_of (Some logs) disks = min logs disks

-- How the log of a run is opened, by its number and by whether it goes on. If it goes on, it has the number, if one is
-- given. If not, a log with a number is written over what is there, and one without is a new one.
abbrev pub start_of : Option ℕ → Bool → LogStart
start_of number true = Behind number
start_of (Some number) false = Over number
start_of None false = New

-- To run a script over one log that is opened as `start` says, in this mode if it goes on, in one stage or two, over a
-- table of shards or of one tree. So many disks are handed in; there is one log where no other number is asked for, and
-- where there is one disk.
abbrev pub IsToRun : Invocation → ℕ → Options → LogStart → Mode → Type 0
IsToRun asked disks options start mode = (pipelined : Bool) × (shards : Option ℕ) × (number : Option ℕ)
    × (resume : Bool) × (logs : Option ℕ) × (limit : ℕ)
    × (asked ≡ Run pipelined shards options.group_bytes options.batch_bytes options.last number resume mode logs limit
    options.families)
    × (used_of logs disks ≡ 1) × (start ≡ start_of number resume)

abbrev pub AskToRun : List (String Global) → ℕ → Options → LogStart → Mode → Type 0
AskToRun words disks options start mode = Ask words (λ asked. IsToRun asked disks options start mode)

-- To run a script over several new logs, on as many of these disks, of which each is full once it has as many bytes as
-- the limit.
abbrev pub IsToRunLogs : Invocation → ℕ → Options → ℕ → ℕ → Type 0
IsToRunLogs asked disks options used limit = (pipelined : Bool) × (shards : Option ℕ) × (mode : Mode) × (logs : ℕ)
    × (asked
    ≡ Run pipelined shards options.group_bytes options.batch_bytes options.last None false mode (Some logs) limit
    options.families)
    × (used ≡ min logs disks) × (1 < used)

abbrev pub AskToRunLogs : List (String Global) → ℕ → Options → ℕ → ℕ → Type 0
AskToRunLogs words disks options used limit = Ask words (λ asked. IsToRunLogs asked disks options used limit)

-- to run the script that a seed makes, for this number of clients with this number of batches each, where there are so
-- many column families, in one stage or two, over a table of shards or of one tree
abbrev pub IsToGenerate : Invocation → ℕ → ℕ → ℕ → ℕ → Type 0
IsToGenerate asked seed clients batches families =
    (pipelined : Bool) × (shards : Option ℕ) × (asked ≡ Generate pipelined shards seed clients batches families)

abbrev pub AskToGenerate : List (String Global) → ℕ → ℕ → ℕ → ℕ → Type 0
AskToGenerate words seed clients batches families =
    Ask words (λ asked. IsToGenerate asked seed clients batches families)

-- the options with which the script of a seed is run, where there are so many column families
abbrev pub usual_options : ℕ → Options
usual_options families = record { last = 0; group_bytes = 1048576; batch_bytes = MAX_SIZE; families = families }

-- to say what one log recovers in this mode, read as a log with this number, or with none
abbrev pub IsToRecover : Invocation → Option ℕ → Mode → Type 0
IsToRecover asked number mode =
    (logs : Option ℕ) × (asked ≡ Recover number mode logs) × IfSome logs (λ n. n ≡ 1)

abbrev pub AskToRecover : List (String Global) → Option ℕ → Mode → Type 0
AskToRecover words number mode = Ask words (λ asked. IsToRecover asked number mode)

-- To say what several logs recover in this mode, one after another. So many of these disks are used; it may be one,
-- where there is no other.
abbrev pub IsToRecoverLogs : Invocation → ℕ → Mode → ℕ → Type 0
IsToRecoverLogs asked disks mode used =
    (logs : ℕ) × (asked ≡ Recover None mode (Some logs)) × (1 < logs) × (used ≡ min logs disks)

abbrev pub AskToRecoverLogs : List (String Global) → ℕ → Mode → ℕ → Type 0
AskToRecoverLogs words disks mode used = Ask words (λ asked. IsToRecoverLogs asked disks mode used)

-- to run a schedule on the core
abbrev pub IsToReplay : Invocation → CoreOptions → Type 0
IsToReplay asked options =
    asked ≡ Replay options.pipelined options.group_bytes options.batch_bytes options.last options.families

abbrev pub AskToReplay : List (String Global) → CoreOptions → Type 0
AskToReplay words options = Ask words (λ asked. IsToReplay asked options)
