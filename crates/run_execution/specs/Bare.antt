-- The end of a run over a log, and what the log had, without the engine's own name for the log.
use Rattle.log_writer.specs.declared.group_log.GroupLog.{Ghosts}
use Rattle.std.specs.Prelude.{ℕ, List, refl}
use Rattle.model_base.specs.Recovery.{Logged}
use Rattle.engine_parts.specs.declared.log.OpenLog.{OpenLog}
use Rattle.engine_parts.specs.Logs.{Had}
use Rattle.run_threads.specs.declared.run.ClientsEnd.{ClientsEnd}
use Rattle.run_threads.specs.declared.run.ClientsEnd.TheVariants.{NotRun, Untold, Told}

abbrev pub bare_of : {L : Type 0} {ghosts : Ghosts L} → ClientsEnd (OpenLog L ghosts) → ClientsEnd L
bare_of (NotRun l) = NotRun l.log
bare_of (Untold l last) = Untold l.log last
bare_of (Told l last transcripts history state) = Told l.log last transcripts history state

-- As it was opened, the log had these batches and no others, in order and up to this last sequence, and what it holds
-- is known.
abbrev pub HasKept : {L : Type 0} → (ghosts : Ghosts L) → L → ℕ → List Logged → Type 0
HasKept ghosts log last batches = Had {ghosts = ghosts} (record { log = log; knows = refl }) last batches
