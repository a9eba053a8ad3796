-- What comes of a run over the engine's log comes of it over the log itself.
use Rattle.std.proofs.Common.{◌≡◌, ◌≤◌, ℕ, List, Option, IfSome, sym, subst}
use Rattle.model_base.specs.Recovery.{Logged, last_sequence}
use Rattle.model_base.specs.Trace.{Settings}
use Rattle.model_base.specs.Calls.{Command}
use Rattle.log_writer.specs.declared.group_log.GroupLog.{Ghosts}
use Rattle.engine_parts.specs.declared.log.OpenLog.{OpenLog}
use Rattle.engine_parts.specs.Logs.{Had, fault_of, faults_of, Wrote}
use Rattle.run_threads.specs.declared.run.ClientsEnd.{ClientsEnd}
use Rattle.run_threads.specs.declared.run.ClientsEnd.TheVariants.{NotRun, Untold, Told}
use Rattle.run_threads.specs.Runs.{HaveRun, ComesTo}
use Rattle.run_execution.specs.Bare.{HasKept, bare_of}
use Rattle.run_execution.proofs.KeptBatches.{if_known}

module _ {L : Type 0} {ghosts : Ghosts L} (settings : Settings) (script : List (List Command)) (opened : OpenLog L ghosts) where
  have_run : (log : OpenLog L ghosts) (last : ℕ) → HaveRun settings script (Wrote opened) fault_of faults_of log last → HaveRun settings script (ghosts.wrote opened.log) ghosts.fault ghosts.faults log.log last
  have_run log last run = record { trace = run.trace; attempts = run.attempts; groups = run.groups; transcripts = run.transcripts; writes = run.writes; legal = run.legal; of_groups = run.of_groups }

  pub bare_comes : (ran : ClientsEnd (OpenLog L ghosts)) → ComesTo settings script (Wrote opened) fault_of faults_of ran → ComesTo settings script (ghosts.wrote opened.log) ghosts.fault ghosts.faults (bare_of ran)
  unfolding have_run
  bare_comes (NotRun log) wrote = wrote
  bare_comes (Untold log last) run = have_run log last run
  bare_comes (Told log last transcripts history state) told = (have_run log last told.0, told.1)

-- what a log had, an engine that was opened with it had
pub had_on : {L : Type 0} {ghosts : Ghosts L} (kept : Option (List Logged)) (log : L) (opened : OpenLog L ghosts) (wanted settings : Settings) → opened.log ≡ log → settings ≡ wanted → IfSome kept (HasKept ghosts log wanted.start) → IfSome kept (Had opened settings.start)
had_on {L = L} {ghosts = ghosts} kept log opened wanted settings same as_wanted has = if_known kept (HasKept ghosts log wanted.start) (Had opened settings.start) (λ batches had. record {
  keeps = subst (λ (l : L). ghosts.keeps l batches) (sym same) had.keeps;
  are_batches = had.are_batches;
  in_order = had.in_order;
  up_to = subst (λ (s : Settings). last_sequence 0 batches ≤ s.start) (sym as_wanted) had.up_to;
}) has
