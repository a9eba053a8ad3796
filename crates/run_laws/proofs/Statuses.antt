-- If all statuses are sound at the end of a client's run, they are sound at each of its steps.
use Rattle.std.proofs.Common.{ℕ, List, [], ◌∷◌, Option, Some, None, subst}
use Rattle.model_base.specs.declared.write.WriteOptions.{WriteOptions}
use Rattle.model_base.specs.Batch.{Record}
use Rattle.model_base.specs.Attempts.{Attempt, Fate, WriteStatus, succeeded, fate_at, with_attempt}
use Rattle.model_base.specs.Trace.{Trace, Settings}
use Rattle.model_base.specs.Progress.{Progress}
use Rattle.model_base.specs.Runs.{Run}
use Rattle.model_base.specs.Calls.{Command, Call}
use Rattle.run_laws.proofs.Lists.{all_front, all_back}
use Rattle.run_laws.proofs.Plain.{IsSound, AreSound}
use Rattle.run_laws.proofs.Progresses.{Moves, stays, adds, clears, accepts, refuses, moves}

module _ (most : ℕ) where
  sound_before : (attempts : List Attempt) (records : List Record) (how : WriteOptions) (fate : Option Fate) → AreSound most (with_attempt attempts records how fate) → AreSound most attempts
  sound_before attempts records how None a = a
  sound_before attempts records how (Some fate) a = all_front (λ (h : Attempt). IsSound most h.status) attempts _ a

  pub sound_last : (attempts : List Attempt) (records : List Record) (how : WriteOptions) (place decided : ℕ) (status : WriteStatus) → AreSound most (with_attempt attempts records how (fate_at place decided status)) → IsSound most status
  sound_last attempts records how place decided status a = (all_back (λ (h : Attempt). IsSound most h.status) attempts _ a).0

  sound_step : (client : ℕ) (p : Progress) (command : Command) (q : Progress) → Moves client p command q → AreSound most q.attempts → AreSound most p.attempts
  sound_step client p command q (stays e f g) a = subst (AreSound most) g a
  sound_step client p command q (adds r is e f g) a = subst (AreSound most) g a
  sound_step client p command q (clears e f g) a = subst (AreSound most) g a
  sound_step client p command q (accepts how first place decided e f g) a = sound_before p.attempts p.pending how (fate_at place decided succeeded) (subst (AreSound most) g a)
  sound_step client p command q (refuses how fate e f g) a = sound_before p.attempts p.pending how fate (subst (AreSound most) g a)

  pub sound_run : (settings : Settings) (trace : Trace) (client : ℕ) (p : Progress) (calls : List Call) (q : Progress) → Run settings trace client p calls q → AreSound most q.attempts → AreSound most p.attempts
  sound_run settings trace client p [] q run a = subst (λ (x : Progress). AreSound most x.attempts) run a
  sound_run settings trace client p (c ∷ calls) q run a =
      sound_step client p c.command run.0 (moves settings trace client p c.command c.reply run.0 run.1.replies) (sound_run settings trace client run.0 calls q run.2 a)
