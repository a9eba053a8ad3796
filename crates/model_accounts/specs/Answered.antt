-- What a client's transcript shows of a commit that a leader took into its group.
use Rattle.std.specs.Prelude.{◌≡◌, ℕ, List, ◌∷◌, ◌++◌, fold}
use Rattle.model_base.specs.declared.write.Refusal.TheVariants as no
use Rattle.model_base.specs.Batch.{Record}
use Rattle.model_base.specs.Attempts.{Attempt, WriteStatus, succeeded, slowed, faulted, full}
use Rattle.model_base.specs.Progress.{added_by}
use Rattle.model_base.specs.Calls.{commit, Reply, accepted, refused, Call}

-- the reply to a commit with this status
abbrev pub Tells : WriteStatus → List Record → Reply → Type 0
Tells succeeded records reply = (first : ℕ) × (last : ℕ) × (reply ≡ accepted first last records)
Tells slowed records reply = (stops : ℕ) × (delays : ℕ) × (wait : ℕ)
    × (reply ≡ refused (no.Incomplete stops delays wait))
Tells (faulted count) records reply = reply ≡ refused (no.LogFault count)
Tells (full last) records reply = reply ≡ refused (no.SequenceFull last)

-- One of these calls is this commit, with the reply of its status. Before these calls the client's batch had `records`.
pub record IsAmong (records : List Record) (calls : List Call) (attempt : Attempt) : Type 0 where
  pub before : List Call
  pub reply : Reply
  pub after : List Call
  pub there : calls ≡ before ++ record { command = commit attempt.options; reply = reply } ∷ after
  pub batch : attempt.records ≡ fold (λ batch call. added_by batch call.command call.reply) records before
  pub tells : Tells attempt.status attempt.records reply
