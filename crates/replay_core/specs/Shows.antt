-- What the code's state shows: a state of the machine of events with its options. The clauses say what this means to
-- those who use it; Mirrors says how the state is kept.
use Rattle.std.specs.Prelude.{◌≡◌, ℕ, Bool, true, false, List, length, Option, Some, None, find, ◌==◌}
use Rattle.model_core.specs.declared.event.Event.{Event}
use Rattle.model_core.specs.Core as core
use Rattle.model_core.specs.CoreLaw.{IsCore}
use Rattle.model_core.specs.Step.{step}
use Rattle.replay_core.specs.declared.state.State.{State}
use Rattle.replay_core.specs.declared.writer.CoreReply.{CoreReply}
use Rattle.replay_core.specs.Mirrors.{Mirrors}
use Rattle.replay_plans.specs.Answers.{answers_of}
use Rattle.replay_core.specs.Replies.{AreReplies}

unfoldable pub Shows : State → core.Options → core.State → Type 0
Shows r o s = Mirrors o r s

-- The result of an event: it could not come and all is as it was, or `t` is the state after it.
abbrev pub ShowsStep : Option core.State → core.Options → core.State → Bool → State → Type 0
ShowsStep None o s came new = (came ≡ false) × Shows new o s
ShowsStep (Some t) o s came new = (came ≡ true) × Shows new o t

-- from each state of the machine that `old` shows
abbrev pub Takes : Event → State → Bool → State → Type 0
Takes event old came new = (o : core.Options) (s : core.State) → IsCore o s → Shows old o s
    → ShowsStep (step o s event) o s came new

-- Two clients with the same lines left, the same batch and the same short replies, and both idle or neither.
pub record AreAlikeClients (a b : core.Client) : Type 0 where
  pub left : a.left ≡ b.left
  pub added : a.added ≡ b.added
  pub idle : a.idle ≡ b.idle
  pub told : List CoreReply
  pub told_first : AreReplies told (answers_of a.calls)
  pub told_second : AreReplies told (answers_of b.calls)

-- Two states of the machine whose clients are alike, with the same queues, log, history, leaving writers (by client)
-- and published sequence.
pub record AreAlike (s t : core.State) : Type 0 where
  pub clients : length s.clients ≡ length t.clients
  pub client_each : (c : ℕ) (a b : core.Client) → core.client_at s c ≡ Some a → core.client_at t c ≡ Some b
      → AreAlikeClients a b
  pub queue : s.queue ≡ t.queue
  pub log : s.log ≡ t.log
  pub second : s.second ≡ t.second
  pub leaving : (c : ℕ)
      → find (λ (w : core.Writer). w.client == c) s.leaving ≡ find (λ (w : core.Writer). w.client == c) t.leaving
  pub groups : s.groups ≡ t.groups
  pub entries : s.entries ≡ t.entries
  pub assigned : s.assigned ≡ t.assigned
  pub log_failed : s.log_failed ≡ t.log_failed
  pub last : s.last ≡ t.last
