use Rattle.replay_schedules.specs.Replaying.{InEachShown, AreTranscripts}
use Rattle.replay_schedules.proofs.replies.transcripts_of.Given as goal

-- the transcripts are those of the clients so far
abbrev pub invariant-loop-before : goal.invariant-loop-before
invariant-loop-before l = InEachShown l.core (λ s. AreTranscripts s l.plans l.before l.transcripts.items)
