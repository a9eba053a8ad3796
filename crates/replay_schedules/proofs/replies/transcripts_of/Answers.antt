use Rattle.std.proofs.Common.{◌+◌}
use Rattle.replay_schedules.specs.Replaying.{IsTranscript}
use Rattle.replay_schedules.proofs.ReplayedClients.{transcript_more}
use Rattle.replay_schedules.proofs.replies.transcripts_of.Goals as goal

pub loop-before-preserved : goal.loop-before-preserved
loop-before-preserved c = λ o s is_core shows.
    let plans = c.plans-plans.result.now in
    let i = c.loop-before.before in
    let plan = c.index-plans-before.result in
    let replies = c.in_ok-replies_of.field-0 in
    let new : IsTranscript s (i + 1) plan replies.items = record {
      told = c.replies-told.result.now;
      is_told = c.replies-told.ensures o s shows;
      replies_are = c.in_ok-replies_of.ensures o s is_core shows;
    } in
    rw c.in_ok-push.ensures.items (transcript_more s plans c.loop-before.transcripts.items i plan replies c.loop-before-test.true c.index-plans-before.is (c.loop-before.invariant o s is_core shows) new)
