use Rattle.std.proofs.Common.{arith}
use Rattle.run_command_list.specs.Views.{command_of}
use Rattle.replay_schedules.proofs.ReplayedClients.{reply_more, replies_all}
use Rattle.replay_schedules.proofs.replies.replies_of.Goals as goal

pub loop-place-preserved : goal.loop-place-preserved
loop-place-preserved c = record {
  reads = λ o s is_core shows. c.in_ok-add_reply.ensures.reads o s is_core shows (c.loop-place.invariant.reads o s is_core shows);
  so_far = λ o s is_core shows.
      reply_more s c.args.plan.now c.args.told.now c.loop-place.replies.items c.add_reply.new.replies.items c.loop-place.place (command_of c.line.result.now)
      c.line.ensures (c.loop-place.invariant.so_far o s is_core shows) (c.in_ok-add_reply.ensures.replies o s is_core shows (c.loop-place.invariant.reads o s is_core shows));
}

pub returns : goal.returns
returns c = λ o s is_core shows.
    replies_all s c.args.plan.now c.args.told.now c.loop-place.replies.items c.loop-place.place (omega arith) (c.loop-place.invariant.so_far o s is_core shows)
