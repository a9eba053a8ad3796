use Rattle.std.proofs.Common.{ℕ, sym, arith}
use Rattle.replay_core.proofs.ClientLemmas.{empty_lines}
use Rattle.replay_core.proofs.SmallLemmas.{small_empty}
use Rattle.replay_core.proofs.seats.empty_batch.Goals as goal

pub returns : goal.returns
returns c = λ plan client is.
    let next : ℕ = c.args.seat.now.next in
    record {
      left = is.left;
      begun = omega arith;
      within = is.within;
      added = sym (empty_lines plan next);
      small = small_empty client.added client.left is.small;
      idle = is.idle;
      replies = is.replies;
      room = is.room;
    }
