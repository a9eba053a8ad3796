use Rattle.std.proofs.Common.{lit≤}
use Rattle.model_base.specs.Varint.{varint_within}
use Rattle.tests_clients.proofs.no_memory.second_commands.Goals as goal

pub returns : goal.returns
unfolding varint_within
returns c =
    rw (c.in_ok-push-5.ensures.ok, c.in_ok-push-4.ensures.ok, c.in_ok-push-3.ensures.ok, c.in_ok-push-2.ensures.ok, c.in_ok-push.ensures.ok, c.new-commands.ensures) (lit≤ tt)
