use Rattle.std.proofs.Common.{sym, take, length, vec_capacity, ◌≤◌}
use Rattle.std.proofs.lemmas.List.{take_more}
use Rattle.run_threads.proofs.Moves.{room_more}
use Rattle.run_threads.proofs.clients.room_for.Goals as goal

pub loop-commands-preserved : goal.loop-commands-preserved
loop-commands-preserved c =
    let made = c.in_ok-with_capacity.ensures in
    let len = c.len.ensures in
    let fits : length c.commands-item.result ≤ vec_capacity c.in_ok-with_capacity.field-0 = rw len at made.capacity in
    let more = room_more (take c.loop-commands.commands-index c.args.script.now) c.loop-commands.all.items c.commands-item.result c.in_ok-with_capacity.field-0 c.loop-commands.invariant made.items made.len fits in
    let item = sym c.commands-item.is in
    rw (c.in_ok-push.ensures.items, take_more c.args.script.now c.loop-commands.commands-index c.commands-item.result c.loop-commands-test.true, item) more
