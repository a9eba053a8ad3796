use Rattle.std.proofs.Common.{◌≡◌, ◌-◌, length, arith, length-drop, length-take, take, drop}
use Rattle.std.proofs.lemmas.Grind.{common_steps}
use Rattle.base_devices.proofs.Taking.{taken_further}
use Rattle.base_devices.proofs.sink.write_all.Goals as goal

pub loop-at-preserved : goal.loop-at-preserved
loop-at-preserved g c =
    let whole : take (length c.args.piece.now - c.loop-at.at) (drop c.loop-at.at c.args.piece.now) ≡ drop c.loop-at.at c.args.piece.now = grind (arith, common_steps) in
    record {
      within = omega (arith, simp (length-take, length-drop) at c.in_ok-at.ensures.bytes.at_most, c.loop-at.invariant.within);
      taken = taken_further _ _ _ c.args.piece.now c.loop-at.at c.in_ok-at.field-0 c.loop-at.invariant.taken (rw whole at c.in_ok-at.ensures.bytes.bytes);
      count = omega (arith, c.in_ok-at.ensures.cause.worked, c.loop-at.invariant.count);
    }
