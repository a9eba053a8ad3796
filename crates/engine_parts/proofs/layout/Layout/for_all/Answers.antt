use Rattle.std.proofs.Common.{ℕ, sym, subst, arith}
use Rattle.engine_parts.specs.Layout.{AreRoomy}
use Rattle.engine_parts.proofs.Roomy.{roomy_more}
use Rattle.engine_parts.proofs.layout.Layout.for_all.Goals as goal

pub loop-made-preserved : goal.loop-made-preserved
loop-made-preserved c =
    let v = c.loop-made.invariant in let p = c.push_reserved.ensures in let n : ℕ = c.args.clients in (
      (let a = v.0 in let l = p.len in omega arith),
      (let a = v.1 in let k = p.capacity in omega arith),
      subst (AreRoomy n) (sym p.items) (roomy_more n c.loop-made.all.items c.in_ok-new.field-0 v.2 c.in_ok-new.ensures),
    )
