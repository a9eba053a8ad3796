use Rattle.std.proofs.Common.{refl, ◌∙◌}
use Rattle.engine_groups.proofs.Answered.{begins_on, begins_self}
use Rattle.engine_groups.proofs.engine.GroupEngine.await_end.Goals as goal

pub loop-init : goal.loop-init
loop-init g c = record {
  next = tt;
  finite = tt;
  ours = c.requires.seat.0;
  ready = c.requires.seat.1;
  number = refl;
  seen = begins_self (g.Versions.Table.account c.args.seat.now).seen;
}

pub returns-then-at-last-clause-seat : goal.returns-then-at-last-clause-seat
returns-then-at-last-clause-seat g c =
    let v = c.loop.invariant in let L = c.last-at in let k = L.ensures.seen in let account = g.Versions.Table.account in (
      L.ensures.ours,
      record { idle = k.stage ∙ v.ready.idle; none_launched = k.launched ∙ v.ready.none_launched },
      k.number ∙ v.number,
      begins_on (account c.args.seat.now).seen (account c.loop.seat).seen (account L.new.seat).seen v.seen k.seen,
    )

pub loop-preserved : goal.loop-preserved
loop-preserved g c =
    let v = c.loop.invariant in let L = c.last-at in let k = L.ensures.seen in let account = g.Versions.Table.account in record {
      next = tt;
      finite = tt;
      ours = L.ensures.ours;
      ready = record { idle = k.stage ∙ v.ready.idle; none_launched = k.launched ∙ v.ready.none_launched };
      number = k.number ∙ v.number;
      seen = begins_on (account c.args.seat.now).seen (account c.loop.seat).seen (account L.new.seat).seen v.seen k.seen;
    }
