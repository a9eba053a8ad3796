use Rattle.std.proofs.Common.{arith}
use Rattle.run_outcome.proofs.PlaceSteps.{place_more, placed_all}
use Rattle.run_outcome.proofs.places.add_places.Goals as goal

pub loop-at-preserved : goal.loop-at-preserved
loop-at-preserved c =
    place_more c.args.client c.args.list.now c.loop-at.places.items _ c.loop-at.at c.loop-at.invariant c.get.result c.sequence-first.result c.push.new.self.items c.get.ensures c.sequence-first.ensures c.in_ok-push.ensures.items

pub returns : goal.returns
returns c = placed_all c.args.client c.args.list.now c.loop-at.places.items _ c.loop-at.at c.loop-at.invariant (omega arith)
