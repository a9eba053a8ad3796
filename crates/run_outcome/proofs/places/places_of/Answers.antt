use Rattle.std.proofs.Common.{arith}
use Rattle.run_outcome.proofs.PlaceSteps.{client_more, clients_all}
use Rattle.run_outcome.proofs.places.places_of.Goals as goal

pub loop-index-preserved : goal.loop-index-preserved
loop-index-preserved c =
    client_more c.args.lists.now c.loop-index.places.items _ c.loop-index.index c.loop-index.invariant c.index-lists-index.result c.add_places.new.places.items (omega arith) c.index-lists-index.is c.in_ok-add_places.ensures

pub returns : goal.returns
returns c = clients_all c.args.lists.now c.loop-index.places.items _ c.loop-index.index c.loop-index.invariant (omega arith)
