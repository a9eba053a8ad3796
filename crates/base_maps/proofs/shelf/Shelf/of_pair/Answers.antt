use Rattle.std.proofs.Common.{sym, subst}
use Rattle.base_maps.specs.Parts.{AreInOrder}
use Rattle.base_maps.proofs.ShelfSteps.{none_in_order}
use Rattle.base_maps.proofs.shelf.Shelf.of_pair.Goals as goal

pub put-requires : goal.put-requires
put-requires c = subst AreInOrder (sym c.new-page.ensures) none_in_order
