-- The key is in this part, if it is in any.
use Rattle.std.proofs.Common.{◌∙◌}
use Rattle.base_maps.proofs.PartSteps.{order_seen, found_seen}
use Rattle.base_maps.proofs.part.get_in.Goals as goal

pub get-requires : goal.get-requires
get-requires g c =
    order_seen g.P.Part.rows c.args.parts.now c.part_of.result c.index-parts-part_of.result c.part_of.ensures.within c.index-parts-part_of.is c.requires.order

pub returns : goal.returns
returns g c =
    c.get.ensures
    ∙ found_seen g.P.Part.rows c.args.parts.now c.part_of.result c.index-parts-part_of.result c.part_of.ensures.within c.index-parts-part_of.is
    c.args.key.now c.part_of.ensures.place
