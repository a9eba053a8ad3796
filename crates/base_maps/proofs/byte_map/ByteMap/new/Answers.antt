use Rattle.base_maps.proofs.MapSteps.{no_shelves}
use Rattle.base_maps.proofs.byte_map.ByteMap.new.Goals as goal

pub invariant_of-result : goal.invariant_of-result
invariant_of-result c = no_shelves c.new.result.items c.new.ensures.items
