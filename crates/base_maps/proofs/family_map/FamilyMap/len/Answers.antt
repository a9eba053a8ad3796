use Rattle.std.proofs.Common.{arith}
use Rattle.base_maps.proofs.family_map.FamilyMap.len.Goals as goal

pub len-requires : goal.len-requires
len-requires c = let few = c.self.invariant.few in let fits = c.self.invariant.fits in omega (arith, few, fits)
