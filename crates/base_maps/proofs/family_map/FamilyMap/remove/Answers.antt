use Rattle.std.proofs.Common.{ap, length, arith}
use Rattle.std.specs.BTreeMap.{is_at}
use Rattle.model_base.specs.Map.{key_order}
use Rattle.base_maps.proofs.Families.{at, length-cut}
use Rattle.base_maps.proofs.family_map.FamilyMap.remove.Goals as goal

pub invariant_of-self : goal.invariant_of-self
invariant_of-self c =
    let few = c.self.invariant.few in
    let cut = ap length c.remove.ensures in
    let less = length-cut (is_at (key_order (at c.args.family c.args.key.now))) c.self.inside.trees in
    record { few = omega (arith, few, cut, less); fits = c.self.invariant.fits }
