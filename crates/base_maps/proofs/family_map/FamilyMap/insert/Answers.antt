use Rattle.std.proofs.Common.{ap, length, arith}
use Rattle.model_base.specs.Map.{key_order}
use Rattle.base_maps.proofs.Families.{at, length-put}
use Rattle.base_maps.proofs.family_map.FamilyMap.insert.Goals as goal

-- there is one key more at most, and it was given a value once more
pub invariant_of-self-2 : goal.invariant_of-self-2
invariant_of-self-2 c =
    let few = c.self.invariant.few in
    let put = ap length c.in_ok-insert.ensures.ok in
    let more = length-put key_order c.self.inside.trees (at c.args.family c.args.key.now) c.args.value.now in
    record { few = omega (arith, few, put, more); fits = omega (arith, c.self.invariant.fits, c.if-self.false) }
