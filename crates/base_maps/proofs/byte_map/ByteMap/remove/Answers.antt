use Rattle.std.proofs.Common.{◌≡◌, ◌-◌, Bool, subst, arith}
use Rattle.std.specs.Prelude.{if◌then◌else◌}
use Rattle.base_maps.specs.Parts.{AreParts}
use Rattle.base_maps.proofs.MapSteps.{cut_map}
use Rattle.base_maps.proofs.byte_map.ByteMap.remove.Goals as goal

pub invariant_of-self : goal.invariant_of-self
invariant_of-self c =
    let old = c.self.inside.shelves.items in
    let new = c.remove_in.new.parts.items in
    subst (λ (b : Bool). AreParts new (c.self.inside.count - (if b then 1 else 0))) c.if-remove_in.true
    (cut_map old new c.args.key.now c.self.inside.count c.self.invariant c.remove_in.ensures.filled c.remove_in.ensures.rows
    (if c.remove_in.result then 1 else 0) c.remove_in.ensures.removed)

pub invariant_of-self-else-remove_in : goal.invariant_of-self-else-remove_in
invariant_of-self-else-remove_in c =
    let old = c.self.inside.shelves.items in
    let new = c.remove_in.new.parts.items in
    let none : c.self.inside.count - 0 ≡ c.self.inside.count = omega arith in
    subst (λ n. AreParts new n) none
    (subst (λ (b : Bool). AreParts new (c.self.inside.count - (if b then 1 else 0))) c.if-remove_in.false
    (cut_map old new c.args.key.now c.self.inside.count c.self.invariant c.remove_in.ensures.filled c.remove_in.ensures.rows
    (if c.remove_in.result then 1 else 0) c.remove_in.ensures.removed))
