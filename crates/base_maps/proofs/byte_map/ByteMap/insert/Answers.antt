-- The first pair has a shelf of its own, and each other one goes to a shelf that is there.
use Rattle.std.proofs.Common.{◌≡◌, ◌+◌, Bool, length, sym, ◌∙◌, subst, arith}
use Rattle.std.specs.Prelude.{if◌then◌else◌}
use Rattle.std.specs.Vec.{vec_len}
use Rattle.std.proofs.lemmas.Bool.{eqb-true}
use Rattle.std.proofs.lemmas.List.{nil_from_length}
use Rattle.base_maps.specs.Parts.{AreParts}
use Rattle.base_maps.proofs.MapSteps.{one_shelf, put_map}
use Rattle.base_maps.proofs.byte_map.ByteMap.insert.Goals as goal

pub invariant_of-self-then-is_empty : goal.invariant_of-self-then-is_empty
invariant_of-self-then-is_empty c =
    let shelves = c.self.inside.shelves in
    let len : vec_len shelves ≡ length shelves.items = omega (arith, shelves.ok.0) in
    let none = nil_from_length shelves.items (sym len ∙ eqb-true (vec_len shelves) 0 (sym c.is_empty.ensures ∙ c.if-is_empty.true)) in
    one_shelf shelves.items c.push.new.self.items c.in_ok-shelf.shelf c.args.key.now c.args.value.now c.in_ok-push.ensures.items none c.in_ok-shelf.ensures

pub invariant_of-self-then-branch : goal.invariant_of-self-then-branch
invariant_of-self-then-branch c =
    let old = c.self.inside.shelves.items in
    let new = c.insert_in.new.parts.items in
    subst (λ (b : Bool). AreParts new (c.self.inside.count + (if b then 1 else 0))) c.if-branch.true
    (put_map old new c.args.key.now c.self.inside.count c.self.invariant c.in_ok-insert_in.ensures.filled c.args.value.now c.in_ok-insert_in.ensures.ok
    (if c.in_ok-insert_in.field-0 then 1 else 0) c.in_ok-insert_in.ensures.added)

pub invariant_of-self-else-branch : goal.invariant_of-self-else-branch
invariant_of-self-else-branch c =
    let old = c.self.inside.shelves.items in
    let new = c.insert_in.new.parts.items in
    let none : c.self.inside.count + 0 ≡ c.self.inside.count = omega arith in
    subst (λ n. AreParts new n) none
    (subst (λ (b : Bool). AreParts new (c.self.inside.count + (if b then 1 else 0))) c.if-branch.false
    (put_map old new c.args.key.now c.self.inside.count c.self.invariant c.in_ok-insert_in.ensures.filled c.args.value.now c.in_ok-insert_in.ensures.ok
    (if c.in_ok-insert_in.field-0 then 1 else 0) c.in_ok-insert_in.ensures.added))
