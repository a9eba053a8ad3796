use Rattle.std.proofs.Common.{◌≡◌, [], refl}
use Rattle.run_batches.specs.OneList.{AreBatches, same_batches}
use Rattle.run_batches.proofs.list.BatchList.new.Goals as goal

pub invariant_of-result : goal.invariant_of-result
invariant_of-result c = (record { batches = []; fit = tt; spelled = c.new.ensures.items; ends_are = c.new-2.ensures.items }, tt)

pub returns : goal.returns
returns c =
    let bytes = c.new.result.items in
    let ends = c.new-2.result.items in
    let are : (h : AreBatches bytes ends) → h.batches ≡ [] = λ h. same_batches bytes ends h (record { batches = []; fit = tt; spelled = c.new.ensures.items; ends_are = c.new-2.ensures.items }) in
    rw are refl
