use Rattle.std.proofs.Common.{◌≡◌, refl}
use Rattle.run_batches.specs.OneList.{AreBatches}
use Rattle.run_batches.proofs.Additions.{still}
use Rattle.run_batches.proofs.list.BatchList.reserve.Goals as goal

pub returns-in_err-reserve : goal.returns-in_err-reserve
returns-in_err-reserve c =
    let l = c.self.inside in
    let bytes = c.reserve.new.self.items in
    let are : (h : AreBatches bytes l.ends.items) → h.batches ≡ l.holds.batches = still l.bytes.items bytes l.ends.items l.ends.items l.holds c.reserve.ensures.items refl in
    rw are c.self.view_is

pub returns-in_err-reserve-2 : goal.returns-in_err-reserve-2
returns-in_err-reserve-2 c =
    let l = c.self.inside in
    let bytes = c.reserve.new.self.items in
    let ends = c.reserve-2.new.self.items in
    let are : (h : AreBatches bytes ends) → h.batches ≡ l.holds.batches = still l.bytes.items bytes l.ends.items ends l.holds c.reserve.ensures.items c.reserve-2.ensures.items in
    rw are c.self.view_is

pub returns : goal.returns
returns c =
    let l = c.self.inside in
    let bytes = c.reserve.new.self.items in
    let ends = c.reserve-2.new.self.items in
    let are : (h : AreBatches bytes ends) → h.batches ≡ l.holds.batches = still l.bytes.items bytes l.ends.items ends l.holds c.reserve.ensures.items c.reserve-2.ensures.items in
    rw are c.self.view_is
