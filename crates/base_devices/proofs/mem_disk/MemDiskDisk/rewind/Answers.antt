use Rattle.std.proofs.Common.{◌≤◌, take, ap, arith}
use Rattle.std.proofs.lemmas.List.Elements.{recursion_from_All}
use Rattle.base_devices.specs.Disk.{Disk}
use Rattle.base_devices.specs.declared.mem_disk.Era.{Era}
use Rattle.base_devices.proofs.Eras.{elapses_turned}
use Rattle.base_devices.proofs.mem_disk.MemDiskDisk.rewind.Goals as goal

pub returns-clause-time : goal.returns-clause-time
returns-clause-time c =
    let disk = c.args.self.now in
    let after = c.turn.new.self in
    let is = c.turn.ensures.disk in
    let turned = c.turn.ensures.turned in
    elapses_turned disk.content.items after.content.items disk.before.items after.before.items (record { synced = disk.synced; reach = disk.reach; place = disk.place }) (record { synced = after.synced; reach = after.reach; place = after.place })
    disk.forgot after.forgot disk.past.items after.past.items turned.before turned.past disk.placed (omega (arith, ap (λ (d : Disk). d.synced) is)) (omega (arith, ap (λ (d : Disk). d.reach) is))
    (ap (λ (d : Disk). take after.synced d.content) is)
    (recursion_from_All (λ (era : Era). era.place ≤ disk.place) disk.past.items disk.past_placed)
    (λ told. ((turned.forgot told).0, recursion_from_All (λ (era : Era). era.synced ≤ era.place) disk.past.items (turned.forgot told).1))
