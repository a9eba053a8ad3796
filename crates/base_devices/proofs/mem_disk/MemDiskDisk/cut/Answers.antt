use Rattle.std.proofs.Common.{◌≤◌, List, ℕ, take, ap, ◌∙◌, arith}
use Rattle.std.proofs.lemmas.List.{take-take}
use Rattle.std.proofs.lemmas.List.Elements.{recursion_from_All}
use Rattle.base_devices.specs.Disk.{Disk}
use Rattle.base_devices.specs.declared.mem_disk.Era.{Era}
use Rattle.base_devices.proofs.Eras.{elapses_turned}
use Rattle.base_devices.proofs.mem_disk.MemDiskDisk.cut.Goals as goal

pub returns-clause-time : goal.returns-clause-time
returns-clause-time c =
    let disk = c.args.self.now in
    let after = c.turn.new.self in
    let is = c.turn.ensures.disk in
    let turned = c.turn.ensures.turned in
    let safe : ℕ = c.min-self.result in
    let content : List ℕ = c.truncate.new.self.items in
    elapses_turned disk.content.items content disk.before.items after.before.items (record { synced = disk.synced; reach = disk.reach; place = disk.place }) (record { synced = safe; reach = after.reach; place = c.args.at })
    disk.forgot after.forgot disk.past.items after.past.items turned.before turned.past disk.placed (omega (arith, c.min-self.ensures, ap (λ (d : Disk). d.synced) is)) (omega (arith, ap (λ (d : Disk). d.reach) is))
    (ap (λ (l : List ℕ). take safe l) c.truncate.ensures.items ∙ take-take safe c.args.at after.content.items (omega (arith, c.min-self.ensures)) ∙ ap (λ (d : Disk). take safe d.content) is)
    (recursion_from_All (λ (era : Era). era.place ≤ disk.place) disk.past.items disk.past_placed)
    (λ told. ((turned.forgot told).0, recursion_from_All (λ (era : Era). era.synced ≤ era.place) disk.past.items (turned.forgot told).1))
