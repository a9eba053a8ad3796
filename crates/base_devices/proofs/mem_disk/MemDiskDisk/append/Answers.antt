use Rattle.std.proofs.Common.{◌≤◌, arith}
use Rattle.std.proofs.lemmas.List.Elements.{recursion_from_All}
use Rattle.base_devices.specs.declared.mem_disk.Era.{Era}
use Rattle.base_devices.proofs.Eras.{elapses_append, put_keeps}
use Rattle.base_devices.proofs.Turning.{behind_put, placed_farther}
use Rattle.base_devices.proofs.mem_disk.MemDiskDisk.append.Goals as goal

pub returns-clause-time : goal.returns-clause-time
returns-clause-time c =
    let disk = c.args.self.now in
    let new = c.put.new.content.items in
    elapses_append disk.content.items new disk.before.items (record { synced = disk.synced; reach = disk.reach; place = disk.place }) (record { synced = c.min-self.result; reach = c.max-self.result; place = _ })
    disk.forgot disk.past.items (put_keeps disk.content.items new c.args.piece.now disk.place c.put.ensures.bytes disk.placed) (omega (arith, c.min-self.ensures)) (omega (arith, c.max-self.ensures))
    (recursion_from_All (λ (era : Era). era.place ≤ disk.place) disk.past.items disk.past_placed)

pub invariant_of-self-2-clause-behind : goal.invariant_of-self-2-clause-behind
invariant_of-self-2-clause-behind c =
    let disk = c.args.self.now in
    behind_put disk.content.items c.put.new.content.items disk.before.items c.args.piece.now disk.place c.put.ensures.bytes disk.placed disk.behind

pub invariant_of-self-2-clause-past_placed : goal.invariant_of-self-2-clause-past_placed
invariant_of-self-2-clause-past_placed c = placed_farther c.args.self.now.place _ c.args.self.now.past.items (omega arith) c.args.self.now.past_placed
