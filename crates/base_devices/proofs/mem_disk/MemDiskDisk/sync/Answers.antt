use Rattle.base_devices.proofs.Eras.{elapses_sync}
use Rattle.base_devices.proofs.mem_disk.MemDiskDisk.sync.Goals as goal

pub returns-clause-time : goal.returns-clause-time
returns-clause-time c =
    let disk = c.args.self.now in
    let len = c.len-len.result in
    elapses_sync disk.content.items disk.before.items (record { synced = disk.synced; reach = disk.reach; place = disk.place }) (record { synced = len; reach = len; place = disk.place })
    disk.forgot disk.past.items c.push.new.self.items c.in-Ok.ensures.items disk.safe disk.placed disk.behind
