use Rattle.std.proofs.Common.{ℕ, List, ap}
use Rattle.base_devices.specs.Disk.{Disk}
use Rattle.base_devices.proofs.mem_disk.MemDisk.crashed.Goals as goal

pub returns-clause-disk : goal.returns-clause-disk
returns-clause-disk c =
    let cut : List ℕ → Disk = λ content. record { content = content; synced = c.args.len; reach = c.args.len; place = c.args.len } in
    ap cut c.truncate.ensures.items
