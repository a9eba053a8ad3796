use Rattle.log_writer.proofs.Putting.{append_puts}
use Rattle.log_writer.proofs.puts.append.Goals as goal

pub returns : goal.returns
returns g c =
    append_puts g.D.Disk c.args.disk.now c.append.new.self c.args.bytes.now c.append.result (g.met.D.Disk.is_disk c.args.disk.now) (g.met.D.Disk.only_now c.args.disk.now)
    c.append.ensures.appended c.append.ensures.added c.append.ensures.time c.append.ensures.cause
