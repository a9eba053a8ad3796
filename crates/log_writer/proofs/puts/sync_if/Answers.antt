use Rattle.std.proofs.Common.{[], Bool, subst, sym, Ok}
use Rattle.base_devices.specs.declared.failed.Failed.{Failed}
use Rattle.log_writer.specs.Puts.{Puts}
use Rattle.log_writer.proofs.Putting.{puts_none, sync_puts}
use Rattle.log_writer.proofs.puts.sync_if.Goals as goal

pub returns-then-sync : goal.returns-then-sync
returns-then-sync g c =
    subst (λ (sync : Bool). Puts g.D.Disk c.args.disk.now c.sync.new.self [] sync c.sync.result) (sym c.if-sync.true)
    (sync_puts g.D.Disk c.args.disk.now c.sync.new.self c.sync.result (g.met.D.Disk.is_disk c.args.disk.now) (g.met.D.Disk.only_now c.args.disk.now)
    c.sync.ensures.synced c.sync.ensures.adds_none c.sync.ensures.time c.sync.ensures.cause)

pub returns-else-sync : goal.returns-else-sync
returns-else-sync g c =
    subst (λ (sync : Bool). Puts {T = Unit {0}} {E = Failed} g.D.Disk c.args.disk.now c.args.disk.now [] sync (Ok tt)) (sym c.if-sync.false) (puts_none g.D.Disk c.args.disk.now (g.met.D.Disk.only_now c.args.disk.now))
