use Rattle.std.proofs.Common.{false, subst, sym, replicate, List, ℕ, Ok}
use Rattle.std.proofs.lemmas.List.{take-replicate}
use Rattle.base_devices.specs.declared.failed.Failed.{Failed}
use Rattle.log_writer.specs.Puts.{Puts}
use Rattle.log_writer.proofs.Putting.{puts_none}
use Rattle.log_writer.proofs.puts.append_zeros.Goals as goal

pub returns-then-zeros-eq0 : goal.returns-then-zeros-eq0
returns-then-zeros-eq0 g c =
    subst (λ (n : ℕ). Puts {T = Unit {0}} {E = Failed} g.D.Disk c.args.disk.now c.args.disk.now (replicate n 0) false (Ok tt)) (sym c.if-zeros-eq0.true) (puts_none g.D.Disk c.args.disk.now (g.met.D.Disk.only_now c.args.disk.now))

pub returns : goal.returns
returns g c =
    subst (λ (bytes : List ℕ). Puts g.D.Disk c.args.disk.now c.append.new.disk bytes false c.append.result) (take-replicate c.args.zeros 10 0 c.requires) c.append.ensures
