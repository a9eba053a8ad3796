use Rattle.std.proofs.Common.{◌≡◌, ◌⊎◌, inl, refl, arith}
use Rattle.base_devices.specs.Disk.{cut_at}
use Rattle.log_writer.proofs.Beginning.{unchanged, leaves_before, leaves_before_of}
use Rattle.log_writer.proofs.writer.LogWriter.resume.Goals as goal

pub returns-in-Err-clause-err : goal.returns-in-Err-clause-err
returns-in-Err-clause-err g c = record {
  told = unchanged (λ x y. (y ≡ x) ⊎ (y ≡ cut_at c.args.kept x)) (g.D.Disk.told c.args.disk) (λ x. inl refl);
  later = omega arith;
  cause = refl;
  crash = leaves_before_of g.D.Disk c.args.disk c.args.disk c.args.kept (leaves_before g.D.Disk c.args.disk (g.met.D.Disk.only_now c.args.disk));
}
