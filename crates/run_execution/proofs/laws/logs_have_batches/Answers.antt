use Rattle.std.proofs.Common.{◌≤◌, sym, subst, arith}
use Rattle.model_base.specs.Recovery.{AreInOrder, last_sequence}
use Rattle.log_writer.specs.ReadableLogs.{AreBatches}
use Rattle.run_outcome.specs.Running.{batches_told}
use Rattle.run_execution.specs.SetEnds.{nothing_told}
use Rattle.run_execution.proofs.KeptBatches.{has_these, if_known, set_has_none}
use Rattle.run_execution.proofs.laws.logs_have_batches.Goals as goal

pub returns : goal.returns
returns g c =
    let law = c.kept_at_first.ensures in
    record {
      one = λ start before disk opened last goes has below.
          if_known (batches_told (g.D.Disk.told disk) before) _ _ (λ batches these. record { keeps = these.keeps; are_batches = these.are_batches; in_order = these.in_order; up_to = these.up_to })
          (has_these law.opened law.reused law.resumed start before disk opened last goes has below);
      set = λ disks opened last has.
          if_known (nothing_told g.D.Disk disks) _ _ (λ batches these. record {
            keeps = these.0;
            are_batches = subst AreBatches (sym these.1) tt;
            in_order = subst (AreInOrder 0) (sym these.1) tt;
            up_to = subst (λ bs. last_sequence 0 bs ≤ last) (sym these.1) (omega arith);
          })
          (set_has_none g.D.Disk law.set disks opened has);
    }
