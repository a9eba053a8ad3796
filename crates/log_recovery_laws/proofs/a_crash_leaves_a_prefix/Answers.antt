use Rattle.std.proofs.Common.{◌≡◌, length, map, take, ap, arith, length-take}
use Rattle.model_base.specs.Recovery.{logged_bytes}
use Rattle.log_laws.proofs.Placed.{length_map}
use Rattle.log_laws.proofs.Crash.{reads_front}
use Rattle.log_laws.proofs.Recovers.{recovers_front}
use Rattle.log_recovery_laws.proofs.Recovering.{recovers_some}
use Rattle.log_recovery_laws.proofs.AllRecords.{all_read_some}
use Rattle.log_recovery_laws.proofs.a_crash_leaves_a_prefix.Goals as goal

pub returns : goal.returns
returns c = record {
  recovered = λ number image whole records are spells none.
      let some = recovers_some number image are in
      let r = some.0 in
      let front : map logged_bytes r.batches ≡ take (length r.batches) records = recovers_front number image whole records r spells some.1 none in
      (r, some.1, record { many = length r.batches; some = omega (arith, ap length front, length_map logged_bytes r.batches, length-take (length r.batches) records); same = front; enough = tt });
  read = λ number image whole records are spells none.
      let some = all_read_some number image are in
      let is = some.1 in
      let front : some.0 ≡ take (length some.0) records = reads_front number image whole is.kept some.0 records spells is.within is.spelled none in
      (some.0, is, record { many = length some.0; some = omega (arith, ap length front, length-take (length some.0) records); same = front; enough = tt });
}
