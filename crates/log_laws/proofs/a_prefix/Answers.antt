use Rattle.std.proofs.Common.{◌≡◌, length, map, take, ap, arith, length-take}
use Rattle.model_base.specs.Recovery.{logged_bytes}
use Rattle.log_laws.proofs.Placed.{length_map}
use Rattle.log_laws.proofs.Crash.{reads_front}
use Rattle.log_laws.proofs.Recovers.{recovers_front}
use Rattle.log_laws.proofs.a_prefix.Goals as goal

pub returns : goal.returns
returns c = record {
  recovered = λ number image whole records spells none r is.
      let front : map logged_bytes r.batches ≡ take (length r.batches) records = recovers_front number image whole records r spells is none in
      record { many = length r.batches; some = omega (arith, ap length front, length_map logged_bytes r.batches, length-take (length r.batches) records); same = front; enough = tt };
  read = λ number image whole records spells none found is.
      let front : found ≡ take (length found) records = reads_front number image whole is.kept found records spells is.within is.spelled none in
      record { many = length found; some = omega (arith, ap length front, length-take (length found) records); same = front; enough = tt };
}
