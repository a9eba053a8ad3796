use Rattle.std.proofs.Common.{◌≡◌, ◌≤◌, ℕ, List, length, map, take, ap, arith, length-take}
use Rattle.model_base.specs.Recovery.{Logged, logged_bytes}
use Rattle.log_laws.specs.Prefixes.{IsPrefix}
use Rattle.log_laws.proofs.Placed.{length_map}
use Rattle.log_recovery_laws.proofs.Fronts.{front_is}
use Rattle.log_recovery_laws.proofs.fronts_recover_prefixes.Goals as goal

prefix_with : (P : ℕ → Type 0) (found : List Logged) (records : List (List ℕ)) → map logged_bytes found ≡ take (length found) records → P (length found) → IsPrefix (map logged_bytes found) records P
prefix_with P found records e p = record { many = length found; some = omega (arith, ap length e, length_map logged_bytes found, length-take (length found) records); same = e; enough = p }

pub returns : goal.returns
returns c = record {
  prefix = λ safe logs images front chance r is. prefix_with _ r.batches _ (front_is 0 safe logs images r front chance is).prefix tt;
  certain = λ safe logs images batches front chance are r is.
      let first = front_is 0 safe logs images r front chance is in
      prefix_with (λ n. safe ≤ n) r.batches _ first.prefix (first.enough batches are.0 are.1 are.2);
}
