-- What `add_group` does to a set.
use Rattle.std.proofs.Common.{◌≡◌, ℕ, true, false, [], Option, Some, None, IfSome, MatchOption, refl, sym, ◌∙◌, ap, subst}
use Rattle.base_devices.specs.declared.disk.Disk.{Ghosts}
use Rattle.log_writer.specs.declared.set.LogSet.{LogSet}
use Rattle.log_writer.specs.Words.{disk_of, fault_of}
use Rattle.log_writer.specs.Puts.{Puts}
use Rattle.log_writer.specs.Adding.{GroupCall, answer_of, text_at_end, Grows, Stops}
use Rattle.log_writer.specs.Sets.{counted, count_in, current_of, logs_of, fault_in, AddsHere, AddsOver, here, next, IsStuck, MakesRoom, stays, goes_on}
use Rattle.log_writer.proofs.Putting.{puts_cut, puts_err}

module _ {D : Type 0} {ghosts : Ghosts D} where
  -- the group went into the current log, as it was or is now
  pub adds_over : (c : GroupCall) (old now new : LogSet D ghosts) → MakesRoom old now → AddsHere c now new → AddsOver c old new
  adds_over c old now new (stays room same) a = here room (subst (λ (s : LogSet D ghosts). AddsHere c s new) same a)
  adds_over c old now new (goes_on g) a = next now g a

  -- where a sync failed, it is as if the write of the group had failed in the current log
  pub stuck_adds : (c : GroupCall) (old new : LogSet D ghosts) (count : ℕ) → fault_in old ≡ None → c.failed ≡ Some count → IsStuck old new count → AddsHere c old new
  stuck_adds c old new count alive failed s =
      let n : ℕ = ghosts.faults (disk_of (current_of new)) in
      let d : GroupCall = counted n c in
      let none : fault_of (current_of old) ≡ None = old.alive alive in
      let fails : d.failed ≡ Some n = ap (λ (f : Option ℕ). (counted n (record c { failed = f })).failed) failed in
      record {
        full = s.full;
        adds = record {
          number = s.fails.number;
          dead = subst (λ (f : Option ℕ). IfSome f (λ k. (d.failed ≡ Some k) × (current_of new ≡ current_of old))) (sym none) tt;
          put = λ e. subst (λ (f : Option ℕ). Puts ghosts (disk_of (current_of old)) (disk_of (current_of new)) (text_at_end d (current_of old)) d.sync (answer_of f)) (sym fails)
              (puts_cut ghosts (disk_of (current_of old)) (disk_of (current_of new)) [] (text_at_end d (current_of old)) d.sync n (answer_of (Some n)) refl
              (puts_err ghosts (disk_of (current_of old)) (disk_of (current_of new)) [] true false n (answer_of (Some n)) refl s.fails.put));
          kept = λ e. subst (λ (f : Option ℕ). MatchOption f (Grows (text_at_end d (current_of old)) (current_of old) (current_of new)) (Stops (current_of old) (current_of new))) (sym fails) s.fails.stops;
          batch = λ worked. let wrong : ◌≡◌ {A = Option ℕ} None (Some n) = sym worked ∙ fails in absurd (cc);
        };
        later = s.later;
        limit = s.limit;
        fault = s.fault ∙ sym failed;
        count = subst (λ (f : Option ℕ). IfSome f (λ k. k ≡ count_in (logs_of new))) (sym failed) s.count_is;
      }
