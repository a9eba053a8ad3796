-- The laws, by their premises.
use Rattle.std.proofs.Common.{◌≡◌, ℕ, List, ⊎_elim, ap, sym, ◌∙◌}
use Rattle.base_devices.specs.declared.disk.Disk.{Ghosts}
use Rattle.model_base.specs.Recovery.{Recovered, recovered_last, recovered_map}
use Rattle.log_recovery_laws.proofs.OneRecovery.{recovers_one}
use Rattle.run_outcome.specs.Running.{Before, RecoversTo}
use Rattle.crash_laws.specs.Restarts.{Call, number_of, IsAfterCrash}
use Rattle.crash_laws.proofs.Promised.{goes_after}
use Rattle.crash_laws.proofs.Front.{found_by_none, found_in_opening, map_found, last_found}
use Rattle.crash_laws.proofs.Certain.{safe_found, begun_found, synced_found, acknowledged_found, kept_at_end, synced_at_end}
use Rattle.crash_laws.proofs.Whole.{after_groups, all_found, state_found}
use Rattle.crash_laws.proofs.crash_then_go_on.Goals as goal

after_crash : {D : Type 0} {disk : Ghosts D} (call : Call disk) (image : List ℕ) (next : Before) → RecoversTo (number_of call) image next → IsAfterCrash call image next
after_crash call image next to = record {
  found = ⊎_elim (found_by_none call image next to) (found_in_opening call image next to);
  safe = safe_found call image next to;
  begun = begun_found call image next to;
  synced = synced_found call image next to;
  acknowledged = acknowledged_found call image next to;
  ended = λ left none. (kept_at_end call image next to left none, synced_at_end call image next to left none);
  map = map_found call image next to;
  last = last_found call image next to;
  history = λ n. after_groups call image next n to;
  printed = λ mode text prints.
      let r : Recovered = prints.recovered in
      let one : r ≡ to.recovered = recovers_one (number_of call) image r to.recovered prints.is_recovered to.is in
      (r, prints.text_is, ap (λ (q : Recovered). q.batches) one ∙ sym to.batches, ap recovered_map one ∙ sym to.map, ap recovered_last one ∙ sym to.last);
}

pub returns : goal.returns
returns g c = record {
  goes_on = after_crash;
  resumed = λ earlier later image resumes. after_crash earlier image later.ran.before (goes_after earlier image later resumes);
  ended = λ call next none alone to. record { all = all_found call next none alone to; state = state_found call next none alone to };
}
