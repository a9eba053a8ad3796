-- Calls that may have written a log.
use Rattle.std.proofs.Common.{◌≡◌, ℕ, List, [], ◌∷◌, ◌++◌, flat_map, Option, Some, None, refl, ap, sym, ◌∙◌, subst}
use Rattle.std.proofs.Math.Dec.{lit<}
use Rattle.std.specs.List.{AllByRecursion, AllZip}
use Rattle.model_base.specs.History.{Entry, logged_entries, last_sequence}
use Rattle.model_base.specs.Trace.{Trace}
use Rattle.model_base.specs.Attempts.{Attempt}
use Rattle.model_base.specs.Controller.{ControllerCall}
use Rattle.model_base.specs.Groups.{Group}
use Rattle.model_base.specs.LogContents.{GroupCall}
use Rattle.model_runs.specs.Groups.{IsAskedByLeader}
use Rattle.model_runs.specs.Written.{WroteEntries, AreLost, WritesLog}
use Rattle.model_runs.specs.Examples.{two_groups, two_entries, failed_then_worked, in_one_record, in_two_records}
use Rattle.model_runs.specs.GroupExamples.{delays_by, own_commits, own_groups}

-- at most one call failed, so these two aren't the failed ones
one_lost : (group_bytes : ℕ) (attempts : List (List Attempt)) (fault : Option ℕ) (last : ℕ) (lost : List GroupCall) → AreLost group_bytes attempts fault last lost → lost ≡ failed_then_worked → ⊥
one_lost group_bytes attempts None last lost are is = cc (are, is)
one_lost group_bytes attempts (Some count) last lost are is = cc (are.1, is)

-- the first call failed, so it isn't one that wrote a group
failed_first : (group_bytes : ℕ) (attempts : List (List Attempt)) (fault : Option ℕ) (last : ℕ) (parts : List (List Entry)) (calls lost : List GroupCall) → AllZip WroteEntries parts calls
    → AreLost group_bytes attempts fault last lost → calls ++ lost ≡ failed_then_worked → ⊥
failed_first group_bytes attempts fault last parts [] lost each are is = one_lost group_bytes attempts fault last lost are is
failed_first group_bytes attempts fault last [] (c ∷ calls) lost each are is = absurd each
failed_first group_bytes attempts fault last (part ∷ parts) (c ∷ calls) lost each are is =
    let failed : c.failed ≡ Some 1 = cc is in
    cc (failed, (each.0).ok)

pub accepted_after_a_failed_write : (group_bytes : ℕ) (trace : Trace) (attempts : List (List Attempt)) (groups : List Group) (fault : Option ℕ) → WritesLog group_bytes (λ calls. calls ≡ failed_then_worked) trace attempts groups fault → ⊥
accepted_after_a_failed_write group_bytes trace attempts groups fault writes =
    failed_first group_bytes attempts fault (last_sequence trace.start trace.entries) writes.parts writes.calls writes.lost writes.each writes.none_else writes.by

-- the one call worked, so it isn't a failed one
none_lost : (group_bytes : ℕ) (attempts : List (List Attempt)) (fault : Option ℕ) (last : ℕ) (lost : List GroupCall) → AreLost group_bytes attempts fault last lost → lost ≡ in_one_record → ⊥
none_lost group_bytes attempts None last lost are is = cc (are, is)
none_lost group_bytes attempts (Some count) last lost are is =
    let failed : (are.0).failed ≡ None = cc (are.1, is) in
    cc (failed, (are.2).failed)

-- so it wrote both entries; but these are of one client
not_of_one : (part more : List Entry) (c : GroupCall) → WroteEntries part c → c ∷ [] ≡ in_one_record → part ++ more ≡ two_entries → ⊥
not_of_one [] more c wrote is cut = cc wrote.some
not_of_one (e ∷ []) more c wrote is cut = let batches = wrote.batches in cc (batches, is)
not_of_one (e ∷ f ∷ part) more c wrote is cut = ((wrote.apart).0).0 (cc cut)

both_in_one : (group_bytes : ℕ) (attempts : List (List Attempt)) (fault : Option ℕ) (last : ℕ) (parts : List (List Entry)) (calls lost : List GroupCall) → AllZip WroteEntries parts calls
    → AreLost group_bytes attempts fault last lost → calls ++ lost ≡ in_one_record → flat_map (λ part. part) parts ≡ two_entries → ⊥
both_in_one group_bytes attempts fault last parts [] lost each are is cut = none_lost group_bytes attempts fault last lost are is
both_in_one group_bytes attempts fault last [] (c ∷ calls) lost each are is cut = absurd each
both_in_one group_bytes attempts fault last (part ∷ parts) (c ∷ calls) lost each are is cut = not_of_one part (flat_map (λ p. p) parts) c each.0 (cc is) cut

pub one_record_at_the_end : (group_bytes : ℕ) (trace : Trace) (attempts : List (List Attempt)) (groups : List Group) (fault : Option ℕ) → trace.entries ≡ two_entries
    → WritesLog group_bytes (λ calls. calls ≡ in_one_record) trace attempts groups fault → ⊥
one_record_at_the_end group_bytes trace attempts groups fault entries writes =
    both_in_one group_bytes attempts fault (last_sequence trace.start trace.entries) writes.parts writes.calls writes.lost writes.each writes.none_else writes.by (writes.cut ∙ ap logged_entries entries)

pub a_record_for_each : (group_bytes : ℕ) (trace : Trace) → trace.entries ≡ two_entries → trace.logged ≡ two_groups → trace.log_calls ≡ in_two_records → trace.controller_calls ≡ delays_by (1 ∷ 1 ∷ [])
    → WritesLog group_bytes (λ calls. calls ≡ in_two_records) trace own_commits own_groups None
a_record_for_each group_bytes trace entries logged log asked = record {
  parts = two_groups;
  calls = in_two_records;
  lost = [];
  cut = sym (ap logged_entries entries);
  runs = (tt, (tt, tt));
  each = (
    record { some = refl; apart = (tt, tt); batches = refl; synced = ((λ to_sync. refl), tt); ok = refl },
    (record { some = refl; apart = (tt, tt); batches = refl; synced = ((λ to_sync. absurd (cc to_sync)), tt); ok = refl }, tt),
  );
  logged = sym logged;
  none_else = refl;
  by = refl;
  log = sym log;
  rise = ((lit< tt, tt), (tt, tt));
  in_turn = (((λ same. lit< tt), tt), (tt, tt));
  by_leaders = subst (λ (calls : List ControllerCall). AllByRecursion (IsAskedByLeader calls) own_groups) (sym asked) (
    record { leader = _; call = _; leads = refl; there = refl; by = refl },
    (record { leader = _; call = _; leads = refl; there = refl; by = refl }, tt),
  );
  made = two_groups;
  are_made = record { cut = sym entries; made = (refl, (refl, tt)) };
  by_groups = record { parts_are = refl; syncs_are = refl };
  of_first = tt;
  dead = ((λ dead. absurd (cc dead)), ((λ dead. absurd (cc dead)), tt));
}
