use Rattle.std.proofs.Common.{◌≡◌, ℕ, Option, None, Some, subst}
use Rattle.model_base.specs.Trace.{Settings}
use Rattle.engine_rule.specs.Consistent.{AreConsistent, IsConsistent, Standing}
use Rattle.engine_rule.proofs.Steps.{consistent_first, consistent_accepted, consistent_held_up, consistent_with_fault, consistent_after_fault}
use Rattle.engine_rule.proofs.groups.groups_stay_consistent.Goals as goal

-- a consistent state, with its own fault given as `fault`
with_its_fault : (settings : Settings) (s : Standing) (fault : Option ℕ) → IsConsistent settings s → s.fault ≡ fault
    → AreConsistent settings.start settings.clients settings.group_bytes s.asked s.commits s.last fault s.published s.calls
with_its_fault settings s fault is same = subst (λ f. AreConsistent settings.start settings.clients settings.group_bytes s.asked s.commits s.last f s.published s.calls) same is

pub returns : goal.returns
returns c = record {
  first = consistent_first;
  written = λ settings s g new more is alive ahead. let b = ahead.built in
      consistent_accepted settings.start settings.clients settings.group_bytes s.asked g.known g.went s.commits s.last s.published s.calls (with_its_fault settings s None is alive) g.requests b.lawful g.numbers b.whole b.asked_for b.comes_after ahead.proceeds new more;
  held_up = λ settings s g is b hold may.
      consistent_held_up settings.start settings.clients settings.group_bytes s.commits s.last s.published s.calls g.requests s.asked g.known g.numbers b.lawful b.whole b.asked_for b.comes_after s.fault is hold may;
  failed = λ settings s g count x is alive ahead writes failed. let b = ahead.built in
      consistent_with_fault settings.start settings.clients settings.group_bytes s.commits s.last s.published s.calls g.requests s.asked g.known g.numbers b.lawful b.whole b.asked_for b.comes_after g.went ahead.proceeds count (with_its_fault settings s None is alive) x writes failed;
  dead = λ settings s g count is dead ahead. let b = ahead.built in
      consistent_after_fault settings.start settings.clients settings.group_bytes s.commits s.last s.published s.calls g.requests s.asked g.known g.numbers b.lawful b.whole b.asked_for b.comes_after g.went ahead.proceeds count (with_its_fault settings s (Some count) is dead);
}
