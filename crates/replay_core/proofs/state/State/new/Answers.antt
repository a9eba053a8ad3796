use Rattle.std.proofs.Common.{◌≡◌, List, [], length, drop, map, sum_by, refl, sym, ap, ◌∙◌, subst, arith}
use Rattle.std.specs.List.{AllByRecursion, AllZip}
use Rattle.replay_core.specs.Fresh.{IsFresh}
use Rattle.model_base.specs.Batch.{count_of}
use Rattle.model_core.specs.Core as core
use Rattle.replay_plans.specs.declared.plan.ClientPlan.{ClientPlan}
use Rattle.replay_core.specs.declared.writer.Writer.{Writer}
use Rattle.replay_plans.specs.Plans.{records_of}
use Rattle.replay_core.specs.Shown.{shown_writer, shown_entry, groups_of_lengths, total}
use Rattle.replay_core.specs.Mirrors.{IsClientOf, lines_left}
use Rattle.replay_core.proofs.OpeningLemmas.{fresh_clients, all_left, nobody_done}
use Rattle.replay_core.proofs.ShowsLemmas.{shows}
use Rattle.replay_core.proofs.OrdinalLemmas.{counts_none}
use Rattle.replay_core.proofs.state.State.new.Goals as goal

pub invariant_of-result : goal.invariant_of-result
invariant_of-result c = record {
  one_item_each = omega (arith, c.in_ok-linked.ensures.len, c.in_ok-items.ensures.len);
  groups_wait = omega arith;
  one_seat_each = omega (arith, c.in_ok-seats.ensures.len, ap length c.deref-2.ensures.value, c.args.plans.ok.0);
  one_mark_each = omega (arith, c.in_ok-marks.ensures.len, c.len.ensures);
  one_done_each = omega (arith, c.in_ok-done.ensures.len, c.len-2.ensures);
  assigned_fits = c.requires.last_fits;
  entries_counted = counts_none c.in_ok-accepted.accepted.items c.in_ok-entries.entries.items c.len-3.result c.in_ok-accepted.ensures.items c.in_ok-entries.ensures.items;
}

pub returns-clause-shows : goal.returns-clause-shows
returns-clause-shows c =
    let plans : List ClientPlan = c.args.plans.items in
    let linked : c.in_ok-linked.linked.items ≡ [] = c.in_ok-linked.ensures.items in
    let items : c.in_ok-items.items.items ≡ [] = c.in_ok-items.ensures.items in
    let second : c.in_ok-second.second.items ≡ [] = c.in_ok-second.ensures.items in
    let entries : c.in_ok-entries.entries.items ≡ [] = c.in_ok-entries.ensures.items in
    let groups : c.in_ok-groups.groups.items ≡ [] = c.in_ok-groups.ensures.items in
    let Known : List Writer → Type 0 = λ ws. AllByRecursion (IsClientOf (length plans)) ws in
    let left : lines_left (map core.idle_client plans) ≡ sum_by (λ (p : ClientPlan). length p) plans = all_left plans in
    let lines : sum_by (λ (p : ClientPlan). length p) c.deref.result.now ≡ sum_by (λ (p : ClientPlan). length p) plans = ap (sum_by (λ (p : ClientPlan). length p)) c.deref.ensures.value in
    let room : c.in_ok-room.room ≡ lines_left (map core.idle_client plans) = c.in_ok-room.ensures ∙ lines ∙ sym left in
    shows _ _ _ (record {
      options = refl;
      clients = fresh_clients plans c.in_ok-seats.seats.items c.requires.small (let P : List ClientPlan → Type 0 = λ xs. AllZip IsFresh xs c.in_ok-seats.seats.items in subst P c.deref-2.ensures.value c.in_ok-seats.ensures.fresh);
      line = record {
        second_sum = sym (ap total second);
        second_groups = sym (ap (λ ns. groups_of_lengths ns (map (shown_writer plans) c.in_ok-linked.linked.items)) second);
        hand = refl;
        no_hand = λ e. refl;
        queue = sym (ap (λ ws. drop 0 (map (shown_writer plans) ws)) linked);
      };
      writers = record {
        items_are = items ∙ sym (ap (map (λ w. core.item_of (shown_writer plans w))) linked);
        counts_are = ap (map (λ (w : Writer). w.count)) linked ∙ sym (ap (map (λ (w : Writer). count_of (records_of plans w.client w.batch))) linked);
        known = subst Known (sym linked) tt;
      };
      table = refl;
      leaving = nobody_done plans c.in_ok-done.done.items c.len-2.result c.in_ok-done.ensures.items;
      entries = sym (ap (map (shown_entry plans)) entries);
      groups = sym groups;
      assigned = refl;
      log_failed = refl;
      last = refl;
      room = record {
        linked = omega (arith, c.in_ok-linked.ensures.len, c.in_ok-linked.ensures.exact, room);
        items = omega (arith, c.in_ok-linked.ensures.len, c.in_ok-items.ensures.exact, room);
        second = omega (arith, c.in_ok-linked.ensures.len, c.in_ok-second.ensures.len, c.in_ok-second.ensures.exact, room);
        entries = omega (arith, c.in_ok-linked.ensures.len, c.in_ok-entries.ensures.len, c.in_ok-entries.ensures.exact, room);
        groups = omega (arith, c.in_ok-groups.ensures.len);
        group_room = omega (arith, c.in_ok-entries.ensures.exact, c.in_ok-groups.ensures.exact);
      };
    })

pub returns-clause-plans : goal.returns-clause-plans
returns-clause-plans c = refl
