use Rattle.std.proofs.Common.{◌≡◌, ℕ, ◌+◌, ◌-◌, ◌≤◌, List, ◌++◌, length, take, drop, map, refl, sym, ap, ◌∙◌, subst, arith}
use Rattle.std.specs.List.{AllByRecursion}
use Rattle.std.proofs.lemmas.List.{length-map}
use Rattle.model_base.specs.Calls.{refused}
use Rattle.model_core.specs.Core as core
use Rattle.replay_core.specs.declared.writer.Writer.{Writer}
use Rattle.replay_core.specs.Shown.{shown_writer, total, groups_of_lengths}
use Rattle.replay_core.specs.Mirrors.{AreWriters, AreDone, IsClientOf, answers_in_hand}
use Rattle.replay_core.proofs.LogEvents.{line_of}
use Rattle.replay_core.proofs.TableEvents.{known_take, known_drop}
use Rattle.replay_core.proofs.LeavingLemmas.{all_known_len}
use Rattle.replay_core.proofs.Removing.{without, map_without, writers_without, cut_front, drop_without, answered_few, part_shown}
use Rattle.replay_core.proofs.state.State.refuse_group.Goals as goal

pub returns-clause-left : goal.returns-clause-left
returns-clause-left c = λ o s m.
    let r = c.args.self.now in
    let plans = r.plans.items in
    let start : ℕ = r.in_second in
    let len : ℕ = r.in_hand in
    let end : ℕ = start + len in
    let ws : List core.Writer = line_of r in
    let long : length ws ≡ length r.linked.items = length-map r.linked.items (shown_writer plans) in
    let within : end ≤ length ws = omega (arith, long, r.groups_wait, r.linked.ok.0) in
    let linked : c.remove_range.new.items.items ≡ without start end r.linked.items = c.remove_range.ensures.items in
    let items : c.remove_range-2.new.items.items ≡ without start end r.items.items = c.remove_range-2.ensures.items in
    let line : map (shown_writer plans) c.remove_range.new.items.items ≡ without start end ws = ap (map (shown_writer plans)) linked ∙ map_without (shown_writer plans) start end r.linked.items in
    let few : total r.second.items ≤ start = omega (arith, m.line.second_sum) in
    let few_answered : answers_in_hand r.log r.in_hand ≤ r.in_hand = answered_few r.log r.in_hand in
    let group : List Writer = take (end - start) (drop start r.linked.items) in
    let clients : length plans ≡ length r.done.items = omega (arith, r.one_done_each, r.plans.ok.0, r.done.ok.0) in
    let known : AllByRecursion (IsClientOf (length r.done.items)) group = all_known_len _ _ group clients
    (known_take (IsClientOf (length plans)) (end - start) (drop start r.linked.items) (known_drop (IsClientOf (length plans)) start r.linked.items m.writers.known)) in
    let group_is : c.deref.result.now ≡ r.linked.items = c.deref.ensures.value in
    let P : List Writer → Type 0 = λ all. (AllByRecursion (IsClientOf (length r.done.items)) (take (end - start) (drop start all)) → AreDone plans c.note_refused.new.done.items ((λ (ws : List core.Writer). s.leaving ++ core.all_answered (refused c.args.why) ws) (map (shown_writer plans) (take (end - start) (drop start all))))) in
    let noted : P r.linked.items = subst P group_is (c.note_refused.ensures.noted plans s.leaving m.leaving) in
    let Q : List core.Writer → Type 0 = λ all. AreDone plans c.note_refused.new.done.items ((λ (ws : List core.Writer). s.leaving ++ core.all_answered (refused c.args.why) ws) all) in
    let leaving : Q (take len (drop start ws)) = subst Q (part_shown plans start len end r.linked.items refl) (noted known) in
    let W : List Writer → Type 0 = λ all. AreWriters plans all c.remove_range-2.new.items.items in
    let V : List _ → Type 0 = λ all. AreWriters plans (without start end r.linked.items) all in
    record {
      options = m.options;
      clients = m.clients;
      line = record {
        second_sum = m.line.second_sum;
        second_groups = m.line.second_groups ∙ sym (cut_front r.second.items start ws (drop end ws) few (omega (arith, within))) ∙ ap (groups_of_lengths r.second.items) (sym line);
        hand = refl;
        no_hand = λ e. refl;
        queue = m.line.queue ∙ sym (drop_without start end ws (omega (arith, within))) ∙ ap (drop (start + 0)) (sym line);
      };
      writers = subst W (sym linked) (subst V (sym items) (writers_without plans r.linked.items r.items.items start end m.writers));
      table = m.table;
      leaving = leaving;
      entries = m.entries;
      groups = m.groups;
      assigned = m.assigned;
      log_failed = m.log_failed;
      last = m.last;
      room = record {
        linked = omega (arith, m.room.linked, c.remove_range.ensures.len, c.remove_range.ensures.capacity);
        items = omega (arith, m.room.items, c.remove_range.ensures.len, c.remove_range-2.ensures.capacity);
        second = omega (arith, m.room.second, c.remove_range.ensures.len);
        entries = omega (arith, m.room.entries, c.remove_range.ensures.len, few_answered);
        groups = m.room.groups;
        group_room = m.room.group_room;
      };
    }
