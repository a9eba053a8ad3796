use Rattle.std.proofs.Common.{◌≡◌, ℕ, ◌+◌, ◌-◌, ◌≤◌, List, ◌∷◌, ◌++◌, length, take, drop, map, get_or, sym, ap, ◌∙◌, subst, arith}
use Rattle.std.specs.List.{AllByRecursion, take-map}
use Rattle.std.proofs.lemmas.List.{length-map, drop-drop, get_or_read}
use Rattle.model_core.specs.Core as core
use Rattle.replay_core.specs.declared.writer.Writer.{Writer}
use Rattle.replay_core.specs.Shown.{shown_writer, shown_log, total, groups_of_lengths}
use Rattle.replay_core.specs.Mirrors.{AreWriters, AreDone, IsClientOf}
use Rattle.replay_core.proofs.LogEvents.{line_of}
use Rattle.replay_core.proofs.TableEvents.{known_take}
use Rattle.replay_core.proofs.LeavingLemmas.{all_known_len}
use Rattle.replay_core.proofs.Removing.{without, map_without, writers_without, first_of}
use Rattle.replay_core.proofs.state.State.leave_second.Goals as goal

pub returns-clause-left : goal.returns-clause-left
returns-clause-left c = λ o s m.
    let r = c.args.self.now in
    let plans = r.plans.items in
    let n : ℕ = get_or r.second.items 0 0 in
    let ns : List ℕ = drop 1 r.second.items in
    let parts : r.second.items ≡ n ∷ ns = first_of r.second.items c.requires in
    let sum : r.in_second ≡ n + total ns = m.line.second_sum ∙ ap total parts in
    let len : ℕ = c.min-len.result in
    let first : c.index.result.now ≡ n = get_or_read r.second.items _ _ c.requires c.index.ensures 0 in
    let len_is : len ≡ n = omega (arith, c.min-len.ensures, first, sum) in
    let ws : List core.Writer = line_of r in
    let long : length ws ≡ length r.linked.items = length-map r.linked.items (shown_writer plans) in
    let within : len ≤ length ws = omega (arith, long, len_is, sum, r.groups_wait, r.linked.ok.0) in
    let linked : c.remove_range.new.items.items ≡ without 0 (0 + len) r.linked.items = c.remove_range.ensures.items in
    let items : c.remove_range-2.new.items.items ≡ without 0 (0 + len) r.items.items = c.remove_range-2.ensures.items in
    let end_is : 0 + len ≡ n = omega (arith, len_is) in
    let line : map (shown_writer plans) c.remove_range.new.items.items ≡ drop n ws = ap (map (shown_writer plans)) linked ∙ map_without (shown_writer plans) 0 (0 + len) r.linked.items ∙ ap (λ k. drop k ws) end_is in
    let second : c.remove-self.new.self.items ≡ ns = c.remove-self.ensures.by_index.2 in
    let groups : s.second ≡ take n ws ∷ groups_of_lengths ns (drop n ws) = m.line.second_groups ∙ ap (λ ks. groups_of_lengths ks ws) parts in
    let group : List Writer = take len r.linked.items in
    let clients : length plans ≡ length r.done.items = omega (arith, r.one_done_each, r.plans.ok.0, r.done.ok.0) in
    let known : AllByRecursion (IsClientOf (length r.done.items)) group = all_known_len _ _ group clients
    (known_take (IsClientOf (length plans)) len r.linked.items m.writers.known) in
    let P : List Writer → Type 0 = λ all. (AllByRecursion (IsClientOf (length r.done.items)) (take len all) → AreDone plans c.note_group.new.done.items (s.leaving ++ map (shown_writer plans) (take len all))) in
    let noted : P r.linked.items = subst P c.deref.ensures.value (c.note_group.ensures.noted plans s.leaving m.leaving) in
    let Q : List core.Writer → Type 0 = λ all. AreDone plans c.note_group.new.done.items (s.leaving ++ all) in
    let shown : map (shown_writer plans) (take len r.linked.items) ≡ core.first_group s.second =
    sym (take-map (shown_writer plans) len r.linked.items) ∙ ap (λ k. take k ws) len_is ∙ sym (ap core.first_group groups) in
    let W : List Writer → Type 0 = λ all. AreWriters plans all c.remove_range-2.new.items.items in
    let V : List _ → Type 0 = λ all. AreWriters plans (without 0 (0 + len) r.linked.items) all in
    let later : (k : ℕ) → drop (r.in_second - len + k) (drop n ws) ≡ drop (r.in_second + k) ws = λ k. drop-drop (r.in_second - len + k) n ws ∙ (let e : n + (r.in_second - len + k) ≡ r.in_second + k = omega (arith, len_is, sum) in ap (λ x. drop x ws) e) in
    let start : drop (r.in_second - len) (drop n ws) ≡ drop r.in_second ws = drop-drop (r.in_second - len) n ws ∙ (let e : n + (r.in_second - len) ≡ r.in_second = omega (arith, len_is, sum) in ap (λ x. drop x ws) e) in
    record {
      options = m.options;
      clients = m.clients;
      line = record {
        second_sum = (let e : r.in_second - len ≡ total ns = omega (arith, len_is, sum) in e ∙ ap total (sym second));
        second_groups = ap (drop 1) groups ∙ ap (λ xs. groups_of_lengths ns xs) (sym line) ∙ ap (λ ks. groups_of_lengths ks (map (shown_writer plans) c.remove_range.new.items.items)) (sym second);
        hand = m.line.hand ∙ ap (λ xs. shown_log r.log (take r.in_hand xs)) (sym start) ∙ ap (λ xs. shown_log r.log (take r.in_hand (drop (r.in_second - len) xs))) (sym line);
        no_hand = m.line.no_hand;
        queue = m.line.queue ∙ sym (later r.in_hand) ∙ ap (drop (r.in_second - len + r.in_hand)) (sym line);
      };
      writers = subst W (sym linked) (subst V (sym items) (writers_without plans r.linked.items r.items.items 0 (0 + len) m.writers));
      table = m.table;
      leaving = subst Q shown (noted known);
      entries = m.entries;
      groups = m.groups;
      assigned = m.assigned;
      log_failed = m.log_failed;
      last = m.last;
      room = record {
        linked = omega (arith, m.room.linked, c.remove_range.ensures.len, c.remove_range.ensures.capacity);
        items = omega (arith, m.room.items, c.remove_range.ensures.len, c.remove_range-2.ensures.capacity);
        second = omega (arith, m.room.second, c.remove_range.ensures.len, c.remove-self.ensures.len, c.remove-self.ensures.capacity, len_is, sum);
        entries = omega (arith, m.room.entries, c.remove_range.ensures.len, len_is, sum);
        groups = m.room.groups;
        group_room = m.room.group_room;
      };
    }
