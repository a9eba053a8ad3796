use Rattle.std.proofs.Common.{◌≡◌, ℕ, suc, ◌+◌, ◌-◌, ◌<◌, ◌≤◌, ◌==◌, true, false, not, List, [], ◌∷◌, ◌++◌, length, take, drop, map, filter, find, get_or, Some, None, sym, ap, ◌∙◌, subst, arith}
use Rattle.std.specs.Prelude.{if◌then◌else◌}
use Rattle.std.specs.List.{AllByRecursion, drop-map}
use Rattle.std.proofs.lemmas.List.{length-map, length-drop, get_or-drop, get_or_read}
use Rattle.model_base.specs.Calls.{refused}
use Rattle.model_core.specs.Core as core
use Rattle.model_core.specs.Step as event
use Rattle.model_core_laws.proofs.Tables.{there, waiting_parts, waits_once}
use Rattle.replay_core.specs.Leads.{writers_before}
use Rattle.replay_core.specs.Phases.{is_stalled}
use Rattle.replay_core.specs.Shown.{shown_writer, shown_log, total, groups_of_lengths}
use Rattle.replay_core.specs.Mirrors.{AreWriters, AreDone, IsClientOf}
use Rattle.replay_core.specs.declared.writer.Writer.{Writer}
use Rattle.replay_core.proofs.Events.{cannot_come, has_come}
use Rattle.replay_core.proofs.LogEvents.{line_of, leave_is, no_writer}
use Rattle.replay_core.proofs.TableEvents.{known_take, known_drop}
use Rattle.replay_core.proofs.LeavingLemmas.{all_known_len}
use Rattle.replay_core.proofs.Removing.{without, map_without, writers_without, cut_front}
use Rattle.replay_core.proofs.StallEvents.{found_there, found_nowhere, one_left_out, front_same, back_without, one_part, rest_whole}
use Rattle.replay_core.proofs.SameState.{same_state}
use Rattle.replay_core.proofs.state.State.leave_queue.Goals as goal

pub returns-then-not-is_stalled-clause-steps : goal.returns-then-not-is_stalled-clause-steps
returns-then-not-is_stalled-clause-steps c = λ o s is_core m.
    let r = c.args.self.now in
    cannot_come _ o s r (leave_is o r s c.args.client c.args.why m ∙ ap (λ b. if b then event.leave_with s c.args.client c.args.why (find (λ (w : core.Writer). w.client == c.args.client) s.queue) else None) (sym c.is_stalled.ensures ∙ c.if-not-is_stalled.true)) m

pub returns-then-place-len-clause-unchanged : goal.returns-then-place-len-clause-unchanged
returns-then-place-len-clause-unchanged c = λ e. same_state c.args.self.now _ _ _ _ _ _ _

pub returns-then-not-index-clause-unchanged : goal.returns-then-not-index-clause-unchanged
returns-then-not-index-clause-unchanged c = λ e. same_state c.args.self.now _ _ _ _ _ _ _

pub returns-then-place-len-clause-steps : goal.returns-then-place-len-clause-steps
returns-then-place-len-clause-steps c = λ o s is_core m.
    let r = c.args.self.now in
    let who : ℕ = c.args.client in
    let plans = r.plans.items in
    let start : ℕ = r.in_second + r.in_hand in
    let behind : List Writer = drop start r.linked.items in
    let k_is : c.writers_before-ahead.result ≡ writers_before who behind = c.writers_before-ahead.ensures.before ∙ ap (writers_before who) (rest_whole start c.deref.result.now) ∙ ap (λ (l : List Writer). writers_before who (drop start l)) c.deref.ensures.value in
    let long : length behind ≡ length r.linked.items - start = length-drop start r.linked.items in
    let queue_is : s.queue ≡ map (shown_writer plans) behind = m.line.queue ∙ drop-map (shown_writer plans) start r.linked.items in
    let none : find (λ (w : core.Writer). w.client == who) s.queue ≡ None = ap (find (λ (w : core.Writer). w.client == who)) queue_is ∙ found_nowhere plans who behind (omega (arith, k_is, long, c.len.ensures, c.if-place-len.true, r.linked.ok.0)) in
    let stalled : is_stalled r.log ≡ true = sym c.is_stalled.ensures ∙ c.if-not-is_stalled.false in
    let stays : event.leave_queue s who c.args.why s.log ≡ None = leave_is o r s who c.args.why m ∙ ap (λ b. if b then event.leave_with s who c.args.why (find (λ (w : core.Writer). w.client == who) s.queue) else None) stalled ∙ ap (event.leave_with s who c.args.why) none in
    cannot_come _ o s _ stays (record {
      options = m.options;
      clients = m.clients;
      line = m.line;
      writers = m.writers;
      table = m.table;
      leaving = m.leaving;
      entries = m.entries;
      groups = m.groups;
      assigned = m.assigned;
      log_failed = m.log_failed;
      last = m.last;
      room = record { linked = m.room.linked; items = m.room.items; second = m.room.second; entries = m.room.entries; groups = m.room.groups; group_room = m.room.group_room };
    })

pub returns-then-not-index-clause-steps : goal.returns-then-not-index-clause-steps
returns-then-not-index-clause-steps c = λ o s is_core m.
    let r = c.args.self.now in
    let who : ℕ = c.args.client in
    let plans = r.plans.items in
    let start : ℕ = r.in_second + r.in_hand in
    let behind : List Writer = drop start r.linked.items in
    let ahead : ℕ = c.writers_before-ahead.result in
    let k_is : ahead ≡ writers_before who behind = c.writers_before-ahead.ensures.before ∙ ap (writers_before who) (rest_whole start c.deref.result.now) ∙ ap (λ (l : List Writer). writers_before who (drop start l)) c.deref.ensures.value in
    let long : length behind ≡ length r.linked.items - start = length-drop start r.linked.items in
    let lt : start + ahead < length r.linked.items = omega (arith, c.len.ensures, c.if-place-len.false, r.linked.ok.0) in
    let lt_behind : writers_before who behind < length behind = omega (arith, k_is, long, lt) in
    let queue_is : s.queue ≡ map (shown_writer plans) behind = m.line.queue ∙ drop-map (shown_writer plans) start r.linked.items in
    let v : Writer = get_or r.linked.items (start + ahead) no_writer in
    let v_is : get_or behind (writers_before who behind) no_writer ≡ v = get_or-drop start r.linked.items (writers_before who behind) no_writer ∙ ap (λ j. get_or r.linked.items (start + j) no_writer) (sym k_is) in
    let found : find (λ (w : core.Writer). w.client == who) s.queue ≡ Some (shown_writer plans v) = ap (find (λ (w : core.Writer). w.client == who)) queue_is ∙ found_there plans who behind no_writer lt_behind ∙ ap (λ x. Some (shown_writer plans x)) v_is in
    let read : c.index.result.now ≡ v = get_or_read r.linked.items _ _ (omega (arith, lt, r.linked.ok.0)) c.index.ensures no_writer in
    let slow : v.options.no_slowdown ≡ false = ap (λ (x : Writer). x.options.no_slowdown) (sym read) ∙ c.if-not-index.true in
    let stalled : is_stalled r.log ≡ true = sym c.is_stalled.ensures ∙ c.if-not-is_stalled.false in
    let stays : event.leave_queue s who c.args.why s.log ≡ None = leave_is o r s who c.args.why m ∙ ap (λ b. if b then event.leave_with s who c.args.why (find (λ (w : core.Writer). w.client == who) s.queue) else None) stalled ∙ ap (event.leave_with s who c.args.why) found
    ∙ ap (λ b. event.when b (event.left_queue s who c.args.why (shown_writer plans v))) slow in
    cannot_come _ o s _ stays (record {
      options = m.options;
      clients = m.clients;
      line = m.line;
      writers = m.writers;
      table = m.table;
      leaving = m.leaving;
      entries = m.entries;
      groups = m.groups;
      assigned = m.assigned;
      log_failed = m.log_failed;
      last = m.last;
      room = record { linked = m.room.linked; items = m.room.items; second = m.room.second; entries = m.room.entries; groups = m.room.groups; group_room = m.room.group_room };
    })

pub returns-clause-steps : goal.returns-clause-steps
returns-clause-steps c = λ o s is_core m.
    let r = c.args.self.now in
    let who : ℕ = c.args.client in
    let why = c.args.why in
    let plans = r.plans.items in
    let start : ℕ = r.in_second + r.in_hand in
    let behind : List Writer = drop start r.linked.items in
    let ahead : ℕ = c.writers_before-ahead.result in
    let place : ℕ = start + ahead in
    let k_is : ahead ≡ writers_before who behind = c.writers_before-ahead.ensures.before ∙ ap (writers_before who) (rest_whole start c.deref.result.now) ∙ ap (λ (l : List Writer). writers_before who (drop start l)) c.deref.ensures.value in
    let long : length behind ≡ length r.linked.items - start = length-drop start r.linked.items in
    let lt : place < length r.linked.items = omega (arith, c.len.ensures, c.if-place-len.false, r.linked.ok.0) in
    let lt_behind : writers_before who behind < length behind = omega (arith, k_is, long, lt) in
    let queue_is : s.queue ≡ map (shown_writer plans) behind = m.line.queue ∙ drop-map (shown_writer plans) start r.linked.items in
    let v : Writer = get_or r.linked.items place no_writer in
    let v_is : get_or behind (writers_before who behind) no_writer ≡ v = get_or-drop start r.linked.items (writers_before who behind) no_writer ∙ ap (λ j. get_or r.linked.items (start + j) no_writer) (sym k_is) in
    let found : find (λ (w : core.Writer). w.client == who) s.queue ≡ Some (shown_writer plans v) = ap (find (λ (w : core.Writer). w.client == who)) queue_is ∙ found_there plans who behind no_writer lt_behind ∙ ap (λ x. Some (shown_writer plans x)) v_is in
    let read : c.index.result.now ≡ v = get_or_read r.linked.items _ _ (omega (arith, lt, r.linked.ok.0)) c.index.ensures no_writer in
    let hasty : v.options.no_slowdown ≡ true = ap (λ (x : Writer). x.options.no_slowdown) (sym read) ∙ c.if-not-index.false in
    let stalled : is_stalled r.log ≡ true = sym c.is_stalled.ensures ∙ c.if-not-is_stalled.false in
    let t : core.State = event.left_queue s who why (shown_writer plans v) in
    let comes : event.leave_queue s who why s.log ≡ Some t = leave_is o r s who why m ∙ ap (λ b. if b then event.leave_with s who why (find (λ (w : core.Writer). w.client == who) s.queue) else None) stalled ∙ ap (event.leave_with s who why) found
    ∙ ap (λ b. event.when b t) hasty in
    let ws : List core.Writer = line_of r in
    let long_ws : length ws ≡ length r.linked.items = length-map r.linked.items (shown_writer plans) in
    let once : there who (map (shown_writer plans) behind) ≤ 1 =
    (let a = waiting_parts who s in let b = waits_once o s who is_core in let d : there who s.queue ≡ there who (map (shown_writer plans) behind) = ap (there who) queue_is in omega (arith, a, b, d)) in
    let linked : c.remove_range.new.items.items ≡ without place (place + 1) r.linked.items = c.remove_range.ensures.items in
    let items : c.remove_range-2.new.items.items ≡ without place (place + 1) r.items.items = c.remove_range-2.ensures.items in
    let line : map (shown_writer plans) c.remove_range.new.items.items ≡ without place (place + 1) ws = ap (map (shown_writer plans)) linked ∙ map_without (shown_writer plans) place (place + 1) r.linked.items in
    let few : total r.second.items ≤ place = omega (arith, m.line.second_sum) in
    let clients : length plans ≡ length r.done.items = omega (arith, r.one_done_each, r.plans.ok.0, r.done.ok.0) in
    let part : List Writer = take ((place + 1) - place) (drop place r.linked.items) in
    let known : AllByRecursion (IsClientOf (length r.done.items)) part = all_known_len _ _ part clients
    (known_take (IsClientOf (length plans)) ((place + 1) - place) (drop place r.linked.items) (known_drop (IsClientOf (length plans)) place r.linked.items m.writers.known)) in
    let P : List Writer → Type 0 = λ all. (AllByRecursion (IsClientOf (length r.done.items)) (take ((place + 1) - place) (drop place all)) → AreDone plans c.note_refused.new.done.items (s.leaving ++ core.all_answered (refused why) (map (shown_writer plans) (take ((place + 1) - place) (drop place all))))) in
    let noted : P r.linked.items = subst P c.deref-2.ensures.value (c.note_refused.ensures.noted plans s.leaving m.leaving) in
    let Q : List core.Writer → Type 0 = λ all. AreDone plans c.note_refused.new.done.items (s.leaving ++ core.all_answered (refused why) all) in
    let leaving : Q (shown_writer plans v ∷ []) = subst Q (one_part plans r.linked.items place no_writer lt) (noted known) in
    let W : List Writer → Type 0 = λ all. AreWriters plans all c.remove_range-2.new.items.items in
    let V : List _ → Type 0 = λ all. AreWriters plans (without place (place + 1) r.linked.items) all in
    has_come _ o t s _ comes (record {
      options = m.options;
      clients = m.clients;
      line = record {
        second_sum = m.line.second_sum;
        second_groups = m.line.second_groups ∙ sym (cut_front r.second.items place ws (drop (place + 1) ws) few (omega (arith, lt, long_ws))) ∙ ap (groups_of_lengths r.second.items) (sym line);
        hand = m.line.hand ∙ ap (shown_log r.log) (sym (front_same r.in_second r.in_hand place ws (drop (place + 1) ws) (omega arith) (omega (arith, lt, long_ws)))) ∙ ap (λ xs. shown_log r.log (take r.in_hand (drop r.in_second xs))) (sym line);
        no_hand = m.line.no_hand;
        queue = ap (filter (λ (w : core.Writer). not (w.client == who))) queue_is ∙ one_left_out plans who behind once lt_behind ∙ ap (λ j. without j (suc j) (map (shown_writer plans) behind)) (sym k_is)
            ∙ ap (without ahead (suc ahead)) (sym (drop-map (shown_writer plans) start r.linked.items)) ∙ sym (back_without start ahead ws (omega (arith, lt, long_ws))) ∙ ap (drop start) (sym line);
      };
      writers = subst W (sym linked) (subst V (sym items) (writers_without plans r.linked.items r.items.items place (place + 1) m.writers));
      table = m.table;
      leaving = leaving;
      entries = m.entries;
      groups = m.groups;
      assigned = m.assigned;
      log_failed = m.log_failed;
      last = m.last;
      room = record {
        linked = omega (arith, m.room.linked, c.remove_range.ensures.len, c.remove_range.ensures.capacity);
        items = omega (arith, m.room.items, c.remove_range.ensures.len, c.remove_range-2.ensures.capacity);
        second = omega (arith, m.room.second, c.remove_range.ensures.len);
        entries = omega (arith, m.room.entries, c.remove_range.ensures.len);
        groups = m.room.groups;
        group_room = m.room.group_room;
      };
    })
