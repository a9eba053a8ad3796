use Rattle.std.proofs.Common.{◌≡◌, ℕ, ◌+◌, true, List, take, drop, map, sym, ◌∙◌, ap, arith}
use Rattle.std.proofs.lemmas.List.{drop-drop}
use Rattle.model_base.specs.Grouping.{group_len}
use Rattle.model_core.specs.Step as event
use Rattle.replay_core.specs.Phases.{is_led_by}
use Rattle.replay_core.specs.Mirrors.{answers_in_hand}
use Rattle.replay_core.proofs.Line.{items_queue, group_taken}
use Rattle.model_core.specs.Core as core
use Rattle.replay_core.proofs.Events.{passed_over, taken}
use Rattle.replay_core.proofs.LogEvents.{build_is, led_has_none, led_unanswered, line_of}
use Rattle.replay_core.proofs.state.State.build.Goals as goal

pub returns-then-not-is_led_by-clause-steps : goal.returns-then-not-is_led_by-clause-steps
returns-then-not-is_led_by-clause-steps c = λ o s is_core m.
    let r = c.args.self.now in
    passed_over _ _ o _ s r (build_is o r s c.args.client m) (sym c.is_led_by.ensures ∙ c.if-not-is_led_by.true) m

pub returns-clause-steps : goal.returns-clause-steps
returns-clause-steps c = λ o s is_core m.
    let r = c.args.self.now in
    let led : is_led_by c.args.client r.log ≡ true = sym c.is_led_by.ensures ∙ c.if-not-is_led_by.false in
    let empty : r.in_hand ≡ 0 = m.line.no_hand (led_has_none c.args.client r.log led) in
    let none : answers_in_hand r.log r.in_hand ≡ 0 = led_unanswered c.args.client r.log r.in_hand led in
    let n : ℕ = c.group_size-self.result in
    let ws : List core.Writer = line_of r in
    let at : ℕ = r.in_second + r.in_hand in
    let max : ℕ = r.options.group_bytes in
    let same_max : max ≡ o.group_bytes = ap (λ (p : core.Options). p.group_bytes) m.options in
    let seen : map core.item_of s.queue ≡ drop at r.items.items = ap (map core.item_of) m.line.queue ∙ items_queue r.plans.items r.linked.items r.items.items at m.writers.items_are in
    let group : (take n s.queue ≡ take (group_len max (map core.item_of s.queue)) s.queue) × (drop n s.queue ≡ drop (group_len max (map core.item_of s.queue)) s.queue) =
    group_taken max n s.queue (drop at r.items.items) seen c.group_size-self.ensures.rule in
    let start : at ≡ r.in_second = omega (arith, empty) in
    let queue : s.queue ≡ drop r.in_second ws = m.line.queue ∙ ap (λ k. drop k ws) start in
    let size : group_len max (map core.item_of s.queue) ≡ event.group_size o s = ap (λ k. group_len k (map core.item_of s.queue)) same_max in
    taken _ _ o _ s _ (build_is o r s c.args.client m) led (record {
      options = m.options;
      clients = m.clients;
      line = record {
        second_sum = m.line.second_sum;
        second_groups = m.line.second_groups;
        hand = ap (λ xs. core.built xs) (ap (λ k. take k s.queue) (sym size) ∙ sym group.0 ∙ ap (take n) queue);
        no_hand = λ e. cc;
        queue = ap (λ k. drop k s.queue) (sym size) ∙ sym group.1 ∙ ap (drop n) queue ∙ drop-drop n r.in_second ws;
      };
      writers = m.writers;
      table = m.table;
      leaving = m.leaving;
      entries = m.entries;
      groups = m.groups;
      assigned = m.assigned;
      log_failed = m.log_failed;
      last = m.last;
      room = record {
        linked = m.room.linked;
        items = m.room.items;
        second = m.room.second;
        entries = omega (arith, m.room.entries, none);
        groups = m.room.groups;
        group_room = m.room.group_room;
      };
    })
