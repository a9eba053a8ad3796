use Rattle.std.proofs.Common.{◌≡◌, ◌<◌, not, length, get_or, refl, sym, ap, ◌∙◌, arith}
use Rattle.model_core.specs.Core as core
use Rattle.model_core.specs.Step as event
use Rattle.replay_core.specs.Leads.{leads_front}
use Rattle.replay_core.specs.Mirrors.{answers_in_hand}
use Rattle.replay_core.proofs.Events.{first_false, second_false, both_true, first_fails, second_fails, both_hold}
use Rattle.replay_core.proofs.LogEvents.{stall_is, hand_of, first_at, leads_within, leads_some, built_parts, built_unanswered, alone_is, no_writer}
use Rattle.replay_core.proofs.state.State.stall.Goals as goal

pub returns-then-not-has_built-clause-steps : goal.returns-then-not-has_built-clause-steps
returns-then-not-has_built-clause-steps c = λ o s is_core m.
    let r = c.args.self.now in
    first_fails _ _ _ o _ s r (stall_is o r s c.args.client m) (first_false _ _ (sym c.has_built.ensures ∙ c.if-not-has_built.true)) m

pub is_alone-requires : goal.is_alone-requires
is_alone-requires c =
    let r = c.args.self.now in
    let built = built_parts r.log (leads_front c.args.client r.in_second r.in_hand r.linked.items) (sym c.has_built.ensures ∙ c.if-not-has_built.false) in
    leads_within c.args.client r.in_second r.in_hand r.linked.items built.1

pub returns-then-is_alone-clause-steps : goal.returns-then-is_alone-clause-steps
returns-then-is_alone-clause-steps c = λ o s is_core m.
    let r = c.args.self.now in
    let built = built_parts r.log (leads_front c.args.client r.in_second r.in_hand r.linked.items) (sym c.has_built.ensures ∙ c.if-not-has_built.false) in
    first_fails _ _ _ o _ s r (stall_is o r s c.args.client m) (second_false _ _ (ap not (alone_is r c.args.client built.1 ∙ sym (c.is_alone.ensures no_writer) ∙ c.if-is_alone.true))) m

pub is_no_slowdown-requires : goal.is_no_slowdown-requires
is_no_slowdown-requires c =
    let r = c.args.self.now in
    let built = built_parts r.log (leads_front c.args.client r.in_second r.in_hand r.linked.items) (sym c.has_built.ensures ∙ c.if-not-has_built.false) in
    leads_within c.args.client r.in_second r.in_hand r.linked.items built.1

pub returns-then-is_no_slowdown-clause-steps : goal.returns-then-is_no_slowdown-clause-steps
returns-then-is_no_slowdown-clause-steps c = λ o s is_core m.
    let r = c.args.self.now in
    let built = built_parts r.log (leads_front c.args.client r.in_second r.in_hand r.linked.items) (sym c.has_built.ensures ∙ c.if-not-has_built.false) in
    let lt : r.in_second < length r.linked.items = leads_within c.args.client r.in_second r.in_hand r.linked.items built.1 in
    let leader : event.is_no_slowdown (hand_of r) ≡ (get_or r.linked.items r.in_second no_writer).options.no_slowdown =
    first_at r.plans.items (λ (v : core.Writer). v.options.no_slowdown) event.is_no_slowdown r.in_second r.in_hand r.linked.items no_writer (λ v vs. refl) (leads_some c.args.client r.in_second r.in_hand r.linked.items built.1) lt in
    second_fails _ _ _ o _ s r (stall_is o r s c.args.client m) (ap not (leader ∙ sym (c.is_no_slowdown.ensures no_writer) ∙ c.if-is_no_slowdown.true)) m

pub returns-clause-steps : goal.returns-clause-steps
returns-clause-steps c = λ o s is_core m.
    let r = c.args.self.now in
    let both = sym c.has_built.ensures ∙ c.if-not-has_built.false in
    let built = built_parts r.log (leads_front c.args.client r.in_second r.in_hand r.linked.items) both in
    let lt : r.in_second < length r.linked.items = leads_within c.args.client r.in_second r.in_hand r.linked.items built.1 in
    let leader : event.is_no_slowdown (hand_of r) ≡ (get_or r.linked.items r.in_second no_writer).options.no_slowdown =
    first_at r.plans.items (λ (v : core.Writer). v.options.no_slowdown) event.is_no_slowdown r.in_second r.in_hand r.linked.items no_writer (λ v vs. refl) (leads_some c.args.client r.in_second r.in_hand r.linked.items built.1) lt in
    let none : answers_in_hand r.log r.in_hand ≡ 0 = built_unanswered r.log r.in_hand built.0 in
    let writes = both_true _ _ both (ap not (alone_is r c.args.client built.1 ∙ sym (c.is_alone.ensures no_writer) ∙ c.if-is_alone.false)) in
    both_hold _ _ _ o _ s _ (stall_is o r s c.args.client m) writes (ap not (leader ∙ sym (c.is_no_slowdown.ensures no_writer) ∙ c.if-is_no_slowdown.false)) (record {
      options = m.options;
      clients = m.clients;
      line = record { second_sum = m.line.second_sum; second_groups = m.line.second_groups; hand = refl; no_hand = λ e. cc; queue = m.line.queue };
      writers = m.writers;
      table = m.table;
      leaving = m.leaving;
      entries = m.entries;
      groups = m.groups;
      assigned = m.assigned;
      log_failed = m.log_failed;
      last = m.last;
      room = record { linked = m.room.linked; items = m.room.items; second = m.room.second; entries = omega (arith, m.room.entries, none); groups = m.room.groups; group_room = m.room.group_room };
    })
