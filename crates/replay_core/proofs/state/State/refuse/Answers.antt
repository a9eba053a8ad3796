use Rattle.std.proofs.Common.{◌≡◌, ◌<◌, length, get_or, refl, sym, ◌∙◌}
use Rattle.model_core.specs.Core as core
use Rattle.model_core.specs.Step as event
use Rattle.replay_core.specs.Leads.{leads_front}
use Rattle.replay_core.proofs.Events.{first_fails, second_fails, both_hold}
use Rattle.replay_core.proofs.LogEvents.{refuse_is, hand_of, first_at, leads_within, leads_some, built_parts, no_writer}
use Rattle.replay_core.proofs.state.State.refuse.Goals as goal

pub returns-then-not-has_built-clause-steps : goal.returns-then-not-has_built-clause-steps
returns-then-not-has_built-clause-steps c = λ o s is_core m.
    let r = c.args.self.now in
    first_fails _ _ _ o _ s r (refuse_is o r s c.args.client c.args.why m) (sym c.has_built.ensures ∙ c.if-not-has_built.true) m

pub is_no_slowdown-requires : goal.is_no_slowdown-requires
is_no_slowdown-requires c =
    let r = c.args.self.now in
    let built = built_parts r.log (leads_front c.args.client r.in_second r.in_hand r.linked.items) (sym c.has_built.ensures ∙ c.if-not-has_built.false) in
    leads_within c.args.client r.in_second r.in_hand r.linked.items built.1

pub returns-then-not-is_no_slowdown-clause-steps : goal.returns-then-not-is_no_slowdown-clause-steps
returns-then-not-is_no_slowdown-clause-steps c = λ o s is_core m.
    let r = c.args.self.now in
    let built = built_parts r.log (leads_front c.args.client r.in_second r.in_hand r.linked.items) (sym c.has_built.ensures ∙ c.if-not-has_built.false) in
    let lt : r.in_second < length r.linked.items = leads_within c.args.client r.in_second r.in_hand r.linked.items built.1 in
    let leader : event.is_no_slowdown (hand_of r) ≡ (get_or r.linked.items r.in_second no_writer).options.no_slowdown =
    first_at r.plans.items (λ (v : core.Writer). v.options.no_slowdown) event.is_no_slowdown r.in_second r.in_hand r.linked.items no_writer (λ v vs. refl) (leads_some c.args.client r.in_second r.in_hand r.linked.items built.1) lt in
    second_fails _ _ _ o _ s r (refuse_is o r s c.args.client c.args.why m) (leader ∙ sym (c.is_no_slowdown.ensures no_writer) ∙ c.if-not-is_no_slowdown.true) m

pub returns-clause-steps : goal.returns-clause-steps
returns-clause-steps c = λ o s is_core m.
    let r = c.args.self.now in
    let both = sym c.has_built.ensures ∙ c.if-not-has_built.false in
    let built = built_parts r.log (leads_front c.args.client r.in_second r.in_hand r.linked.items) both in
    let lt : r.in_second < length r.linked.items = leads_within c.args.client r.in_second r.in_hand r.linked.items built.1 in
    let leader : event.is_no_slowdown (hand_of r) ≡ (get_or r.linked.items r.in_second no_writer).options.no_slowdown =
    first_at r.plans.items (λ (v : core.Writer). v.options.no_slowdown) event.is_no_slowdown r.in_second r.in_hand r.linked.items no_writer (λ v vs. refl) (leads_some c.args.client r.in_second r.in_hand r.linked.items built.1) lt in
    both_hold _ _ _ o _ s _ (refuse_is o r s c.args.client c.args.why m) both (leader ∙ sym (c.is_no_slowdown.ensures no_writer) ∙ c.if-not-is_no_slowdown.false) (c.refuse_group.ensures.left o s m)
