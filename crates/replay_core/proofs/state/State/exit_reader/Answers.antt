use Rattle.std.proofs.Common.{◌≡◌, ◌+◌, ◌<◌, ◌≤◌, ◌==◌, ◌&&◌, length, get_or, sym, ◌∙◌, arith}
use Rattle.std.specs.Prelude.{is_some}
use Rattle.replay_core.specs.Leads.{leads_front}
use Rattle.replay_core.proofs.Events.{first_false, second_false, both_true, first_fails, second_fails, both_hold}
use Rattle.replay_core.proofs.LogEvents.{hand_of, leads_within, leads_some, built_parts, no_writer}
use Rattle.replay_core.proofs.ReaderEvents.{reader_exit_is, reads, is_told, reads_at, told_at}
use Rattle.replay_core.proofs.state.State.exit_reader.Goals as goal

pub returns-then-not-has_built-clause-steps : goal.returns-then-not-has_built-clause-steps
returns-then-not-has_built-clause-steps c = λ o s is_core m.
    let r = c.args.self.now in
    first_fails _ _ _ o _ s r (reader_exit_is o r s c.args.client m) (first_false _ _ (sym c.has_built.ensures ∙ c.if-not-has_built.true)) m

pub is_reader-requires : goal.is_reader-requires
is_reader-requires c =
    let r = c.args.self.now in
    let built = built_parts r.log (leads_front c.args.client r.in_second r.in_hand r.linked.items) (sym c.has_built.ensures ∙ c.if-not-has_built.false) in
    leads_within c.args.client r.in_second r.in_hand r.linked.items built.1

pub has_answer-requires : goal.has_answer-requires
has_answer-requires c =
    let r = c.args.self.now in
    let built = built_parts r.log (leads_front c.args.client r.in_second r.in_hand r.linked.items) (sym c.has_built.ensures ∙ c.if-not-has_built.false) in
    leads_within c.args.client r.in_second r.in_hand r.linked.items built.1

pub returns-then-not-is_reader-clause-steps : goal.returns-then-not-is_reader-clause-steps
returns-then-not-is_reader-clause-steps c = λ o s is_core m.
    let r = c.args.self.now in
    let built = built_parts r.log (leads_front c.args.client r.in_second r.in_hand r.linked.items) (sym c.has_built.ensures ∙ c.if-not-has_built.false) in
    let lt : r.in_second < length r.linked.items = leads_within c.args.client r.in_second r.in_hand r.linked.items built.1 in
    let within : r.in_second + r.in_hand ≤ length r.linked.items = omega (arith, r.groups_wait, r.linked.ok.0) in
    let reader : reads (hand_of r) ≡ (r.in_hand == 1 && is_some (get_or r.linked.items r.in_second no_writer).since) = reads_at r.plans.items r.in_second r.in_hand r.linked.items no_writer lt within in
    first_fails _ _ _ o _ s r (reader_exit_is o r s c.args.client m) (second_false _ _ (reader ∙ sym (c.is_reader.ensures no_writer) ∙ c.if-not-is_reader.true)) m

pub returns-then-not-has_answer-clause-steps : goal.returns-then-not-has_answer-clause-steps
returns-then-not-has_answer-clause-steps c = λ o s is_core m.
    let r = c.args.self.now in
    let built = built_parts r.log (leads_front c.args.client r.in_second r.in_hand r.linked.items) (sym c.has_built.ensures ∙ c.if-not-has_built.false) in
    let lt : r.in_second < length r.linked.items = leads_within c.args.client r.in_second r.in_hand r.linked.items built.1 in
    let told : is_told (hand_of r) ≡ is_some (get_or r.linked.items r.in_second no_writer).answer = told_at r.plans.items r.in_second r.in_hand r.linked.items no_writer (leads_some c.args.client r.in_second r.in_hand r.linked.items built.1) lt in
    second_fails _ _ _ o _ s r (reader_exit_is o r s c.args.client m) (told ∙ sym (c.has_answer.ensures no_writer) ∙ c.if-not-has_answer.true) m

pub returns-clause-steps : goal.returns-clause-steps
returns-clause-steps c = λ o s is_core m.
    let r = c.args.self.now in
    let both = sym c.has_built.ensures ∙ c.if-not-has_built.false in
    let built = built_parts r.log (leads_front c.args.client r.in_second r.in_hand r.linked.items) both in
    let lt : r.in_second < length r.linked.items = leads_within c.args.client r.in_second r.in_hand r.linked.items built.1 in
    let within : r.in_second + r.in_hand ≤ length r.linked.items = omega (arith, r.groups_wait, r.linked.ok.0) in
    let reader : reads (hand_of r) ≡ (r.in_hand == 1 && is_some (get_or r.linked.items r.in_second no_writer).since) = reads_at r.plans.items r.in_second r.in_hand r.linked.items no_writer lt within in
    let told : is_told (hand_of r) ≡ is_some (get_or r.linked.items r.in_second no_writer).answer = told_at r.plans.items r.in_second r.in_hand r.linked.items no_writer (leads_some c.args.client r.in_second r.in_hand r.linked.items built.1) lt in
    both_hold _ _ _ o _ s _ (reader_exit_is o r s c.args.client m) (both_true _ _ both (reader ∙ sym (c.is_reader.ensures no_writer) ∙ c.if-not-is_reader.false)) (told ∙ sym (c.has_answer.ensures no_writer) ∙ c.if-not-has_answer.false) (c.leave_hand.ensures.left o s m)
