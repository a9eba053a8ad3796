use Rattle.std.proofs.Common.{◌≡◌, true, refl, sym, ◌∙◌, arith}
use Rattle.replay_core.specs.Leads.{leads_front}
use Rattle.replay_core.specs.Phases.{is_stalled}
use Rattle.replay_core.specs.Mirrors.{answers_in_hand}
use Rattle.replay_core.proofs.Events.{first_fails, second_fails, both_hold}
use Rattle.replay_core.proofs.LogEvents.{unstall_is, stalled_unanswered}
use Rattle.replay_core.proofs.state.State.unstall.Goals as goal

pub returns-then-not-is_stalled-clause-steps : goal.returns-then-not-is_stalled-clause-steps
returns-then-not-is_stalled-clause-steps c = λ o s is_core m.
    let r = c.args.self.now in
    first_fails _ _ _ o _ s r (unstall_is o r s c.args.client m) (sym c.is_stalled.ensures ∙ c.if-not-is_stalled.true) m

pub returns-then-not-leads_hand-clause-steps : goal.returns-then-not-leads_hand-clause-steps
returns-then-not-leads_hand-clause-steps c = λ o s is_core m.
    let r = c.args.self.now in
    second_fails _ _ _ o _ s r (unstall_is o r s c.args.client m) (sym c.leads_hand.ensures ∙ c.if-not-leads_hand.true) m

pub returns-clause-steps : goal.returns-clause-steps
returns-clause-steps c = λ o s is_core m.
    let r = c.args.self.now in
    let stalled : is_stalled r.log ≡ true = sym c.is_stalled.ensures ∙ c.if-not-is_stalled.false in
    let leads : leads_front c.args.client r.in_second r.in_hand r.linked.items ≡ true = sym c.leads_hand.ensures ∙ c.if-not-leads_hand.false in
    let none : answers_in_hand r.log r.in_hand ≡ 0 = stalled_unanswered r.log r.in_hand stalled in
    both_hold _ _ _ o _ s _ (unstall_is o r s c.args.client m) stalled leads (record {
      options = m.options;
      clients = m.clients;
      line = record { second_sum = m.line.second_sum; second_groups = m.line.second_groups; hand = refl; no_hand = λ e. cc; queue = m.line.queue };
      writers = m.writers;
      table = m.table;
      leaving = m.leaving;
      entries = m.entries;
      groups = m.groups;
      assigned = m.assigned;
      log_failed = m.log_failed;
      last = m.last;
      room = record { linked = m.room.linked; items = m.room.items; second = m.room.second; entries = omega (arith, m.room.entries, none); groups = m.room.groups; group_room = m.room.group_room };
    })
