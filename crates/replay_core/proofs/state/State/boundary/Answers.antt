use Rattle.std.proofs.Common.{◌≡◌, true, false, refl, sym, ◌∙◌, ap, arith}
use Rattle.model_core.specs.Core as core
use Rattle.replay_core.specs.Leads.{leads_front}
use Rattle.replay_core.specs.Phases.{is_in_log}
use Rattle.replay_core.specs.Mirrors.{answers_in_hand}
use Rattle.replay_core.proofs.Events.{first_fails, second_fails, both_hold, both_true, first_false, second_false}
use Rattle.replay_core.proofs.LogEvents.{boundary_is, logged_answered}
use Rattle.replay_core.proofs.state.State.boundary.Goals as goal

pub returns-then-not-is_in_log-clause-steps : goal.returns-then-not-is_in_log-clause-steps
returns-then-not-is_in_log-clause-steps c = λ o s is_core m.
    let r = c.args.self.now in
    first_fails _ _ _ o _ s r (boundary_is o r s c.args.client m) (sym c.is_in_log.ensures ∙ c.if-not-is_in_log.true) m

pub returns-then-not-self-clause-steps : goal.returns-then-not-self-clause-steps
returns-then-not-self-clause-steps c = λ o s is_core m.
    let r = c.args.self.now in
    let single : o.pipelined ≡ false = ap (λ (p : core.Options). p.pipelined) (sym m.options) ∙ c.if-not-self.true in
    second_fails _ _ _ o _ s r (boundary_is o r s c.args.client m) (first_false _ _ single) m

pub returns-then-not-leads_hand-clause-steps : goal.returns-then-not-leads_hand-clause-steps
returns-then-not-leads_hand-clause-steps c = λ o s is_core m.
    let r = c.args.self.now in
    second_fails _ _ _ o _ s r (boundary_is o r s c.args.client m) (second_false o.pipelined _ (sym c.leads_hand.ensures ∙ c.if-not-leads_hand.true)) m

pub returns-clause-steps : goal.returns-clause-steps
returns-clause-steps c = λ o s is_core m.
    let r = c.args.self.now in
    let in_log : is_in_log r.log ≡ true = sym c.is_in_log.ensures ∙ c.if-not-is_in_log.false in
    let leads : leads_front c.args.client r.in_second r.in_hand r.linked.items ≡ true = sym c.leads_hand.ensures ∙ c.if-not-leads_hand.false in
    let pipelined : o.pipelined ≡ true = ap (λ (p : core.Options). p.pipelined) (sym m.options) ∙ c.if-not-self.false in
    let all : answers_in_hand r.log r.in_hand ≡ r.in_hand = logged_answered r.log r.in_hand in_log in
    both_hold _ _ _ o _ s _ (boundary_is o r s c.args.client m) in_log (both_true _ _ pipelined leads) (record {
      options = m.options;
      clients = m.clients;
      line = record {
        second_sum = m.line.second_sum;
        second_groups = m.line.second_groups;
        hand = refl;
        no_hand = λ e. cc;
        queue = m.line.queue;
      };
      writers = m.writers;
      table = m.table;
      leaving = m.leaving;
      entries = m.entries;
      groups = m.groups;
      assigned = m.assigned;
      log_failed = m.log_failed;
      last = m.last;
      room = record {
        linked = m.room.linked;
        items = m.room.items;
        second = m.room.second;
        entries = omega (arith, m.room.entries, all);
        groups = m.room.groups;
        group_room = m.room.group_room;
      };
    })
