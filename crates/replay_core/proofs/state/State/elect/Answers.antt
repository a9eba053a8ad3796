use Rattle.std.proofs.Common.{◌≡◌, ◌+◌, true, refl, sym, ◌∙◌, arith}
use Rattle.replay_core.specs.Leads.{leads_at}
use Rattle.replay_core.specs.Phases.{is_free}
use Rattle.replay_core.specs.Mirrors.{answers_in_hand}
use Rattle.replay_core.proofs.Events.{first_fails, second_fails, both_hold}
use Rattle.replay_core.proofs.LogEvents.{elect_is, free_has_none, free_unanswered}
use Rattle.replay_core.proofs.state.State.elect.Goals as goal

pub returns-then-not-is_free-clause-steps : goal.returns-then-not-is_free-clause-steps
returns-then-not-is_free-clause-steps c = λ o s is_core m.
    let r = c.args.self.now in
    first_fails _ _ _ o _ s r (elect_is o r s c.args.client m) (sym c.is_free.ensures ∙ c.if-not-is_free.true) m

pub returns-then-not-leads-clause-steps : goal.returns-then-not-leads-clause-steps
returns-then-not-leads-clause-steps c = λ o s is_core m.
    let r = c.args.self.now in
    second_fails _ _ _ o _ s r (elect_is o r s c.args.client m) (sym c.leads.ensures ∙ c.if-not-leads.true) m

pub returns-clause-steps : goal.returns-clause-steps
returns-clause-steps c = λ o s is_core m.
    let r = c.args.self.now in
    let free : is_free r.log ≡ true = sym c.is_free.ensures ∙ c.if-not-is_free.false in
    let first : leads_at c.args.client (r.in_second + r.in_hand) r.linked.items ≡ true = sym c.leads.ensures ∙ c.if-not-leads.false in
    let none : answers_in_hand r.log r.in_hand ≡ 0 = free_unanswered r.log r.in_hand free in
    both_hold _ _ _ o _ s _ (elect_is o r s c.args.client m) free first (record {
      options = m.options;
      clients = m.clients;
      line = record {
        second_sum = m.line.second_sum;
        second_groups = m.line.second_groups;
        hand = refl;
        no_hand = λ e. m.line.no_hand (free_has_none r.log free);
        queue = m.line.queue;
      };
      writers = m.writers;
      table = m.table;
      leaving = m.leaving;
      entries = m.entries;
      groups = m.groups;
      assigned = m.assigned;
      log_failed = m.log_failed;
      last = m.last;
      room = record {
        linked = m.room.linked;
        items = m.room.items;
        second = m.room.second;
        entries = omega (arith, m.room.entries, none);
        groups = m.room.groups;
        group_room = m.room.group_room;
      };
    })
