use Rattle.std.proofs.Common.{◌≡◌, not, refl, sym, ap, ◌∙◌}
use Rattle.replay_core.specs.Leads.{leads_front}
use Rattle.replay_core.proofs.Events.{first_fails, second_fails, both_hold}
use Rattle.replay_core.proofs.LogEvents.{fault_is, leads_within, built_parts, alone_is, no_writer}
use Rattle.replay_core.proofs.state.State.fault.Goals as goal

pub returns-then-not-has_built-clause-steps : goal.returns-then-not-has_built-clause-steps
returns-then-not-has_built-clause-steps c = λ o s is_core m.
    let r = c.args.self.now in
    first_fails _ _ _ o _ s r (fault_is o r s c.args.client m) (sym c.has_built.ensures ∙ c.if-not-has_built.true) m

pub is_alone-requires : goal.is_alone-requires
is_alone-requires c =
    let r = c.args.self.now in
    let built = built_parts r.log (leads_front c.args.client r.in_second r.in_hand r.linked.items) (sym c.has_built.ensures ∙ c.if-not-has_built.false) in
    leads_within c.args.client r.in_second r.in_hand r.linked.items built.1

pub returns-then-is_alone-clause-steps : goal.returns-then-is_alone-clause-steps
returns-then-is_alone-clause-steps c = λ o s is_core m.
    let r = c.args.self.now in
    let built = built_parts r.log (leads_front c.args.client r.in_second r.in_hand r.linked.items) (sym c.has_built.ensures ∙ c.if-not-has_built.false) in
    second_fails _ _ _ o _ s r (fault_is o r s c.args.client m) (ap not (alone_is r c.args.client built.1 ∙ sym (c.is_alone.ensures no_writer) ∙ c.if-is_alone.true)) m

pub returns-clause-steps : goal.returns-clause-steps
returns-clause-steps c = λ o s is_core m.
    let r = c.args.self.now in
    let both = sym c.has_built.ensures ∙ c.if-not-has_built.false in
    let built = built_parts r.log (leads_front c.args.client r.in_second r.in_hand r.linked.items) both in
    let mid = c.refuse_group.ensures.left o s m in
    both_hold _ _ _ o _ s _ (fault_is o r s c.args.client m) both (ap not (alone_is r c.args.client built.1 ∙ sym (c.is_alone.ensures no_writer) ∙ c.if-is_alone.false)) (record {
      options = mid.options;
      clients = mid.clients;
      line = record { second_sum = mid.line.second_sum; second_groups = mid.line.second_groups; hand = mid.line.hand; no_hand = mid.line.no_hand; queue = mid.line.queue };
      writers = mid.writers;
      table = mid.table;
      leaving = mid.leaving;
      entries = mid.entries;
      groups = mid.groups;
      assigned = mid.assigned;
      log_failed = refl;
      last = mid.last;
      room = record { linked = mid.room.linked; items = mid.room.items; second = mid.room.second; entries = mid.room.entries; groups = mid.room.groups; group_room = mid.room.group_room };
    })
