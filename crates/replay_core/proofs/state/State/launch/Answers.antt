use Rattle.std.proofs.Common.{◌≡◌, ℕ, true, [], refl, sym, ap, ◌∙◌}
use Rattle.replay_core.specs.declared.phases.Mark.TheVariants.{Out}
use Rattle.replay_core.specs.Phases.{is_still, is_inserted, is_finished}
use Rattle.replay_core.specs.Mirrors.{mark_of}
use Rattle.replay_core.proofs.Events.{first_fails, second_fails, both_hold}
use Rattle.replay_core.proofs.TableEvents.{launch_is}
use Rattle.replay_core.proofs.state.State.launch.Goals as goal

pub returns-then-not-is_still-clause-steps : goal.returns-then-not-is_still-clause-steps
returns-then-not-is_still-clause-steps c = λ o s is_core m.
    let r = c.args.self.now in
    first_fails _ _ _ o _ s r (launch_is o r s c.args.client m) (sym c.is_still.ensures ∙ c.if-not-is_still.true) m

pub returns-then-not-leads_table-clause-steps : goal.returns-then-not-leads_table-clause-steps
returns-then-not-leads_table-clause-steps c = λ o s is_core m.
    let r = c.args.self.now in
    second_fails _ _ _ o _ s r (launch_is o r s c.args.client m) (sym c.leads_table.ensures ∙ c.if-not-leads_table.true) m

pub returns-clause-steps : goal.returns-clause-steps
returns-clause-steps c = λ o s is_core m.
    let r = c.args.self.now in
    let still : is_still r.table ≡ true = sym c.is_still.ensures ∙ c.if-not-is_still.false in
    let cleared : (k : ℕ) → mark_of c.clear_marks.new.marks.items k ≡ Out = c.clear_marks.ensures.cleared in
    both_hold _ _ _ o _ s _ (launch_is o r s c.args.client m) still (sym c.leads_table.ensures ∙ c.if-not-leads_table.false) (record {
      options = m.options;
      clients = m.clients;
      line = record { second_sum = m.line.second_sum; second_groups = m.line.second_groups; hand = m.line.hand; no_hand = m.line.no_hand; queue = m.line.queue };
      writers = m.writers;
      table = ([], [], refl, record { inserted = λ k. ap is_inserted (sym (cleared k)); finished = λ k. ap is_finished (sym (cleared k)); last = λ k. refl });
      leaving = m.leaving;
      entries = m.entries;
      groups = m.groups;
      assigned = m.assigned;
      log_failed = m.log_failed;
      last = m.last;
      room = record {
        linked = m.room.linked;
        items = m.room.items;
        second = m.room.second;
        entries = m.room.entries;
        groups = m.room.groups;
        group_room = m.room.group_room;
      };
    })
