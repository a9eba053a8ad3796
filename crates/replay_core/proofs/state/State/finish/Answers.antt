use Rattle.std.proofs.Common.{◌≡◌, ℕ, ◌≤◌, true, false, not, ◌&&◌, List, [], ◌∷◌, ◌++◌, length, Some, sym, ap, ◌∙◌}
use Rattle.model_core.specs.Core as core
use Rattle.model_core.specs.Step as event
use Rattle.replay_core.specs.Phases.{is_launched, is_inserted, is_finished}
use Rattle.replay_core.specs.Mirrors.{mark_of, IsLaunched}
use Rattle.replay_core.proofs.Events.{cannot_come, first_fails, second_fails, both_hold}
use Rattle.replay_core.proofs.MarkLemmas.{launched_finish, inserted_is_client}
use Rattle.replay_core.proofs.TableEvents.{launched_parts, launched_table, not_launched}
use Rattle.replay_core.proofs.state.State.finish.Goals as goal

pub returns-then-not-is_launched-clause-steps : goal.returns-then-not-is_launched-clause-steps
returns-then-not-is_launched-clause-steps c = λ o s is_core m.
    let r = c.args.self.now in
    cannot_come _ o s r ((not_launched o s c.args.client r.table r.marks.items r.last_finished (sym c.is_launched.ensures ∙ c.if-not-is_launched.true) m.table).1) m

pub returns-then-not-is_inserted-clause-steps : goal.returns-then-not-is_inserted-clause-steps
returns-then-not-is_inserted-clause-steps c = λ o s is_core m.
    let r = c.args.self.now in
    let d : ℕ = c.args.client in
    let launched : is_launched r.table ≡ true = sym c.is_launched.ensures ∙ c.if-not-is_launched.false in
    let parts : (ins : List ℕ) × (fin : List ℕ) × (s.table ≡ core.launched ins fin) × IsLaunched r.marks.items r.last_finished ins fin = launched_parts r.table r.marks.items r.last_finished s.table launched m.table in
    let ins : List ℕ = parts.0 in
    let fin : List ℕ = parts.1 in
    let comes : event.finish s d s.table ≡ event.when (core.among d ins && not (core.among d fin)) (record s { table = core.launched ins (fin ++ d ∷ []) }) = ap (event.finish s d) parts.2 in
    let in_is : core.among d ins ≡ is_inserted c.mark_of-mark.result = parts.3.inserted d ∙ ap (λ ms. is_inserted (mark_of ms d)) (sym c.deref.ensures.value) ∙ ap is_inserted (sym c.mark_of-mark.ensures) in
    first_fails _ _ _ o _ s r comes (in_is ∙ sym c.is_inserted.ensures ∙ c.if-not-is_inserted.true) m

pub returns-then-is_finished-clause-steps : goal.returns-then-is_finished-clause-steps
returns-then-is_finished-clause-steps c = λ o s is_core m.
    let r = c.args.self.now in
    let d : ℕ = c.args.client in
    let launched : is_launched r.table ≡ true = sym c.is_launched.ensures ∙ c.if-not-is_launched.false in
    let parts : (ins : List ℕ) × (fin : List ℕ) × (s.table ≡ core.launched ins fin) × IsLaunched r.marks.items r.last_finished ins fin = launched_parts r.table r.marks.items r.last_finished s.table launched m.table in
    let ins : List ℕ = parts.0 in
    let fin : List ℕ = parts.1 in
    let comes : event.finish s d s.table ≡ event.when (core.among d ins && not (core.among d fin)) (record s { table = core.launched ins (fin ++ d ∷ []) }) = ap (event.finish s d) parts.2 in
    let in_is : core.among d ins ≡ is_inserted c.mark_of-mark.result = parts.3.inserted d ∙ ap (λ ms. is_inserted (mark_of ms d)) (sym c.deref.ensures.value) ∙ ap is_inserted (sym c.mark_of-mark.ensures) in
    let fin_is : core.among d fin ≡ true = parts.3.finished d ∙ ap (λ ms. is_finished (mark_of ms d)) (sym c.deref.ensures.value) ∙ ap is_finished (sym c.mark_of-mark.ensures) ∙ sym c.is_finished.ensures ∙ c.if-is_finished.true in
    second_fails _ _ _ o _ s r comes (ap not fin_is) m

pub returns-clause-steps : goal.returns-clause-steps
returns-clause-steps c = λ o s is_core m.
    let r = c.args.self.now in
    let d : ℕ = c.args.client in
    let launched : is_launched r.table ≡ true = sym c.is_launched.ensures ∙ c.if-not-is_launched.false in
    let parts : (ins : List ℕ) × (fin : List ℕ) × (s.table ≡ core.launched ins fin) × IsLaunched r.marks.items r.last_finished ins fin = launched_parts r.table r.marks.items r.last_finished s.table launched m.table in
    let ins : List ℕ = parts.0 in
    let fin : List ℕ = parts.1 in
    let comes : event.finish s d s.table ≡ event.when (core.among d ins && not (core.among d fin)) (record s { table = core.launched ins (fin ++ d ∷ []) }) = ap (event.finish s d) parts.2 in
    let in_is : core.among d ins ≡ is_inserted c.mark_of-mark.result = parts.3.inserted d ∙ ap (λ ms. is_inserted (mark_of ms d)) (sym c.deref.ensures.value) ∙ ap is_inserted (sym c.mark_of-mark.ensures) in
    let here : is_inserted (mark_of r.marks.items d) ≡ true = ap (λ ms. is_inserted (mark_of ms d)) (sym c.deref.ensures.value) ∙ ap is_inserted (sym c.mark_of-mark.ensures) ∙ sym c.is_inserted.ensures ∙ c.if-not-is_inserted.false in
    let fin_is : core.among d fin ≡ false = parts.3.finished d ∙ ap (λ ms. is_finished (mark_of ms d)) (sym c.deref.ensures.value) ∙ ap is_finished (sym c.mark_of-mark.ensures) ∙ sym c.is_finished.ensures ∙ c.if-is_finished.false in
    let client : (1 ≤ d) × (d ≤ length r.marks.items) = inserted_is_client r.marks.items d here in
    both_hold _ _ _ o _ s _ comes (parts.3.inserted d ∙ here) (ap not fin_is) (record {
      options = m.options;
      clients = m.clients;
      line = record { second_sum = m.line.second_sum; second_groups = m.line.second_groups; hand = m.line.hand; no_hand = m.line.no_hand; queue = m.line.queue };
      writers = m.writers;
      table = launched_table r.table _ (Some d) ins (fin ++ d ∷ []) launched (launched_finish r.marks.items _ r.last_finished ins fin d parts.3 here (c.set_mark.ensures.set client.0 client.1));
      leaving = m.leaving;
      entries = m.entries;
      groups = m.groups;
      assigned = m.assigned;
      log_failed = m.log_failed;
      last = m.last;
      room = record {
        linked = m.room.linked;
        items = m.room.items;
        second = m.room.second;
        entries = m.room.entries;
        groups = m.room.groups;
        group_room = m.room.group_room;
      };
    })
