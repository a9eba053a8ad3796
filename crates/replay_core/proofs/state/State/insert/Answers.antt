use Rattle.std.proofs.Common.{◌≡◌, ℕ, ◌≤◌, true, false, not, ◌&&◌, List, [], ◌∷◌, ◌++◌, length, sym, ap, ◌∙◌, arith}
use Rattle.model_core.specs.Core as core
use Rattle.model_core.specs.Step as event
use Rattle.replay_core.specs.Phases.{is_launched, is_inserted}
use Rattle.replay_core.specs.Mirrors.{mark_of, IsLaunched}
use Rattle.replay_core.proofs.Events.{cannot_come, first_fails, second_fails, both_hold}
use Rattle.replay_core.proofs.MarkLemmas.{launched_insert}
use Rattle.replay_core.proofs.TableEvents.{launched_parts, launched_table, not_launched, members_are, runner_is, runner_is_client, in_table}
use Rattle.replay_core.proofs.state.State.insert.Goals as goal

pub returns-then-not-is_launched-clause-steps : goal.returns-then-not-is_launched-clause-steps
returns-then-not-is_launched-clause-steps c = λ o s is_core m.
    let r = c.args.self.now in
    cannot_come _ o s r ((not_launched o s c.args.client r.table r.marks.items r.last_finished (sym c.is_launched.ensures ∙ c.if-not-is_launched.true) m.table).0) m

pub returns-then-not-has_runner-clause-steps : goal.returns-then-not-has_runner-clause-steps
returns-then-not-has_runner-clause-steps c = λ o s is_core m.
    let r = c.args.self.now in
    let d : ℕ = c.args.client in
    let launched : is_launched r.table ≡ true = sym c.is_launched.ensures ∙ c.if-not-is_launched.false in
    let parts : (ins : List ℕ) × (fin : List ℕ) × (s.table ≡ core.launched ins fin) × IsLaunched r.marks.items r.last_finished ins fin = launched_parts r.table r.marks.items r.last_finished s.table launched m.table in
    let ins : List ℕ = parts.0 in
    let fin : List ℕ = parts.1 in
    let comes : event.insert o s d s.table ≡ event.when (core.among d (core.runners (core.table_group o s)) && not (core.among d ins)) (record s { table = core.launched (ins ++ d ∷ []) fin; inserted = s.inserted ++ event.entry_ahead s d }) = ap (event.insert o s d) parts.2 in
    let runs : core.among d (core.runners (core.table_group o s)) ≡ c.has_runner.result = ap (λ ws. core.among d (core.runners ws)) (members_are o r s m) ∙ runner_is r.plans.items d (in_table r r.linked.items) ∙ sym c.has_runner.ensures in
    first_fails _ _ _ o _ s r comes (runs ∙ c.if-not-has_runner.true) m

pub returns-then-is_inserted-clause-steps : goal.returns-then-is_inserted-clause-steps
returns-then-is_inserted-clause-steps c = λ o s is_core m.
    let r = c.args.self.now in
    let d : ℕ = c.args.client in
    let launched : is_launched r.table ≡ true = sym c.is_launched.ensures ∙ c.if-not-is_launched.false in
    let parts : (ins : List ℕ) × (fin : List ℕ) × (s.table ≡ core.launched ins fin) × IsLaunched r.marks.items r.last_finished ins fin = launched_parts r.table r.marks.items r.last_finished s.table launched m.table in
    let ins : List ℕ = parts.0 in
    let fin : List ℕ = parts.1 in
    let comes : event.insert o s d s.table ≡ event.when (core.among d (core.runners (core.table_group o s)) && not (core.among d ins)) (record s { table = core.launched (ins ++ d ∷ []) fin; inserted = s.inserted ++ event.entry_ahead s d }) = ap (event.insert o s d) parts.2 in
    let runs : core.among d (core.runners (core.table_group o s)) ≡ c.has_runner.result = ap (λ ws. core.among d (core.runners ws)) (members_are o r s m) ∙ runner_is r.plans.items d (in_table r r.linked.items) ∙ sym c.has_runner.ensures in
    let in_already : core.among d ins ≡ true = parts.3.inserted d ∙ ap (λ ms. is_inserted (mark_of ms d)) (sym c.deref.ensures.value) ∙ ap is_inserted (sym c.mark_of.ensures) ∙ sym c.is_inserted.ensures ∙ c.if-is_inserted.true in
    second_fails _ _ _ o _ s r comes (ap not in_already) m

pub returns-clause-steps : goal.returns-clause-steps
returns-clause-steps c = λ o s is_core m.
    let r = c.args.self.now in
    let d : ℕ = c.args.client in
    let launched : is_launched r.table ≡ true = sym c.is_launched.ensures ∙ c.if-not-is_launched.false in
    let parts : (ins : List ℕ) × (fin : List ℕ) × (s.table ≡ core.launched ins fin) × IsLaunched r.marks.items r.last_finished ins fin = launched_parts r.table r.marks.items r.last_finished s.table launched m.table in
    let ins : List ℕ = parts.0 in
    let fin : List ℕ = parts.1 in
    let comes : event.insert o s d s.table ≡ event.when (core.among d (core.runners (core.table_group o s)) && not (core.among d ins)) (record s { table = core.launched (ins ++ d ∷ []) fin; inserted = s.inserted ++ event.entry_ahead s d }) = ap (event.insert o s d) parts.2 in
    let runs : core.among d (core.runners (core.table_group o s)) ≡ c.has_runner.result = ap (λ ws. core.among d (core.runners ws)) (members_are o r s m) ∙ runner_is r.plans.items d (in_table r r.linked.items) ∙ sym c.has_runner.ensures in
    let out : is_inserted (mark_of r.marks.items d) ≡ false = ap (λ ms. is_inserted (mark_of ms d)) (sym c.deref.ensures.value) ∙ ap is_inserted (sym c.mark_of.ensures) ∙ sym c.is_inserted.ensures ∙ c.if-is_inserted.false in
    let not_in : core.among d ins ≡ false = parts.3.inserted d ∙ out in
    let client : (1 ≤ d) × (d ≤ length r.plans.items) = runner_is_client o r s d m (sym c.has_runner.ensures ∙ c.if-not-has_runner.false) in
    let few : d ≤ length r.marks.items = omega (arith, client.1, r.one_mark_each, r.marks.ok.0, r.plans.ok.0) in
    both_hold _ _ _ o _ s _ comes (runs ∙ c.if-not-has_runner.false) (ap not not_in) (record {
      options = m.options;
      clients = m.clients;
      line = record { second_sum = m.line.second_sum; second_groups = m.line.second_groups; hand = m.line.hand; no_hand = m.line.no_hand; queue = m.line.queue };
      writers = m.writers;
      table = launched_table r.table _ r.last_finished (ins ++ d ∷ []) fin launched (launched_insert r.marks.items _ r.last_finished ins fin d parts.3 out (c.set_mark.ensures.set client.0 few));
      leaving = m.leaving;
      entries = m.entries;
      groups = m.groups;
      assigned = m.assigned;
      log_failed = m.log_failed;
      last = m.last;
      room = record {
        linked = m.room.linked;
        items = m.room.items;
        second = m.room.second;
        entries = m.room.entries;
        groups = m.room.groups;
        group_room = m.room.group_room;
      };
    })
