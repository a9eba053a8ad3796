use Rattle.std.proofs.Common.{◌≡◌, ℕ, true, ◌&&◌, List, refl, sym, ap, ◌∙◌}
use Rattle.std.specs.List.{list_all}
use Rattle.model_core.specs.Core as core
use Rattle.model_core.specs.Step as event
use Rattle.replay_core.specs.Phases.{is_launched}
use Rattle.replay_core.specs.Mirrors.{IsLaunched}
use Rattle.replay_core.proofs.Events.{cannot_come, first_fails, second_fails, both_hold}
use Rattle.replay_core.proofs.TableEvents.{launched_parts, not_launched, members_are, all_finished_is, group_last_is, in_table}
use Rattle.replay_core.proofs.state.State.publish.Goals as goal

pub returns-then-not-is_launched-clause-steps : goal.returns-then-not-is_launched-clause-steps
returns-then-not-is_launched-clause-steps c = λ o s is_core m.
    let r = c.args.self.now in
    cannot_come _ o s r ((not_launched o s c.args.client r.table r.marks.items r.last_finished (sym c.is_launched.ensures ∙ c.if-not-is_launched.true) m.table).2) m

pub returns-then-not-finished_last-clause-steps : goal.returns-then-not-finished_last-clause-steps
returns-then-not-finished_last-clause-steps c = λ o s is_core m.
    let r = c.args.self.now in
    let d : ℕ = c.args.client in
    let launched : is_launched r.table ≡ true = sym c.is_launched.ensures ∙ c.if-not-is_launched.false in
    let parts : (ins : List ℕ) × (fin : List ℕ) × (s.table ≡ core.launched ins fin) × IsLaunched r.marks.items r.last_finished ins fin = launched_parts r.table r.marks.items r.last_finished s.table launched m.table in
    let ins : List ℕ = parts.0 in
    let fin : List ℕ = parts.1 in
    let comes : event.publish o s d s.table ≡ event.when (event.is_last d fin && list_all (λ k. core.among k fin) (core.runners (core.table_group o s))) (record s { table = core.published; last = event.group_last s.last (core.table_group o s) }) = ap (event.publish o s d) parts.2 in
    let last_is : event.is_last d fin ≡ c.finished_last.result = parts.3.last d ∙ sym c.finished_last.ensures in
    first_fails _ _ _ o _ s r comes (last_is ∙ c.if-not-finished_last.true) m

pub returns-then-not-all_finished-clause-steps : goal.returns-then-not-all_finished-clause-steps
returns-then-not-all_finished-clause-steps c = λ o s is_core m.
    let r = c.args.self.now in
    let d : ℕ = c.args.client in
    let launched : is_launched r.table ≡ true = sym c.is_launched.ensures ∙ c.if-not-is_launched.false in
    let parts : (ins : List ℕ) × (fin : List ℕ) × (s.table ≡ core.launched ins fin) × IsLaunched r.marks.items r.last_finished ins fin = launched_parts r.table r.marks.items r.last_finished s.table launched m.table in
    let ins : List ℕ = parts.0 in
    let fin : List ℕ = parts.1 in
    let comes : event.publish o s d s.table ≡ event.when (event.is_last d fin && list_all (λ k. core.among k fin) (core.runners (core.table_group o s))) (record s { table = core.published; last = event.group_last s.last (core.table_group o s) }) = ap (event.publish o s d) parts.2 in
    let last_is : event.is_last d fin ≡ c.finished_last.result = parts.3.last d ∙ sym c.finished_last.ensures in
    let all_are : list_all (λ k. core.among k fin) (core.runners (core.table_group o s)) ≡ c.all_finished.result = ap (λ ws. list_all (λ k. core.among k fin) (core.runners ws)) (members_are o r s m) ∙ all_finished_is r.plans.items r.marks.items fin parts.3.finished (in_table r r.linked.items) ∙ sym c.all_finished.ensures in
    second_fails _ _ _ o _ s r comes (all_are ∙ c.if-not-all_finished.true) m

pub returns-clause-steps : goal.returns-clause-steps
returns-clause-steps c = λ o s is_core m.
    let r = c.args.self.now in
    let d : ℕ = c.args.client in
    let launched : is_launched r.table ≡ true = sym c.is_launched.ensures ∙ c.if-not-is_launched.false in
    let parts : (ins : List ℕ) × (fin : List ℕ) × (s.table ≡ core.launched ins fin) × IsLaunched r.marks.items r.last_finished ins fin = launched_parts r.table r.marks.items r.last_finished s.table launched m.table in
    let ins : List ℕ = parts.0 in
    let fin : List ℕ = parts.1 in
    let comes : event.publish o s d s.table ≡ event.when (event.is_last d fin && list_all (λ k. core.among k fin) (core.runners (core.table_group o s))) (record s { table = core.published; last = event.group_last s.last (core.table_group o s) }) = ap (event.publish o s d) parts.2 in
    let last_is : event.is_last d fin ≡ c.finished_last.result = parts.3.last d ∙ sym c.finished_last.ensures in
    let all_are : list_all (λ k. core.among k fin) (core.runners (core.table_group o s)) ≡ c.all_finished.result = ap (λ ws. list_all (λ k. core.among k fin) (core.runners ws)) (members_are o r s m) ∙ all_finished_is r.plans.items r.marks.items fin parts.3.finished (in_table r r.linked.items) ∙ sym c.all_finished.ensures in
    let last : event.group_last s.last (core.table_group o s) ≡ c.group_last-self.result = ap (λ n. event.group_last n (core.table_group o s)) m.last ∙ ap (event.group_last r.last) (members_are o r s m) ∙ group_last_is r.plans.items r.last (in_table r r.linked.items) ∙ sym c.group_last-self.ensures in
    both_hold _ _ _ o _ s _ comes (last_is ∙ c.if-not-finished_last.false) (all_are ∙ c.if-not-all_finished.false) (record {
      options = m.options;
      clients = m.clients;
      line = record { second_sum = m.line.second_sum; second_groups = m.line.second_groups; hand = m.line.hand; no_hand = m.line.no_hand; queue = m.line.queue };
      writers = m.writers;
      table = refl;
      leaving = m.leaving;
      entries = m.entries;
      groups = m.groups;
      assigned = m.assigned;
      log_failed = m.log_failed;
      last = last;
      room = record {
        linked = m.room.linked;
        items = m.room.items;
        second = m.room.second;
        entries = m.room.entries;
        groups = m.room.groups;
        group_room = m.room.group_room;
      };
    })
