use Rattle.std.proofs.Common.{◌≡◌, ℕ, ◌+◌, ◌-◌, ◌<◌, ◌≤◌, true, not, List, [], ◌++◌, ◌∷◌, length, map, vec_len, refl, sym, ap, ◌∙◌, arith}
use Rattle.std.specs.Prelude.{if◌then◌else◌, vec_capacity}
use Rattle.std.proofs.lemmas.List.{length-map, length-append}
use Rattle.model_core.specs.Core as core
use Rattle.model_core.specs.Step as event
use Rattle.replay_core.specs.declared.phases.LogPhase.TheVariants.{InLog}
use Rattle.replay_core.specs.declared.writer.Writer.{Writer}
use Rattle.replay_core.specs.Shown.{shown_writer, shown_entry}
use Rattle.replay_core.specs.Mirrors.{lines_left}
use Rattle.replay_core.specs.Leads.{leads_front}
use Rattle.replay_core.proofs.Events.{first_false, second_false, both_true, first_fails, second_fails, both_hold}
use Rattle.replay_core.proofs.LogEvents.{hand_of, leads_within, leads_some, built_parts, first_at, alone_is, no_writer}
use Rattle.replay_core.proofs.HandRuns.{log_group_is, hand_got, none_shown, some_shown, unlogged_alike, none_more, built_unanswered, built_shown, built_has_group, size_of_group}
use Rattle.replay_core.proofs.OrdinalLemmas.{counts_after, rest_is}
use Rattle.replay_core.proofs.RunLemmas.{append_none}
use Rattle.replay_core.proofs.state.State.log_group.Goals as goal
use Rattle.model_base.specs.History.{last_sequence}

pub returns-then-not-has_built-clause-steps : goal.returns-then-not-has_built-clause-steps
returns-then-not-has_built-clause-steps c = λ o s is_core m.
    let r = c.args.self.now in
    first_fails _ _ _ o _ s r (log_group_is o r s c.args.client m) (first_false _ _ (sym c.has_built.ensures ∙ c.if-not-has_built.true)) m

pub is_alone-alone-requires : goal.is_alone-alone-requires
is_alone-alone-requires c =
    let r = c.args.self.now in
    let built = built_parts r.log (leads_front c.args.client r.in_second r.in_hand r.linked.items) (sym c.has_built.ensures ∙ c.if-not-has_built.false) in
    leads_within c.args.client r.in_second r.in_hand r.linked.items built.1

pub returns-then-alone-clause-steps : goal.returns-then-alone-clause-steps
returns-then-alone-clause-steps c = λ o s is_core m.
    let r = c.args.self.now in
    let built = built_parts r.log (leads_front c.args.client r.in_second r.in_hand r.linked.items) (sym c.has_built.ensures ∙ c.if-not-has_built.false) in
    first_fails _ _ _ o _ s r (log_group_is o r s c.args.client m) (second_false _ _ (ap not (alone_is r c.args.client built.1 ∙ sym (c.is_alone-alone.ensures no_writer) ∙ c.if-alone.true))) m

pub returns-then-alone-clause-unchanged : goal.returns-then-alone-clause-unchanged
returns-then-alone-clause-unchanged c = λ e. refl

pub returns-then-alone-clause-plans : goal.returns-then-alone-clause-plans
returns-then-alone-clause-plans c = refl

pub returns-then-not-has_built-clause-unchanged : goal.returns-then-not-has_built-clause-unchanged
returns-then-not-has_built-clause-unchanged c = λ e. refl

pub returns-then-not-has_built-clause-plans : goal.returns-then-not-has_built-clause-plans
returns-then-not-has_built-clause-plans c = refl

pub returns-then-self-clause-steps : goal.returns-then-self-clause-steps
returns-then-self-clause-steps c = λ o s is_core m.
    let r = c.args.self.now in
    second_fails _ _ _ o _ s r (log_group_is o r s c.args.client m) (ap not c.if-self.true) m

pub returns-then-self-clause-unchanged : goal.returns-then-self-clause-unchanged
returns-then-self-clause-unchanged c = λ e. refl

pub returns-then-self-clause-plans : goal.returns-then-self-clause-plans
returns-then-self-clause-plans c = refl

pub returns-then-given-eq0-clause-plans : goal.returns-then-given-eq0-clause-plans
returns-then-given-eq0-clause-plans c = c.leave_hand.ensures.plans

pub returns-clause-plans : goal.returns-clause-plans
returns-clause-plans c = refl

pub returns-then-given-eq0-clause-steps : goal.returns-then-given-eq0-clause-steps
returns-then-given-eq0-clause-steps c = λ o s is_core m.
    let r = c.args.self.now in
    let f = shown_writer r.plans.items in
    let both = sym c.has_built.ensures ∙ c.if-not-has_built.false in
    let parts = built_parts r.log (leads_front c.args.client r.in_second r.in_hand r.linked.items) both in
    let group : List Writer = c.give_runs-self.new.group in
    let es = c.give_runs-self.new.entries.items in
    let ws : List core.Writer = map f group in
    let len_is : r.in_second + r.in_hand - r.in_second ≡ r.in_hand = omega arith in
    let got = hand_got o r s m parts.0 c.deref_mut.result.now (r.in_second + r.in_hand - r.in_second) group es c.give_runs-self.result c.deref_mut.ensures.value len_is c.give_runs-self.ensures.writers (c.give_runs-self.ensures.got r.plans.items s) in
    let old_len : vec_len r.entries ≡ length r.entries.items = r.entries.ok.0 in
    let new_len : vec_len c.give_runs-self.new.entries ≡ length es = c.give_runs-self.new.entries.ok.0 in
    let same_len : length es ≡ length r.entries.items = omega (arith, old_len, new_len, c.give_runs-self.ensures.lower, c.if-given-eq0.true, c.len.ensures, c.len-before.ensures) in
    let front : length s.entries ≡ length r.entries.items = ap length m.entries ∙ length-map r.entries.items (shown_entry r.plans.items) in
    let back : length (s.entries ++ core.entries_of s ws) ≡ length s.entries = sym (ap length got.listed) ∙ length-map es (shown_entry r.plans.items) ∙ same_len ∙ sym front in
    let none : core.entries_of s ws ≡ [] = none_more s.entries (core.entries_of s ws) back in
    let alive : not r.log_failed ≡ true = ap not c.if-self.false in
    let mid : core.State = record s { log = core.built ws } in
    let writes = both_true _ _ both (ap not (alone_is r c.args.client parts.1 ∙ sym (c.is_alone-alone.ensures no_writer) ∙ c.if-alone.false)) in
    both_hold _ _ _ o _ s _ (log_group_is o r s c.args.client m) writes alive (none_shown o _ s _ ws _ got.shown got.runs none (c.leave_hand.ensures.left o mid (record {
      options = m.options;
      clients = m.clients;
      line = got.line mid r.log refl refl (built_shown r.log ws parts.0) (built_has_group r.log parts.0);
      writers = got.writers;
      table = m.table;
      leaving = m.leaving;
      entries = append_none s.entries ∙ ap (λ xs. s.entries ++ xs) (sym none) ∙ sym got.listed;
      groups = m.groups;
      assigned = sym (got.reached ∙ ap (last_sequence s.assigned) none);
      log_failed = m.log_failed;
      last = m.last;
      room = record {
        linked = m.room.linked;
        items = m.room.items;
        second = m.room.second;
        entries = omega (arith, m.room.entries, c.give_runs-self.ensures.capacity, old_len, new_len, same_len, built_unanswered r.log r.in_hand parts.0);
        groups = omega (arith, m.room.groups, c.give_runs-self.ensures.lower);
        group_room = omega (arith, m.room.group_room, c.give_runs-self.ensures.capacity);
      };
    })))

pub returns-clause-steps : goal.returns-clause-steps
returns-clause-steps c = λ o s is_core m.
    let r = c.args.self.now in
    let f = shown_writer r.plans.items in
    let both = sym c.has_built.ensures ∙ c.if-not-has_built.false in
    let parts = built_parts r.log (leads_front c.args.client r.in_second r.in_hand r.linked.items) both in
    let group : List Writer = c.give_runs-self.new.group in
    let es = c.give_runs-self.new.entries.items in
    let ws : List core.Writer = map f group in
    let len_is : r.in_second + r.in_hand - r.in_second ≡ r.in_hand = omega arith in
    let got = hand_got o r s m parts.0 c.deref_mut.result.now (r.in_second + r.in_hand - r.in_second) group es c.give_runs-self.result c.deref_mut.ensures.value len_is c.give_runs-self.ensures.writers (c.give_runs-self.ensures.got r.plans.items s) in
    let old_len : vec_len r.entries ≡ length r.entries.items = r.entries.ok.0 in
    let new_len : vec_len c.give_runs-self.new.entries ≡ length es = c.give_runs-self.new.entries.ok.0 in
    let front : length s.entries ≡ length r.entries.items = ap length m.entries ∙ length-map r.entries.items (shown_entry r.plans.items) in
    let whole : length es ≡ length (s.entries ++ core.entries_of s ws) = sym (length-map es (shown_entry r.plans.items)) ∙ ap length got.listed in
    let given : ℕ = c.len.result - c.len-before.result in
    let given_is : given ≡ length (core.entries_of s ws) = omega (arith, whole, length-append s.entries (core.entries_of s ws), front, old_len, new_len, c.len.ensures, c.len-before.ensures) in
    let some : 0 < length (core.entries_of s ws) = omega (arith, given_is, c.if-given-eq0.false) in
    let alive : not r.log_failed ≡ true = ap not c.if-self.false in
    let in_group : 0 < r.in_hand = leads_some c.args.client r.in_second r.in_hand r.linked.items parts.1 in
    let within : r.in_second < length r.linked.items = leads_within c.args.client r.in_second r.in_hand r.linked.items parts.1 in
    let unanswered_still = built_unanswered r.log r.in_hand parts.0 in
    let few : vec_len c.give_runs-self.new.entries ≤ vec_len r.entries + r.in_hand = omega (arith, c.give_runs-self.ensures.upper, size_of_group r c.deref_mut.result.now (r.in_second + r.in_hand - r.in_second) c.deref_mut.ensures.value len_is) in
    let free : vec_len r.groups < vec_capacity r.groups = omega (arith, m.room.entries, m.room.groups, m.room.group_room, unanswered_still, in_group, r.groups_wait) in
    let unlogged : event.is_unlogged ws ≡ c.is_unlogged-unlogged.result =
    ap event.is_unlogged got.runs ∙ unlogged_alike s.assigned (hand_of r)
    ∙ first_at r.plans.items (λ (v : core.Writer). v.options.no_log) event.is_unlogged r.in_second r.in_hand r.linked.items no_writer (λ v vs. refl) in_group within
    ∙ sym (c.is_unlogged-unlogged.ensures no_writer) in
    let entries_room : vec_len c.give_runs-self.new.entries + vec_len r.linked + lines_left s.clients ≤ vec_capacity c.give_runs-self.new.entries + r.in_second + r.in_hand =
    omega (arith, m.room.entries, c.give_runs-self.ensures.capacity, few, unanswered_still) in
    let few_groups : vec_len c.note_logged.new.groups ≤ vec_len c.give_runs-self.new.entries =
    omega (arith, m.room.groups, c.note_logged.ensures.upper, c.give_runs-self.ensures.lower, c.if-given-eq0.false, c.len.ensures, c.len-before.ensures) in
    let group_room : vec_capacity c.give_runs-self.new.entries ≤ vec_capacity c.note_logged.new.groups =
    omega (arith, m.room.group_room, c.give_runs-self.ensures.capacity, c.note_logged.ensures.capacity) in
    let t : core.State = event.with_group s ws (core.entries_of s ws) in
    let writes = both_true _ _ both (ap not (alone_is r c.args.client parts.1 ∙ sym (c.is_alone-alone.ensures no_writer) ∙ c.if-alone.false)) in
    both_hold _ _ _ o _ s _ (log_group_is o r s c.args.client m) writes alive (some_shown o _ s ws _ got.runs some (record {
      options = m.options;
      clients = m.clients;
      line = got.line t InLog refl refl refl refl;
      writers = got.writers;
      table = m.table;
      leaving = m.leaving;
      entries = sym got.listed;
      groups = ap (λ b. if b then s.groups else s.groups ++ length (core.entries_of s ws) ∷ []) unlogged
          ∙ ap (λ gs. if c.is_unlogged-unlogged.result then gs else gs ++ length (core.entries_of s ws) ∷ []) m.groups
          ∙ ap (λ n. if c.is_unlogged-unlogged.result then r.groups.items else r.groups.items ++ n ∷ []) (sym given_is)
          ∙ sym (c.note_logged.ensures.noted free);
      assigned = sym got.reached;
      log_failed = m.log_failed;
      last = m.last;
      room = record {
        linked = m.room.linked;
        items = m.room.items;
        second = m.room.second;
        entries = entries_room;
        groups = few_groups;
        group_room = group_room;
      };
    }))

pub invariant_of-self-clause-entries_counted : goal.invariant_of-self-clause-entries_counted
invariant_of-self-clause-entries_counted c =
    let r = c.args.self.now in
    let es = c.give_runs-self.new.entries in
    counts_after r.accepted.items (vec_len r.accepted) c.count_entries.new.counts c.deref_mut-2.result.now r.entries.items es.items _ (vec_len r.entries) c.len-before.result
    r.accepted.ok.0 c.deref_mut-2.ensures.value (omega (arith, c.count_entries.auto.counts)) c.give_runs-self.ensures.front (rest_is c.deref-2.result.now es.items c.len-before.result c.deref-2.ensures.value) c.len-before.ensures
    r.entries_counted (omega (arith, es.ok.0, c.len.ensures)) c.count_entries.ensures

pub invariant_of-self-2-clause-entries_counted : goal.invariant_of-self-2-clause-entries_counted
invariant_of-self-2-clause-entries_counted c =
    let r = c.args.self.now in
    let es = c.give_runs-self.new.entries in
    counts_after r.accepted.items (vec_len r.accepted) c.count_entries.new.counts c.deref_mut-2.result.now r.entries.items es.items _ (vec_len r.entries) c.len-before.result
    r.accepted.ok.0 c.deref_mut-2.ensures.value (omega (arith, c.count_entries.auto.counts)) c.give_runs-self.ensures.front (rest_is c.deref-2.result.now es.items c.len-before.result c.deref-2.ensures.value) c.len-before.ensures
    r.entries_counted (omega (arith, es.ok.0, c.len.ensures)) c.count_entries.ensures

pub invariant_of-self-clause-one_item_each : goal.invariant_of-self-clause-one_item_each
invariant_of-self-clause-one_item_each c = c.args.self.now.one_item_each

pub invariant_of-self-clause-groups_wait : goal.invariant_of-self-clause-groups_wait
invariant_of-self-clause-groups_wait c = c.args.self.now.groups_wait

pub invariant_of-self-clause-one_seat_each : goal.invariant_of-self-clause-one_seat_each
invariant_of-self-clause-one_seat_each c = c.args.self.now.one_seat_each

pub invariant_of-self-clause-one_mark_each : goal.invariant_of-self-clause-one_mark_each
invariant_of-self-clause-one_mark_each c = c.args.self.now.one_mark_each

pub invariant_of-self-clause-one_done_each : goal.invariant_of-self-clause-one_done_each
invariant_of-self-clause-one_done_each c = c.args.self.now.one_done_each

pub invariant_of-self-clause-assigned_fits : goal.invariant_of-self-clause-assigned_fits
invariant_of-self-clause-assigned_fits c = c.give_runs-self.ensures.fits

pub invariant_of-self-2-clause-one_item_each : goal.invariant_of-self-2-clause-one_item_each
invariant_of-self-2-clause-one_item_each c = c.args.self.now.one_item_each

pub invariant_of-self-2-clause-groups_wait : goal.invariant_of-self-2-clause-groups_wait
invariant_of-self-2-clause-groups_wait c = c.args.self.now.groups_wait

pub invariant_of-self-2-clause-one_seat_each : goal.invariant_of-self-2-clause-one_seat_each
invariant_of-self-2-clause-one_seat_each c = c.args.self.now.one_seat_each

pub invariant_of-self-2-clause-one_mark_each : goal.invariant_of-self-2-clause-one_mark_each
invariant_of-self-2-clause-one_mark_each c = c.args.self.now.one_mark_each

pub invariant_of-self-2-clause-one_done_each : goal.invariant_of-self-2-clause-one_done_each
invariant_of-self-2-clause-one_done_each c = c.args.self.now.one_done_each

pub invariant_of-self-2-clause-assigned_fits : goal.invariant_of-self-2-clause-assigned_fits
invariant_of-self-2-clause-assigned_fits c = c.give_runs-self.ensures.fits
