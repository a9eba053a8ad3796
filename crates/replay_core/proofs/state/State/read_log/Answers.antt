use Rattle.std.proofs.Common.{◌≡◌, ◌+◌, ◌<◌, ◌≤◌, ◌==◌, ◌&&◌, not, true, List, [], ◌∷◌, length, map, get_or, slice_set, Some, refl, sym, ap, ◌∙◌, subst, arith}
use Rattle.std.specs.Prelude.{is_some}
use Rattle.model_core.specs.Core as core
use Rattle.model_core.specs.Step as event
use Rattle.replay_core.specs.declared.writer.Answer.TheVariants.{ReadAt}
use Rattle.replay_core.specs.declared.writer.Writer.{Writer}
use Rattle.replay_core.specs.Leads.{leads_front}
use Rattle.replay_core.specs.Phases.{is_built}
use Rattle.replay_core.specs.Mirrors.{IsLine, AreWriters}
use Rattle.replay_core.specs.Runs.{with_answer, without_answer}
use Rattle.replay_core.specs.Shown.{shown_writer}
use Rattle.replay_core.proofs.Events.{first_false, second_false, both_true, first_fails, second_fails, both_hold}
use Rattle.replay_core.proofs.HandRuns.{with_group_at, line_at, writers_alike, built_shown, built_has_group}
use Rattle.replay_core.proofs.LogEvents.{hand_of, leads_within, leads_some, built_parts, no_writer}
use Rattle.replay_core.proofs.ReaderEvents.{read_is, reads, is_told, told_in, reads_at, told_at, one_in_hand, set_as_group, is_one}
use Rattle.replay_core.proofs.RunLemmas.{set_alike}
use Rattle.replay_core.proofs.state.State.read_log.Goals as goal

pub returns-then-not-has_built-clause-steps : goal.returns-then-not-has_built-clause-steps
returns-then-not-has_built-clause-steps c = λ o s is_core m.
    let r = c.args.self.now in
    first_fails _ _ _ o _ s r (read_is o r s c.args.client m) (first_false _ _ (sym c.has_built.ensures ∙ c.if-not-has_built.true)) m

pub is_reader-requires : goal.is_reader-requires
is_reader-requires c =
    let r = c.args.self.now in
    let built = built_parts r.log (leads_front c.args.client r.in_second r.in_hand r.linked.items) (sym c.has_built.ensures ∙ c.if-not-has_built.false) in
    leads_within c.args.client r.in_second r.in_hand r.linked.items built.1

pub has_answer-requires : goal.has_answer-requires
has_answer-requires c =
    let r = c.args.self.now in
    let built = built_parts r.log (leads_front c.args.client r.in_second r.in_hand r.linked.items) (sym c.has_built.ensures ∙ c.if-not-has_built.false) in
    leads_within c.args.client r.in_second r.in_hand r.linked.items built.1

pub set_answer-requires : goal.set_answer-requires
set_answer-requires c =
    let r = c.args.self.now in
    let built = built_parts r.log (leads_front c.args.client r.in_second r.in_hand r.linked.items) (sym c.has_built.ensures ∙ c.if-not-has_built.false) in
    leads_within c.args.client r.in_second r.in_hand r.linked.items built.1

pub returns-then-not-is_reader-clause-steps : goal.returns-then-not-is_reader-clause-steps
returns-then-not-is_reader-clause-steps c = λ o s is_core m.
    let r = c.args.self.now in
    let built = built_parts r.log (leads_front c.args.client r.in_second r.in_hand r.linked.items) (sym c.has_built.ensures ∙ c.if-not-has_built.false) in
    let lt : r.in_second < length r.linked.items = leads_within c.args.client r.in_second r.in_hand r.linked.items built.1 in
    let within : r.in_second + r.in_hand ≤ length r.linked.items = omega (arith, r.groups_wait, r.linked.ok.0) in
    let reader : reads (hand_of r) ≡ (r.in_hand == 1 && is_some (get_or r.linked.items r.in_second no_writer).since) = reads_at r.plans.items r.in_second r.in_hand r.linked.items no_writer lt within in
    first_fails _ _ _ o _ s r (read_is o r s c.args.client m) (second_false _ _ (reader ∙ sym (c.is_reader.ensures no_writer) ∙ c.if-not-is_reader.true)) m

pub returns-then-has_answer-clause-steps : goal.returns-then-has_answer-clause-steps
returns-then-has_answer-clause-steps c = λ o s is_core m.
    let r = c.args.self.now in
    let built = built_parts r.log (leads_front c.args.client r.in_second r.in_hand r.linked.items) (sym c.has_built.ensures ∙ c.if-not-has_built.false) in
    let lt : r.in_second < length r.linked.items = leads_within c.args.client r.in_second r.in_hand r.linked.items built.1 in
    let told : is_told (hand_of r) ≡ is_some (get_or r.linked.items r.in_second no_writer).answer = told_at r.plans.items r.in_second r.in_hand r.linked.items no_writer (leads_some c.args.client r.in_second r.in_hand r.linked.items built.1) lt in
    second_fails _ _ _ o _ s r (read_is o r s c.args.client m) (ap not (told ∙ sym (c.has_answer.ensures no_writer) ∙ c.if-has_answer.true)) m

pub returns-clause-steps : goal.returns-clause-steps
returns-clause-steps c = λ o s is_core m.
    let r = c.args.self.now in
    let plans = r.plans.items in
    let both = sym c.has_built.ensures ∙ c.if-not-has_built.false in
    let built = built_parts r.log (leads_front c.args.client r.in_second r.in_hand r.linked.items) both in
    let lt : r.in_second < length r.linked.items = leads_within c.args.client r.in_second r.in_hand r.linked.items built.1 in
    let within : r.in_second + r.in_hand ≤ length r.linked.items = omega (arith, r.groups_wait, r.linked.ok.0) in
    let w : Writer = get_or r.linked.items r.in_second no_writer in
    let v : Writer = with_answer (ReadAt r.last) w in
    let tested : (r.in_hand == 1 && is_some w.since) ≡ true = sym (c.is_reader.ensures no_writer) ∙ c.if-not-is_reader.false in
    let one : r.in_hand ≡ 1 = is_one r.in_hand (is_some w.since) tested in
    let reader : reads (hand_of r) ≡ (r.in_hand == 1 && is_some w.since) = reads_at plans r.in_second r.in_hand r.linked.items no_writer lt within in
    let told : is_told (hand_of r) ≡ is_some w.answer = told_at plans r.in_second r.in_hand r.linked.items no_writer (leads_some c.args.client r.in_second r.in_hand r.linked.items built.1) lt in
    let hand : hand_of r ≡ shown_writer plans w ∷ [] = one_in_hand plans r.in_second r.in_hand r.linked.items no_writer one lt in
    let set : c.set_answer.new.writers.items ≡ slice_set r.linked.items r.in_second v = c.set_answer.ensures.set no_writer in
    let t : core.State = told_in s (shown_writer plans w ∷ []) in
    let size : length (v ∷ []) ≡ r.in_hand = sym one in
    let shown : t.log ≡ core.built (map (shown_writer plans) (v ∷ [])) = ap (λ n. core.built (record (shown_writer plans w) { answer = Some (core.read_at n) } ∷ [])) m.last in
    let line = line_at plans s t r.second.items r.in_second r.in_hand r.log r.log r.linked.items (v ∷ []) m.line (omega (arith, lt)) size refl refl (shown ∙ built_shown r.log (map (shown_writer plans) (v ∷ [])) built.0) (built_has_group r.log built.0) in
    let L : List Writer → Type 0 = λ ws. IsLine (map (shown_writer plans) ws) r.second.items r.in_second r.in_hand r.log t in
    let W : List Writer → Type 0 = λ ws. AreWriters plans ws r.items.items in
    let alike : map without_answer (slice_set r.linked.items r.in_second v) ≡ map without_answer r.linked.items = set_alike without_answer r.linked.items r.in_second v no_writer lt refl in
    let group : slice_set r.linked.items r.in_second v ≡ with_group_at r.in_second r.in_hand (v ∷ []) r.linked.items = set_as_group r.in_second v r.linked.items lt ∙ ap (λ n. with_group_at r.in_second n (v ∷ []) r.linked.items) (sym one) in
    let comes = read_is o r s c.args.client m ∙ ap (λ ws. event.when (((is_built r.log && leads_front c.args.client r.in_second r.in_hand r.linked.items) && reads (hand_of r)) && not (is_told (hand_of r))) (told_in s ws)) hand in
    both_hold _ _ _ o t s _ comes (both_true _ _ both (reader ∙ tested)) (ap not (told ∙ sym (c.has_answer.ensures no_writer) ∙ c.if-has_answer.false)) (record {
      options = m.options;
      clients = m.clients;
      line = subst L (sym (set ∙ group)) line;
      writers = subst W (sym set) (writers_alike plans r.linked.items (slice_set r.linked.items r.in_second v) r.items.items alike m.writers);
      table = m.table;
      leaving = m.leaving;
      entries = m.entries;
      groups = m.groups;
      assigned = m.assigned;
      log_failed = m.log_failed;
      last = m.last;
      room = record {
        linked = omega (arith, m.room.linked, c.set_answer.ensures.len, c.set_answer.ensures.capacity);
        items = omega (arith, m.room.items, c.set_answer.ensures.len);
        second = omega (arith, m.room.second, c.set_answer.ensures.len);
        entries = omega (arith, m.room.entries, c.set_answer.ensures.len);
        groups = m.room.groups;
        group_room = m.room.group_room;
      };
    })
