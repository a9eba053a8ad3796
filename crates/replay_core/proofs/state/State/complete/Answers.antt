use Rattle.std.proofs.Common.{◌≡◌, ℕ, ◌+◌, ◌-◌, ◌<◌, Option, Some, None, false, List, length, vec_len, slice_get, slice_set, refl, sym, ap, ◌∙◌, subst, arith}
use Rattle.std.specs.Prelude.{find, filter, not, ◌==◌, option_map}
use Rattle.std.proofs.lemmas.Option.{slice_get_read}
use Rattle.model_base.specs.Batch.{Record}
use Rattle.model_base.specs.Calls.{Reply}
use Rattle.model_core.specs.Core as core
use Rattle.model_core.specs.Step as event
use Rattle.replay_core.specs.declared.writer.Answer.{Answer}
use Rattle.replay_core.specs.declared.writer.Answer.TheVariants.{Accepted, Refused, ReadAt}
use Rattle.replay_core.specs.declared.writer.Writer.{Writer}
use Rattle.replay_plans.specs.Plans.{records_of}
use Rattle.replay_core.specs.Shown.{shown_writer, shown_answer, shown_reply}
use Rattle.replay_core.specs.Mirrors.{IsClient, AreClients, done_of, lines_left}
use Rattle.replay_core.proofs.Events.{cannot_come, has_come}
use Rattle.replay_core.proofs.ClientLemmas.{clients_set, get_some, leaving_is_busy, done_told, done_past, client_of, lines_kept}
use Rattle.replay_core.proofs.state.State.complete.Goals as goal

no_answer : (s : core.State) (m : ℕ) (o : Option core.Client) (w : core.Writer) → event.complete_with s m o w None ≡ None
no_answer s m None w = refl
no_answer s m (Some client) w = refl

some_reply : (records : List Record) (x : Answer) → shown_answer records (Some x) ≡ Some (shown_reply records x)
some_reply records (Accepted run) = refl
some_reply records (Refused why) = refl
some_reply records (ReadAt at) = refl

pub returns-in_default-clause-steps : goal.returns-in_default-clause-steps
returns-in_default-clause-steps c = λ o s is m.
    let r = c.args.self.now in
    let none : done_of r.done.items c.args.client ≡ None = done_past r.done.items (vec_len r.plans) c.args.client (omega (arith, r.one_done_each, r.done.ok.0)) c.in_default.ensures in
    cannot_come _ o s r (ap (event.complete s c.args.client) (m.leaving c.args.client ∙ ap (option_map (shown_writer r.plans.items)) none)) m

pub returns-in_default-done_of-clause-steps : goal.returns-in_default-done_of-clause-steps
returns-in_default-done_of-clause-steps c = λ o s is m.
    let r = c.args.self.now in
    let none : done_of r.done.items c.args.client ≡ None = ap (λ ds. done_of ds c.args.client) (sym c.deref.ensures.value) ∙ sym c.done_of.ensures ∙ c.in_default-done_of.is in
    cannot_come _ o s r (ap (event.complete s c.args.client) (m.leaving c.args.client ∙ ap (option_map (shown_writer r.plans.items)) none)) m

pub returns-in_default-answer-clause-steps : goal.returns-in_default-answer-clause-steps
returns-in_default-answer-clause-steps c = λ o s is m.
    let r = c.args.self.now in
    let d : ℕ = c.args.client in
    let plans = r.plans.items in
    let w : Writer = c.in-Some-done_of.writer in
    let some : done_of r.done.items d ≡ Some w = ap (λ ds. done_of ds d) (sym c.deref.ensures.value) ∙ sym c.done_of.ensures ∙ c.in-Some-done_of.is in
    let found : find (λ (v : core.Writer). v.client == d) s.leaving ≡ Some (shown_writer plans w) = m.leaving d ∙ ap (option_map (shown_writer plans)) some in
    let none : shown_answer (records_of plans w.client w.batch) w.answer ≡ None = ap (shown_answer (records_of plans w.client w.batch)) c.in_default-answer.is in
    cannot_come _ o s r (ap (event.complete s d) found ∙ ap (event.complete_with s d (core.client_at s d) (shown_writer plans w)) none ∙ no_answer s d (core.client_at s d) (shown_writer plans w)) m

pub returns-clause-steps : goal.returns-clause-steps
returns-clause-steps c = λ o s is m.
    let r = c.args.self.now in
    let d : ℕ = c.args.client in
    let plans = r.plans.items in
    let place : ℕ = c.in-Some.place in
    let w : Writer = c.in-Some-done_of.writer in
    let sw : core.Writer = shown_writer plans w in
    let records : List Record = records_of plans w.client w.batch in
    let reply : Reply = shown_reply records c.in-Some-answer.answer in
    let number : d ≡ place + 1 = omega (arith, c.in-Some.ensures) in
    let back : d - 1 ≡ place = omega (arith, number) in
    let few : place < length plans = omega (arith, c.in-Some.ensures, r.plans.ok.0) in
    let some : done_of r.done.items d ≡ Some w = ap (λ ds. done_of ds d) (sym c.deref.ensures.value) ∙ sym c.done_of.ensures ∙ c.in-Some-done_of.is in
    let found : find (λ (v : core.Writer). v.client == d) s.leaving ≡ Some sw = m.leaving d ∙ ap (option_map (shown_writer plans)) some in
    let answered : sw.answer ≡ Some reply = ap (shown_answer records) c.in-Some-answer.is ∙ some_reply records c.in-Some-answer.answer in
    let known : place < length s.clients = omega (arith, few, m.clients.plan_each) in
    let at = get_some s.clients place known in
    let client : core.Client = at.0 in
    let there : core.client_at s d ≡ Some client = client_of s d place client number at.1 in
    let busy : client.idle ≡ false = leaving_is_busy o s d client sw is there found in
    let new : core.Client = event.after_completion client sw (core.reply_told s sw.since reply) in
    let t : core.State = record (core.with_client s d new) { leaving = filter (λ (x : core.Writer). not (x.client == d)) s.leaving } in
    let comes : event.complete s d (find (λ (v : core.Writer). v.client == d) s.leaving) ≡ Some t =
    ap (event.complete s d) found ∙ ap (λ x. event.complete_with s d x sw sw.answer) there ∙ ap (event.complete_with s d (Some client) sw) answered in
    let plan = get_some plans place few in
    let seat_there : slice_get r.seats.items place ≡ Some c.index_mut.result.now = slice_get_read r.seats.items (vec_len r.seats) place c.index_mut.result.now r.seats.ok.0 (omega (arith, c.in-Some.ensures, r.one_seat_each)) c.index_mut.ensures.value in
    let before : IsClient plan.0 c.index_mut.result.now client = m.clients.each place plan.0 c.index_mut.result.now client plan.1 seat_there at.1 in
    let after : IsClient plan.0 c.settle.new.seat new = c.settle.ensures s plan.0 client sw records before busy in
    let all : AreClients plans (slice_set r.seats.items place c.settle.new.seat) (slice_set s.clients place new) = clients_set plans r.seats.items s.clients place plan.0 c.settle.new.seat new m.clients known plan.1 after in
    let P : ℕ → Type 0 = λ k. AreClients plans (slice_set r.seats.items place c.settle.new.seat) (slice_set s.clients k new) in
    let left : lines_left (slice_set s.clients (d - 1) new) ≡ lines_left s.clients = ap (λ k. lines_left (slice_set s.clients k new)) back ∙ lines_kept s.clients place client new known at.1 refl in
    has_come _ o t s _ comes (record {
      options = m.options;
      clients = subst P (sym back) all;
      line = record { second_sum = m.line.second_sum; second_groups = m.line.second_groups; hand = m.line.hand; no_hand = m.line.no_hand; queue = m.line.queue };
      writers = m.writers;
      table = m.table;
      leaving = done_told plans r.done.items c.set_done.new.done.items s.leaving d m.leaving (c.set_done.ensures.set (omega (arith, number)) (omega (arith, number, few, r.one_done_each, r.done.ok.0, r.plans.ok.0)));
      entries = m.entries;
      groups = m.groups;
      assigned = m.assigned;
      log_failed = m.log_failed;
      last = m.last;
      room = record {
        linked = omega (arith, m.room.linked, left);
        items = omega (arith, m.room.items, left);
        second = omega (arith, m.room.second, left);
        entries = omega (arith, m.room.entries, left);
        groups = m.room.groups;
        group_room = m.room.group_room;
      };
    })
