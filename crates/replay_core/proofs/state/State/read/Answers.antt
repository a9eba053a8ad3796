use Rattle.std.proofs.Common.{◌≡◌, ℕ, ◌+◌, ◌-◌, ◌<◌, ◌≤◌, false, Option, Some, None, [], length, vec_len, slice_get, slice_set, refl, sym, ap, ◌∙◌, subst, arith}
use Rattle.std.specs.Option.{option_map_or}
use Rattle.std.proofs.lemmas.Option.{slice_get_read, slice_get_within}
use Rattle.model_core.specs.Core as core
use Rattle.model_core.specs.Step as event
use Rattle.replay_plans.specs.declared.plan.ClientPlan.{ClientPlan}
use Rattle.replay_core.specs.declared.state.Seat.{Seat}
use Rattle.replay_core.specs.Mirrors.{IsClient, AreClients, lines_left}
use Rattle.model_base.specs.Progress.{first_missing}
use Rattle.model_base.specs.Calls.{Command}
use Rattle.replay_core.specs.declared.writer.CoreReply.{CoreReply}
use Rattle.replay_core.specs.Replies.{IsReply, reply_at}
use Rattle.replay_plans.specs.Ahead.{IsAhead, is_read, read_families}
use Rattle.replay_core.proofs.Events.{cannot_come, has_come}
use Rattle.replay_core.proofs.ClientLemmas.{clients_set, get_some, client_of}
use Rattle.replay_core.proofs.ReadEvents.{from_any, nobody_at, read_waits, read_passed, read_answered, fewer_left, lines_after, more_room}
use Rattle.replay_core.proofs.SameState.{same_state}
use Rattle.replay_core.proofs.state.State.read.Goals as goal

pub returns-in_default-clause-steps : goal.returns-in_default-clause-steps
returns-in_default-clause-steps c = λ o s is_core m.
    let r = c.args.self.now in
    let none : core.client_at s c.args.client ≡ None = nobody_at s (vec_len r.plans) c.args.client (omega (arith, m.clients.plan_each, r.plans.ok.0)) c.in_default.ensures in
    cannot_come _ o s r (ap (event.read o s c.args.client) none) m

pub returns-in_default-clause-unchanged : goal.returns-in_default-clause-unchanged
returns-in_default-clause-unchanged c = λ e. refl

pub returns-in_default-clause-plans : goal.returns-in_default-clause-plans
returns-in_default-clause-plans c = refl

pub invariant_of-self : goal.invariant_of-self
invariant_of-self c =
    let r = c.args.self.now in
    record { one_item_each = r.one_item_each; groups_wait = r.groups_wait; one_seat_each = r.one_seat_each; one_mark_each = r.one_mark_each; one_done_each = r.one_done_each; assigned_fits = r.assigned_fits; entries_counted = r.entries_counted }

pub returns-in_default-next_call-clause-steps : goal.returns-in_default-next_call-clause-steps
returns-in_default-next_call-clause-steps c = λ o s is_core m.
    let r = c.args.self.now in
    let d : ℕ = c.args.client in
    let plans = r.plans.items in
    let place : ℕ = c.in-Some.place in
    let number : d ≡ place + 1 = omega (arith, c.in-Some.ensures) in
    let few : place < length plans = omega (arith, c.in-Some.ensures, r.plans.ok.0) in
    let known : place < length s.clients = omega (arith, few, m.clients.plan_each) in
    let at = get_some s.clients place known in
    let there : core.client_at s d ≡ Some at.0 = client_of s d place at.0 number at.1 in
    let plan = c.index.result.now in
    let seat = c.index-2.result.now in
    let plan_there : slice_get plans place ≡ Some plan = slice_get_read plans (vec_len r.plans) place plan r.plans.ok.0 (omega (arith, c.in-Some.ensures)) c.index.ensures in
    let seat_there : slice_get r.seats.items place ≡ Some seat = slice_get_read r.seats.items (vec_len r.seats) place seat r.seats.ok.0 (omega (arith, c.in-Some.ensures, r.one_seat_each)) c.index-2.ensures in
    let busy : at.0.idle ≡ false = c.in_default-next_call.ensures at.0 (m.clients.each place plan seat at.0 plan_there seat_there at.1) in
    cannot_come _ o s _ (read_waits o s d at.0 there busy) (record { options = m.options; clients = m.clients; line = m.line; writers = m.writers; table = m.table; leaving = m.leaving; entries = m.entries; groups = m.groups; assigned = m.assigned; log_failed = m.log_failed; last = m.last; room = record { linked = m.room.linked; items = m.room.items; second = m.room.second; entries = m.room.entries; groups = m.room.groups; group_room = m.room.group_room } })

pub returns-in_default-next_call-clause-plans : goal.returns-in_default-next_call-clause-plans
returns-in_default-next_call-clause-plans c = refl

pub invariant_of-self-then-not-is_read : goal.invariant_of-self-then-not-is_read
invariant_of-self-then-not-is_read c =
    let r = c.args.self.now in
    record { one_item_each = r.one_item_each; groups_wait = r.groups_wait; one_seat_each = r.one_seat_each; one_mark_each = r.one_mark_each; one_done_each = r.one_done_each; assigned_fits = r.assigned_fits; entries_counted = r.entries_counted }

pub returns-then-not-is_read-clause-plans : goal.returns-then-not-is_read-clause-plans
returns-then-not-is_read-clause-plans c = refl

pub invariant_of-self-2 : goal.invariant_of-self-2
invariant_of-self-2 c =
    let r = c.args.self.now in
    record { one_item_each = r.one_item_each; groups_wait = r.groups_wait; one_seat_each = r.one_seat_each; one_mark_each = r.one_mark_each; one_done_each = r.one_done_each; assigned_fits = r.assigned_fits; entries_counted = r.entries_counted }

pub returns-clause-plans : goal.returns-clause-plans
returns-clause-plans c = refl

pub returns-then-not-is_read-clause-steps : goal.returns-then-not-is_read-clause-steps
returns-then-not-is_read-clause-steps c = λ o s is_core m.
    let r = c.args.self.now in
    let d : ℕ = c.args.client in
    let plans = r.plans.items in
    let place : ℕ = c.in-Some.place in
    let a = c.in-Some-next_call.ahead in
    let number : d ≡ place + 1 = omega (arith, c.in-Some.ensures) in
    let few : place < length plans = omega (arith, c.in-Some.ensures, r.plans.ok.0) in
    let known : place < length s.clients = omega (arith, few, m.clients.plan_each) in
    let at = get_some s.clients place known in
    let client : core.Client = at.0 in
    let there : core.client_at s d ≡ Some client = client_of s d place client number at.1 in
    let plan = c.index.result.now in
    let seat = c.index-2.result.now in
    let plan_there : slice_get plans place ≡ Some plan = slice_get_read plans (vec_len r.plans) place plan r.plans.ok.0 (omega (arith, c.in-Some.ensures)) c.index.ensures in
    let seat_there : slice_get r.seats.items place ≡ Some seat = slice_get_read r.seats.items (vec_len r.seats) place seat r.seats.ok.0 (omega (arith, c.in-Some.ensures, r.one_seat_each)) c.index-2.ensures in
    let is : IsClient plan seat client = m.clients.each place plan seat client plan_there seat_there at.1 in
    let next = c.in-Some-next_call.ensures client is in
    let plan3 = c.index-3.result.now in
    let plan3_there : slice_get plans place ≡ Some plan3 = slice_get_read plans (vec_len r.plans) place plan3 r.plans.ok.0 (omega (arith, c.in-Some.ensures)) c.index-3.ensures in
    let same_plan : plan3 ≡ plan = cc (plan_there, plan3_there) in
    let test : option_map_or is_read (slice_get plan a.call) false ≡ c.is_read.result = ap (λ (p : ClientPlan). option_map_or is_read (slice_get p a.call) false) (sym same_plan) ∙ sym c.is_read.ensures in
    cannot_come _ o s _ (read_passed o s d client (slice_get plan a.call) there next.0 next.1.call (test ∙ c.if-not-is_read.true)) (record {
      options = m.options;
      clients = m.clients;
      line = m.line;
      writers = m.writers;
      table = m.table;
      leaving = m.leaving;
      entries = m.entries;
      groups = m.groups;
      assigned = m.assigned;
      log_failed = m.log_failed;
      last = m.last;
      room = record { linked = m.room.linked; items = m.room.items; second = m.room.second; entries = m.room.entries; groups = m.room.groups; group_room = m.room.group_room };
    })

pub returns-in_default-next_call-clause-unchanged : goal.returns-in_default-next_call-clause-unchanged
returns-in_default-next_call-clause-unchanged c = λ e. same_state c.args.self.now _ _ _ _ _ _ _

pub returns-then-not-is_read-clause-unchanged : goal.returns-then-not-is_read-clause-unchanged
returns-then-not-is_read-clause-unchanged c = λ e. same_state c.args.self.now _ _ _ _ _ _ _

pub returns-clause-steps : goal.returns-clause-steps
returns-clause-steps c = λ o s is_core m.
    let r = c.args.self.now in
    let d : ℕ = c.args.client in
    let plans = r.plans.items in
    let place : ℕ = c.in-Some.place in
    let a = c.in-Some-next_call.ahead in
    let number : d ≡ place + 1 = omega (arith, c.in-Some.ensures) in
    let few : place < length plans = omega (arith, c.in-Some.ensures, r.plans.ok.0) in
    let known : place < length s.clients = omega (arith, few, m.clients.plan_each) in
    from_any (get_some s.clients place known) (λ at.
    let client : core.Client = at.0 in
    let there : core.client_at s d ≡ Some client = client_of s d place client number at.1 in
    let plan = c.index.result.now in
    let seat = c.index-2.result.now in
    let plan_there : slice_get plans place ≡ Some plan = slice_get_read plans (vec_len r.plans) place plan r.plans.ok.0 (omega (arith, c.in-Some.ensures)) c.index.ensures in
    let seat_there : slice_get r.seats.items place ≡ Some seat = slice_get_read r.seats.items (vec_len r.seats) place seat r.seats.ok.0 (omega (arith, c.in-Some.ensures, r.one_seat_each)) c.index-2.ensures in
    let is : IsClient plan seat client = m.clients.each place plan seat client plan_there seat_there at.1 in
    let next = c.in-Some-next_call.ensures client is in
    let plan3 = c.index-3.result.now in
    let plan3_there : slice_get plans place ≡ Some plan3 = slice_get_read plans (vec_len r.plans) place plan3 r.plans.ok.0 (omega (arith, c.in-Some.ensures)) c.index-3.ensures in
    let same_plan : plan3 ≡ plan = cc (plan_there, plan3_there) in
    let test : option_map_or is_read (slice_get plan a.call) false ≡ c.is_read.result = ap (λ (p : ClientPlan). option_map_or is_read (slice_get p a.call) false) (sym same_plan) ∙ sym c.is_read.ensures in
    let seat_again : slice_get r.seats.items place ≡ Some c.index_mut.result.now = slice_get_read r.seats.items (vec_len r.seats) place c.index_mut.result.now r.seats.ok.0 (omega (arith, c.in-Some.ensures, r.one_seat_each)) c.index_mut.ensures.value in
    let same_seat : seat ≡ c.index_mut.result.now = cc (seat_there, seat_again) in
    let Q : Seat → Type 0 = λ x. IsClient plan x client in
    let R : Seat → Type 0 = λ x. IsAhead plan x.next a client.calls client (core.next_call client) in
    let back : d - 1 ≡ place = omega (arith, number) in
    let plan4 = c.index-4.result.now in
    let plan4_there : slice_get plans place ≡ Some plan4 = slice_get_read plans (vec_len r.plans) place plan4 r.plans.ok.0 (omega (arith, c.in-Some.ensures)) c.index-4.ensures in
    let again_plan : plan4 ≡ plan = cc (plan_there, plan4_there) in
    let families : r.options.families ≡ o.families = ap (λ (p : core.Options). p.families) m.options in
    let replied = λ (command : Command) (line : slice_get plan a.call ≡ Some command).
    c.read_reply-reply.ensures
    ∙ ap (λ (p : ClientPlan). reply_at r.last (first_missing r.options.families (option_map_or read_families (slice_get p a.call) []))) again_plan
    ∙ ap (λ (l : Option Command). reply_at r.last (first_missing r.options.families (option_map_or read_families l []))) line
    ∙ ap (λ (n : ℕ). reply_at r.last (first_missing n (read_families command))) families in
    from_any (read_answered o s d r.last client plan c.answer.new.seat (slice_get plan a.call) (test ∙ c.if-not-is_read.false) m.last there next.0 next.1.call
    (λ command reply line at loud. c.answer.ensures plan client command reply (subst Q same_seat is) next.0 (subst R same_seat next.1) (slice_get_within plan a.call command line) (subst (λ (x : CoreReply). IsReply x reply) (sym (replied command line)) at) loud)) (λ did.
    let all : AreClients plans (slice_set r.seats.items place c.answer.new.seat) (slice_set s.clients place did.new) = clients_set plans r.seats.items s.clients place plan c.answer.new.seat did.new m.clients known plan_there did.is in
    let P : ℕ → Type 0 = λ k. AreClients plans (slice_set r.seats.items place c.answer.new.seat) (slice_set s.clients k did.new) in
    let line_there : a.call < length plan = slice_get_within plan a.call did.command did.there in
    let fewer : length did.new.left + 1 ≤ length client.left = omega (arith, ap length did.left, fewer_left plan seat client a (core.next_call client) is next.1 line_there) in
    let left : lines_left (slice_set s.clients (d - 1) did.new) ≤ lines_left s.clients = lines_after s.clients place (d - 1) client did.new back known at.1 fewer in
    has_come _ o (core.with_client s d did.new) s _ did.comes (record {
      options = m.options;
      clients = subst P (sym back) all;
      line = record { second_sum = m.line.second_sum; second_groups = m.line.second_groups; hand = m.line.hand; no_hand = m.line.no_hand; queue = m.line.queue };
      writers = m.writers;
      table = m.table;
      leaving = m.leaving;
      entries = m.entries;
      groups = m.groups;
      assigned = m.assigned;
      log_failed = m.log_failed;
      last = m.last;
      room = record {
        linked = more_room _ _ _ _ m.room.linked left;
        items = more_room _ _ _ _ m.room.items left;
        second = more_room _ _ _ _ m.room.second left;
        entries = more_room _ _ _ _ m.room.entries left;
        groups = m.room.groups;
        group_room = m.room.group_room;
      };
    })))
