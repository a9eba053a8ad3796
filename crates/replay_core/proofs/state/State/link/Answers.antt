use Rattle.std.proofs.Common.{◌≡◌, ℕ, ◌+◌, ◌-◌, ◌<◌, ◌≤◌, ◌^◌, false, Option, Some, None, List, [], ◌∷◌, ◌++◌, length, map, vec_len, slice_get, slice_set, refl, sym, ap, ◌∙◌, subst, arith}
use Rattle.std.specs.Prelude.{if◌then◌else◌, vec_capacity}
use Rattle.std.specs.Option.{option_and_then}
use Rattle.std.proofs.lemmas.Option.{slice_get_read, slice_get_within}
use Rattle.std.proofs.lemmas.List.{length-map}
use Rattle.model_base.specs.declared.limits.TheConstants.{MAX_SIZE}
use Rattle.model_base.specs.declared.group.Item.{Item}
use Rattle.model_base.specs.declared.write.WriteOptions.{WriteOptions}
use Rattle.model_base.specs.Batch.{Record, count_of, size_of_batch}
use Rattle.model_base.specs.Calls.{commit, refused}
use Rattle.log_batch.specs.declared.checks.Measure.{Measure}
use Rattle.log_batch.specs.Measures.{measure_of}
use Rattle.model_base.specs.declared.write.Refusal.{Refusal}
use Rattle.model_core.specs.Core as core
use Rattle.model_core.specs.Step as event
use Rattle.replay_plans.specs.declared.plan.ClientPlan.{ClientPlan}
use Rattle.replay_core.specs.declared.state.Seat.{Seat}
use Rattle.replay_plans.specs.declared.plan.Lines.{Lines}
use Rattle.replay_core.specs.declared.writer.Writer.{Writer}
use Rattle.replay_plans.specs.Plans.{added_between, records_of}
use Rattle.replay_core.specs.Shown.{shown_writer}
use Rattle.replay_core.specs.Mirrors.{IsClient, AreClients, AreWriters, IsLine, IsClientOf, lines_left}
use Rattle.replay_plans.specs.Ahead.{IsAhead, commit_of}
use Rattle.replay_core.proofs.Events.{cannot_come, has_come, as_step}
use Rattle.replay_core.proofs.ClientLemmas.{clients_set, get_some, client_of}
use Rattle.replay_core.proofs.ReadEvents.{nobody_at, fewer_left, lines_after, more_room}
use Rattle.replay_core.proofs.SmallLemmas.{commit_small}
use Rattle.replay_core.specs.Phases.{refusal_at, may_link_at}
use Rattle.replay_core.proofs.LogEvents.{linked_as}
use Rattle.replay_core.proofs.LinkEvents.{link_waits, commit_is, records_at, lines_less, map_push, line_push, writers_push}
use Rattle.replay_core.proofs.SameState.{same_state}
use Rattle.replay_core.proofs.state.State.link.Goals as goal

-- a writer of these records without an answer, and an item of this size
abbrev writer_of : ℕ → WriteOptions → List Record → core.Writer
writer_of d how records = record { client = d; options = how; records = records; since = None; answer = None }

abbrev sized : WriteOptions → ℕ → Item
sized how n = record { size = n; options = how; alone = false }

pub returns-in_default-clause-steps : goal.returns-in_default-clause-steps
returns-in_default-clause-steps c = λ o s is_core m.
    let r = c.args.self.now in
    let none : core.client_at s c.args.client ≡ None = nobody_at s (vec_len r.plans) c.args.client (omega (arith, m.clients.plan_each, r.plans.ok.0)) c.in_default.ensures in
    cannot_come _ o s r (ap (event.link o s c.args.client) none) m

pub returns-in_default-clause-unchanged : goal.returns-in_default-clause-unchanged
returns-in_default-clause-unchanged c = λ e. refl

pub returns-in_default-clause-plans : goal.returns-in_default-clause-plans
returns-in_default-clause-plans c = refl

pub invariant_of-self : goal.invariant_of-self
invariant_of-self c =
    let r = c.args.self.now in
    record { one_item_each = r.one_item_each; groups_wait = r.groups_wait; one_seat_each = r.one_seat_each; one_mark_each = r.one_mark_each; one_done_each = r.one_done_each; assigned_fits = r.assigned_fits; entries_counted = r.entries_counted }

pub returns-in_default-next_call-clause-steps : goal.returns-in_default-next_call-clause-steps
returns-in_default-next_call-clause-steps c = λ o s is_core m.
    let r = c.args.self.now in
    let d : ℕ = c.args.client in
    let plans = r.plans.items in
    let place : ℕ = c.in-Some.place in
    let number : d ≡ place + 1 = omega (arith, c.in-Some.ensures) in
    let few : place < length plans = omega (arith, c.in-Some.ensures, r.plans.ok.0) in
    let known : place < length s.clients = omega (arith, few, m.clients.plan_each) in
    let at = get_some s.clients place known in
    let there : core.client_at s d ≡ Some at.0 = client_of s d place at.0 number at.1 in
    let plan = c.index.result.now in
    let seat = c.index-2.result.now in
    let plan_there : slice_get plans place ≡ Some plan = slice_get_read plans (vec_len r.plans) place plan r.plans.ok.0 (omega (arith, c.in-Some.ensures)) c.index.ensures in
    let seat_there : slice_get r.seats.items place ≡ Some seat = slice_get_read r.seats.items (vec_len r.seats) place seat r.seats.ok.0 (omega (arith, c.in-Some.ensures, r.one_seat_each)) c.index-2.ensures in
    let busy : at.0.idle ≡ false = c.in_default-next_call.ensures at.0 (m.clients.each place plan seat at.0 plan_there seat_there at.1) in
    cannot_come _ o s _ (link_waits o s d at.0 there busy) (record { options = m.options; clients = m.clients; line = m.line; writers = m.writers; table = m.table; leaving = m.leaving; entries = m.entries; groups = m.groups; assigned = m.assigned; log_failed = m.log_failed; last = m.last; room = record { linked = m.room.linked; items = m.room.items; second = m.room.second; entries = m.room.entries; groups = m.room.groups; group_room = m.room.group_room } })

pub returns-in_default-next_call-clause-unchanged : goal.returns-in_default-next_call-clause-unchanged
returns-in_default-next_call-clause-unchanged c = λ e. same_state c.args.self.now _ _ _ _ _ _ _

pub returns-in_default-next_call-clause-plans : goal.returns-in_default-next_call-clause-plans
returns-in_default-next_call-clause-plans c = refl

pub returns-in_default-commit_at-clause-unchanged : goal.returns-in_default-commit_at-clause-unchanged
returns-in_default-commit_at-clause-unchanged c = λ e. c.link_read.ensures.unchanged e ∙ same_state c.args.self.now _ _ _ _ _ _ _

pub returns-in_default-commit_at-clause-plans : goal.returns-in_default-commit_at-clause-plans
returns-in_default-commit_at-clause-plans c = c.link_read.ensures.plans

pub link_read-requires-clause-number : goal.link_read-requires-clause-number
link_read-requires-clause-number c = omega (arith, c.in-Some.ensures)

pub link_read-requires-clause-known : goal.link_read-requires-clause-known
link_read-requires-clause-known c = omega (arith, c.in-Some.ensures)

pub returns-in-Some-refusal-clause-plans : goal.returns-in-Some-refusal-clause-plans
returns-in-Some-refusal-clause-plans c = refl

pub returns-in-None-clause-plans : goal.returns-in-None-clause-plans
returns-in-None-clause-plans c = refl

pub returns-in_default-commit_at-clause-steps : goal.returns-in_default-commit_at-clause-steps
returns-in_default-commit_at-clause-steps c = λ o s is_core m.
    let r = c.args.self.now in
    let d : ℕ = c.args.client in
    let plans = r.plans.items in
    let place : ℕ = c.in-Some.place in
    let a = c.in-Some-next_call.ahead in
    let number : d ≡ place + 1 = omega (arith, c.in-Some.ensures) in
    let few : place < length plans = omega (arith, c.in-Some.ensures, r.plans.ok.0) in
    let known : place < length s.clients = omega (arith, few, m.clients.plan_each) in
    let at = get_some s.clients place known in
    let client : core.Client = at.0 in
    let there : core.client_at s d ≡ Some client = client_of s d place client number at.1 in
    let plan = c.index.result.now in
    let seat = c.index-2.result.now in
    let plan_there : slice_get plans place ≡ Some plan = slice_get_read plans (vec_len r.plans) place plan r.plans.ok.0 (omega (arith, c.in-Some.ensures)) c.index.ensures in
    let seat_there : slice_get r.seats.items place ≡ Some seat = slice_get_read r.seats.items (vec_len r.seats) place seat r.seats.ok.0 (omega (arith, c.in-Some.ensures, r.one_seat_each)) c.index-2.ensures in
    let is : IsClient plan seat client = m.clients.each place plan seat client plan_there seat_there at.1 in
    let next = c.in-Some-next_call.ensures client is in
    let plan3 = c.index-3.result.now in
    let plan3_there : slice_get plans place ≡ Some plan3 = slice_get_read plans (vec_len r.plans) place plan3 r.plans.ok.0 (omega (arith, c.in-Some.ensures)) c.index-3.ensures in
    let same_plan : plan3 ≡ plan = cc (plan_there, plan3_there) in
    let none : option_and_then commit_of (slice_get plan a.call) ≡ None =
    ap (λ (p : ClientPlan). option_and_then commit_of (slice_get p a.call)) (sym same_plan) ∙ sym c.in_default-commit_at.ensures in
    as_step _ _ o s _ _ (ap (event.link o s d) there) (c.link_read.ensures.steps o s client plan seat (record {
      options = m.options;
      clients = m.clients;
      line = m.line;
      writers = m.writers;
      table = m.table;
      leaving = m.leaving;
      entries = m.entries;
      groups = m.groups;
      assigned = m.assigned;
      log_failed = m.log_failed;
      last = m.last;
      room = record { linked = m.room.linked; items = m.room.items; second = m.room.second; entries = m.room.entries; groups = m.room.groups; group_room = m.room.group_room };
    }) there next.0 plan_there seat_there next.1 none)

pub returns-then-not-may_link-clause-steps : goal.returns-then-not-may_link-clause-steps
returns-then-not-may_link-clause-steps c = λ o s is_core m.
    let r = c.args.self.now in
    let d : ℕ = c.args.client in
    let plans = r.plans.items in
    let place : ℕ = c.in-Some.place in
    let a = c.in-Some-next_call.ahead in
    let number : d ≡ place + 1 = omega (arith, c.in-Some.ensures) in
    let few : place < length plans = omega (arith, c.in-Some.ensures, r.plans.ok.0) in
    let known : place < length s.clients = omega (arith, few, m.clients.plan_each) in
    let at = get_some s.clients place known in
    let client : core.Client = at.0 in
    let there : core.client_at s d ≡ Some client = client_of s d place client number at.1 in
    let plan = c.index.result.now in
    let seat = c.index-2.result.now in
    let plan_there : slice_get plans place ≡ Some plan = slice_get_read plans (vec_len r.plans) place plan r.plans.ok.0 (omega (arith, c.in-Some.ensures)) c.index.ensures in
    let seat_there : slice_get r.seats.items place ≡ Some seat = slice_get_read r.seats.items (vec_len r.seats) place seat r.seats.ok.0 (omega (arith, c.in-Some.ensures, r.one_seat_each)) c.index-2.ensures in
    let is : IsClient plan seat client = m.clients.each place plan seat client plan_there seat_there at.1 in
    let next = c.in-Some-next_call.ensures client is in
    let plan3 = c.index-3.result.now in
    let plan3_there : slice_get plans place ≡ Some plan3 = slice_get_read plans (vec_len r.plans) place plan3 r.plans.ok.0 (omega (arith, c.in-Some.ensures)) c.index-3.ensures in
    let same_plan : plan3 ≡ plan = cc (plan_there, plan3_there) in
    let plan4 = c.index-4.result.now in
    let plan4_there : slice_get plans place ≡ Some plan4 = slice_get_read plans (vec_len r.plans) place plan4 r.plans.ok.0 (omega (arith, c.in-Some.ensures)) c.index-4.ensures in
    let again_plan : plan4 ≡ plan = cc (plan_there, plan4_there) in
    let how : WriteOptions = c.in-Some-commit_at.options in
    let commits : option_and_then commit_of (slice_get plan a.call) ≡ Some how = ap (λ (p : ClientPlan). option_and_then commit_of (slice_get p a.call)) (sym same_plan) ∙ sym c.commit_at.ensures ∙ c.in-Some-commit_at.is in
    let line : slice_get plan a.call ≡ Some (commit how) = commit_is (slice_get plan a.call) how commits in
    let line_there : a.call < length plan = slice_get_within plan a.call (commit how) line in
    let ahead : core.Ahead = core.next_call client in
    let added : List Record = ahead.client.added in
    let call : ahead.call ≡ Some (commit how) = next.1.call ∙ line in
    let small : size_of_batch added ≤ MAX_SIZE = commit_small client.calls client.added client.left client how is.small call in
    let records_are : added_between a.from a.call plan4 ≡ added = ap (λ (p : ClientPlan). added_between a.from a.call p) again_plan ∙ sym next.1.added in
    let within : a.call ≤ length plan4 = omega (arith, next.1.within, ap length again_plan) in
    let same_size : size_of_batch (added_between a.from a.call plan4) ≡ size_of_batch added = ap size_of_batch records_are in
    let fits : size_of_batch (added_between a.from a.call plan4) < 2 ^ 64 = omega (arith, same_size, small) in
    let measured : c.measure_batch-measured.result ≡ measure_of r.options.families added = c.measure_batch-measured.ensures next.1.begun within fits ∙ ap (measure_of r.options.families) records_are in
    let size : c.measure_batch-measured.result.size ≡ size_of_batch added = ap (λ (k : Measure). k.size) measured in
    let count : c.measure_batch-measured.result.count ≡ count_of added = ap (λ (k : Measure). k.count) measured in
    let refusal : core.refusal_of o how added ≡ c.refusal_at_once-early.result = ap (λ (p : core.Options). core.refusal_of p how added) (sym m.options) ∙ sym (c.refusal_at_once-early.ensures r.options.families added measured) in
    let refused_by : Option Refusal = c.refusal_in-refusal.result in
    let decided : refusal_at how (core.refusal_of o how added) r.log ≡ refused_by = ap (λ x. refusal_at how x r.log) refusal ∙ sym c.refusal_in-refusal.ensures in
    let begins : event.link o s d (core.client_at s d) ≡ event.when (may_link_at refused_by r.log) (event.link_with o s d ahead.client how refused_by) =
    ap (event.link o s d) there ∙ ap (λ b. if b then event.link_call o s d ahead.client ahead.call else None) next.0 ∙ ap (event.link_call o s d ahead.client) call
    ∙ linked_as o r s d ahead.client how (core.refusal_of o how added) m ∙ ap (λ x. event.when (may_link_at x r.log) (event.link_with o s d ahead.client how x)) decided in
    cannot_come _ o s _ (begins ∙ ap (λ b. event.when b (event.link_with o s d ahead.client how refused_by)) (sym c.may_link.ensures ∙ c.if-not-may_link.true)) (record {
      options = m.options;
      clients = m.clients;
      line = m.line;
      writers = m.writers;
      table = m.table;
      leaving = m.leaving;
      entries = m.entries;
      groups = m.groups;
      assigned = m.assigned;
      log_failed = m.log_failed;
      last = m.last;
      room = record { linked = m.room.linked; items = m.room.items; second = m.room.second; entries = m.room.entries; groups = m.room.groups; group_room = m.room.group_room };
    })

pub returns-then-not-may_link-clause-unchanged : goal.returns-then-not-may_link-clause-unchanged
returns-then-not-may_link-clause-unchanged c = λ e. same_state c.args.self.now _ _ _ _ _ _ _

pub returns-then-not-may_link-clause-plans : goal.returns-then-not-may_link-clause-plans
returns-then-not-may_link-clause-plans c = refl

pub returns-in-Some-refusal-clause-steps : goal.returns-in-Some-refusal-clause-steps
returns-in-Some-refusal-clause-steps c = λ o s is_core m.
    let r = c.args.self.now in
    let d : ℕ = c.args.client in
    let plans = r.plans.items in
    let place : ℕ = c.in-Some.place in
    let a = c.in-Some-next_call.ahead in
    let number : d ≡ place + 1 = omega (arith, c.in-Some.ensures) in
    let few : place < length plans = omega (arith, c.in-Some.ensures, r.plans.ok.0) in
    let known : place < length s.clients = omega (arith, few, m.clients.plan_each) in
    let at = get_some s.clients place known in
    let client : core.Client = at.0 in
    let there : core.client_at s d ≡ Some client = client_of s d place client number at.1 in
    let plan = c.index.result.now in
    let seat = c.index-2.result.now in
    let plan_there : slice_get plans place ≡ Some plan = slice_get_read plans (vec_len r.plans) place plan r.plans.ok.0 (omega (arith, c.in-Some.ensures)) c.index.ensures in
    let seat_there : slice_get r.seats.items place ≡ Some seat = slice_get_read r.seats.items (vec_len r.seats) place seat r.seats.ok.0 (omega (arith, c.in-Some.ensures, r.one_seat_each)) c.index-2.ensures in
    let is : IsClient plan seat client = m.clients.each place plan seat client plan_there seat_there at.1 in
    let next = c.in-Some-next_call.ensures client is in
    let plan3 = c.index-3.result.now in
    let plan3_there : slice_get plans place ≡ Some plan3 = slice_get_read plans (vec_len r.plans) place plan3 r.plans.ok.0 (omega (arith, c.in-Some.ensures)) c.index-3.ensures in
    let same_plan : plan3 ≡ plan = cc (plan_there, plan3_there) in
    let plan4 = c.index-4.result.now in
    let plan4_there : slice_get plans place ≡ Some plan4 = slice_get_read plans (vec_len r.plans) place plan4 r.plans.ok.0 (omega (arith, c.in-Some.ensures)) c.index-4.ensures in
    let again_plan : plan4 ≡ plan = cc (plan_there, plan4_there) in
    let how : WriteOptions = c.in-Some-commit_at.options in
    let commits : option_and_then commit_of (slice_get plan a.call) ≡ Some how = ap (λ (p : ClientPlan). option_and_then commit_of (slice_get p a.call)) (sym same_plan) ∙ sym c.commit_at.ensures ∙ c.in-Some-commit_at.is in
    let line : slice_get plan a.call ≡ Some (commit how) = commit_is (slice_get plan a.call) how commits in
    let line_there : a.call < length plan = slice_get_within plan a.call (commit how) line in
    let ahead : core.Ahead = core.next_call client in
    let added : List Record = ahead.client.added in
    let call : ahead.call ≡ Some (commit how) = next.1.call ∙ line in
    let small : size_of_batch added ≤ MAX_SIZE = commit_small client.calls client.added client.left client how is.small call in
    let records_are : added_between a.from a.call plan4 ≡ added = ap (λ (p : ClientPlan). added_between a.from a.call p) again_plan ∙ sym next.1.added in
    let within : a.call ≤ length plan4 = omega (arith, next.1.within, ap length again_plan) in
    let same_size : size_of_batch (added_between a.from a.call plan4) ≡ size_of_batch added = ap size_of_batch records_are in
    let fits : size_of_batch (added_between a.from a.call plan4) < 2 ^ 64 = omega (arith, same_size, small) in
    let measured : c.measure_batch-measured.result ≡ measure_of r.options.families added = c.measure_batch-measured.ensures next.1.begun within fits ∙ ap (measure_of r.options.families) records_are in
    let size : c.measure_batch-measured.result.size ≡ size_of_batch added = ap (λ (k : Measure). k.size) measured in
    let count : c.measure_batch-measured.result.count ≡ count_of added = ap (λ (k : Measure). k.count) measured in
    let refusal : core.refusal_of o how added ≡ c.refusal_at_once-early.result = ap (λ (p : core.Options). core.refusal_of p how added) (sym m.options) ∙ sym (c.refusal_at_once-early.ensures r.options.families added measured) in
    let refused_by : Option Refusal = c.refusal_in-refusal.result in
    let decided : refusal_at how (core.refusal_of o how added) r.log ≡ refused_by = ap (λ x. refusal_at how x r.log) refusal ∙ sym c.refusal_in-refusal.ensures in
    let begins : event.link o s d (core.client_at s d) ≡ event.when (may_link_at refused_by r.log) (event.link_with o s d ahead.client how refused_by) =
    ap (event.link o s d) there ∙ ap (λ b. if b then event.link_call o s d ahead.client ahead.call else None) next.0 ∙ ap (event.link_call o s d ahead.client) call
    ∙ linked_as o r s d ahead.client how (core.refusal_of o how added) m ∙ ap (λ x. event.when (may_link_at x r.log) (event.link_with o s d ahead.client how x)) decided in
    let back : d - 1 ≡ place = omega (arith, number) in
    let seat_again : slice_get r.seats.items place ≡ Some c.index_mut.result.now = slice_get_read r.seats.items (vec_len r.seats) place c.index_mut.result.now r.seats.ok.0 (omega (arith, c.in-Some.ensures, r.one_seat_each)) c.index_mut.ensures.value in
    let same_seat : seat ≡ c.index_mut.result.now = cc (seat_there, seat_again) in
    let Q : Seat → Type 0 = λ x. IsClient plan x client in
    let R : Seat → Type 0 = λ x. IsAhead plan x.next a client.calls client (core.next_call client) in
    let fewer : length ahead.client.left + 1 ≤ length client.left = fewer_left plan seat client a ahead is next.1 line_there in
    let why = c.in-Some-refusal.why in
    let new : core.Client = core.after_reply ahead.client (commit how) (refused why) in
    let t : core.State = core.with_client s d new in
    let comes : event.link o s d (core.client_at s d) ≡ Some t = begins ∙ ap (λ b. event.when b (event.link_with o s d ahead.client how refused_by)) (sym c.may_link.ensures ∙ c.if-not-may_link.false) ∙ ap (λ x. Some (event.link_with o s d ahead.client how x)) c.in-Some-refusal.is in
    let after : IsClient plan c.answer.new.seat new = c.answer.ensures plan client (commit how) (refused why) (subst Q same_seat is) next.0 (subst R same_seat next.1) line_there refl refl in
    let all : AreClients plans (slice_set r.seats.items place c.answer.new.seat) (slice_set s.clients place new) = clients_set plans r.seats.items s.clients place plan c.answer.new.seat new m.clients known plan_there after in
    let P : ℕ → Type 0 = λ k. AreClients plans (slice_set r.seats.items place c.answer.new.seat) (slice_set s.clients k new) in
    let left : lines_left (slice_set s.clients (d - 1) new) ≤ lines_left s.clients = lines_after s.clients place (d - 1) client new back known at.1 fewer in
    has_come _ o t s _ comes (record {
      options = m.options;
      clients = subst P (sym back) all;
      line = record { second_sum = m.line.second_sum; second_groups = m.line.second_groups; hand = m.line.hand; no_hand = m.line.no_hand; queue = m.line.queue };
      writers = m.writers;
      table = m.table;
      leaving = m.leaving;
      entries = m.entries;
      groups = m.groups;
      assigned = m.assigned;
      log_failed = m.log_failed;
      last = m.last;
      room = record {
        linked = more_room _ _ _ _ m.room.linked left;
        items = more_room _ _ _ _ m.room.items left;
        second = more_room _ _ _ _ m.room.second left;
        entries = more_room _ _ _ _ m.room.entries left;
        groups = m.room.groups;
        group_room = m.room.group_room;
      };
    })

pub returns-in-None-clause-steps : goal.returns-in-None-clause-steps
returns-in-None-clause-steps c = λ o s is_core m.
    let r = c.args.self.now in
    let d : ℕ = c.args.client in
    let plans = r.plans.items in
    let place : ℕ = c.in-Some.place in
    let a = c.in-Some-next_call.ahead in
    let number : d ≡ place + 1 = omega (arith, c.in-Some.ensures) in
    let few : place < length plans = omega (arith, c.in-Some.ensures, r.plans.ok.0) in
    let known : place < length s.clients = omega (arith, few, m.clients.plan_each) in
    let at = get_some s.clients place known in
    let client : core.Client = at.0 in
    let there : core.client_at s d ≡ Some client = client_of s d place client number at.1 in
    let plan = c.index.result.now in
    let seat = c.index-2.result.now in
    let plan_there : slice_get plans place ≡ Some plan = slice_get_read plans (vec_len r.plans) place plan r.plans.ok.0 (omega (arith, c.in-Some.ensures)) c.index.ensures in
    let seat_there : slice_get r.seats.items place ≡ Some seat = slice_get_read r.seats.items (vec_len r.seats) place seat r.seats.ok.0 (omega (arith, c.in-Some.ensures, r.one_seat_each)) c.index-2.ensures in
    let is : IsClient plan seat client = m.clients.each place plan seat client plan_there seat_there at.1 in
    let next = c.in-Some-next_call.ensures client is in
    let plan3 = c.index-3.result.now in
    let plan3_there : slice_get plans place ≡ Some plan3 = slice_get_read plans (vec_len r.plans) place plan3 r.plans.ok.0 (omega (arith, c.in-Some.ensures)) c.index-3.ensures in
    let same_plan : plan3 ≡ plan = cc (plan_there, plan3_there) in
    let plan4 = c.index-4.result.now in
    let plan4_there : slice_get plans place ≡ Some plan4 = slice_get_read plans (vec_len r.plans) place plan4 r.plans.ok.0 (omega (arith, c.in-Some.ensures)) c.index-4.ensures in
    let again_plan : plan4 ≡ plan = cc (plan_there, plan4_there) in
    let how : WriteOptions = c.in-Some-commit_at.options in
    let commits : option_and_then commit_of (slice_get plan a.call) ≡ Some how = ap (λ (p : ClientPlan). option_and_then commit_of (slice_get p a.call)) (sym same_plan) ∙ sym c.commit_at.ensures ∙ c.in-Some-commit_at.is in
    let line : slice_get plan a.call ≡ Some (commit how) = commit_is (slice_get plan a.call) how commits in
    let line_there : a.call < length plan = slice_get_within plan a.call (commit how) line in
    let ahead : core.Ahead = core.next_call client in
    let added : List Record = ahead.client.added in
    let call : ahead.call ≡ Some (commit how) = next.1.call ∙ line in
    let small : size_of_batch added ≤ MAX_SIZE = commit_small client.calls client.added client.left client how is.small call in
    let records_are : added_between a.from a.call plan4 ≡ added = ap (λ (p : ClientPlan). added_between a.from a.call p) again_plan ∙ sym next.1.added in
    let within : a.call ≤ length plan4 = omega (arith, next.1.within, ap length again_plan) in
    let same_size : size_of_batch (added_between a.from a.call plan4) ≡ size_of_batch added = ap size_of_batch records_are in
    let fits : size_of_batch (added_between a.from a.call plan4) < 2 ^ 64 = omega (arith, same_size, small) in
    let measured : c.measure_batch-measured.result ≡ measure_of r.options.families added = c.measure_batch-measured.ensures next.1.begun within fits ∙ ap (measure_of r.options.families) records_are in
    let size : c.measure_batch-measured.result.size ≡ size_of_batch added = ap (λ (k : Measure). k.size) measured in
    let count : c.measure_batch-measured.result.count ≡ count_of added = ap (λ (k : Measure). k.count) measured in
    let refusal : core.refusal_of o how added ≡ c.refusal_at_once-early.result = ap (λ (p : core.Options). core.refusal_of p how added) (sym m.options) ∙ sym (c.refusal_at_once-early.ensures r.options.families added measured) in
    let refused_by : Option Refusal = c.refusal_in-refusal.result in
    let decided : refusal_at how (core.refusal_of o how added) r.log ≡ refused_by = ap (λ x. refusal_at how x r.log) refusal ∙ sym c.refusal_in-refusal.ensures in
    let begins : event.link o s d (core.client_at s d) ≡ event.when (may_link_at refused_by r.log) (event.link_with o s d ahead.client how refused_by) =
    ap (event.link o s d) there ∙ ap (λ b. if b then event.link_call o s d ahead.client ahead.call else None) next.0 ∙ ap (event.link_call o s d ahead.client) call
    ∙ linked_as o r s d ahead.client how (core.refusal_of o how added) m ∙ ap (λ x. event.when (may_link_at x r.log) (event.link_with o s d ahead.client how x)) decided in
    let back : d - 1 ≡ place = omega (arith, number) in
    let seat_again : slice_get r.seats.items place ≡ Some c.index_mut-in-None.result.now = slice_get_read r.seats.items (vec_len r.seats) place c.index_mut-in-None.result.now r.seats.ok.0 (omega (arith, c.in-Some.ensures, r.one_seat_each)) c.index_mut-in-None.ensures.value in
    let same_seat : seat ≡ c.index_mut-in-None.result.now = cc (seat_there, seat_again) in
    let Q : Seat → Type 0 = λ x. IsClient plan x client in
    let R : Seat → Type 0 = λ x. IsAhead plan x.next a client.calls client (core.next_call client) in
    let fewer : length ahead.client.left + 1 ≤ length client.left = fewer_left plan seat client a ahead is next.1 line_there in
    let new : core.Client = record ahead.client { idle = false } in
    let batch : Lines = record { from = a.from; to = a.call } in
    let w : Writer = c.new_writer.result in
    let shown : core.Writer = record { client = d; options = how; records = added; since = None; answer = None } in
    let t : core.State = record (core.with_client s d new) { queue = s.queue ++ shown ∷ [] } in
    let comes : event.link o s d (core.client_at s d) ≡ Some t = begins ∙ ap (λ b. event.when b (event.link_with o s d ahead.client how refused_by)) (sym c.may_link.ensures ∙ c.if-not-may_link.false) ∙ ap (λ x. Some (event.link_with o s d ahead.client how x)) c.in-None.is in
    let after : IsClient plan c.wait.new.seat new = c.wait.ensures plan client (subst Q same_seat is) next.0 (subst R same_seat next.1) line_there in
    let all : AreClients plans (slice_set r.seats.items place c.wait.new.seat) (slice_set s.clients place new) = clients_set plans r.seats.items s.clients place plan c.wait.new.seat new m.clients known plan_there after in
    let P : ℕ → Type 0 = λ k. AreClients plans (slice_set r.seats.items place c.wait.new.seat) (slice_set s.clients k new) in
    let less : lines_left (slice_set s.clients (d - 1) new) + 1 ≤ lines_left s.clients = (let L : ℕ → Type 0 = λ k. lines_left (slice_set s.clients k new) + 1 ≤ lines_left s.clients in subst L (sym back) (lines_less s.clients place client new known at.1 fewer)) in
    let free : vec_len r.linked < vec_capacity r.linked = omega (arith, m.room.linked, less) in
    let item_free : vec_len r.items < vec_capacity r.items = omega (arith, m.room.items, less, r.one_item_each) in
    let pushed : c.push_both.new.first.items ≡ r.linked.items ++ w ∷ [] = c.push_both.ensures.first free item_free in
    let item_pushed : c.push_both.new.second.items ≡ r.items.items ++ c.item_of.result ∷ [] = c.push_both.ensures.second free item_free in
    let len : vec_len c.push_both.new.first ≡ vec_len r.linked + 1 = c.push_both.ensures.len free item_free in
    let batch_is : records_of plans d batch ≡ added = records_at plans d place plan batch number plan_there ∙ sym next.1.added in
    let shown_is : shown_writer plans w ≡ shown = ap (shown_writer plans) c.new_writer.ensures ∙ ap (writer_of d how) batch_is in
    let item_is : c.item_of.result ≡ core.item_of (shown_writer plans w) =
    c.item_of.ensures ∙ ap (sized how) size ∙ sym (ap core.item_of shown_is) in
    let own : records_of plans w.client w.batch ≡ added = ap (λ (x : core.Writer). x.records) shown_is in
    let counted : w.count ≡ count_of (records_of plans w.client w.batch) = ap (λ (x : Writer). x.count) c.new_writer.ensures ∙ count ∙ sym (ap count_of own) in
    let of_client : w.client ≡ d = ap (λ (x : Writer). x.client) c.new_writer.ensures in
    let client_known : IsClientOf (length plans) w = record { from_one = omega (arith, of_client, number); few = omega (arith, of_client, number, few) } in
    let line_len : r.in_second + r.in_hand ≤ length (map (shown_writer plans) r.linked.items) = omega (arith, r.groups_wait, r.linked.ok.0, length-map r.linked.items (shown_writer plans)) in
    let line_is : map (shown_writer plans) c.push_both.new.first.items ≡ map (shown_writer plans) r.linked.items ++ shown ∷ [] =
    ap (map (shown_writer plans)) pushed ∙ map_push (shown_writer plans) r.linked.items w ∙ ap (λ x. map (shown_writer plans) r.linked.items ++ x ∷ []) shown_is in
    let L : List core.Writer → Type 0 = λ ws. IsLine ws r.second.items r.in_second r.in_hand r.log t in
    let W : List Writer → Type 0 = λ ws. AreWriters plans ws c.push_both.new.second.items in
    let I : List Item → Type 0 = λ is. AreWriters plans (r.linked.items ++ w ∷ []) is in
    has_come _ o t s _ comes (record {
      options = m.options;
      clients = subst P (sym back) all;
      line = subst L (sym line_is) (line_push (map (shown_writer plans) r.linked.items) shown r.second.items r.in_second r.in_hand r.log s (slice_set s.clients (d - 1) new) line_len m.line);
      writers = subst W (sym pushed) (subst I (sym item_pushed) (writers_push plans r.linked.items r.items.items w c.item_of.result m.writers item_is counted client_known));
      table = m.table;
      leaving = m.leaving;
      entries = m.entries;
      groups = m.groups;
      assigned = m.assigned;
      log_failed = m.log_failed;
      last = m.last;
      room = record {
        linked = omega (arith, m.room.linked, less, len, c.push_both.ensures.first_capacity);
        items = omega (arith, m.room.items, less, len, c.push_both.ensures.second_capacity);
        second = omega (arith, m.room.second, less, len);
        entries = omega (arith, m.room.entries, less, len);
        groups = m.room.groups;
        group_room = m.room.group_room;
      };
    })
