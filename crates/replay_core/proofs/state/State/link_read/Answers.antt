use Rattle.std.proofs.Common.{◌≡◌, ℕ, ◌+◌, ◌-◌, ◌<◌, ◌≤◌, false, Some, None, List, [], ◌∷◌, ◌++◌, length, map, vec_len, slice_get, slice_set, sym, ap, ◌∙◌, subst, arith}
use Rattle.std.specs.Prelude.{if◌then◌else◌, vec_capacity}
use Rattle.std.specs.Option.{option_and_then}
use Rattle.std.proofs.lemmas.Option.{slice_get_read, slice_get_within}
use Rattle.std.proofs.lemmas.List.{length-map}
use Rattle.model_base.specs.declared.group.Item.{Item}
use Rattle.model_base.specs.Batch.{Record, count_of}
use Rattle.model_base.specs.Calls.{updates}
use Rattle.model_core.specs.Core as core
use Rattle.model_core.specs.Step as event
use Rattle.replay_plans.specs.declared.plan.ClientPlan.{ClientPlan}
use Rattle.replay_plans.specs.declared.plan.Lines.{Lines}
use Rattle.replay_plans.specs.Plans.{records_of}
use Rattle.replay_plans.specs.Ahead.{IsAhead, updates_of}
use Rattle.replay_core.specs.declared.state.Seat.{Seat}
use Rattle.replay_core.specs.declared.writer.Writer.{Writer}
use Rattle.replay_core.specs.Shown.{shown_writer}
use Rattle.replay_core.specs.Mirrors.{IsClient, AreClients, AreWriters, IsLine, IsClientOf, lines_left}
use Rattle.replay_core.proofs.Events.{cannot_come, has_come}
use Rattle.replay_core.proofs.ClientLemmas.{clients_set, client_there, empty_lines}
use Rattle.replay_core.proofs.ReadEvents.{fewer_left}
use Rattle.replay_core.proofs.LogEvents.{hand_of, may_link_by_phase}
use Rattle.replay_core.proofs.LinkEvents.{not_linked, updates_is, records_at, lines_less, map_push, line_push, writers_push}
use Rattle.replay_core.proofs.state.State.link_read.Goals as goal

-- a reader with these records and no answer, and its item with this size
abbrev reader_of : ℕ → ℕ → List Record → core.Writer
reader_of d n records = record { client = d; options = core.plain_options; records = records; since = Some n; answer = None }

pub returns-in_default-clause-steps : goal.returns-in_default-clause-steps
returns-in_default-clause-steps c = λ o s client plan seat m there idle plan_there seat_there ahead none.
    let r = c.args.self.now in
    let d : ℕ = c.args.client in
    let place : ℕ = c.args.place in
    let a = c.args.ahead in
    let plan1 = c.index.result.now in
    let plan1_there : slice_get r.plans.items place ≡ Some plan1 = slice_get_read r.plans.items (vec_len r.plans) place plan1 r.plans.ok.0 c.requires.known c.index.ensures in
    let same_plan : plan1 ≡ plan = cc (plan_there, plan1_there) in
    let no_read : option_and_then updates_of (slice_get plan a.call) ≡ None =
    ap (λ (p : ClientPlan). option_and_then updates_of (slice_get p a.call)) (sym same_plan) ∙ sym c.in_default.ensures in
    let next : core.Ahead = core.next_call client in
    let stays : event.link o s d (Some client) ≡ None =
    ap (λ b. if b then event.link_call o s d next.client next.call else None) idle
    ∙ ap (event.link_call o s d next.client) ahead.call ∙ not_linked o s d next.client (slice_get plan a.call) none no_read in
    cannot_come _ o s r stays m

pub returns-then-not-may_link-clause-steps : goal.returns-then-not-may_link-clause-steps
returns-then-not-may_link-clause-steps c = λ o s client plan seat m there idle plan_there seat_there ahead none.
    let r = c.args.self.now in
    let d : ℕ = c.args.client in
    let place : ℕ = c.args.place in
    let a = c.args.ahead in
    let plan1 = c.index.result.now in
    let plan1_there : slice_get r.plans.items place ≡ Some plan1 = slice_get_read r.plans.items (vec_len r.plans) place plan1 r.plans.ok.0 c.requires.known c.index.ensures in
    let same_plan : plan1 ≡ plan = cc (plan_there, plan1_there) in
    let n : ℕ = c.in-Some.since in
    let reads : option_and_then updates_of (slice_get plan a.call) ≡ Some n =
    ap (λ (p : ClientPlan). option_and_then updates_of (slice_get p a.call)) (sym same_plan) ∙ sym c.in-Some.ensures in
    let line : slice_get plan a.call ≡ Some (updates n) = updates_is (slice_get plan a.call) n reads in
    let next : core.Ahead = core.next_call client in
    let stays : event.link o s d (Some client) ≡ None =
    ap (λ b. if b then event.link_call o s d next.client next.call else None) idle
    ∙ ap (event.link_call o s d next.client) (ahead.call ∙ line)
    ∙ ap (λ b. event.when b (event.link_read s d next.client n)) (ap (λ l. core.may_link l None) m.line.hand ∙ may_link_by_phase r.log (hand_of r) None ∙ sym c.may_link.ensures ∙ c.if-not-may_link.true) in
    cannot_come _ o s r stays m

pub returns-clause-steps : goal.returns-clause-steps
returns-clause-steps c = λ o s client plan seat m there idle plan_there seat_there ahead none.
    let r = c.args.self.now in
    let d : ℕ = c.args.client in
    let plans = r.plans.items in
    let place : ℕ = c.args.place in
    let a = c.args.ahead in
    let number : d ≡ place + 1 = c.requires.number in
    let few : place < length plans = omega (arith, c.requires.known, r.plans.ok.0) in
    let known : place < length s.clients = omega (arith, few, m.clients.plan_each) in
    let at : slice_get s.clients place ≡ Some client = client_there s d place client number there in
    let is : IsClient plan seat client = m.clients.each place plan seat client plan_there seat_there at in
    let plan1 = c.index.result.now in
    let plan1_there : slice_get plans place ≡ Some plan1 = slice_get_read plans (vec_len r.plans) place plan1 r.plans.ok.0 c.requires.known c.index.ensures in
    let same_plan : plan1 ≡ plan = cc (plan_there, plan1_there) in
    let n : ℕ = c.in-Some.since in
    let reads : option_and_then updates_of (slice_get plan a.call) ≡ Some n =
    ap (λ (p : ClientPlan). option_and_then updates_of (slice_get p a.call)) (sym same_plan) ∙ sym c.in-Some.ensures in
    let line : slice_get plan a.call ≡ Some (updates n) = updates_is (slice_get plan a.call) n reads in
    let line_there : a.call < length plan = slice_get_within plan a.call (updates n) line in
    let next : core.Ahead = core.next_call client in
    let back : d - 1 ≡ place = omega (arith, number) in
    let seat_again : slice_get r.seats.items place ≡ Some c.index_mut.result.now = slice_get_read r.seats.items (vec_len r.seats) place c.index_mut.result.now r.seats.ok.0 (omega (arith, c.requires.known, r.one_seat_each)) c.index_mut.ensures.value in
    let same_seat : seat ≡ c.index_mut.result.now = cc (seat_there, seat_again) in
    let Q : Seat → Type 0 = λ x. IsClient plan x client in
    let R : Seat → Type 0 = λ x. IsAhead plan x.next a client.calls client (core.next_call client) in
    let fewer : length next.client.left + 1 ≤ length client.left = fewer_left plan seat client a next is ahead line_there in
    let new : core.Client = record next.client { idle = false } in
    let batch : Lines = record { from = a.call; to = a.call } in
    let w : Writer = c.new_reader.result in
    let shown : core.Writer = reader_of d n [] in
    let t : core.State = record (core.with_client s d new) { queue = s.queue ++ shown ∷ [] } in
    let comes : event.link o s d (Some client) ≡ Some t =
    ap (λ b. if b then event.link_call o s d next.client next.call else None) idle
    ∙ ap (event.link_call o s d next.client) (ahead.call ∙ line)
    ∙ ap (λ b. event.when b (event.link_read s d next.client n)) (ap (λ l. core.may_link l None) m.line.hand ∙ may_link_by_phase r.log (hand_of r) None ∙ sym c.may_link.ensures ∙ c.if-not-may_link.false) in
    let after : IsClient plan c.wait.new.seat new = c.wait.ensures plan client (subst Q same_seat is) idle (subst R same_seat ahead) line_there in
    let all : AreClients plans (slice_set r.seats.items place c.wait.new.seat) (slice_set s.clients place new) = clients_set plans r.seats.items s.clients place plan c.wait.new.seat new m.clients known plan_there after in
    let P : ℕ → Type 0 = λ k. AreClients plans (slice_set r.seats.items place c.wait.new.seat) (slice_set s.clients k new) in
    let less : lines_left (slice_set s.clients (d - 1) new) + 1 ≤ lines_left s.clients = (let L : ℕ → Type 0 = λ k. lines_left (slice_set s.clients k new) + 1 ≤ lines_left s.clients in subst L (sym back) (lines_less s.clients place client new known at fewer)) in
    let free : vec_len r.linked < vec_capacity r.linked = omega (arith, m.room.linked, less) in
    let item_free : vec_len r.items < vec_capacity r.items = omega (arith, m.room.items, less, r.one_item_each) in
    let pushed : c.push_both.new.first.items ≡ r.linked.items ++ w ∷ [] = c.push_both.ensures.first free item_free in
    let item_pushed : c.push_both.new.second.items ≡ r.items.items ++ c.item_of.result ∷ [] = c.push_both.ensures.second free item_free in
    let len : vec_len c.push_both.new.first ≡ vec_len r.linked + 1 = c.push_both.ensures.len free item_free in
    let batch_is : records_of plans d batch ≡ [] = records_at plans d place plan batch number plan_there ∙ empty_lines plan a.call in
    let shown_is : shown_writer plans w ≡ shown = ap (shown_writer plans) c.new_reader.ensures ∙ ap (reader_of d n) batch_is in
    let item_is : c.item_of.result ≡ core.item_of (shown_writer plans w) = c.item_of.ensures ∙ sym (ap core.item_of shown_is) in
    let own : records_of plans w.client w.batch ≡ [] = ap (λ (x : core.Writer). x.records) shown_is in
    let counted : w.count ≡ count_of (records_of plans w.client w.batch) = ap (λ (x : Writer). x.count) c.new_reader.ensures ∙ sym (ap count_of own) in
    let of_client : w.client ≡ d = ap (λ (x : Writer). x.client) c.new_reader.ensures in
    let client_known : IsClientOf (length plans) w = record { from_one = omega (arith, of_client, number); few = omega (arith, of_client, number, few) } in
    let line_len : r.in_second + r.in_hand ≤ length (map (shown_writer plans) r.linked.items) = omega (arith, r.groups_wait, r.linked.ok.0, length-map r.linked.items (shown_writer plans)) in
    let line_is : map (shown_writer plans) c.push_both.new.first.items ≡ map (shown_writer plans) r.linked.items ++ shown ∷ [] =
    ap (map (shown_writer plans)) pushed ∙ map_push (shown_writer plans) r.linked.items w ∙ ap (λ x. map (shown_writer plans) r.linked.items ++ x ∷ []) shown_is in
    let L : List core.Writer → Type 0 = λ ws. IsLine ws r.second.items r.in_second r.in_hand r.log t in
    let W : List Writer → Type 0 = λ ws. AreWriters plans ws c.push_both.new.second.items in
    let I : List Item → Type 0 = λ is. AreWriters plans (r.linked.items ++ w ∷ []) is in
    has_come _ o t s _ comes (record {
      options = m.options;
      clients = subst P (sym back) all;
      line = subst L (sym line_is) (line_push (map (shown_writer plans) r.linked.items) shown r.second.items r.in_second r.in_hand r.log s (slice_set s.clients (d - 1) new) line_len m.line);
      writers = subst W (sym pushed) (subst I (sym item_pushed) (writers_push plans r.linked.items r.items.items w c.item_of.result m.writers item_is counted client_known));
      table = m.table;
      leaving = m.leaving;
      entries = m.entries;
      groups = m.groups;
      assigned = m.assigned;
      log_failed = m.log_failed;
      last = m.last;
      room = record {
        linked = omega (arith, m.room.linked, less, len, c.push_both.ensures.first_capacity);
        items = omega (arith, m.room.items, less, len, c.push_both.ensures.second_capacity);
        second = omega (arith, m.room.second, less, len);
        entries = omega (arith, m.room.entries, less, len);
        groups = m.room.groups;
        group_room = m.room.group_room;
      };
    })
