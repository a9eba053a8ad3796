use Rattle.std.proofs.Common.{rules, ◌≡◌, ℕ, ◌≤◌, ◌<◌, ◌+◌, List, [], Option, Some, None, ◌⊎◌, vec_capacity, refl, sym, ap, ◌∙◌, subst, arith}
use Rattle.model_base.specs.declared.limits.TheConstants.{MAX_CLIENTS}
use Rattle.model_base.specs.History.{max_sequence}
use Rattle.engine_parts.specs.Logs.{faults_of, fault_of}
use Rattle.line_rule.specs.declared.words.TheConstants.{STALL}
use Rattle.line_writers.specs.Rooms.{AllReady}
use Rattle.line_writers.specs.Seats.{clients_of}
use Rattle.model_accounts.specs.Accounts.{newcomer}
use Rattle.engine_controller.specs.Passes.{seen_by_note, IsNoteOf}
use Rattle.engine_parts.specs.Handled.{AreHandled}
use Rattle.engine_parts.specs.LogLaw.{LogCovers}
use Rattle.engine_groups.specs.Law.{ServesIs, TurnIs}
use Rattle.table_rule.specs.declared.content.MemberVersions.{MemberVersions}
use Rattle.engine_parts.specs.Layout.{AreRoomy}
use Rattle.engine_groups.specs.AtStart.{AreSeatsAtStart}
use Rattle.engine_groups.specs.Clients.{map_at_opening}
use Rattle.engine_groups.specs.declared.leader.Held.{Held}
use Rattle.engine_groups.proofs.First.{back_first, kept_first, place_first, stands_first, turn_first}
use Rattle.engine_groups.proofs.Seating.{seats_count, newcomer_at, are_ours, passes_at_start}
use Rattle.engine_groups.proofs.engine.GroupEngine.open_with.Goals as goal

-- takes the place of a table's `our_turn`, where only the log matters
abbrev our_log : Unit {0} → List (List MemberVersions) → Type 0
our_log t u = Unit {0}

abbrev as_is : List (List MemberVersions) → List (List MemberVersions)
as_is u = u

-- Numbers. A tactic reads all that is known where it is called, so these are apart from the goals that use them.

low_enough : (n most k : ℕ) → k ≡ n → n ≤ most → k ≤ most
low_enough n most k is few = omega arith

not_none : (n k : ℕ) → k ≡ n → 0 < n → 0 < k
not_none n k is some = omega arith

few_enough : (n k : ℕ) → k ≡ n → n ≤ MAX_CLIENTS → k < STALL
few_enough n k is few = omega arith

next_place : (i : ℕ) → 1 + i ≡ i + 1
next_place i = omega arith

pub overflow_cast-count : goal.overflow_cast-count
overflow_cast-count g c =
    let n = seats_count g.Versions.Table c.args.table (g.Versions.Table.opening c.args.table).clients c.args.seats.clients c.requires.seats in
    let few = c.requires.clients.1 in let is = c.len-count.ensures in
    let small : c.len-count.result ≤ MAX_CLIENTS = low_enough (g.Versions.Table.opening c.args.table).clients MAX_CLIENTS c.len-count.result (is ∙ n) few in
    search (rules, small)

pub first_note-requires : goal.first_note-requires
first_note-requires g c =
    let made = c.requires.controller in let some = c.requires.clients.0 in let n = made.number in
    record { passes = (passes_at_start c.args.controller 1 c.args.passes.clients.items made.each, not_none (g.Versions.Table.opening c.args.table).clients _ n some) }

pub open-requires-clause-clients : goal.open-requires-clause-clients
open-requires-clause-clients g c =
    let n = seats_count g.Versions.Table c.args.table (g.Versions.Table.opening c.args.table).clients c.args.seats.clients c.requires.seats in
    let some = c.requires.clients.0 in let few = c.requires.clients.1 in let is = c.len-count.ensures in let same = c.start_with-start.ensures.list.0 in
    (not_none (g.Versions.Table.opening c.args.table).clients _ (same ∙ (is ∙ n)) some, few_enough (g.Versions.Table.opening c.args.table).clients _ (same ∙ (is ∙ n)) few)

pub open-requires-clause-log : goal.open-requires-clause-log
open-requires-clause-log g c =
    let last = c.args.options.last in let about = c.start_with-start.result.about in let made = c.start_with-start.ensures in
    let first = c.groups_stay_consistent.ensures.first last about.clients about.group_bytes in let note = c.first_note.ensures.note in
    let fresh = stands_first our_log as_is tt c.args.held.value.path.log c.args.held.value.path.places last about.clients about.group_bytes [] (seen_by_note c.first_note.result) first tt refl c.requires.log.0 note.1 (g.met.Log.GroupLog.no_call c.args.held.value.path.log.log) c.requires.places in
    let t = turn_first g.Versions.Table c.args.table last c.args.seats.turn c.requires.turn.0 c.requires.turn.1 first.named c.part_turn-with_log.result.0 c.part_turn-with_log.result.1 c.args.pipelined c.part_turn-with_log.ensures.single c.part_turn-with_log.ensures.piped in
    let opened = subst (λ z. LogCovers z last about.clients about.group_bytes (seen_by_note c.first_note.result) c.args.held.value.path.log c.args.held.value.path.places [] last 0 []) (sym (made.engine.2 ∙ ap (λ (h : Held _ _ _). h.path.log) c.deref.ensures)) fresh in
    let staged = subst (λ b. TurnIs g.Versions.Table c.args.table b [] c.part_turn-with_log.result.0) (sym made.numbers.3) t.0 in (
      record {
        note = subst (λ k. IsNoteOf k c.first_note.result) (sym made.engine.1) note.0;
        published = [];
        path = subst (λ (z : ℕ × ℕ × ℕ). LogCovers about.opened.value z.0 about.clients about.group_bytes (seen_by_note c.first_note.result) c.args.held.value.path.log c.args.held.value.path.places [] z.1 z.2 []) (λ i. (sym made.numbers.0 i, sym c.requires.log.1 i, sym c.requires.log.2 i)) opened;
        turn = subst (λ k. TurnIs g.Versions.Table k about.pipelined [] c.part_turn-with_log.result.0) (sym made.engine.0) staged;
      },
      subst (λ k. AreHandled about.controller.value about.opened.value k []) (sym made.numbers.0) (kept_first _ _ last about.clients about.group_bytes first (g.met.Log.GroupLog.no_call about.opened.value.log)),
    )

pub open-requires-clause-numbers : goal.open-requires-clause-numbers
open-requires-clause-numbers g c =
    let last = c.args.options.last in let about = c.start_with-start.result.about in let made = c.start_with-start.ensures in
    let first = c.groups_stay_consistent.ensures.first last about.clients about.group_bytes in
    let t = turn_first g.Versions.Table c.args.table last c.args.seats.turn c.requires.turn.0 c.requires.turn.1 first.named c.part_turn-with_log.result.0 c.part_turn-with_log.result.1 c.args.pipelined c.part_turn-with_log.ensures.single c.part_turn-with_log.ensures.piped in
    let staged = subst (λ b. ServesIs g.Versions.Table c.args.table last b [] c.part_turn-with_log.result.1) (sym made.numbers.3) t.1 in
    let started = subst (λ n. ServesIs g.Versions.Table c.args.table n about.pipelined [] c.part_turn-with_log.result.1) (sym made.numbers.0) staged in
    (c.requires.log.1 ∙ sym made.list.1, subst (λ k. ServesIs g.Versions.Table k about.start about.pipelined [] c.part_turn-with_log.result.1) (sym made.engine.0) started)

pub seat_all-clients-requires-clause-engine : goal.seat_all-clients-requires-clause-engine
seat_all-clients-requires-clause-engine g c =
    let n = seats_count g.Versions.Table c.args.table (g.Versions.Table.opening c.args.table).clients c.args.seats.clients c.requires.seats in
    let ok = c.in-Ok.ensures.ok.0 in let options = c.requires.options in let about = ok.2 in let made = c.start_with-start.ensures in
    let count : clients_of c.in-Ok.list ≡ (g.Versions.Table.opening c.args.table).clients = ok.0 ∙ (c.start_with-start.ensures.list.0 ∙ (c.len-count.ensures ∙ n)) in
    let few = c.requires.clients.1 in (
      record {
        clients = sym count;
        table = ap (λ a. a.table.value) about ∙ made.engine.0;
        controller = ap (λ a. a.controller.value) about ∙ made.engine.1;
        controller_clients = c.requires.controller.opened_for ∙ sym count;
        start = ap (λ a. a.start) about ∙ (made.numbers.0 ∙ options.0);
        start_number = ok.1 ∙ (made.list.1 ∙ options.0);
        about_clients = ap (λ a. a.clients) about ∙ (made.numbers.1 ∙ sym (ok.0 ∙ made.list.0));
        group_bytes = ap (λ a. a.group_bytes) about ∙ (made.numbers.2 ∙ sym (ok.5 ∙ made.list.3));
        pipelined = ap (λ a. a.pipelined) about ∙ (made.numbers.3 ∙ sym (ok.3 ∙ made.list.2));
        low = subst (λ k. k ≤ max_sequence) options.0 options.1;
        few = few_enough (g.Versions.Table.opening c.args.table).clients (clients_of c.in-Ok.list) count few;
        batch_bytes = options.2;
        no_fault = ap (λ a. fault_of a.opened.value) about ∙ (ap fault_of (made.engine.2 ∙ ap (λ (h : Held _ _ _). h.path.log) c.deref.ensures) ∙ c.requires.log.0);
      },
      options.0,
    )

pub seat_all-clients-requires-clause-writers : goal.seat_all-clients-requires-clause-writers
seat_all-clients-requires-clause-writers g c =
    let ok = c.in-Ok.ensures.ok in
    (ok.0.4, sym c.in-Ok.writers.ok.0 ∙ (ok.1 ∙ sym ok.0.0))

pub seat_all-clients-requires-clause-lists : goal.seat_all-clients-requires-clause-lists
seat_all-clients-requires-clause-lists g c =
    let ok = c.in-Ok.ensures.ok in
    (subst (λ n. AllReady n c.in-Ok.lists.items) (sym ok.0.0) ok.3, sym c.in-Ok.lists.ok.0 ∙ (ok.2 ∙ sym ok.0.0))

pub given_back-requires : goal.given_back-requires
given_back-requires g c =
    let err = c.in-Err.ensures.err in let p = c.part_turn-with_log in
    record {
      turn = subst (λ (z : Option _ × Option _). ((u : _) × (z.0 ≡ Some u) × (z.1 ≡ None)) ⊎ ((u : _) × (z.0 ≡ None) × (z.1 ≡ Some u))) (λ i. ((sym err.0 i).turn, (sym err.1 i).turn))
          (place_first c.args.seats.turn p.result.0 p.result.1 c.args.pipelined p.ensures.single p.ensures.piped);
    }

pub returns-in-Err-clause-err : goal.returns-in-Err-clause-err
returns-in-Err-clause-err g c =
    let err = c.in-Err.ensures.err in let p = c.part_turn-with_log in let back = c.given_back in let same = back.ensures.same in
    let at = subst (λ (z : Option _ × Option _). ((z.0 ≡ Some back.result.seats.turn) × (z.1 ≡ None)) ⊎ ((z.0 ≡ None) × (z.1 ≡ Some back.result.seats.turn))) (λ i. ((err.0 i).turn, (err.1 i).turn)) back.ensures.turn in
    let turn : back.result.seats.turn ≡ c.args.seats.turn = back_first c.args.seats.turn p.result.0 p.result.1 back.result.seats.turn c.args.pipelined p.ensures.single p.ensures.piped at in (
      same.0 ∙ (λ i. (err.0 i).held.value.path.log),
      same.1 ∙ (λ i. (err.0 i).held.value.clock),
      same.2,
      (λ i. record { turn = turn i; clients = same.3 i }),
      same.4,
    )

pub seat_all-clients-requires-clause-seats : goal.seat_all-clients-requires-clause-seats
seat_all-clients-requires-clause-seats g c =
    let n = seats_count g.Versions.Table c.args.table (g.Versions.Table.opening c.args.table).clients c.args.seats.clients c.requires.seats in
    let ok = c.in-Ok.ensures.ok.0 in
    let count : clients_of c.in-Ok.list ≡ (g.Versions.Table.opening c.args.table).clients = ok.0 ∙ (c.start_with-start.ensures.list.0 ∙ (c.len-count.ensures ∙ n)) in
    subst (λ k. AreSeatsAtStart g.Versions.Table c.args.table k c.args.seats.clients.items) (sym count) c.requires.seats

pub seat_all-clients-requires-clause-passes : goal.seat_all-clients-requires-clause-passes
seat_all-clients-requires-clause-passes g c =
    let n = seats_count g.Versions.Table c.args.table (g.Versions.Table.opening c.args.table).clients c.args.seats.clients c.requires.seats in
    let ok = c.in-Ok.ensures.ok.0 in let passes = c.first_note.ensures.passes in
    let count : clients_of c.in-Ok.list ≡ (g.Versions.Table.opening c.args.table).clients = ok.0 ∙ (c.start_with-start.ensures.list.0 ∙ (c.len-count.ensures ∙ n)) in
    (passes.0, passes.1 ∙ (c.requires.controller.number ∙ sym count), c.requires.controller.others_are)

pub seat_all-clients-requires-clause-layouts : goal.seat_all-clients-requires-clause-layouts
seat_all-clients-requires-clause-layouts g c =
    let n = seats_count g.Versions.Table c.args.table (g.Versions.Table.opening c.args.table).clients c.args.seats.clients c.requires.seats in
    let ok = c.in-Ok.ensures.ok.0 in let layouts = c.requires.layouts in
    let count : clients_of c.in-Ok.list ≡ (g.Versions.Table.opening c.args.table).clients = ok.0 ∙ (c.start_with-start.ensures.list.0 ∙ (c.len-count.ensures ∙ n)) in
    (subst (λ k. AreRoomy k c.args.layouts.items) (sym count) layouts.0, layouts.1 ∙ sym count)

pub seat_all-clients-requires-clause-envelopes : goal.seat_all-clients-requires-clause-envelopes
seat_all-clients-requires-clause-envelopes g c =
    let n = seats_count g.Versions.Table c.args.table (g.Versions.Table.opening c.args.table).clients c.args.seats.clients c.requires.seats in
    let ok = c.in-Ok.ensures.ok.0 in
    let count : clients_of c.in-Ok.list ≡ (g.Versions.Table.opening c.args.table).clients = ok.0 ∙ (c.start_with-start.ensures.list.0 ∙ (c.len-count.ensures ∙ n)) in
    c.requires.envelopes ∙ sym count

pub seat_all-clients-requires-clause-clients : goal.seat_all-clients-requires-clause-clients
seat_all-clients-requires-clause-clients g c =
    let n = seats_count g.Versions.Table c.args.table (g.Versions.Table.opening c.args.table).clients c.args.seats.clients c.requires.seats in
    let ok = c.in-Ok.ensures.ok.0 in let room = c.requires.room in
    let count : clients_of c.in-Ok.list ≡ (g.Versions.Table.opening c.args.table).clients = ok.0 ∙ (c.start_with-start.ensures.list.0 ∙ (c.len-count.ensures ∙ n)) in
    (room.0, subst (λ k. k ≤ vec_capacity c.args.clients) (sym count) room.1)

pub returns-in-Ok-clause-engine : goal.returns-in-Ok-clause-engine
returns-in-Ok-clause-engine g c =
    let n = seats_count g.Versions.Table c.args.table (g.Versions.Table.opening c.args.table).clients c.args.seats.clients c.requires.seats in
    let ok = c.in-Ok.ensures.ok.0 in let options = c.requires.options in let about = ok.2 in let made = c.start_with-start.ensures in
    let count : clients_of c.in-Ok.list ≡ (g.Versions.Table.opening c.args.table).clients = ok.0 ∙ (c.start_with-start.ensures.list.0 ∙ (c.len-count.ensures ∙ n)) in
    let opened = ap (λ a. a.opened.value) about ∙ (made.engine.2 ∙ ap (λ (h : Held _ _ _). h.path.log) c.deref.ensures) in (
      refl,
      opened,
      (λ i. record {
        start = sym options.0 i;
        opening = map_at_opening g.Versions.Table c.args.table;
        kept = None;
        clients = count i;
        families = c.args.options.families;
        group_bytes = (ok.5 ∙ made.list.3) i;
        batch_bytes = c.args.options.batch_bytes;
        opened = faults_of ((opened i));
      }),
    )

pub returns-in-Ok-clause-clients : goal.returns-in-Ok-clause-clients
returns-in-Ok-clause-clients g c =
    let made = c.seat_all-clients.ensures.clients in
    are_ours g.Versions.Table _ c.seat_all-clients.result.clients.items made.0 made.1

pub returns-in-Ok-clause-new : goal.returns-in-Ok-clause-new
returns-in-Ok-clause-new g c i client at =
    let made = c.seat_all-clients.ensures.clients in
    let place = next_place i in
    (newcomer_at g.Versions.Table _ 1 i c.seat_all-clients.result.clients.items client made.0 at).new ∙ (λ j. newcomer (sym c.requires.options.0 j) (map_at_opening g.Versions.Table c.args.table) (place j))
