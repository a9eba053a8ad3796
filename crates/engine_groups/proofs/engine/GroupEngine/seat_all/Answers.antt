use Rattle.std.proofs.Common.{◌≡◌, ◌+◌, ◌≤◌, ◌<◌, ℕ, suc, List, ◌∷◌, length, reverse, vec_len, vec_capacity, refl, sym, ap, ◌∙◌, subst, arith}
use Rattle.std.proofs.lemmas.List.{length-reverse, reverse-reverse}
use Rattle.std.specs.List.{range_with_len}
use Rattle.line_writers.specs.Roles.{AreNew, IsNew}
use Rattle.line_writers.specs.Rooms.{AllReady, AreReady}
use Rattle.line_writers.specs.Seats.{table_of, clients_of}
use Rattle.engine_parts.specs.Layout.{AreRoomy, IsRoomy}
use Rattle.engine_groups.specs.AtStart.{AreSeatsAtStart, ArePassesAtStart, IsPassAtStart, IsNewcomer, AreNewcomers}
use Rattle.engine_parts.proofs.Logged.{empty_list}
use Rattle.engine_parts.proofs.Standing.{none_of}
use Rattle.engine_groups.proofs.Seating.{all_last, length_last, passes_split, reverse_last, seats_count, seats_split, writers_split}
use Rattle.engine_groups.proofs.engine.GroupEngine.seat_all.Goals as goal

-- Numbers. A tactic reads all that is known where it is called, so these are apart from the goals that use them.

more_by_one : (k n : ℕ) → n ≡ k → suc k ≡ n + 1
more_by_one k n is = omega arith

one_and : (k m left n : ℕ) → n ≡ k → m ≡ suc k → m ≡ suc left → 1 + left ≡ n + 1
one_and k m left n is was passes = omega arith

no_more : (k m made n clients : ℕ) → n ≡ k → m ≡ suc k → made + m ≡ clients → n + 1 ≤ clients
no_more k m made n clients is was count = omega arith

above_none : (n : ℕ) → 0 < n + 1
above_none n = omega arith

one_less : (k m a b : ℕ) → a ≡ suc k → a ≡ b → b ≡ suc m → k ≡ m
one_less k m a b is same was = omega arith

one_over : (made more m k n : ℕ) → more ≡ suc made → m ≡ suc k → made + m ≡ n → more + k ≡ n
one_over made more m k n is was count = omega arith

next_number : (m k : ℕ) → m ≡ suc k → m + 1 ≡ k + 1 + 1
next_number m k was = omega arith

none_and : (a b n : ℕ) → a ≡ 0 → b ≡ n → a + b ≡ n
none_and a b n none many = omega arith

all_made : (a b m n : ℕ) → b ≡ a → m ≡ 0 → a + m ≡ n → b ≡ n
all_made a b m n same none count = omega arith

room_for : (n len items cap : ℕ) → len ≡ items → items ≡ n → len ≤ cap → n ≤ cap
room_for n len items cap is many fits = omega arith

same_room : (n old new : ℕ) → new ≡ old → n ≤ old → n ≤ new
same_room n old new is fits = omega arith

none_left : (k m len : ℕ) → len ≡ 0 → len ≡ m → m ≡ suc k → ⊥
none_left k m len none is was = absurd (omega arith)

one_fits : (k len made m n room : ℕ) → len ≡ made → m ≡ suc k → made + m ≡ n → n ≤ room → len < room
one_fits k len made m n room is was count fits = omega arith

smaller : (k m : ℕ) → m ≡ suc k → k < m
smaller k m was = omega arith

pub unreachable-requires : goal.unreachable-requires
unreachable-requires g c =
    let v = c.loop-writer.invariant in
    none_left (length c.pop.new.self.items) (length c.loop-writer.writers.items) (vec_len c.loop-writer.seats) c.in_default-pop.ensures.cases.0 (seats_count g.Versions.Table c.args.self.now.table (length c.loop-writer.writers.items) c.loop-writer.seats v.seats)
    (length_last c.pop.new.self.items c.loop-writer.writers.items c.in-Some.writer c.in-Some.ensures.items)

pub unreachable-requires-in_default-pop-2 : goal.unreachable-requires-in_default-pop-2
unreachable-requires-in_default-pop-2 g c =
    let v = c.loop-writer.invariant in
    none_left (length c.pop.new.self.items) (length c.loop-writer.writers.items) (vec_len c.loop-writer.passes) c.in_default-pop-2.ensures.cases.0 (c.loop-writer.passes.ok.0 ∙ v.passes_count)
    (length_last c.pop.new.self.items c.loop-writer.writers.items c.in-Some.writer c.in-Some.ensures.items)

pub unreachable-requires-in_default-pop-3 : goal.unreachable-requires-in_default-pop-3
unreachable-requires-in_default-pop-3 g c =
    let v = c.loop-writer.invariant in
    none_left (length c.pop.new.self.items) (length c.loop-writer.writers.items) (vec_len c.loop-writer.lists) c.in_default-pop-3.ensures.cases.0 (c.loop-writer.lists.ok.0 ∙ v.lists_count)
    (length_last c.pop.new.self.items c.loop-writer.writers.items c.in-Some.writer c.in-Some.ensures.items)

pub unreachable-requires-in_default-pop-4 : goal.unreachable-requires-in_default-pop-4
unreachable-requires-in_default-pop-4 g c =
    let v = c.loop-writer.invariant in
    none_left (length c.pop.new.self.items) (length c.loop-writer.writers.items) (vec_len c.loop-writer.layouts) c.in_default-pop-4.ensures.cases.0 (c.loop-writer.layouts.ok.0 ∙ v.layouts_count)
    (length_last c.pop.new.self.items c.loop-writer.writers.items c.in-Some.writer c.in-Some.ensures.items)

pub unreachable-requires-in_default-pop-5 : goal.unreachable-requires-in_default-pop-5
unreachable-requires-in_default-pop-5 g c =
    let v = c.loop-writer.invariant in
    none_left (length c.pop.new.self.items) (length c.loop-writer.writers.items) (vec_len c.loop-writer.envelopes) c.in_default-pop-5.ensures.cases.0 (c.loop-writer.envelopes.ok.0 ∙ v.envelopes_count)
    (length_last c.pop.new.self.items c.loop-writer.writers.items c.in-Some.writer c.in-Some.ensures.items)

pub push_reserved-requires : goal.push_reserved-requires
push_reserved-requires g c =
    let v = c.loop-writer.invariant in let made = c.loop-writer.clients in
    one_fits (length c.pop.new.self.items) (vec_len made) (length made.items) (length c.loop-writer.writers.items) (clients_of c.args.self.now.list) (vec_capacity made) made.ok.0
    (length_last c.pop.new.self.items c.loop-writer.writers.items c.in-Some.writer c.in-Some.ensures.items) v.count v.clients_room

pub loop-writer-smaller : goal.loop-writer-smaller
loop-writer-smaller g c = smaller (length c.pop.new.self.items) (length c.loop-writer.writers.items) (length_last c.pop.new.self.items c.loop-writer.writers.items c.in-Some.writer c.in-Some.ensures.items)

pub seat_one-client-requires-clause-seat : goal.seat_one-client-requires-clause-seat
seat_one-client-requires-clause-seat g c =
    let v = c.loop-writer.invariant in let last = c.in-Some-pop.ensures.items in
    let meaning = g.Versions.Table in let table = c.args.self.now.table in
    let ws = c.pop.new.self.items in let r : ℕ = length ws in
    let was : length c.loop-writer.writers.items ≡ suc r = length_last ws c.loop-writer.writers.items c.in-Some.writer c.in-Some.ensures.items in
    let split = seats_split meaning table r c.pop-in-Some.new.self.items c.in-Some-pop.seat
    (subst (λ (z : ℕ × List _). AreSeatsAtStart meaning table z.0 z.1) (λ i. (was i, last i)) v.seats) in
    let l = c.len.ensures ∙ c.pop.new.self.ok.0 in
    (split.1.0, split.1.1, split.1.2, split.1.3 ∙ more_by_one r c.len.result l)

pub seat_one-client-requires-clause-pass : goal.seat_one-client-requires-clause-pass
seat_one-client-requires-clause-pass g c =
    let v = c.loop-writer.invariant in let last = c.in-Some-pop-2.ensures.items in let pass = c.in-Some-pop-2.pass in
    let controller = c.args.self.now.controller in let left = c.pop-in-Some-2.new.self.items in
    let split = passes_split controller 1 left pass (subst (ArePassesAtStart controller 1) last v.passes) in
    let was = length_last c.pop.new.self.items c.loop-writer.writers.items c.in-Some.writer c.in-Some.ensures.items in
    let passes = length_last left c.loop-writer.passes.items pass last in
    let l = c.len.ensures ∙ c.pop.new.self.ok.0 in
    subst (λ n. IsPassAtStart controller n pass) (one_and (length c.pop.new.self.items) (length c.loop-writer.passes.items) (length left) c.len.result l (v.passes_count ∙ was) passes) split.1

pub seat_one-client-requires-clause-number : goal.seat_one-client-requires-clause-number
seat_one-client-requires-clause-number g c =
    let was = length_last c.pop.new.self.items c.loop-writer.writers.items c.in-Some.writer c.in-Some.ensures.items in
    let l = c.len.ensures ∙ c.pop.new.self.ok.0 in let count = c.loop-writer.invariant.count in
    (above_none c.len.result, no_more (length c.pop.new.self.items) (length c.loop-writer.writers.items) (length c.loop-writer.clients.items) c.len.result (clients_of c.args.self.now.list) l was count)

pub seat_one-client-requires-clause-writer : goal.seat_one-client-requires-clause-writer
seat_one-client-requires-clause-writer g c =
    let table = table_of c.args.self.now.list in let ws = c.pop.new.self.items in let r : ℕ = length ws in
    let new = writers_split table c.loop-writer.writers.items ws c.in-Some.writer c.in-Some.ensures.items c.loop-writer.invariant.writers in
    let l = c.len.ensures ∙ c.pop.new.self.ok.0 in
    subst (λ (k : ℕ). IsNew table k c.in-Some.writer) (more_by_one r c.len.result l) new.1

pub seat_one-client-requires-clause-room : goal.seat_one-client-requires-clause-room
seat_one-client-requires-clause-room g c =
    let v = c.loop-writer.invariant in let n : ℕ = clients_of c.args.self.now.list in
    let lists = all_last (AreReady n) (AllReady n) tt (λ x xs all. all) (λ x xs one all. (one, all)) c.pop-in-Some-3.new.self.items c.in-Some-pop-3.lists (subst (AllReady n) c.in-Some-pop-3.ensures.items v.lists) in
    let layouts = all_last (IsRoomy n) (AreRoomy n) tt (λ x xs all. all) (λ x xs one all. (one, all)) c.pop-in-Some-4.new.self.items c.in-Some-pop-4.layout (subst (AreRoomy n) c.in-Some-pop-4.ensures.items v.layouts) in
    (lists.1, layouts.1)

pub loop-writer-init : goal.loop-writer-init
loop-writer-init g c =
    let e = c.args.self.now in let n : ℕ = clients_of e.list in let meaning = g.Versions.Table in
    let W = c.requires.writers in let P = c.requires.passes in let L = c.requires.lists in let Y = c.requires.layouts in let C = c.requires.clients in
    let ws = c.reverse.new.self.items in let turned = c.reverse.ensures.items in
    let many : length ws ≡ n = ap length turned ∙ (length-reverse c.args.writers.items ∙ W.1) in
    let back : c.args.writers.items ≡ reverse ws = sym (ap reverse turned ∙ reverse-reverse c.args.writers.items) in
    let none : length c.args.clients.items ≡ 0 = ap length C.0 in
    let seats = seats_count meaning e.table n c.args.seats c.requires.seats in
    record {
      writers = subst (λ (l : List _). AreNew (table_of e.list) (length ws) l) back (subst (λ k. AreNew (table_of e.list) k c.args.writers.items) (sym many) W.0);
      seats = subst (λ k. AreSeatsAtStart meaning e.table k c.args.seats.items) (sym many) c.requires.seats;
      passes = P.0;
      passes_count = P.1 ∙ sym many;
      lists = L.0;
      lists_count = L.1 ∙ sym many;
      layouts = Y.0;
      layouts_count = Y.1 ∙ sym many;
      envelopes_count = c.requires.envelopes ∙ sym many;
      clients = subst (λ l. AreNewcomers meaning e (length ws + 1) (reverse l)) (sym C.0) tt;
      count = none_and (length c.args.clients.items) (length ws) n none many;
      clients_room = C.1;
      others = P.2;
      writers_room = same_room n (vec_capacity c.args.writers) (vec_capacity c.reverse.new.self) c.reverse.ensures.capacity (room_for n (vec_len c.args.writers) (length c.args.writers.items) (vec_capacity c.args.writers) c.args.writers.ok.0 W.1 c.args.writers.ok.1);
      seats_room = room_for n (vec_len c.args.seats) n (vec_capacity c.args.seats) seats refl c.args.seats.ok.1;
      passes_room = room_for n (vec_len c.args.passes.clients) (length c.args.passes.clients.items) (vec_capacity c.args.passes.clients) c.args.passes.clients.ok.0 P.1 c.args.passes.clients.ok.1;
    }

pub loop-writer-preserved : goal.loop-writer-preserved
loop-writer-preserved g c =
    let v = c.loop-writer.invariant in let meaning = g.Versions.Table in let e = c.args.self.now in let n : ℕ = clients_of e.list in
    let ws = c.pop.new.self.items in let r : ℕ = length ws in let is = c.in-Some.ensures.items in let w = c.in-Some.writer in
    let was : length c.loop-writer.writers.items ≡ suc r = length_last ws c.loop-writer.writers.items w is in
    let new = writers_split (table_of e.list) c.loop-writer.writers.items ws w is v.writers in
    let seat = c.in-Some-pop.ensures.items in let pass = c.in-Some-pop-2.ensures.items in
    let lists = c.in-Some-pop-3.ensures.items in let layout = c.in-Some-pop-4.ensures.items in
    let ps = c.pop-in-Some-2.new.self.items in let ls = c.pop-in-Some-3.new.self.items in let ys = c.pop-in-Some-4.new.self.items in
    let seats = seats_split meaning e.table r c.pop-in-Some.new.self.items c.in-Some-pop.seat
    (subst (λ (z : ℕ × List _). AreSeatsAtStart meaning e.table z.0 z.1) (λ i. (was i, seat i)) v.seats) in
    let passes = passes_split e.controller 1 ps c.in-Some-pop-2.pass (subst (ArePassesAtStart e.controller 1) pass v.passes) in
    let clients = c.loop-writer.clients.items in let made = c.seat_one-client.result in let put = c.push_reserved.ensures in
    let all : reverse c.push_reserved.new.self.items ≡ made ∷ reverse clients = ap reverse put.items ∙ reverse_last clients made in
    let number : c.len.result + 1 ≡ r + 1 = ap (λ (k : ℕ). k + 1) (c.len.ensures ∙ c.pop.new.self.ok.0) in
    record {
      writers = new.0;
      seats = seats.0;
      passes = passes.0;
      passes_count = one_less (length ps) r (length c.loop-writer.passes.items) (length c.loop-writer.writers.items) (length_last ps c.loop-writer.passes.items c.in-Some-pop-2.pass pass) v.passes_count was;
      lists = (all_last (AreReady n) (AllReady n) tt (λ x xs all. all) (λ x xs one all. (one, all)) ls c.in-Some-pop-3.lists (subst (AllReady n) lists v.lists)).0;
      lists_count = one_less (length ls) r (length c.loop-writer.lists.items) (length c.loop-writer.writers.items) (length_last ls c.loop-writer.lists.items c.in-Some-pop-3.lists lists) v.lists_count was;
      layouts = (all_last (IsRoomy n) (AreRoomy n) tt (λ x xs all. all) (λ x xs one all. (one, all)) ys c.in-Some-pop-4.layout (subst (AreRoomy n) layout v.layouts)).0;
      layouts_count = one_less (length ys) r (length c.loop-writer.layouts.items) (length c.loop-writer.writers.items) (length_last ys c.loop-writer.layouts.items c.in-Some-pop-4.layout layout) v.layouts_count was;
      envelopes_count = one_less (length c.pop-in-Some-5.new.self.items) r (length c.loop-writer.envelopes.items) (length c.loop-writer.writers.items) (length_last c.pop-in-Some-5.new.self.items c.loop-writer.envelopes.items c.in-Some-pop-5.envelope c.in-Some-pop-5.ensures.items) v.envelopes_count was;
      clients = subst (AreNewcomers meaning e (r + 1)) (sym all) (
        subst (λ k. IsNewcomer meaning e k made) number c.seat_one-client.ensures,
        subst (λ k. AreNewcomers meaning e k (reverse clients)) (next_number (length c.loop-writer.writers.items) r was) v.clients,
      );
      count = one_over (length clients) (length c.push_reserved.new.self.items) (length c.loop-writer.writers.items) r n (length_last clients c.push_reserved.new.self.items made put.items) was v.count;
      clients_room = same_room n (vec_capacity c.loop-writer.clients) (vec_capacity c.push_reserved.new.self) put.capacity v.clients_room;
      others = v.others;
      writers_room = same_room n (vec_capacity c.loop-writer.writers) (vec_capacity c.pop.new.self) c.pop.ensures.capacity v.writers_room;
      seats_room = same_room n (vec_capacity c.loop-writer.seats) (vec_capacity c.pop-in-Some.new.self) c.pop-in-Some.ensures.capacity v.seats_room;
      passes_room = same_room n (vec_capacity c.loop-writer.passes) (vec_capacity c.pop-in-Some-2.new.self) c.pop-in-Some-2.ensures.capacity v.passes_room;
    }

pub returns-clause-clients : goal.returns-clause-clients
returns-clause-clients g c =
    let v = c.loop-writer.invariant in let clients = c.loop-writer.clients.items in let turned = c.reverse-2.ensures.items in
    let none : length c.loop-writer.writers.items ≡ 0 = sym c.loop-writer.writers.ok.0 ∙ c.in_default.ensures.cases.0 in
    let first : length c.loop-writer.writers.items + 1 ≡ 1 = ap (λ (k : ℕ). k + 1) none in (
      subst (λ (z : ℕ × List _). AreNewcomers g.Versions.Table c.args.self.now z.0 z.1) (λ i. (first i, sym turned i)) v.clients,
      all_made (length clients) (length c.reverse-2.new.self.items) (length c.loop-writer.writers.items) (clients_of c.args.self.now.list) (ap length turned ∙ length-reverse clients) none v.count,
    )

pub returns-clause-room : goal.returns-clause-room
returns-clause-room g c =
    let v = c.loop-writer.invariant in let none : length c.loop-writer.writers.items ≡ 0 = sym c.loop-writer.writers.ok.0 ∙ c.in_default.ensures.cases.0 in
    record {
      no_writers = empty_list c.pop.new.self.items (sym c.pop.new.self.ok.0 ∙ c.in_default.ensures.cases.1);
      no_seats = none_of (λ seat. (g.Versions.Table.account seat).number) c.loop-writer.seats.items (v.seats.numbers ∙ ap (range_with_len 1) none);
      no_passes = empty_list c.loop-writer.passes.items (v.passes_count ∙ none);
      writers = same_room (clients_of c.args.self.now.list) (vec_capacity c.loop-writer.writers) (vec_capacity c.pop.new.self) c.in_default.ensures.capacity v.writers_room;
      seats = v.seats_room;
      passes = v.passes_room;
      others = v.others;
    }
