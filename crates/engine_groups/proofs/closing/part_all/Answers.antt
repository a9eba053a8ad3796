use Rattle.std.proofs.Common.{◌≡◌, ◌+◌, ◌++◌, ◌∷◌, [], ℕ, List, map, length, length-append, append_assoc, append-nil, sym, ap, ◌∙◌, arith}
use Rattle.engine_groups.specs.Clients.{pass_in, seat_in, writer_in}
use Rattle.engine_groups.proofs.closing.part_all.Goals as goal

part_more : {A B : Type 0} (f : A → B) (all now rest : List A) (x : A) (old new : List B) → old ++ map f now ≡ map f all → now ≡ x ∷ rest → new ≡ old ++ f x ∷ [] → new ++ map f rest ≡ map f all
part_more f all now rest x old new so_far was put =
    ap (λ l. l ++ map f rest) put ∙ (append_assoc old (f x ∷ []) (map f rest) ∙ (ap (λ l. old ++ map f l) (sym was) ∙ so_far))

count_more : {A B : Type 0} (all : ℕ) (now rest : List A) (x : A) (old new : List B) (y : B) → length old + length now ≡ all → now ≡ x ∷ rest → new ≡ old ++ y ∷ [] → length new + length rest ≡ all
count_more all now rest x old new y so_far was put = let a = ap length put in let l = length-append old (y ∷ []) in let b = ap length was in omega (arith, so_far, a, l, b)

part_all_of : {A B : Type 0} (f : A → B) (all now : List A) (done : List B) → done ++ map f now ≡ map f all → now ≡ [] → done ≡ map f all
part_all_of f all now done so_far none = sym (append-nil done) ∙ (ap (λ l. done ++ map f l) (sym none) ∙ so_far)

pub loop-client-smaller : goal.loop-client-smaller
loop-client-smaller g c = let was = ap length c.in-Some.ensures.first in omega (arith, was)

pub returns-clause-writers : goal.returns-clause-writers
returns-clause-writers g c = part_all_of writer_in c.args.clients.now.items c.loop-client.clients.items c.loop-client.writers.items c.loop-client.invariant.writers c.in_default.ensures.first.0

pub returns-clause-seats : goal.returns-clause-seats
returns-clause-seats g c = part_all_of seat_in c.args.clients.now.items c.loop-client.clients.items c.loop-client.seats.items c.loop-client.invariant.seats c.in_default.ensures.first.0

pub returns-clause-passes : goal.returns-clause-passes
returns-clause-passes g c = part_all_of pass_in c.args.clients.now.items c.loop-client.clients.items c.loop-client.passes.items c.loop-client.invariant.passes c.in_default.ensures.first.0

pub loop-client-preserved : goal.loop-client-preserved
loop-client-preserved g c =
    let v = c.loop-client.invariant in let was = c.in-Some.ensures.first in let x = c.in-Some.client in
    let all = c.args.clients.now.items in let now = c.loop-client.clients.items in let rest = c.take_first.new.items.items in
    let w = c.push_reserved.ensures in let s = c.push_reserved-in-Some.ensures in let p = c.push_reserved-in-Some-2.ensures in
    let ws = c.loop-client.writers.items in let ss = c.loop-client.seats.items in let ps = c.loop-client.passes.items in
    record {
      writers = part_more writer_in all now rest x ws c.push_reserved.new.self.items v.writers was w.items;
      seats = part_more seat_in all now rest x ss c.push_reserved-in-Some.new.self.items v.seats was s.items;
      passes = part_more pass_in all now rest x ps c.push_reserved-in-Some-2.new.self.items v.passes was p.items;
      writers_count = count_more (length all) now rest x ws c.push_reserved.new.self.items x.writer v.writers_count was w.items;
      seats_count = count_more (length all) now rest x ss c.push_reserved-in-Some.new.self.items x.seat v.seats_count was s.items;
      passes_count = count_more (length all) now rest x ps c.push_reserved-in-Some-2.new.self.items x.pass v.passes_count was p.items;
      writers_room = w.capacity ∙ v.writers_room;
      seats_room = s.capacity ∙ v.seats_room;
      passes_room = p.capacity ∙ v.passes_room;
    }
