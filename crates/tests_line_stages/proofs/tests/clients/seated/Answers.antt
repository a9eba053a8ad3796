use Rattle.std.proofs.Common.{◌≡◌, ℕ, ◌+◌, ◌-◌, ◌≤◌, vec_len, vec_capacity, refl, sym, ap, ◌∙◌, subst}
use Rattle.line_writers.specs.Roles.{IsNew, AreNew}
use Rattle.line_writers.specs.Rooms.{AllReady}
use Rattle.line_writers.specs.Seats.{table_of}
use Rattle.tests_line_stages.specs.Clients.{IsIdle, AllMayWrite, AllStand}
use Rattle.tests_line.proofs.Seating.{IsNext, is_next, ready_last}
use Rattle.tests_line_stages.proofs.Seating.{new_last, new_idle, seat_more, stand_more}
use Rattle.tests_line_stages.proofs.tests.clients.seated.Goals as goal

pub loop-made-preserved : goal.loop-made-preserved
loop-made-preserved g c =
    let v = c.loop-made.invariant in let list = c.args.list.now in let n : ℕ = list.clients in let made : ℕ = c.loop-made.made in
    let w = c.in-Some.writer in let put = c.push_reserved.ensures in
    let new = new_last list n c.pop.new.self.items w (subst (AreNew (table_of list) n) c.in-Some.ensures.items v.writers) in
    let ready = ready_last n c.pop-in-loop-made.new.self.items c.in-Some-pop.lists (subst (AllReady n) c.in-Some-pop.ensures.items v.lists) in
    let writers : IsNext n made (vec_len c.pop.new.self) = is_next n made _ _ v.left.0 c.in-Some.ensures.cases in
    let lists : IsNext n made (vec_len c.pop-in-loop-made.new.self) = is_next n made _ _ v.left.1 c.in-Some-pop.ensures.cases in
    let at = subst (λ k. IsNew (table_of list) (n - k) w) (sym c.pop.new.self.ok.0) new.1 in
    let sat = new_idle list (made + 1) w (subst (λ k. IsNew (table_of list) k w) writers.number at) writers.positive writers.within in
    let may = subst (λ k. IsIdle list (k + 1) w) (sym v.room.0 ∙ c.loop-made.clients.ok.0) sat in
    let count : c.len-count.result ≡ n = c.len-count.ensures ∙ c.requires.len.0 in
    let roomy = subst (λ k. k ≤ vec_capacity c.room_for-members.result) count c.room_for-members.ensures in
    record {
      writers = new.0;
      lists = ready.0;
      clients = subst (AllMayWrite list) (sym put.items) (seat_more list c.loop-made.clients.items _ v.clients (may, ready.1, roomy));
      stand = subst (AllStand list) (sym put.items) (stand_more list c.loop-made.clients.items _ v.stand (may.2, ((may.0, may.1, refl), ready.1, roomy)));
      left = (writers.left, lists.left);
      room = (put.len ∙ ap (λ k. k + 1) v.room.0, put.capacity ∙ v.room.1);
    }
