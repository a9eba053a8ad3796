use Rattle.std.proofs.Common.{◌≡◌, ℕ, ◌+◌, ◌-◌, length, vec_len, sym, ◌∙◌, subst, arith}
use Rattle.tests_line.specs.Players.{IsSat, AllMayWrite, AreSat}
use Rattle.tests_line.proofs.Seating.{seat_last, sat_snoc}
use Rattle.tests_line.proofs.tests.playing.unseat.Goals as goal

pub loop-i-preserved : goal.loop-i-preserved
loop-i-preserved c =
    let v = c.loop-i.invariant in let list = c.args.list.now in let rest = c.pop.new.self.items in let p = c.in-Some.player in
    let all : ℕ = vec_len c.args.players.now in let before = c.loop-i.writers.items in
    let t = seat_last list rest p (subst (AllMayWrite list) c.in-Some.ensures.items v.players) in
    let left = v.left in let room = v.room.0 in let popped = c.in-Some.ensures.cases in let put = c.push_reserved.ensures in
    let many : length rest + 1 ≡ all - length before = omega (arith, c.pop.new.self.ok.0, c.loop-i.writers.ok.0) in
    record {
      players = t.0;
      writers = subst (AreSat list all) (sym put.items) (sat_snoc list all before p.writer v.writers (subst (λ k. IsSat list k p.writer) many t.1.0));
      left = omega arith;
      room = ((let l = put.len in omega arith), put.capacity ∙ v.room.1);
    }
