use Rattle.std.proofs.Common.{◌≡◌, ◌+◌, length, vec_len, subst, arith}
use Rattle.tests_line.specs.Players.{MayWrite, AllMayWrite}
use Rattle.tests_line.proofs.Seating.{seat_last}
use Rattle.tests_line.proofs.tests.playing.taken.Goals as goal

pub returns : goal.returns
returns g c =
    let list = c.args.list.now in let rest = c.pop.new.self.items in
    let t = seat_last list rest c.in-Some.player (subst (AllMayWrite list) c.in-Some.ensures.items c.requires) in
    let many : length rest ≡ vec_len c.pop.new.self = omega (arith, c.pop.new.self.ok.0) in
    (t.0, subst (λ k. MayWrite list (k + 1) c.in-Some.player) many t.1)
