use Rattle.std.proofs.Common.{◌≡◌, length, subst, arith}
use Rattle.line_writers.specs.Seats.{clients_of}
use Rattle.tests_line.specs.Players.{AreSat}
use Rattle.tests_line.proofs.Seating.{sat_out, sat_there}
use Rattle.tests_line.proofs.tests.playing.closed.Goals as goal

pub close-requires : goal.close-requires
close-requires g c =
    let list = c.args.list in let u = c.unseat.ensures in let writers = c.unseat.new.writers in let len = u.1 in let all = c.requires.1 in
    let sat = subst (λ k. AreSat list k writers.items) all u.0 in
    let many : length writers.items ≡ clients_of list = omega (arith, writers.ok.0) in
    record { out = (sat_out list _ writers.items sat, sat_there list _ writers.items sat many, omega (arith, writers.ok.0)) }
