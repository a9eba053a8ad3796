use Rattle.std.proofs.Common.{◌≡◌, length, subst, arith}
use Rattle.line_writers.specs.Seats.{clients_of}
use Rattle.tests_line_stages.specs.Clients.{AreIdle}
use Rattle.tests_line_stages.proofs.Seating.{idle_out, idle_there}
use Rattle.tests_line_stages.proofs.tests.clients.closed.Goals as goal

pub close-requires : goal.close-requires
close-requires g c =
    let list = c.args.list in let u = c.unseat.ensures in let writers = c.unseat.new.writers in let len = u.1 in let all = c.requires.1 in
    let sat = subst (λ k. AreIdle list k writers.items) all u.0 in
    let many : length writers.items ≡ clients_of list = omega (arith, writers.ok.0) in
    record { out = (idle_out list _ writers.items sat, idle_there list _ writers.items sat many, omega (arith, writers.ok.0)) }
