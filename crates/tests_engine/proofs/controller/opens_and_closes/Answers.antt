use Rattle.std.proofs.Common.{sym, ◌∙◌}
use Rattle.tests_engine.proofs.controller.opens_and_closes.Goals as goal

pub close-requires : goal.close-requires
close-requires g c =
    let new = c.in_ok-controller.ensures.new in
    record { all = record { number = new.number ∙ sym new.opened_for; each = λ i p e. let n = new.each i p e in (n.0, n.1); others_are = new.others_are } }
