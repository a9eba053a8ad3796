use Rattle.std.proofs.Common.{ap, length, sym, arith}
use Rattle.run_scripts.proofs.Families.{family_spelled}
use Rattle.run_scripts.proofs.family_lines.take_family.Goals as goal

pub returns-clause-len : goal.returns-clause-len
returns-clause-len c =
    let is = family_spelled c.split_once.result.0.now c.in_ok-family.family (sym c.in_ok-family.ensures) in
    rw c.in_ok-rest.was (omega (arith, ap length is.0, c.split_once.ensures.lengths))

pub returns-clause-small : goal.returns-clause-small
returns-clause-small c = (family_spelled c.split_once.result.0.now c.in_ok-family.family (sym c.in_ok-family.ensures)).1
