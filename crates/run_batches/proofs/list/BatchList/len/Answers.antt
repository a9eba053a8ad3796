use Rattle.std.proofs.Common.{ap, length, arith}
use Rattle.run_batches.proofs.Places.{as_many_ends}
use Rattle.run_batches.proofs.list.BatchList.len.Goals as goal

pub returns : goal.returns
returns c =
    let l = c.self.inside in
    omega (arith, c.len.ensures, ap length l.holds.ends_are, as_many_ends 0 l.holds.batches, ap length c.self.view_is)
