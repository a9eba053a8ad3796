use Rattle.std.proofs.Common.{length, ap, ◌∙◌, arith}
use Rattle.std.proofs.lemmas.List.{length-reverse}
use Rattle.table_rule.specs.Batches.{new_versions}
use Rattle.engine_parts.proofs.numbering.number_one.Goals as goal
use Rattle.engine_rule.proofs.Plans.{made_length}

pub number-requires : goal.number-requires
number-requires c =
    let q = c.open-request.result.0 in
    let l = ap length q.made_of ∙ length-reverse (new_versions q.batch.records) ∙ made_length q.batch.records in
    let first = c.in-Ok.ensures.first in let last = c.in-Ok.ensures.last in let fits = c.in-Ok.ensures.fits in
    let from = c.from-count.ensures in let count = c.count.ensures in
    omega (arith, l, first, last, fits, from, count)
