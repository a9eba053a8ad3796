-- A batch makes a node for each record that counts, and the nodes' sequences are one run. The batch's count is a
-- `u32`.
use Rattle.std.proofs.Common.{◌≡◌, ◌+◌, length, reverse, ◌∙◌, sym, ap, subst, arith}
use Rattle.table_rule.specs.Batches.{new_versions}
use Rattle.table_rule.specs.Histories.{Runs}
use Rattle.engine_rule.proofs.Plans.{made_length, numbered_length}
use Rattle.std.proofs.lemmas.List.{length-reverse}
use Rattle.tests_table.proofs.Numbering.{numbered_runs}
use Rattle.tests_table.proofs.tests.nodes.nodes_behind.Goals as goal

pub number-requires : goal.number-requires
number-requires g c =
    let few : length c.in-Ok.nodes ≡ c.count-records.result = ap length c.in-Ok.ensures ∙ length-reverse (new_versions c.batch_of-batch.result.records) ∙ made_length c.batch_of-batch.result.records ∙ sym c.count-records.ensures in
    record { count = sym few; fits = omega arith }

pub returns-clause-run : goal.returns-clause-run
returns-clause-run g c =
    let turned = reverse c.in-Ok.nodes in
    let few : length turned ≡ c.count-records.result =
    length-reverse c.in-Ok.nodes ∙ ap length c.in-Ok.ensures ∙ length-reverse (new_versions c.batch_of-batch.result.records) ∙ made_length c.batch_of-batch.result.records ∙ sym c.count-records.ensures in
    (subst (Runs c.args.last) (sym c.number.ensures) (numbered_runs c.args.last turned), ap length c.number.ensures ∙ numbered_length (c.args.last + 1) turned ∙ few)
