use Rattle.std.proofs.Common.{rules}
use Rattle.base_maps.proofs.PageSteps.{front_is, front_of_none}
use Rattle.base_maps.proofs.page.front_of_first.Goals as goal

pub returns-in-Some : goal.returns-in-Some
returns-in-Some c =
    λ rows short is. front_is c.args.bytes.now rows (c.in-Some.key.now, c.in-Some.field-0-1.now) c.in-Some.field-0-2.now c.of.result short is c.in-Some.ensures c.of.ensures

pub returns-in-None : goal.returns-in-None
returns-in-None c = λ rows short is. front_of_none c.args.bytes.now rows c.of-in-None.result short is (search rules)
