-- Each step halves what is between the parts before the key and those after it.
use Rattle.std.proofs.Common.{◌+◌, ◌-◌, ◌/◌, ◌<◌, length, arith, rules}
use Rattle.base_maps.proofs.PartSteps.{some_seen, search_above, search_below}
use Rattle.base_maps.proofs.part.part_of.Goals as goal

pub is_below-requires-clause-some : goal.is_below-requires-clause-some
is_below-requires-clause-some g c =
    let i = c.loop-high.invariant in let o = i.ordered in let w = i.within in
    let middle = c.loop-high.low + (c.loop-high.high - c.loop-high.low) / 2 in
    let within : middle < length c.args.parts.now = search (rules, arith) in
    some_seen g.P.Part.rows c.args.parts.now middle c.index-parts-middle.result within c.index-parts-middle.is c.requires.filled

pub loop-high-preserved-then-is_below : goal.loop-high-preserved-then-is_below
loop-high-preserved-then-is_below g c =
    let i = c.loop-high.invariant in let o = i.ordered in let w = i.within in
    let middle = c.loop-high.low + (c.loop-high.high - c.loop-high.low) / 2 in
    let within : middle < length c.args.parts.now = search (rules, arith) in
    record {
      ordered = search (rules, arith);
      within = search (rules, arith);
      below = i.below;
      above = search_above g.P.Part.rows c.args.parts.now middle c.index-parts-middle.result within c.index-parts-middle.is c.args.key.now
          c.is_below.result c.is_below.ensures c.requires.filled c.requires.order c.if-is_below.true;
    }

pub loop-high-preserved : goal.loop-high-preserved
loop-high-preserved g c =
    let i = c.loop-high.invariant in let o = i.ordered in let w = i.within in
    let middle = c.loop-high.low + (c.loop-high.high - c.loop-high.low) / 2 in
    let within : middle < length c.args.parts.now = search (rules, arith) in
    record {
      ordered = search (rules, arith);
      within = w;
      below = search_below g.P.Part.rows c.args.parts.now middle c.index-parts-middle.result within c.index-parts-middle.is c.args.key.now
          c.is_below.result c.is_below.ensures c.requires.filled c.requires.order c.if-is_below.false;
      above = i.above;
    }
