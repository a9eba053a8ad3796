use Rattle.std.proofs.Common.{◌∙◌}
use Rattle.base_keys.proofs.Numbers.{by_high, by_low}
use Rattle.base_keys.proofs.front.order_as_numbers.Goals as goal

pub returns-then-high-other_high : goal.returns-then-high-other_high
returns-then-high-other_high c =
    c.cmp.ensures ∙ by_high c.args.bytes.now c.args.other.now c.told-bytes c.told-other c.fits-bytes c.fits-other c.number_at-high.result c.number_at-other_high.result
    c.number_at-high.ensures c.number_at-other_high.ensures c.if-high-other_high.true

pub returns : goal.returns
returns c =
    c.cmp-2.ensures ∙ by_low c.args.bytes.now c.args.other.now c.told-bytes c.told-other c.fits-bytes c.fits-other c.number_at-high.result c.number_at-other_high.result
    c.number_at-high.ensures c.number_at-other_high.ensures c.number_at.result c.number_at-2.result c.if-high-other_high.false c.number_at.ensures c.number_at-2.ensures
