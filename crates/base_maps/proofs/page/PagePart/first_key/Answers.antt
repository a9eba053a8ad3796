use Rattle.std.proofs.Common.{sym, ap, ◌∙◌, length, arith, rules}
use Rattle.base_maps.specs.Parts.{first_key_of}
use Rattle.base_maps.proofs.PageSteps.{no_pair, first_is}
use Rattle.base_maps.proofs.page.PagePart.first_key.Goals as goal

pub unreachable-requires : goal.unreachable-requires
unreachable-requires c =
    let old = c.self.inside in
    let gone = no_pair c.deref.result.now old.holds.rows old.holds.short (c.deref.ensures.value ∙ old.holds.spelled) (search rules) in
    omega (arith, c.requires, ap length (sym c.self.view_is ∙ gone))

pub returns : goal.returns
returns c =
    let old = c.self.inside in
    ap first_key_of (sym c.self.view_is)
    ∙ first_is c.deref.result.now old.holds.rows (c.in-Some.key.now, c.in-Some.field-0-1.now) c.in-Some.field-0-2.now old.holds.short
    (c.deref.ensures.value ∙ old.holds.spelled) c.in-Some.ensures
