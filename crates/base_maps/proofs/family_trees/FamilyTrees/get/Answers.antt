use Rattle.std.proofs.Common.{sym, ap, ◌∙◌, [], Option}
use Rattle.std.specs.Option.{option_copied, unwrap_or}
use Rattle.model_base.specs.Map.{Rows}
use Rattle.base_maps.proofs.Families.{found_first, found_other}
use Rattle.base_maps.proofs.family_trees.FamilyTrees.get.Goals as goal

pub returns-then-family-eq0 : goal.returns-then-family-eq0
returns-then-family-eq0 c =
    c.get.ensures ∙ found_first c.args.family c.args.key.now _ _ _ c.self.invariant c.self.view_is c.if-family-eq0.true

pub returns-in_err-get : goal.returns-in_err-get
returns-in_err-get c =
    ap option_copied c.from_residual.ensures
    ∙ found_other c.args.family c.args.key.now _ [] _ _ c.self.invariant c.self.view_is c.if-family-eq0.false
    (ap (λ (o : Option Rows). unwrap_or o []) (sym c.get-2.ensures.value ∙ ap option_copied c.in_err-get.was))

pub returns : goal.returns
returns c =
    c.get-3.ensures
    ∙ found_other c.args.family c.args.key.now _ _ _ _ c.self.invariant c.self.view_is c.if-family-eq0.false
    (ap (λ (o : Option Rows). unwrap_or o []) (sym c.get-2.ensures.value ∙ ap option_copied c.in_ok-get.was))
