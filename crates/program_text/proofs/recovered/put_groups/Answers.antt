use Rattle.std.proofs.Common.{[], ◌∷◌, flat_map, length, codes, decimal}
use Rattle.model_base.specs.Text.{line}
use Rattle.program_printing.proofs.Putting.{then_put}
use Rattle.program_text.specs.ShownText.{group_line}
use Rattle.program_text.proofs.Loops.{early_of, failed_is}
use Rattle.program_text.proofs.recovered.put_groups.Goals as goal

-- once a write has failed, the lines that are left may be put
pub returns-then-has_failed : goal.returns-then-has_failed
returns-then-has_failed g c =
    let all = c.args.groups.now in
    then_put g.K.Sink _ _ _ _ _ _ (line (codes "groups" ∷ decimal (length all) ∷ [])) (flat_map group_line all) c.put_line.ensures
    (early_of g.K.Sink group_line _ _ _ _ all c.loop-group.group-index (failed_is c.loop-group.printer c.has_failed.result c.has_failed.ensures c.if-has_failed.true) c.loop-group.invariant)
