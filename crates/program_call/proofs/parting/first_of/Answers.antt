-- The first disk was taken out, so there is room for it.
use Rattle.std.proofs.Common.{◌∷◌, sym, ap, ◌∙◌}
use Rattle.program_call.proofs.Joining.{first_and_rest}
use Rattle.program_call.proofs.parting.first_of.Goals as goal

pub returns-clause-items : goal.returns-clause-items
returns-clause-items g c =
    let first = c.remove-first.result in
    first_and_rest c.args.disks.items first c.requires c.remove-first.ensures.value ∙ ap (λ xs. first ∷ xs) (sym c.remove-first.ensures.items)
