-- The disk was put behind the others, and then in front of them.
use Rattle.std.proofs.Common.{◌++◌, drop, take, ap, sym, ◌∙◌}
use Rattle.program_call.proofs.Joining.{last_in_front}
use Rattle.program_call.proofs.parting.with_others.Goals as goal

pub returns-clause-disks : goal.returns-clause-disks
returns-clause-disks g c =
    let others = c.args.others in
    let place = c.len-place.result in
    c.rotate_left.ensures.items ∙ ap (λ xs. drop place xs ++ take place xs) c.push_reserved.ensures.items ∙ last_in_front others.items c.args.ended.disk place (sym others.ok.0 ∙ sym c.len-place.ensures)
