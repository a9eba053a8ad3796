use Rattle.std.proofs.Common.{◌∙◌, length-set}
use Rattle.engine_groups.proofs.FirstPass.{first_pass, noted_first}
use Rattle.engine_groups.proofs.opening.first_note.Goals as goal

pub note-requires : goal.note-requires
note-requires g c =
    let h = c.requires.passes in
    record { own = (first_pass c.args.controller.now 1 c.args.passes.now.items c.index_mut.result.now h.1 c.index_mut.ensures.value h.0).own }

pub returns-clause-passes : goal.returns-clause-passes
returns-clause-passes g c =
    let h = c.requires.passes in let xs = c.args.passes.now.items in let q = c.note.new.pass in let own = c.note.ensures.own in
    (noted_first c.args.controller.now 1 xs c.index_mut.result.now q h.1 c.index_mut.ensures.value own.0 own.1 c.note.ensures.seen h.0, length-set xs 0 q)

pub returns-clause-note : goal.returns-clause-note
returns-clause-note g c =
    let h = c.requires.passes in let note = c.note.ensures.note in
    (note.0, note.1 ∙ (first_pass c.args.controller.now 1 c.args.passes.now.items c.index_mut.result.now h.1 c.index_mut.ensures.value h.0).unseen)
