use Rattle.std.proofs.Common.{◌<◌, [], ◌∷◌, flat_map, length, codes, decimal}
use Rattle.model_base.specs.Text.{line}
use Rattle.program_printing.proofs.Putting.{same_put, then_put}
use Rattle.program_text.specs.ShownText.{entry_line}
use Rattle.program_text.proofs.Clients.{entry_same, item_more}
use Rattle.program_text.proofs.Loops.{early_of, failed_is, one_more}
use Rattle.program_text.proofs.parts.put_entries.Goals as goal

-- the next line is put after those before
pub loop-entry-preserved : goal.loop-entry-preserved
loop-entry-preserved g c =
    let entries = c.args.entries.now in
    let i = c.loop-entry.entry-index in
    let entry = c.entry-item.result in
    let here : i < length entries = c.loop-entry-test.true in
    one_more g.K.Sink entry_line _ _ _ _ _ _ entries i entry (item_more entries i entry here c.entry-item.is) c.loop-entry.invariant
    (same_put g.K.Sink _ _ _ _ _ _ (entry_same entry c.bytes.result.now c.bytes.ensures) c.put_entry.ensures)

-- once a write has failed, the lines that are left may be put
pub returns-then-has_failed : goal.returns-then-has_failed
returns-then-has_failed g c =
    let all = c.args.entries.now in
    then_put g.K.Sink _ _ _ _ _ _ (line (codes "history" ∷ decimal (length all) ∷ [])) (flat_map entry_line all) c.put_line.ensures
    (early_of g.K.Sink entry_line _ _ _ _ all c.loop-entry.entry-index (failed_is c.loop-entry.printer c.has_failed.result c.has_failed.ensures c.if-has_failed.true) c.loop-entry.invariant)
