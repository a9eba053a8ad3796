use Rattle.std.proofs.Common.{◌≡◌, [], ◌∷◌, flat_map, length, codes, decimal, rules}
use Rattle.model_base.specs.Text.{line}
use Rattle.program_printing.proofs.Putting.{same_put, then_put}
use Rattle.program_text.specs.ShownText.{entry_line}
use Rattle.program_text.proofs.Clients.{entry_same, place_more}
use Rattle.program_text.proofs.Loops.{early_of, failed_is, one_more}
use Rattle.program_text.proofs.parts.put_history.Goals as goal

-- the next line is put after those before
pub loop-at-preserved : goal.loop-at-preserved
loop-at-preserved g c =
    let history = c.args.history.now in
    let i = c.loop-at.at in
    let entry = c.entry-entry.result in
    one_more g.K.Sink entry_line _ _ _ _ _ _ history i entry (place_more history i entry c.entry-entry.ensures) c.loop-at.invariant
    (same_put g.K.Sink _ _ _ _ _ _ (entry_same entry c.bytes.result.now c.bytes.ensures) c.put_entry.ensures)

-- once a write has failed, the lines that are left may be put
pub returns-then-has_failed : goal.returns-then-has_failed
returns-then-has_failed g c =
    let all = c.args.history.now in
    let head : line (codes "history" ∷ decimal c.len.result ∷ []) ≡ line (codes "history" ∷ decimal (length all) ∷ []) = search rules in
    then_put g.K.Sink _ _ _ _ _ _ (line (codes "history" ∷ decimal (length all) ∷ [])) (flat_map entry_line all) (same_put g.K.Sink _ _ _ _ _ _ head c.put_line.ensures)
    (early_of g.K.Sink entry_line _ _ _ _ all c.loop-at.at (failed_is c.loop-at.printer c.has_failed.result c.has_failed.ensures c.if-has_failed.true) c.loop-at.invariant)
