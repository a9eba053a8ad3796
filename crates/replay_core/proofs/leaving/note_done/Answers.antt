use Rattle.std.proofs.Common.{◌≡◌, Some, None, sym, ◌∙◌, ap}
use Rattle.replay_core.specs.Mirrors.{done_of}
use Rattle.replay_core.specs.declared.writer.Writer.{Writer}
use Rattle.replay_core.proofs.LeavingLemmas.{done_more, note_none, note_some}
use Rattle.replay_core.proofs.leaving.note_done.Goals as goal

pub returns-in-None-clause-noted : goal.returns-in-None-clause-noted
returns-in-None-clause-noted c = λ plans leaving are client.
    let w : Writer = c.args.writer in
    let old = c.args.done.now.items in
    let none : done_of old w.client ≡ None = ap (λ ds. done_of ds w.client) (sym c.deref.ensures.value) ∙ sym c.in-None.ensures in
    done_more plans old _ leaving w are (note_none old _ w none (c.set_done.ensures.set client.from_one client.few))

pub returns-in-Some-clause-noted : goal.returns-in-Some-clause-noted
returns-in-Some-clause-noted c = λ plans leaving are client.
    let w : Writer = c.args.writer in
    let old = c.args.done.now.items in
    let some : done_of old w.client ≡ Some _ = ap (λ ds. done_of ds w.client) (sym c.deref.ensures.value) ∙ sym c.in-Some.ensures in
    done_more plans old old leaving w are (note_some old w _ some)
