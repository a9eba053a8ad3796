use Rattle.std.proofs.Common.{List, sym, ◌∙◌, subst}
use Rattle.line_writers.specs.Seats.{law_of, answers_told, IsIn}
use Rattle.line_writers.proofs.Same.{missed, shows_told, stalled}
use Rattle.line_writers.proofs.line_writers.WriterList.link.Goals as goal

pub loop-init : goal.loop-init
loop-init g c =
    let n = c.enter.ensures.entering in let s = shows_told c.args.request (answers_told c.args.writer.now) c.enter.new.writer n.1 in (tt, tt, c.enter.ensures.client, n.0, s.0, s.1)

pub poll_link-requires-clause-entering : goal.poll_link-requires-clause-entering
poll_link-requires-clause-entering g c = (c.loop.invariant.3, (c.args.request, c.loop.invariant.4, c.requires.item.0, c.requires.lawful))

pub returns-in-Linked-clause-client : goal.returns-in-Linked-clause-client
returns-in-Linked-clause-client g c = c.poll_link.ensures.client.0 ∙ c.loop.invariant.2

pub returns-in-Linked-clause-linked : goal.returns-in-Linked-clause-linked
returns-in-Linked-clause-linked g c =
    let law = law_of g.Reply.GivesRun.run_of g.Log.LogOfGroups c.args.self.now in (
      c.poll_link.ensures.client.1,
      subst (λ (mine : List (g.row.Request.Denot × g.row.Reply.Denot)). IsIn law c.args.request mine c.poll_link.new.writer) c.loop.invariant.5 (c.poll_link.ensures.linked c.args.request c.loop.invariant.4 c.in-Linked.is),
    )

pub loop-preserved-in-Missed : goal.loop-preserved-in-Missed
loop-preserved-in-Missed g c =
    let s = shows_told c.args.request (answers_told c.loop.writer) c.poll_link.new.writer (c.poll_link.ensures.not_yet c.args.request c.loop.invariant.4 (λ e. missed (sym c.in-Missed.is ∙ e))) in
    (tt, tt, c.poll_link.ensures.client.0 ∙ c.loop.invariant.2, c.poll_link.ensures.client.1, s.0, s.1 ∙ c.loop.invariant.5)

pub loop-preserved : goal.loop-preserved
loop-preserved g c =
    let s = shows_told c.args.request (answers_told c.loop.writer) c.poll_link.new.writer (c.poll_link.ensures.not_yet c.args.request c.loop.invariant.4 (λ e. stalled (sym c.in-Stalled.is ∙ e))) in
    (tt, tt, c.poll_link.ensures.client.0 ∙ c.loop.invariant.2, c.poll_link.ensures.client.1, s.0, s.1 ∙ c.loop.invariant.5)
