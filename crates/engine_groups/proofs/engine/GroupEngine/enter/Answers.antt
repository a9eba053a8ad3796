use Rattle.std.proofs.Common.{ℕ, List, Some, sym, ap, ◌∙◌, subst}
use Rattle.line_writers.specs.Seats.{IsIn, answers_told}
use Rattle.engine_controller.specs.Passes.{seen_by}
use Rattle.engine_parts.specs.declared.requests.Request.{Request}
use Rattle.engine_parts.specs.declared.requests.Answer.{Answer}
use Rattle.engine_parts.specs.Asking.{OnlyLooks}
use Rattle.engine_groups.specs.Law.{law_in}
use Rattle.engine_groups.proofs.AtStall.{if_err, if_ok, looks_on}
use Rattle.engine_groups.proofs.engine.GroupEngine.enter.Goals as goal

pub returns-then-not-item-clause-linked : goal.returns-then-not-item-clause-linked
returns-then-not-item-clause-linked g c =
    let N = c.note.ensures in (
      c.note.result,
      N.note.1 ∙ sym N.seen,
      subst (λ (q : Request). IsIn (law_in g.Versions.Table c.args.self.now.list) q (answers_told c.args.client.now.writer) c.link.new.writer) c.put_note.ensures c.link.ensures.linked.1,
    )

pub returns-in_default-clause-linked : goal.returns-in_default-clause-linked
returns-in_default-clause-linked g c =
    let v = c.loop.invariant in let L = if_ok _ c.try_link.result c.in_default.not-Err c.try_link.ensures.linked in (
      v.note,
      v.noted,
      subst (λ (z : Request × List (Request × Answer)). IsIn (law_in g.Versions.Table c.args.self.now.list) z.0 z.1 c.try_link.new.writer) (λ i. (v.request i, v.told i)) L.1,
    )

pub loop-preserved : goal.loop-preserved
loop-preserved g c =
    let v = c.loop.invariant in let T = c.try_link.ensures in let A = c.turn_away_if_stalled.ensures in let N = c.note-in-loop.ensures in
    let B = if_err _ c.try_link.result c.in-Err.back c.in-Err.is T.back in
    let R = if_err _ c.turn_away_if_stalled.result c.in-Err-turn_away_if_stalled.back c.in-Err-turn_away_if_stalled.is A.back in
    let k = c.args.client.now.number in let known = seen_by c.args.client.now.pass in
    let looked = subst (λ (n : ℕ). OnlyLooks n (seen_by c.loop.client.pass) (seen_by c.turn_away_if_stalled.new.pass)) (ap (λ x. x.number) v.same) A.looks in
    let note = c.note-in-loop.result in
    record {
      next = tt;
      finite = tt;
      same = λ i. record (v.same i) { writer = c.try_link.new.writer; pass = c.note-in-loop.new.pass };
      belongs = T.belongs;
      writer_client = T.client ∙ v.writer_client;
      out = B.1;
      told = B.2 ∙ v.told;
      own = N.own.0;
      pass = N.own.1 ∙ (A.pass.1 ∙ v.pass);
      looks = subst (λ l. OnlyLooks k known l) (sym N.seen) (looks_on k known (seen_by c.loop.client.pass) (seen_by c.turn_away_if_stalled.new.pass) v.looks looked);
      note = note;
      is_note = N.note.0;
      noted = N.note.1 ∙ sym N.seen;
      request = c.put_note-in-loop.ensures ∙ ap (λ (r : Request). record r { note = Some note }) (R ∙ (B.0 ∙ v.request));
    }
