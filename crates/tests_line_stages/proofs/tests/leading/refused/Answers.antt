use Rattle.std.proofs.Common.{◌++◌, refl, sym, ap, ◌∙◌}
use Rattle.line_writers.specs.Roles.{firsts}
use Rattle.line_writers.specs.Seats.{start_of}
use Rattle.line_rule.specs.Chain.{all_answers}
use Rattle.tests_line.specs.declared.counter.CountRequest.{CountRequest}
use Rattle.tests_line.specs.declared.counter.CountReply.{CountReply}
use Rattle.tests_line.proofs.Replies.{none_given}
use Rattle.tests_line_stages.proofs.Replies.{none_numbered}
use Rattle.tests_line_stages.proofs.tests.leading.refused.Goals as goal

pub exit-requires-clause-group : goal.exit-requires-clause-group
exit-requires-clause-group c =
    let f = c.requires.group in let t = f.1 in
    let p = c.replies_in_order.ensures t.1 t.2 c.answer_all.new.replies.list.items (c.answer_all.ensures.replies ∙ ap firsts t.6) in
    let all = t.4 ++ all_answers t.1 p.1 p.0 in
    (f.0, (t.0, t.1, t.2, t.3, t.4, p.0, p.1, t.5, p.2, p.3, ((refl, refl, sym (none_given {Q = CountRequest} {P = CountReply} (start_of c.args.list.now) all c.requires.pipelined.0)), λ e. none_numbered {Q = CountRequest} {P = CountReply} all ∙ sym (none_numbered {Q = CountRequest} {P = CountReply} t.4))))
