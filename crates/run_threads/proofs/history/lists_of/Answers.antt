use Rattle.std.proofs.Common.{[], ◌∷◌, ◌++◌, map, ap, sym, ◌∙◌}
use Rattle.std.proofs.lemmas.List.{map-append, map-id}
use Rattle.std.proofs.lemmas.Iterator.Adapters.{YieldsList-from_vec}
use Rattle.std.proofs.lemmas.Iterator.Consumers.{YieldsList-end}
use Rattle.run_threads.specs.Answers.{accepted_in}
use Rattle.run_threads.proofs.history.lists_of.Goals as goal

pub loop-own-preserved : goal.loop-own-preserved
loop-own-preserved c =
    c.in_ok-push.ensures.items
    ∙ (ap (λ l. l ++ c.in_ok-list_of.field-0 ∷ []) c.loop-own.invariant
    ∙ (ap (λ own. map accepted_in c.loop-own.yielded ++ own ∷ []) c.in_ok-list_of.ensures ∙ sym (map-append accepted_in c.loop-own.yielded (c.in-Some.own ∷ []))))

pub returns : goal.returns
returns c =
    let gives = c.into_iter-own-iterator.ensures.into_iter_gives in
    let end = YieldsList-end (YieldsList-from_vec {s = c.into_iter-own-iterator.result} c.args.batches.items gives.0 (gives.1 ∙ c.args.batches.ok.0)) c.loop-own.yielded c.loop-own.own-iterator c.loop-own.yielded_by c.next.result c.next.new.self c.in-None.is c.next.ensures.steps in
    c.loop-own.invariant ∙ ap (map accepted_in) (sym (map-id c.loop-own.yielded) ∙ end.0)
