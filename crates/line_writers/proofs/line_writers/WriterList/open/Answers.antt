use Rattle.std.proofs.Common.{ℕ, List, length, get_or, ap, ◌∙◌, refl, arith}
use Rattle.std.proofs.lemmas.List.{length-replicate}
use Rattle.line_rule.specs.declared.content.LineSlot.TheVariants.{Empty, TheLog, TheRight}
use Rattle.line_rule.proofs.Opens.{opens}
use Rattle.line_writers.proofs.Contents.{length_between}
use Rattle.line_writers.proofs.News.{zeros, zeros_one}
use Rattle.line_writers.proofs.line_writers.WriterList.open.Goals as goal

pub new-requires : goal.new-requires
new-requires g c =
    let q = c.requires.clients in let e = c.as_slice.ensures.value ∙ c.in-Ok-vec.ensures.items_if_clones_equal (λ y is. is) in
    opens _ _ c.as_slice.result.now c.in-Ok-slots_for.slots.items c.args.log c.args.right (omega arith) (ap length e ∙ length-replicate _ _) (ap (λ (l : List ℕ). get_or l 0 0) e ∙ zeros _ 0 refl, ap (λ (l : List ℕ). get_or l 1 0) e ∙ zeros_one _ 0 refl) c.in-Ok-slots_for.ensures.ok (c.requires.log.0, c.requires.log.1, c.requires.numbers.0) c.requires.numbers.1 (λ _. refl)

pub invariant_of-list : goal.invariant_of-list
invariant_of-list g c =
    let o = c.in-Ok-new.ensures.ok in let q = c.requires.clients in
    let words = c.as_slice.ensures.value ∙ c.in-Ok-vec.ensures.items_if_clones_equal (λ y is. is) in
    record {
      sized = (o.0 ∙ (ap length words ∙ length-replicate _ _), o.1 ∙ (ap length c.in-Ok-slots_for.ensures.ok ∙ length_between c.args.start.now.clients (TheLog c.args.log) Empty (TheRight c.args.right)), ap (λ k. k.clients) o.5, q.1, ap (λ k. k.group_bytes) o.5);
      some = q.0;
    }

pub returns-in-Err-new-clause-err : goal.returns-in-Err-new-clause-err
returns-in-Err-new-clause-err g c = c.unmade.ensures c.args.log c.args.right (c.in-Err-new.ensures.err ∙ c.in-Ok-slots_for.ensures.ok)
