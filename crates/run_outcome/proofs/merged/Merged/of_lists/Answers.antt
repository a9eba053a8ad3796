use Rattle.std.proofs.Common.{rules, refl, ap, ◌∙◌}
use Rattle.std.proofs.lemmas.List.Sorted.{IsNonDecreasingBy-from_sort_by_key, answers_always}
use Rattle.run_outcome.specs.declared.places.BatchPlace.{BatchPlace}
use Rattle.run_outcome.specs.Places.{places_by}
use Rattle.run_outcome.proofs.Merging.{none, are_places, merged_rise, merged_keep}
use Rattle.run_outcome.proofs.Ties.{of_number}
use Rattle.run_outcome.proofs.merged.Merged.of_lists.Goals as goal

pub invariant_of-result : goal.invariant_of-result
invariant_of-result c =
    let all = c.in_ok-order.ensures ∙ ap (places_by 1) c.deref.ensures.value in
    are_places c.args.lists.items c.in_ok-order.order.items c.sort_by_key.new.self.items all c.sort_by_key.ensures.permutation

pub returns-clause-rising : goal.returns-clause-rising
returns-clause-rising c =
    let all = c.in_ok-order.ensures ∙ ap (places_by 1) c.deref.ensures.value in
    merged_rise c.args.lists.items c.in_ok-order.order.items c.sort_by_key.new.self.items all c.sort_by_key.ensures.permutation
    (IsNonDecreasingBy-from_sort_by_key (λ (p : BatchPlace). p.first) _ c.in_ok-sort_by_key.ensures.sorted (λ a r f k. search rules))

pub returns-clause-kept : goal.returns-clause-kept
returns-clause-kept c k =
    let all = c.in_ok-order.ensures ∙ ap (places_by 1) c.deref.ensures.value in
    merged_keep c.args.lists.items c.in_ok-order.order.items c.sort_by_key.new.self.items all c.sort_by_key.ensures.permutation k
    (of_number (λ (p : BatchPlace). p.first) (none k) k refl c.sort_by_key.new.self.items c.in_ok-order.order.items
    (c.in_ok-sort_by_key.ensures.stable (λ (p : BatchPlace). p.first) (answers_always _ _ _ (λ f a r f' q. search rules)) (none k)))
