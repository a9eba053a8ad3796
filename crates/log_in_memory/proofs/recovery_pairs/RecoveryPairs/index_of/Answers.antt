use Rattle.std.proofs.Common.{rules, sym, ap, ◌∙◌, subst}
use Rattle.std.proofs.lemmas.List.Sorted.{IsPartitionPoint-from_clause}
use Rattle.std.specs.List.Sorted.{IsStrictlySortedBy}
use Rattle.std.specs.Map.{keys_of}
use Rattle.model_base.specs.Map.{Pairs, key_at, key_order}
use Rattle.log_in_memory.specs.InOrder.{keys_before}
use Rattle.log_in_memory.proofs.InOrder.{before, counted, first, key_total}
use Rattle.log_in_memory.proofs.recovery_pairs.RecoveryPairs.index_of.Goals as goal

-- the pairs are in order, so that those before the key come first
pub returns : goal.returns
returns c =
    let key = key_at c.args.family c.args.key.now in let all = c.args.self.now in let is = c.as_slice.ensures.value in
    let sorted = first key_order key_total key c.as_slice.result.now (subst (λ (l : Pairs). IsStrictlySortedBy key_order (keys_of l)) (sym is) all.ordered) in
    let cut = IsPartitionPoint-from_clause (before key_order key_total key) c.as_slice.result.now c.partition_point.result c.partition_point.ensures.partitioned sorted (λ x r f' k. search rules) in
    let there = counted key_order key_total key c.as_slice.result.now c.partition_point.result c.partition_point.ensures.bound cut.0 cut.1 in
    sym there ∙ ap (λ (l : Pairs). keys_before l key) is
