use Rattle.std.proofs.Common.{ℕ, List, ◌∙◌, rules}
use Rattle.std.proofs.lemmas.List.Sorted.{ranks_by, answers_always, IsPermutation-trans}
use Rattle.std.proofs.lemmas.Cmp.{nat_list_cmp_total}
use Rattle.table_memory.proofs.Ordered.{is_before, in_order}
use Rattle.table_memory.proofs.scanning.in_byte_order.Goals as goal

pub returns : goal.returns
returns c rising s moved =
    c.from_vec.ensures
    ∙ in_order rising c.sort_unstable_by.new.self.items s (IsPermutation-trans rising c.args.rows.items c.sort_unstable_by.new.self.items moved c.sort_unstable_by.ensures.permutation)
    (c.sort_unstable_by.ensures.sorted is_before (ranks_by nat_list_cmp_total (λ (e : List ℕ × List ℕ). e.0)) (answers_always _ _ _ (λ f a r g h. search rules)))
