-- Each next pair is put after those that the map has.
use Rattle.std.proofs.Common.{◌<◌, length, slice_index_or, ◌∙◌, ap, subst}
use Rattle.model_base.specs.Map.{Pairs}
use Rattle.log_in_memory.proofs.InOrder.{pair_put}
use Rattle.log_in_memory.proofs.recovery_pairs.RecoveryPairs.to_map.Goals as goal

pub loop-pair-preserved : goal.loop-pair-preserved
loop-pair-preserved c =
    let all = c.args.self.now.pairs.items in let i = c.loop-pair.pair-index in let p = c.pair-item.result in let same = c.deref-pair-items.ensures.value in
    pair_put all c.loop-pair.map c.insert.new.self i c.pair.inside.family c.pair.inside.key c.pair.inside.value c.as_slice.result.now c.as_slice-in-loop-pair.result.now p c.args.self.now.ordered
    (subst (λ (l : Pairs). i < length l) same c.loop-pair-test.true) c.loop-pair.invariant (c.pair-item.is ∙ ap (λ (l : Pairs). slice_index_or l i p) same) c.pair.view_is
    c.as_slice.ensures c.as_slice-in-loop-pair.ensures c.in_ok-insert.ensures.ok
