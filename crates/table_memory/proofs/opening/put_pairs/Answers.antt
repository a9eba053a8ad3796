-- The next pair is new to its tree, and then the tree has it.
use Rattle.std.proofs.Common.{◌≡◌, ℕ, List, [], ◌∷◌, ◌++◌, length, set, refl, sym, ap, ◌∙◌, subst, arith, append_assoc, append-nil, length-set}
use Rattle.std.specs.List.Sorted.{IsStrictlySortedBy}
use Rattle.std.specs.Map.{keys_of}
use mathlib.Core.Option.{some}
use lib.ListN.{get_elem?}
use Rattle.model_base.specs.declared.key.Key.{Key}
use Rattle.model_base.specs.Map.{Pairs, key_order}
use Rattle.table_rule.specs.declared.content.Version.{Version}
use Rattle.table_rule.specs.Histories.{shard_of, versions_at}
use Rattle.table_rule.specs.Steps.{Adds}
use Rattle.table_rule.proofs.Bases.{version_at}
use Rattle.table_tree.specs.Rows.{at_key}
use Rattle.table_tree.specs.Shapes.{Shape, versions_in}
use Rattle.table_tree.specs.Versions.{IsNew, insert_version}
use Rattle.table_tree.proofs.Adding.{insert_adds}
use Rattle.table_steps.specs.Ends.{BearBase}
use Rattle.table_memory.proofs.Planting.{at_index, none_put, next_new, one_put}
use Rattle.table_memory.proofs.opening.put_pairs.Goals as goal

pub loop-family-init : goal.loop-family-init
loop-family-init c =
    (refl, ([], sym (c.into_iter-family-iterator.ensures.into_iter_gives ∙ c.iter-family-items.ensures), none_put c.args.sequence c.args.trees.now c.requires.empty))

pub insert-requires : goal.insert-requires
insert-requires c =
    let v = c.loop-family.invariant in let front : Pairs = v.1.0 in let n : ℕ = c.args.sequence in let p : Key × List ℕ = (at_key c.in-Some.family c.in-Some.key.now, c.in-Some.value.now) in
    let j : ℕ = c.shard_of.result in let old : Shape = c.index-trees-shard_of.result in
    let count = v.0 in let within = c.shard_of.ensures.within in
    let here : get_elem? c.loop-family.trees j ≡ some old = at_index c.loop-family.trees j old (omega arith) ∙ ap some (sym c.index-trees-shard_of.is) in
    let cut : c.args.map.now ≡ front ++ p ∷ c.next.new.self = v.1.1 ∙ ap (λ (m : Pairs). front ++ m) c.in-Some.ensures.steps in
    let new : IsNew (version_at n p) (versions_in old) = next_new n front p c.loop-family.trees v.1.2 j old here c.next.new.self (subst (λ (m : Pairs). IsStrictlySortedBy key_order (keys_of m)) cut c.in_order.ensures) in
    subst (λ (t : Version × Shape). IsNew t.0 (versions_in t.1)) (λ i. (sym c.in_ok-node.ensures i, c.index-trees-shard_of.is i)) new

pub loop-family-preserved : goal.loop-family-preserved
loop-family-preserved c =
    let v = c.loop-family.invariant in let front : Pairs = v.1.0 in let n : ℕ = c.args.sequence in let p : Key × List ℕ = (at_key c.in-Some.family c.in-Some.key.now, c.in-Some.value.now) in
    let j : ℕ = c.shard_of.result in let old : Shape = c.index-trees-shard_of.result in let new : Shape = c.insert.new.self in
    let count = v.0 in let within = c.shard_of.ensures.within in
    let here : get_elem? c.loop-family.trees j ≡ some old = at_index c.loop-family.trees j old (omega arith) ∙ ap some (sym c.index-trees-shard_of.is) in
    let cut : c.args.map.now ≡ front ++ p ∷ c.next.new.self = v.1.1 ∙ ap (λ (m : Pairs). front ++ m) c.in-Some.ensures.steps in
    let fresh : IsNew (version_at n p) (versions_in old) = next_new n front p c.loop-family.trees v.1.2 j old here c.next.new.self (subst (λ (m : Pairs). IsStrictlySortedBy key_order (keys_of m)) cut c.in_order.ensures) in
    let is : versions_in new ≡ insert_version (versions_in old) (version_at n p) =
    c.insert.ensures.versions ∙ (λ i. insert_version (versions_in (sym c.index-trees-shard_of.is i)) (c.in_ok-node.ensures i)) in
    let adds : Adds (versions_in old) (version_at n p) (versions_in new) = subst (Adds (versions_in old) (version_at n p)) (sym is) (insert_adds (version_at n p) (versions_in old) fresh) in
    let shard : shard_of (length c.loop-family.trees) (version_at n p) ≡ j = ap (λ (k : ℕ). shard_of k (version_at n p)) count ∙ sym c.shard_of.ensures.shard in (
      length-set c.loop-family.trees j new ∙ count,
      (
        front ++ p ∷ [],
        cut ∙ sym (append_assoc front (p ∷ []) c.next.new.self),
        one_put n front p c.loop-family.trees v.1.2 j old here new (set c.loop-family.trees j new) refl adds shard,
      ),
    )

pub returns-clause-put : goal.returns-clause-put
returns-clause-put c =
    let v = c.loop-family.invariant in
    let all : v.1.0 ≡ c.args.map.now = sym (v.1.1 ∙ ap (λ (m : Pairs). v.1.0 ++ m) c.in-None.ensures.steps.0 ∙ append-nil v.1.0) in
    subst (λ (m : Pairs). BearBase versions_in (versions_at c.args.sequence m) c.loop-family.trees) all v.1.2
