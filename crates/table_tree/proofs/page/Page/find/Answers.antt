-- A step goes down to the page that has the key's chain, if there is one.
use Rattle.std.proofs.Common.{◌≡◌, List, ◌<◌, length, get_or, Some, sym, ap, ◌∙◌, subst, arith, rules}
use Rattle.table_nodes.specs.Chains.{Chain, AreSorted}
use Rattle.table_nodes.specs.Nodes.{at_key}
use Rattle.table_tree.specs.Pages.{Branch, woven}
use Rattle.table_tree.specs.Places.{IsEntry, IsPlace}
use Rattle.table_tree.specs.Newest.{chain_at}
use Rattle.table_tree.proofs.SearchSteps.{sorted_entries}
use Rattle.table_tree.proofs.Going.{page_sorted, found_in_page, found_own}
use Rattle.table_tree.proofs.Absent.{leaf_absent}
use Rattle.table_tree.proofs.page.Page.find.Goals as goal

-- c.page.inside are the fields of the page, and c.page.view_is says that its value is their view.
pub place_of-requires-clause-families : goal.place_of-requires-clause-families
place_of-requires-clause-families c = search (rules, c.page.invariant.families_are)

pub place_of-requires-clause-sorted : goal.place_of-requires-clause-sorted
place_of-requires-clause-sorted c =
    let chains = ap (λ (b : Branch). b.chains) (sym c.page.view_is) in
    let sorted = subst AreSorted chains c.loop-at.invariant.sorted in
    search (rules, sorted_entries c.page.inside.below.items c.page.inside.entries.items sorted)

pub returns-in-Ok : goal.returns-in-Ok
returns-in-Ok c =
    let below = c.page.inside.below.items in let entries = c.page.inside.entries.items in
    let key = at_key c.args.family c.args.key.now in
    let chains : c.loop-at.page.now.chains ≡ woven below entries = ap (λ (b : Branch). b.chains) (sym c.page.view_is) in
    let sorted = subst AreSorted chains c.loop-at.invariant.sorted in
    let found = found_own key entries below c.in-Ok.at sorted (subst (λ (l : List Chain). IsEntry key l c.in-Ok.at) c.deref.ensures.value (rw c.in-Ok.is at c.place_of.ensures)) c.index.result.now in
    ap Some (c.as_node.ensures ∙ c.index.ensures) ∙ sym (c.loop-at.invariant.same ∙ ap (chain_at key) chains ∙ found)

pub returns-then-at-len : goal.returns-then-at-len
returns-then-at-len c =
    let below = c.page.inside.below.items in let entries = c.page.inside.entries.items in
    let key = at_key c.args.family c.args.key.now in
    let chains : c.loop-at.page.now.chains ≡ woven below entries = ap (λ (b : Branch). b.chains) (sym c.page.view_is) in
    let place = subst (λ (l : List Chain). IsPlace key l c.in-Err.at) c.deref.ensures.value (rw c.in-Err.is at c.place_of.ensures) in
    let absent = leaf_absent key entries below c.in-Err.at place c.page.invariant.levels (search (rules, arith)) in
    sym (c.loop-at.invariant.same ∙ ap (chain_at key) chains ∙ absent)

pub loop-at-preserved : goal.loop-at-preserved
loop-at-preserved c =
    let below = c.page.inside.below.items in let entries = c.page.inside.entries.items in
    let key = at_key c.args.family c.args.key.now in
    let next = c.index-page.result.now in
    let chains : c.loop-at.page.now.chains ≡ woven below entries = ap (λ (b : Branch). b.chains) (sym c.page.view_is) in
    let sorted = subst AreSorted chains c.loop-at.invariant.sorted in
    let place = subst (λ (l : List Chain). IsPlace key l c.in-Err.at) c.deref.ensures.value (rw c.in-Err.is at c.place_of.ensures) in
    let less : c.in-Err.at < length below = search (rules, arith) in
    let is : get_or below c.in-Err.at next ≡ next = sym c.index-page.ensures in
    record {
      sorted = subst (λ (b : Branch). AreSorted b.chains) is (page_sorted key entries below c.in-Err.at sorted place c.page.invariant.levels next less);
      same = c.loop-at.invariant.same ∙ ap (chain_at key) chains ∙ found_in_page key entries below c.in-Err.at sorted place c.page.invariant.levels next less ∙ ap (λ (b : Branch). chain_at key b.chains) is;
    }
