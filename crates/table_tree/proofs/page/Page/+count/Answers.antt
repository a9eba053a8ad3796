-- The page below is lower, and its chains are sorted.
use Rattle.std.proofs.Common.{◌<◌, length, sym, ap, subst, rules}
use Rattle.table_nodes.specs.Chains.{AreSorted}
use Rattle.table_tree.specs.Pages.{Branch, woven, height_of}
use Rattle.table_tree.proofs.SearchSteps.{sorted_entries}
use Rattle.table_tree.proofs.PageAt.{sorted_below, lower_below}
use Rattle.table_tree.proofs.page.Page.+count.Goals as goal

pub count_below-count_within-requires : goal.count_below-count_within-requires
count_below-count_within-requires t c =
    let entries = c.self.inside.entries.items in let below = c.self.inside.below.items in let d = c.index.result.now in
    let less : c.args.at < length below = search rules in
    let sorted : AreSorted (woven below entries) = subst AreSorted (sym (ap (λ (b : Branch). b.chains) c.self.view_is)) c.requires in
    let height = ap (λ (b : Branch). b.height) c.self.view_is in
    let smaller : d.height < c.args.self.now.height = subst (λ n. d.height < n) height (subst (λ (b : Branch). b.height < height_of below) (sym c.index.ensures) (lower_below entries below c.args.at d c.self.invariant.levels less)) in
    (search rules, subst (λ (b : Branch). AreSorted b.chains) (sym c.index.ensures) (sorted_below entries below c.args.at d c.self.invariant.levels less sorted))

pub count_within-start_of-start-requires-clause-sorted : goal.count_within-start_of-start-requires-clause-sorted
count_within-start_of-start-requires-clause-sorted t c =
    let entries = c.self.inside.entries.items in let below = c.self.inside.below.items in
    let sorted : AreSorted (woven below entries) = subst AreSorted (sym (ap (λ (b : Branch). b.chains) c.self.view_is)) c.requires in
    subst AreSorted (sym c.deref.ensures.value) (sorted_entries below entries sorted)

pub count_within-start_of-stop-requires-clause-sorted : goal.count_within-start_of-stop-requires-clause-sorted
count_within-start_of-stop-requires-clause-sorted t c =
    let entries = c.self.inside.entries.items in let below = c.self.inside.below.items in
    let sorted : AreSorted (woven below entries) = subst AreSorted (sym (ap (λ (b : Branch). b.chains) c.self.view_is)) c.requires in
    subst AreSorted (sym c.deref-2.ensures.value) (sorted_entries below entries sorted)
