-- Where a full page below is split, the place is sought once more, and is on one of the two sides of the new entry.
use Rattle.std.proofs.Common.{◌≡◌, ◌<◌, ◌≤◌, [], length, sym, ◌∙◌, subst, arith}
use Rattle.std.specs.List.{AllByRecursion}
use Rattle.model_base.specs.declared.key.Key.{Key}
use Rattle.table_nodes.specs.Chains.{AreSorted}
use Rattle.table_nodes.specs.Nodes.{at_key, own_key}
use Rattle.table_tree.specs.Places.{IsOfFamilies, IsPlace}
use Rattle.table_tree.proofs.SearchSteps.{sorted_entries}
use Rattle.table_tree.proofs.SplitPages.{same_chains, height_split}
use Rattle.table_tree.proofs.Kept.{split_page}
use Rattle.table_tree.proofs.PageAt.{lower_of}
use Rattle.table_tree.proofs.Ways.{middle_at, way_again}
use Rattle.table_tree.proofs.insertion.way_of.Goals as goal

pub place_of-requires-clause-sorted : goal.place_of-requires-clause-sorted
place_of-requires-clause-sorted c =
    subst AreSorted (sym c.deref.ensures.value) (sorted_entries c.args.below.now.items c.args.entries.now.items c.requires.sorted)

pub place_of-requires-then-is_full-clause-families : goal.place_of-requires-then-is_full-clause-families
place_of-requires-then-is_full-clause-families c =
    let s = (c.in_ok-split_below.ensures {u = tt}).ok in
    let news = c.split_below.new.entries in let others = c.split_below.new.below in let e = c.index-then-is_full.result.now in
    let g = c.with.result in
    let page = split_page c.args.families.now c.args.entries.now c.args.below.now c.requires.page c.requires.room c.in-Err.at news others s e
    (c.index-then-is_full.ensures ∙ middle_at c.args.entries.now.items c.args.below.now.items c.in-Err.at news.items others.items s e) g (c.with.ensures.lowest.0, subst (λ n. c.with.result.lowest ≤ n) c.family-then-is_full.ensures c.with.ensures.lowest.1) (c.with.ensures.greatest.0, subst (λ n. n ≤ c.with.result.greatest) c.family-then-is_full.ensures c.with.ensures.greatest.1) c.split_below.ensures.capacity.0 c.split_below.ensures.capacity.1 in
    subst (AllByRecursion (IsOfFamilies g.lowest g.greatest)) (sym c.deref-then-is_full.ensures.value) page.families_are

pub place_of-requires-then-is_full-clause-sorted : goal.place_of-requires-then-is_full-clause-sorted
place_of-requires-then-is_full-clause-sorted c =
    let s = (c.in_ok-split_below.ensures {u = tt}).ok in
    let news = c.split_below.new.entries in let others = c.split_below.new.below in
    let same = same_chains c.args.entries.now.items c.args.below.now.items c.in-Err.at news.items others.items s in
    subst AreSorted (sym c.deref-then-is_full.ensures.value) (sorted_entries others.items news.items (subst AreSorted (sym same) c.requires.sorted))

pub returns-then-is_full-clause-page : goal.returns-then-is_full-clause-page
returns-then-is_full-clause-page c =
    let s = (c.in_ok-split_below.ensures {u = tt}).ok in
    let news = c.split_below.new.entries in let others = c.split_below.new.below in let e = c.index-then-is_full.result.now in
    split_page c.args.families.now c.args.entries.now c.args.below.now c.requires.page c.requires.room c.in-Err.at news others s e
    (c.index-then-is_full.ensures ∙ middle_at c.args.entries.now.items c.args.below.now.items c.in-Err.at news.items others.items s e) c.with.result (c.with.ensures.lowest.0, subst (λ n. c.with.result.lowest ≤ n) c.family-then-is_full.ensures c.with.ensures.lowest.1) (c.with.ensures.greatest.0, subst (λ n. n ≤ c.with.result.greatest) c.family-then-is_full.ensures c.with.ensures.greatest.1) c.split_below.ensures.capacity.0 c.split_below.ensures.capacity.1

pub returns-then-is_full-clause-same : goal.returns-then-is_full-clause-same
returns-then-is_full-clause-same c =
    same_chains c.args.entries.now.items c.args.below.now.items c.in-Err.at c.split_below.new.entries.items c.split_below.new.below.items (c.in_ok-split_below.ensures {u = tt}).ok

pub returns-then-is_full-clause-height : goal.returns-then-is_full-clause-height
returns-then-is_full-clause-height c =
    height_split c.args.entries.now.items c.args.below.now.items c.in-Err.at c.split_below.new.entries.items c.split_below.new.below.items (c.in_ok-split_below.ensures {u = tt}).ok c.requires.page.levels

pub returns-then-is_full-clause-way : goal.returns-then-is_full-clause-way
returns-then-is_full-clause-way c =
    let own = own_key c.args.node.now in
    let first : at_key c.family.result c.key.result.now ≡ own = λ i. record { family = c.family.ensures i; bytes = c.key.ensures i } in
    let again : at_key c.family-then-is_full-2.result c.key-then-is_full.result.now ≡ own = λ i. record { family = c.family-then-is_full-2.ensures i; bytes = c.key-then-is_full.ensures i } in
    let found : IsPlace (at_key c.family.result c.key.result.now) c.deref.result.now c.in-Err.at = rw c.in-Err.is at c.place_of.ensures in
    let place : IsPlace own c.args.entries.now.items c.in-Err.at =
    subst (λ (k : Key). IsPlace k c.args.entries.now.items c.in-Err.at) first (subst (λ l. IsPlace (at_key c.family.result c.key.result.now) l c.in-Err.at) c.deref.ensures.value found) in
    way_again own (at_key c.family-then-is_full-2.result c.key-then-is_full.result.now) c.args.entries.now.items c.args.below.now.items c.in-Err.at c.split_below.new.entries.items c.deref-then-is_full.result.now c.split_below.new.below.items
    (c.in_ok-split_below.ensures {u = tt}).ok place again c.deref-then-is_full.ensures.value c.place_of-then-is_full.result c.place_of-then-is_full.ensures

-- a page is split only where there are pages below
pub returns-in_err-split_below-clause-at_once : goal.returns-in_err-split_below-clause-at_once
returns-in_err-split_below-clause-at_once c leaf =
    let at = c.if-at-len.true in let len = c.len.ensures in let ok = c.args.below.now.ok.0 in
    let less : c.in-Err.at < length c.args.below.now.items = omega (arith, at, len, ok) in
    let lower = lower_of c.args.below.now.items c.in-Err.at (record { chains = []; own = 0; height = 0 }) less in
    absurd (omega (arith, lower, leaf))
