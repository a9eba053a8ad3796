-- The rows of a page are gathered entry by entry, each with those of the page after it.
use Rattle.std.proofs.Common.{◌≡◌, suc, ◌+◌, ◌*◌, ◌<◌, List, ◌∷◌, ◌++◌, length, take, get_or, IfOk, inl, inr, refl, sym, ap, ◌∙◌, subst, arith, rules}
use Rattle.std.proofs.lemmas.List.{append-nil}
use Rattle.table_nodes.specs.Chains.{Chain, key_of, chain_versions, AreSorted, Falls, AreFalling}
use Rattle.table_nodes.specs.Newest.{first_up_to, said}
use Rattle.table_nodes.specs.Nodes.{at_key}
use Rattle.table_tree.specs.Pages.{Branch, woven, height_of}
use Rattle.table_tree.specs.Ranges.{IsStart, page_at}
use Rattle.table_tree.specs.Rows.{between, pair_of, pairs_at, rows_in}
use Rattle.table_tree.proofs.PageAt.{page_at_get, page_at_none, lower_of}
use Rattle.table_tree.proofs.Ranging.{gathered}
use Rattle.table_tree.proofs.SearchSteps.{all_entries, sorted_entries}
use Rattle.table_tree.proofs.Starts.{sorted_at, first_rows, all_rows, step_rows}
use Rattle.table_tree.proofs.Weaving.{left_of}
use Rattle.table_tree.proofs.Falling.{falling_at}
use Rattle.table_tree.proofs.Levels.{all_get}
use Rattle.table_tree.proofs.+gather.Goals as goal

pub page::Page::gather-start_of-start-requires-clause-sorted : goal.page::Page::gather-start_of-start-requires-clause-sorted
page::Page::gather-start_of-start-requires-clause-sorted t c =
    let entries = c.self.inside.entries.items in let below = c.self.inside.below.items in
    let sorted : AreSorted (woven below entries) = subst AreSorted (sym (ap (λ (b : Branch). b.chains) c.self.view_is)) c.requires.sorted in
    subst AreSorted (sym c.deref.ensures.value) (sorted_entries below entries sorted)

pub page::Page::gather-start_of-stop-requires-clause-sorted : goal.page::Page::gather-start_of-stop-requires-clause-sorted
page::Page::gather-start_of-stop-requires-clause-sorted t c =
    let entries = c.self.inside.entries.items in let below = c.self.inside.below.items in
    let sorted : AreSorted (woven below entries) = subst AreSorted (sym (ap (λ (b : Branch). b.chains) c.self.view_is)) c.requires.sorted in
    subst AreSorted (sym c.deref-2.ensures.value) (sorted_entries below entries sorted)

pub page::Page::gather-gather_at-requires : goal.page::Page::gather-gather_at-requires
page::Page::gather-gather_at-requires t c =
    let entries = c.self.inside.entries.items in let below = c.self.inside.below.items in let range = c.args.range in
    let lo = at_key range.family range.lo.now in let hi = at_key range.family range.hi.now in
    let sorted : AreSorted (woven below entries) = subst AreSorted (sym (ap (λ (b : Branch). b.chains) c.self.view_is)) c.requires.sorted in
    let from = subst (λ (l : List Chain). IsStart lo l c.start_of-start.result) c.deref.ensures.value c.start_of-start.ensures in
    let height : height_of c.deref-3.result.now ≡ c.args.self.now.height = ap height_of c.deref-3.ensures.value ∙ ap (λ (b : Branch). b.height) c.self.view_is in
    let smaller : 2 * height_of c.deref-3.result.now < 2 * c.args.self.now.height + 1 = omega (arith, height) in (
      search rules,
      (
        subst (λ (l : List Branch). AreSorted (page_at l c.start_of-start.result)) (sym c.deref-3.ensures.value) (sorted_at lo hi below entries sorted c.start_of-start.result from.within),
        subst (λ (l : List Branch). AreFalling (page_at l c.start_of-start.result)) (sym c.deref-3.ensures.value)
            (falling_at below entries c.start_of-start.result (subst AreFalling (sym (ap (λ (b : Branch). b.chains) c.self.view_is)) c.requires.falling) from.within),
      ),
    )

pub page::Page::gather-gather_at-requires-in-loop-at : goal.page::Page::gather-gather_at-requires-in-loop-at
page::Page::gather-gather_at-requires-in-loop-at t c =
    let entries = c.self.inside.entries.items in let below = c.self.inside.below.items in let range = c.args.range in
    let lo = at_key range.family range.lo.now in let hi = at_key range.family range.hi.now in
    let sorted : AreSorted (woven below entries) = subst AreSorted (sym (ap (λ (b : Branch). b.chains) c.self.view_is)) c.requires.sorted in
    let to : IsStart hi entries c.start_of-stop.result = subst (λ (l : List Chain). IsStart hi l c.start_of-stop.result) c.deref-2.ensures.value c.start_of-stop.ensures in
    let within = to.within in let less = c.loop-at-test.true in
    let pages : c.deref-in-loop-at.result.now ≡ below = c.deref-in-loop-at.ensures.value in
    let height : height_of c.deref-in-loop-at.result.now ≡ c.args.self.now.height = ap height_of pages ∙ ap (λ (b : Branch). b.height) c.self.view_is in
    let smaller : 2 * height_of c.deref-in-loop-at.result.now < 2 * c.args.self.now.height + 1 = omega (arith, height) in (
      search rules,
      (
        subst (λ (l : List Branch). AreSorted (page_at l (c.loop-at.at + 1))) (sym pages) (sorted_at lo hi below entries sorted (c.loop-at.at + 1) (omega (arith, within, less))),
        subst (λ (l : List Branch). AreFalling (page_at l (c.loop-at.at + 1))) (sym pages)
            (falling_at below entries (c.loop-at.at + 1) (subst AreFalling (sym (ap (λ (b : Branch). b.chains) c.self.view_is)) c.requires.falling) (omega (arith, within, less))),
      ),
    )

-- the versions of an entry's chain fall
pub page::Page::gather-gather-requires : goal.page::Page::gather-gather-requires
page::Page::gather-gather-requires t c =
    let entries = c.self.inside.entries.items in let below = c.self.inside.below.items in let range = c.args.range in
    let hi = at_key range.family range.hi.now in let e = c.index.result.now in
    let to : IsStart hi entries c.start_of-stop.result = subst (λ (l : List Chain). IsStart hi l c.start_of-stop.result) c.deref-2.ensures.value c.start_of-stop.ensures in
    let within = to.within in let high = c.loop-at-test.true in
    let falling = subst AreFalling (sym (ap (λ (b : Branch). b.chains) c.self.view_is)) c.requires.falling in
    subst (λ (x : Chain). Falls x.older) (sym c.index.ensures)
    (all_get (λ (x : Chain). Falls x.older) entries c.loop-at.at e (omega (arith, within, high)) (all_entries (λ (x : Chain). Falls x.older) below entries falling))

pub page::Page::gather-returns : goal.page::Page::gather-returns
page::Page::gather-returns t c =
    let entries = c.self.inside.entries.items in let below = c.self.inside.below.items in let range = c.args.range in
    let lo = at_key range.family range.lo.now in let hi = at_key range.family range.hi.now in
    let chains : woven below entries ≡ c.args.self.now.chains = ap (λ (b : Branch). b.chains) c.self.view_is in
    let from : IsStart lo entries c.start_of-start.result = subst (λ (l : List Chain). IsStart lo l c.start_of-start.result) c.deref.ensures.value c.start_of-start.ensures in
    let to : IsStart hi entries c.start_of-stop.result = subst (λ (l : List Chain). IsStart hi l c.start_of-stop.result) c.deref-2.ensures.value c.start_of-stop.ensures in
    let i = c.loop-at.invariant in
    let all = all_rows lo hi below entries (subst AreSorted (sym chains) c.requires.sorted) c.start_of-start.result c.start_of-stop.result c.loop-at.at from to c.loop-at-test.false i.to in
    i.rows ∙ ap (λ (l : List Chain). c.args.rows.now ++ rows_in (pairs_at range.at l)) (all ∙ ap (between lo hi) chains)

pub page::Page::gather-loop-at-init : goal.page::Page::gather-loop-at-init
page::Page::gather-loop-at-init t c =
    let entries = c.self.inside.entries.items in let below = c.self.inside.below.items in let range = c.args.range in
    let lo = at_key range.family range.lo.now in let hi = at_key range.family range.hi.now in let start = c.start_of-start.result in
    let sorted : AreSorted (woven below entries) = subst AreSorted (sym (ap (λ (b : Branch). b.chains) c.self.view_is)) c.requires.sorted in
    let from : IsStart lo entries start = subst (λ (l : List Chain). IsStart lo l start) c.deref.ensures.value c.start_of-start.ensures in
    let first : c.gather_at.new.rows ≡ c.args.rows.now ++ rows_in (pairs_at range.at (between lo hi (page_at c.deref-3.result.now start))) = c.in_ok-gather_at.ensures {u = tt} in
    record {
      from = omega arith;
      to = inl refl;
      rows =
          first ∙ ap (λ (l : List Branch). c.args.rows.now ++ rows_in (pairs_at range.at (between lo hi (page_at l start)))) c.deref-3.ensures.value
          ∙ ap (λ (l : List Chain). c.args.rows.now ++ rows_in (pairs_at range.at l)) (sym (first_rows lo hi below entries sorted start from));
    }

pub page::Page::gather-loop-at-preserved : goal.page::Page::gather-loop-at-preserved
page::Page::gather-loop-at-preserved t c =
    let entries = c.self.inside.entries.items in let below = c.self.inside.below.items in let range = c.args.range in
    let lo = at_key range.family range.lo.now in let hi = at_key range.family range.hi.now in
    let start = c.start_of-start.result in let stop = c.start_of-stop.result in let at = c.loop-at.at in let i = c.loop-at.invariant in
    let rows = c.args.rows.now in let e = c.index.result.now in
    let from : IsStart lo entries start = subst (λ (l : List Chain). IsStart lo l start) c.deref.ensures.value c.start_of-start.ensures in
    let to : IsStart hi entries stop = subst (λ (l : List Chain). IsStart hi l stop) c.deref-2.ensures.value c.start_of-stop.ensures in
    let l = between lo hi (left_of below (take at entries)) in let r = between lo hi (page_at below (suc at)) in
    let one : suc at ≡ at + 1 = omega arith in
    let is : e ≡ get_or entries at e = c.index.ensures in
    let pages : c.deref-in-loop-at.result.now ≡ below = c.deref-in-loop-at.ensures.value in
    let here : c.gather.new.rows ≡ c.loop-at.rows ++ rows_in (pair_of (key_of e) (said (first_up_to range.at (chain_versions e)))) = c.in_ok-gather.ensures {u = tt} in
    let more : c.gather_at-in-loop-at.new.rows ≡ c.gather.new.rows ++ rows_in (pairs_at range.at (between lo hi (page_at c.deref-in-loop-at.result.now (at + 1)))) = c.in_ok-gather_at-2.ensures {u = tt} in
    let high = c.loop-at-test.true in let low = i.from in
    record {
      from = omega (arith, low);
      to = inr (omega (arith, high));
      rows =
          more
          ∙ ap (λ (m : List Branch). c.gather.new.rows ++ rows_in (pairs_at range.at (between lo hi (page_at m (at + 1))))) pages
          ∙ ap (λ n. c.gather.new.rows ++ rows_in (pairs_at range.at (between lo hi (page_at below n)))) (sym one)
          ∙ gathered range.at l r e rows c.loop-at.rows c.gather.new.rows i.rows here
          ∙ ap (λ (x : Chain). rows ++ rows_in (pairs_at range.at (l ++ x ∷ r))) is
          ∙ ap (λ (m : List Chain). rows ++ rows_in (pairs_at range.at m)) (sym (step_rows lo hi below entries start stop at e from to i.from high))
          ∙ ap (λ n. rows ++ rows_in (pairs_at range.at (between lo hi (left_of below (take n entries))))) one;
    }

pub range::gather_at-gather-requires : goal.range::gather_at-gather-requires
range::gather_at-gather-requires t c =
    let below = c.args.below.now in let page = c.index-below-at.result in
    let less : c.args.at < length below = c.if-at-below.true in
    let height : page.height < height_of below = subst (λ (b : Branch). b.height < height_of below) (sym c.index-below-at.is) (lower_of below c.args.at page less) in
    let smaller : 2 * page.height + 1 < 2 * height_of below = omega (arith, height) in
    let is = page_at_get below c.args.at page less ∙ ap (λ (b : Branch). b.chains) (sym c.index-below-at.is) in
    (search rules, (subst AreSorted is c.requires.sorted, subst AreFalling is c.requires.falling))

pub range::gather_at-returns-then-at-below : goal.range::gather_at-returns-then-at-below
range::gather_at-returns-then-at-below t c =
    let below = c.args.below.now in let page = c.index-below-at.result in let range = c.args.range in
    let lo = at_key range.family range.lo.now in let hi = at_key range.family range.hi.now in
    let less : c.args.at < length below = c.if-at-below.true in
    subst (λ (l : List Chain). IfOk c.gather.result (λ _. c.gather.new.rows ≡ c.args.rows.now ++ rows_in (pairs_at range.at (between lo hi l))))
    (sym (page_at_get below c.args.at page less ∙ ap (λ (b : Branch). b.chains) (sym c.index-below-at.is))) c.gather.ensures

pub range::gather_at-returns-else-at-below : goal.range::gather_at-returns-else-at-below
range::gather_at-returns-else-at-below t c =
    let below = c.args.below.now in let range = c.args.range in
    let lo = at_key range.family range.lo.now in let hi = at_key range.family range.hi.now in
    sym (ap (λ (l : List Chain). c.args.rows.now ++ rows_in (pairs_at range.at (between lo hi l))) (page_at_none below c.args.at c.if-at-below.false) ∙ append-nil c.args.rows.now)
