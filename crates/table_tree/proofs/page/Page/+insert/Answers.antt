-- The way goes into an entry, into a page below, or into a new entry of a leaf.
use Rattle.std.proofs.Common.{◌≡◌, ◌<◌, ◌≤◌, cond, List, [], length, set, is_ok, refl, sym, ap, ◌∙◌, subst, arith, rules}
use Rattle.std.proofs.lemmas.List.{length-set}
use Rattle.std.specs.List.{insert}
use Rattle.std.specs.declared.cmp.Ordering.TheVariants.{Equal}
use Rattle.model_base.specs.declared.key.Key.{Key}
use Rattle.model_base.specs.Map.{key_order}
use Rattle.table_rule.proofs.Keys.{equal_keys}
use Rattle.table_nodes.specs.Chains.{Chain, key_of, AreSorted, alone, with_version, insert_in_chains}
use Rattle.table_nodes.specs.Nodes.{own_key, version_of}
use Rattle.table_tree.specs.Pages.{Branch, woven, height_of, AreBelow}
use Rattle.table_tree.specs.Places.{IsEntry}
use Rattle.table_tree.specs.Ways.{IsOpen, IsWay}
use Rattle.table_tree.proofs.Absent.{none_below}
use Rattle.table_tree.proofs.Density.{dense_page}
use Rattle.table_tree.proofs.Going.{page_sorted, went_or_stayed, went_own, went_alone}
use Rattle.table_tree.proofs.Kept.{dense_of, kept_leaf}
use Rattle.table_tree.proofs.Levels.{levels_set}
use Rattle.table_tree.proofs.PageAt.{lower_below}
use Rattle.table_tree.proofs.page.Page.+insert.Goals as goal

pub returns-in_default-clause-dense : goal.returns-in_default-clause-dense
returns-in_default-clause-dense t c = dense_of c.way_of.new.families c.way_of.new.entries c.way_of.new.below c.way_of.ensures.page

pub add_version-requires : goal.add_version-requires
add_version-requires t c =
    let news = c.way_of.new.entries.items in let others = c.way_of.new.below.items in
    let key = own_key c.args.node.value in let e = c.index_mut.result.now in
    let way : IsWay key news others c.in-Ok.way = subst (λ (k : Key). IsWay k news others c.in-Ok.way) (ap own_key c.deref.ensures) (c.in-Ok.ensures {u = tt}).way in
    let found : IsEntry key news c.in-Ok-way.at = subst (IsWay key news others) c.in-Ok-way.is way in
    equal_keys key (key_of e) (subst (λ (d : Chain). key_order key (key_of d) ≡ Equal) (sym c.index_mut.ensures.value) (found.same e))

pub returns-in-Ok-way-clause-chains : goal.returns-in-Ok-way-clause-chains
returns-in-Ok-way-clause-chains t c =
    let news = c.way_of.new.entries.items in let others = c.way_of.new.below.items in
    let key = own_key c.args.node.value in let v = version_of c.args.node.value in let e = c.index_mut.result.now in
    let way : IsWay key news others c.in-Ok.way = subst (λ (k : Key). IsWay k news others c.in-Ok.way) (ap own_key c.deref.ensures) (c.in-Ok.ensures {u = tt}).way in
    let found : IsEntry key news c.in-Ok-way.at = subst (IsWay key news others) c.in-Ok-way.is way in
    let same : woven others news ≡ c.args.self.now.chains = c.way_of.ensures.same ∙ ap (λ (b : Branch). b.chains) c.self.view_is in
    ap (λ (x : Chain). woven others (set news c.in-Ok-way.at x)) (c.add_version.ensures ∙ ap (λ (d : Chain). with_version d v) c.index_mut.ensures.value)
    ∙ went_own key news others c.in-Ok-way.at (subst AreSorted (sym same) c.requires.sorted) found e v refl
    ∙ ap (λ (l : List Chain). insert_in_chains l v) same

pub returns-in-Ok-way-clause-dense : goal.returns-in-Ok-way-clause-dense
returns-in-Ok-way-clause-dense t c =
    let news = c.way_of.new.entries.items in let others = c.way_of.new.below.items in
    dense_page (set news c.in-Ok-way.at c.add_version.new.self) others
    (subst (λ n. AreBelow n others) (sym (length-set news c.in-Ok-way.at c.add_version.new.self)) c.way_of.ensures.page.levels)

pub insert-requires : goal.insert-requires
insert-requires t c =
    let news = c.way_of.new.entries.items in let others = c.way_of.new.below.items in
    let key = own_key c.args.node.value in let d = c.index_mut-then-at-len.result.now in
    let way : IsWay key news others c.in-Ok.way = subst (λ (k : Key). IsWay k news others c.in-Ok.way) (ap own_key c.deref.ensures) (c.in-Ok.ensures {u = tt}).way in
    let room : IsOpen key news others c.in-Err.at = subst (IsWay key news others) c.in-Err.is way in
    let same : woven others news ≡ c.args.self.now.chains = c.way_of.ensures.same ∙ ap (λ (b : Branch). b.chains) c.self.view_is in
    let below = c.if-at-len.true in let len = c.len.ensures in let ok = c.way_of.new.below.ok.0 in
    let less : c.in-Err.at < length others = omega (arith, below, len, ok) in
    let levels = c.way_of.ensures.page.levels in
    let smaller : d.height < c.args.self.now.height =
    subst (λ n. d.height < n) (c.way_of.ensures.height ∙ ap (λ (b : Branch). b.height) c.self.view_is)
    (subst (λ (b : Branch). b.height < height_of others) (sym c.index_mut-then-at-len.ensures.value) (lower_below news others c.in-Err.at d levels less)) in (
      search rules,
      (
        c.requires.front,
        (
          subst (λ (b : Branch). b.own < 31) (sym c.index_mut-then-at-len.ensures.value) (room.open_below d less),
          subst (λ (b : Branch). AreSorted b.chains) (sym c.index_mut-then-at-len.ensures.value)
              (page_sorted key news others c.in-Err.at (subst AreSorted (sym same) c.requires.sorted) room.place levels d less),
        ),
      ),
    )

pub returns-then-at-len-clause-chains : goal.returns-then-at-len-clause-chains
returns-then-at-len-clause-chains t c =
    let news = c.way_of.new.entries.items in let others = c.way_of.new.below.items in
    let key = own_key c.args.node.value in let v = version_of c.args.node.value in let d = c.index_mut-then-at-len.result.now in
    let way : IsWay key news others c.in-Ok.way = subst (λ (k : Key). IsWay k news others c.in-Ok.way) (ap own_key c.deref.ensures) (c.in-Ok.ensures {u = tt}).way in
    let room : IsOpen key news others c.in-Err.at = subst (IsWay key news others) c.in-Err.is way in
    let same : woven others news ≡ c.args.self.now.chains = c.way_of.ensures.same ∙ ap (λ (b : Branch). b.chains) c.self.view_is in
    let below = c.if-at-len.true in let len = c.len.ensures in let ok = c.way_of.new.below.ok.0 in
    let less : c.in-Err.at < length others = omega (arith, below, len, ok) in
    let done = is_ok c.insert.result in
    went_or_stayed key news others c.in-Err.at (subst AreSorted (sym same) c.requires.sorted) room.place c.way_of.ensures.page.levels d less c.insert.new.self v done refl
    (c.insert.ensures.chains ∙ ap (λ (b : Branch). cond done (insert_in_chains b.chains v) b.chains) c.index_mut-then-at-len.ensures.value)
    ∙ ap (λ (l : List Chain). cond done (insert_in_chains l v) l) same

pub returns-then-at-len-clause-height : goal.returns-then-at-len-clause-height
returns-then-at-len-clause-height t c =
    let news = c.way_of.new.entries.items in let others = c.way_of.new.below.items in
    let d = c.index_mut-then-at-len.result.now in let new = c.insert.new.self in
    let below = c.if-at-len.true in let len = c.len.ensures in let ok = c.way_of.new.below.ok.0 in
    let less : c.in-Err.at < length others = omega (arith, below, len, ok) in
    let is = c.index_mut-then-at-len.ensures.value in
    (levels_set (length news) c.in-Err.at others d new c.way_of.ensures.page.levels less (c.insert.ensures.height ∙ ap (λ (b : Branch). b.height) is)
    (subst (λ (b : Branch). b.own ≤ new.own) is c.insert.ensures.own.0) c.insert.ensures.dense).1
    ∙ c.way_of.ensures.height ∙ ap (λ (b : Branch). b.height) c.self.view_is

pub returns-then-at-len-clause-dense : goal.returns-then-at-len-clause-dense
returns-then-at-len-clause-dense t c =
    let news = c.way_of.new.entries.items in let others = c.way_of.new.below.items in
    let d = c.index_mut-then-at-len.result.now in let new = c.insert.new.self in
    let below = c.if-at-len.true in let len = c.len.ensures in let ok = c.way_of.new.below.ok.0 in
    let less : c.in-Err.at < length others = omega (arith, below, len, ok) in
    let is = c.index_mut-then-at-len.ensures.value in
    dense_page news (set others c.in-Err.at new)
    (levels_set (length news) c.in-Err.at others d new c.way_of.ensures.page.levels less (c.insert.ensures.height ∙ ap (λ (b : Branch). b.height) is)
    (subst (λ (b : Branch). b.own ≤ new.own) is c.insert.ensures.own.0) c.insert.ensures.dense).0

pub returns-then-at-len-clause-at_once : goal.returns-then-at-len-clause-at_once
returns-then-at-len-clause-at_once t c leaf =
    let news = c.way_of.new.entries.items in let others = c.way_of.new.below.items in
    let d = c.index_mut-then-at-len.result.now in
    let below = c.if-at-len.true in let len = c.len.ensures in let ok = c.way_of.new.below.ok.0 in
    let less : c.in-Err.at < length others = omega (arith, below, len, ok) in
    let lower = lower_below news others c.in-Err.at d c.way_of.ensures.page.levels less in
    let same : height_of others ≡ c.args.self.now.height = c.way_of.ensures.height ∙ ap (λ (b : Branch). b.height) c.self.view_is in
    absurd (omega (arith, lower, same, leaf))

pub invariant_of-self-2 : goal.invariant_of-self-2
invariant_of-self-2 t c =
    let news = c.way_of.new.entries.items in let others = c.way_of.new.below.items in
    let key = own_key c.args.node.value in let v = version_of c.args.node.value in let f = c.with-self-inside in
    let way : IsWay key news others c.in-Ok.way = subst (λ (k : Key). IsWay k news others c.in-Ok.way) (ap own_key c.deref.ensures) (c.in-Ok.ensures {u = tt}).way in
    let room : IsOpen key news others c.in-Err.at = subst (IsWay key news others) c.in-Err.is way in
    let past = c.if-at-len.false in let len = c.len.ensures in let ok = c.way_of.new.below.ok.0 in
    let none : others ≡ [] = none_below (length news) others c.in-Err.at c.way_of.ensures.page.levels room.place.within (omega (arith, past, len, ok)) in
    let family : c.family.result ≡ v.key.family = c.family.ensures ∙ ap (λ n. (own_key n).family) c.deref-2.ensures in
    kept_leaf c.way_of.new.families c.way_of.new.entries c.way_of.new.below c.way_of.ensures.page f.result f.ensures.lowest.0 f.ensures.greatest.0 c.in-Err.at (alone v) c.put.new.list none room.place.within (room.open_leaf none)
    (subst (λ n. f.result.lowest ≤ n) family f.ensures.lowest.1, subst (λ n. n ≤ f.result.greatest) family f.ensures.greatest.1)
    (c.put.ensures.items ∙ ap (λ (x : Chain). insert news c.in-Err.at x) c.of.ensures) c.put.ensures.capacity

pub returns-clause-chains : goal.returns-clause-chains
returns-clause-chains t c =
    let news = c.way_of.new.entries.items in let others = c.way_of.new.below.items in
    let key = own_key c.args.node.value in let v = version_of c.args.node.value in
    let way : IsWay key news others c.in-Ok.way = subst (λ (k : Key). IsWay k news others c.in-Ok.way) (ap own_key c.deref.ensures) (c.in-Ok.ensures {u = tt}).way in
    let room : IsOpen key news others c.in-Err.at = subst (IsWay key news others) c.in-Err.is way in
    let past = c.if-at-len.false in let len = c.len.ensures in let ok = c.way_of.new.below.ok.0 in
    let none : others ≡ [] = none_below (length news) others c.in-Err.at c.way_of.ensures.page.levels room.place.within (omega (arith, past, len, ok)) in
    let same : woven others news ≡ c.args.self.now.chains = c.way_of.ensures.same ∙ ap (λ (b : Branch). b.chains) c.self.view_is in
    ap (λ (l : List Branch). woven l c.put.new.list.items) none
    ∙ c.put.ensures.items ∙ ap (λ (x : Chain). insert news c.in-Err.at x) c.of.ensures
    ∙ went_alone v news c.in-Err.at room.place
    ∙ ap (λ (l : List Branch). insert_in_chains (woven l news) v) (sym none)
    ∙ ap (λ (l : List Chain). insert_in_chains l v) same
