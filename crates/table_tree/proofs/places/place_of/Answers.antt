-- Each step halves what is between the entries below the key and those above it.
use Rattle.std.proofs.Common.{◌≡◌, ◌+◌, ◌-◌, ◌/◌, ◌<◌, suc, get_or, take, length, sym, ◌∙◌, subst, arith, rules}
use Rattle.std.specs.declared.cmp.Ordering.TheVariants.{Less, Equal, Greater}
use Rattle.model_base.specs.Map.{key_order}
use Rattle.table_nodes.specs.Chains.{Chain, key_of}
use Rattle.table_nodes.specs.Nodes.{at_key}
use Rattle.table_tree.specs.Places.{IsOfFamilies, AreUnder, AreOver}
use Rattle.table_tree.proofs.Levels.{all_get}
use Rattle.table_tree.proofs.SearchSteps.{place_above, place_below}
use Rattle.table_tree.proofs.places.place_of.Goals as goal

pub order_of-requires-clause-families : goal.order_of-requires-clause-families
order_of-requires-clause-families c =
    let i = c.loop-low.invariant in let w = i.within in
    let middle = c.loop-low.low + (c.loop-low.high - c.loop-low.low) / 2 in
    let e = c.index-entries-middle.result in
    let within : middle < length c.args.entries.now = search (rules, arith) in
    subst (IsOfFamilies c.args.families.lowest c.args.families.greatest) (sym c.index-entries-middle.is)
    (all_get (IsOfFamilies c.args.families.lowest c.args.families.greatest) c.args.entries.now middle e within c.requires.families)

pub loop-low-preserved-in-Less : goal.loop-low-preserved-in-Less
loop-low-preserved-in-Less c =
    let i = c.loop-low.invariant in let o = i.ordered in let w = i.within in
    let middle = c.loop-low.low + (c.loop-low.high - c.loop-low.low) / 2 in
    let e = c.index-entries-middle.result in
    let key = at_key c.args.family c.args.key.now in
    let within : middle < length c.args.entries.now = search (rules, arith) in
    let less : key_order key (key_of (get_or c.args.entries.now middle e)) ≡ Less = subst (λ (d : Chain). key_order key (key_of d) ≡ Less) c.index-entries-middle.is (sym c.order_of.ensures ∙ c.in-Less.is) in
    record {
      ordered = search (rules, arith);
      within = search (rules, arith);
      under = i.under;
      over = place_below key c.args.entries.now middle e within c.requires.sorted less;
    }

pub loop-low-preserved : goal.loop-low-preserved
loop-low-preserved c =
    let i = c.loop-low.invariant in let o = i.ordered in let w = i.within in
    let middle = c.loop-low.low + (c.loop-low.high - c.loop-low.low) / 2 in
    let e = c.index-entries-middle.result in
    let key = at_key c.args.family c.args.key.now in
    let within : middle < length c.args.entries.now = search (rules, arith) in
    let one : suc middle ≡ middle + 1 = omega arith in
    let greater : key_order key (key_of (get_or c.args.entries.now middle e)) ≡ Greater = subst (λ (d : Chain). key_order key (key_of d) ≡ Greater) c.index-entries-middle.is (sym c.order_of.ensures ∙ c.in-Greater.is) in
    record {
      ordered = search (rules, arith);
      within = w;
      under = subst (λ n. AreUnder key (take n c.args.entries.now)) one (place_above key c.args.entries.now middle e within c.requires.sorted greater);
      over = i.over;
    }

pub returns-in-Equal : goal.returns-in-Equal
returns-in-Equal c =
    let i = c.loop-low.invariant in let w = i.within in
    let middle = c.loop-low.low + (c.loop-low.high - c.loop-low.low) / 2 in
    let e = c.index-entries-middle.result in
    let key = at_key c.args.family c.args.key.now in
    let within : middle < length c.args.entries.now = search (rules, arith) in
    let same : key_order key (key_of e) ≡ Equal = sym c.order_of.ensures ∙ c.in-Equal.is in
    record {
      within = within;
      same = λ d. subst (λ (x : Chain). key_order key (key_of x) ≡ Equal) (c.index-entries-middle.is ∙ Rattle.std.proofs.lemmas.List.get_or_default c.args.entries.now middle e d within) same;
    }

pub returns : goal.returns
returns c =
    let i = c.loop-low.invariant in let o = i.ordered in
    let met : c.loop-low.low ≡ c.loop-low.high = search (rules, arith) in
    record { within = search (rules, arith); under = i.under; over = subst (λ n. AreOver (at_key c.args.family c.args.key.now) (Rattle.std.proofs.Common.drop n c.args.entries.now)) (sym met) i.over }
