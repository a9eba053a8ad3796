use Rattle.std.proofs.Common.{◌≡◌, ℕ, List, [], ◌∷◌, ◌++◌, map, get_or, Option, sym, ap, ◌∙◌, subst, arith}
use Rattle.std.proofs.lemmas.List.{map_more, take_all}
use Rattle.base_bytes.specs.declared.answers.Place.{Place}
use Rattle.table_rule.specs.Histories.{value_in, last_of, IsHistory}
use Rattle.table_tree.specs.Rows.{at_key}
use Rattle.table_calls.specs.Account.{Account}
use Rattle.table_memory.specs.Meaning.{opening_of, account_of}
use Rattle.table_memory.proofs.memory_table.MemoryTable.values.Goals as goal

pub value-requires-clause-history : goal.value-requires-clause-history
value-requires-clause-history g c = let v = c.loop-i.invariant in subst (λ (a : Account). IsHistory (opening_of c.args.self.now).start a.seen) (sym v.1) c.requires.history

pub value-requires-clause-at : goal.value-requires-clause-at
value-requires-clause-at g c = let v = c.loop-i.invariant in c.requires.at ∙ ap (λ (a : Account). last_of (opening_of c.args.self.now).start a.seen) (sym v.1)

pub loop-i-preserved : goal.loop-i-preserved
loop-i-preserved g c =
    let v = c.loop-i.invariant in
    let of_place : Place → Option (List ℕ) = λ p. value_in (opening_of c.args.self.now).base (at_key p.family p.key) (account_of c.args.seat.now).seen in
    let found = c.in_ok-found.ensures.value in
    let place : Place = c.index-places-i.result in
    let there : place ≡ get_or c.args.places.now c.loop-i.i place = c.index-places-i.is in
    let read = found ∙ ap (λ (a : Account). value_in (opening_of c.args.self.now).base (at_key place.family c.as_slice.result.now) a.seen) v.1
    ∙ ap (λ (key : List ℕ). value_in (opening_of c.args.self.now).base (at_key place.family key) (account_of c.args.seat.now).seen) c.as_slice.ensures in (
      c.value.ensures.ours,
      c.value.ensures.same ∙ v.1,
      c.in_ok-push.ensures.ok ∙ ((λ i. v.2 i ++ (read ∙ ap of_place there) i ∷ []) ∙ sym (map_more of_place c.args.places.now c.loop-i.i place c.loop-i-test.true)),
    )

pub returns-clause-values : goal.returns-clause-values
returns-clause-values g c =
    let v = c.loop-i.invariant in let stop = c.loop-i-test.false in
    v.2 ∙ ap (map (λ (p : Place). value_in (opening_of c.args.self.now).base (at_key p.family p.key) (account_of c.args.seat.now).seen)) (take_all c.loop-i.i c.args.places.now (omega arith))
