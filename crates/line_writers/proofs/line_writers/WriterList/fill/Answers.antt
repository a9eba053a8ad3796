use Rattle.std.proofs.Common.{ℕ, List, [], ◌∷◌, sym, ap, ◌∙◌, subst, refl, arith, length, length-append}
use Rattle.atomic_table.specs.Table.{rest, turned}
use Rattle.line_rule.specs.declared.content.LineSlot.TheVariants.{Empty, Told}
use Rattle.line_rule.proofs.Chains.{fronted}
use Rattle.line_writers.proofs.Fills.{Filled, fills_first, on_top, same_front, fills_more}
use Rattle.line_writers.proofs.line_writers.WriterList.fill.Goals as goal

pub loop-i-init : goal.loop-i-init
loop-i-init g c = record {
  client = refl;
  table = refl;
  view = refl;
  count = omega arith;
  len = c.requires.room.2;
  room = refl;
  replies_room = refl;
  laid = fills_first c.args.replies.now.items c.args.members.now.items c.args.writer.now.seat.me.1 c.requires.room.1 c.requires.held;
}

pub exchange-requires : goal.exchange-requires
exchange-requires g c =
    let v = c.loop-i.invariant in let k : ℕ = c.in-Some.member in
    let top = on_top c.args.replies.now.items c.loop-i.replies.items c.loop-i.members.items c.loop-i.writer.seat.me.1 v.laid c.pop.new.self.items k c.in-Some.reply c.in-Some.ensures.items in
    (v.table ∙ c.requires.seat, (Empty, fronted c.loop-i.writer.seat.me.1 k Empty _ top))

pub unreachable-requires-in_default-exchange : goal.unreachable-requires-in_default-exchange
unreachable-requires-in_default-exchange g c =
    let v = c.loop-i.invariant in let k : ℕ = c.in-Some.member in
    let top = on_top c.args.replies.now.items c.loop-i.replies.items c.loop-i.members.items c.loop-i.writer.seat.me.1 v.laid c.pop.new.self.items k c.in-Some.reply c.in-Some.ensures.items in
    c.in_default-exchange.not-Empty (same_front k c.exchange.result Empty _ _ (sym c.exchange.ensures.2 ∙ top))

pub loop-i-preserved : goal.loop-i-preserved
loop-i-preserved g c =
    let v = c.loop-i.invariant in let k : ℕ = c.in-Some.member in let p = c.in-Some.reply in let a = c.args.replies.now.items in
    let x = c.exchange.ensures.3 in let t = c.turn.ensures.2 in let popped = c.in-Some.ensures.items in
    let top = on_top a c.loop-i.replies.items c.loop-i.members.items c.loop-i.writer.seat.me.1 v.laid c.pop.new.self.items k p popped in
    record {
      client = v.client;
      table = c.turn.ensures.0 ∙ c.exchange.ensures.0 ∙ v.table;
      view = ap (λ m. m.0) t ∙ ap (λ m. m.0) x ∙ v.view;
      count = (let e = v.count in omega (arith, ap length popped, length-append c.pop.new.self.items ((k, p) ∷ [])));
      len = (let e = v.len in let f = c.push_reserved.ensures.len in omega arith);
      room = c.push_reserved.ensures.capacity ∙ v.room;
      replies_room = c.pop.ensures.capacity ∙ v.replies_room;
      laid = subst (λ (l : List ℕ). Filled a c.pop.new.self.items l c.turn.new.self.me.1) (sym c.push_reserved.ensures.items)
          (fills_more a c.loop-i.replies.items c.loop-i.members.items c.loop-i.writer.seat.me.1 v.laid c.pop.new.self.items k p popped c.turn.new.self.me.1 (ap (λ m. m.1) t ∙ ap turned (ap (λ m. m.1) x ∙ ap (λ z. (k, Told p) ∷ rest z) top)));
    }
