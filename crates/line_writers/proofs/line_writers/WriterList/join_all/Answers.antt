use Rattle.std.proofs.Common.{[], ◌∷◌, ◌++◌, length, reverse, sym, ap, ◌∙◌, subst, arith, length-append, append_assoc}
use Rattle.line_rule.specs.declared.view.LineStage.TheVariants.{Idle}
use Rattle.line_rule.specs.Rule.{hold}
use Rattle.line_rule.proofs.Opens.{joins}
use Rattle.line_writers.specs.Seats.{AllOut, holds_of, answers_told}
use Rattle.line_writers.proofs.Closes.{holds_back, out_last}
use Rattle.line_writers.proofs.line_writers.WriterList.join_all.Goals as goal

pub join_seat-requires : goal.join_seat-requires
join_seat-requires g c =
    let v = c.loop-i.invariant in let w = c.in-Some.field-0 in let z = c.args.self.now.sized in let table = c.args.self.now.table.shared.table_id in
    let x = out_last table c.pop.new.self.items w (subst (AllOut table) c.in-Some.ensures.items v.all_out) in
    (v.table ∙ c.requires.first.0, x.0, x.1.1, omega arith, joins _ _ c.loop-i.first.id w.seat.id c.loop-i.first.me.0 w.seat.me.0)

pub loop-i-preserved : goal.loop-i-preserved
loop-i-preserved g c =
    let v = c.loop-i.invariant in let w = c.in-Some.field-0 in let table = c.args.self.now.table.shared.table_id in let rest = c.pop.new.self.items in
    let x = out_last table rest w (subst (AllOut table) c.in-Some.ensures.items v.all_out) in let e = c.join_seat.ensures in
    record {
      table = e.0 ∙ v.table;
      none_out = ap (λ m. m.1) e.2 ∙ v.none_out;
      view = ap (λ m. m.0 ++ reverse (holds_of rest)) e.2 ∙ (ap (λ l. (c.loop-i.first.me.0 ++ l) ++ reverse (holds_of rest)) x.1.0 ∙ (append_assoc c.loop-i.first.me.0 (hold w.client Idle (answers_told w) ∷ []) (reverse (holds_of rest)) ∙ (ap (λ l. c.loop-i.first.me.0 ++ l) (sym (holds_back rest w)) ∙ (ap (λ l. c.loop-i.first.me.0 ++ reverse (holds_of l)) (sym c.in-Some.ensures.items) ∙ v.view))));
      all_out = x.2;
      count = (let k = v.count in omega (arith, ap length c.in-Some.ensures.items, length-append rest (w ∷ [])));
    }
