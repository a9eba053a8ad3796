use Rattle.std.proofs.Common.{ℕ, ◌<◌, ◌≤◌, length, sym, ◌∙◌, subst}
use Rattle.std.specs.List.{AllByRecursion}
use Rattle.line_rule.specs.Rule.{asks_for}
use Rattle.line_writers.specs.Roles.{Grouped}
use Rattle.line_writers.specs.Seats.{answers_told}
use Rattle.line_writers.proofs.Pays.{few_ask, lawful_asks}
use Rattle.line_writers.proofs.line_writers.WriterList.group.Goals as goal

pub returns-clause-group : goal.returns-clause-group
returns-clause-group g c =
    let f = c.group_from.ensures in let b = c.requires.leads.0 in let n : ℕ = c.args.self.now.clients in (
      (f.seat.0 ∙ b.0, subst (λ (j : ℕ). 0 < j) (sym f.seat.1) b.1, subst (λ (j : ℕ). j ≤ n) (sym f.seat.1) b.2),
      λ own seen ch. let t = f.group own seen (answers_told c.args.writer.now) ch in
          (t.0, t.1, subst (λ (j : ℕ). Grouped (asks_for g.Request.HasGroupingItem.item_of g.Log.LogOfGroups.lawful c.args.self.now.table.shared.key.about) n c.args.self.now.group_bytes j own t.0 t.1 seen (answers_told c.args.writer.now) c.group_from.new.writer.seat.me) (sym f.seat.1) t.2, t.3),
    )

pub returns-clause-few : goal.returns-clause-few
returns-clause-few g c =
    let b = c.requires.leads.0 in let o = c.requires.leads.1 in let n : ℕ = c.args.self.now.clients in
    let t = c.group_from.ensures.group o.0 o.1 (answers_told c.args.writer.now) o.2 in let has = t.2 in
    subst (λ l. length l ≤ n) (sym t.3) (few_ask n o.0 t.0 has.3 (subst (λ (j : ℕ). 0 < j) (sym has.1) has.2) (subst (λ (j : ℕ). j ≤ n) (sym has.1) b.2) has.4.1)

pub returns-clause-lawful : goal.returns-clause-lawful
returns-clause-lawful g c =
    let o = c.requires.leads.1 in let t = c.group_from.ensures.group o.0 o.1 (answers_told c.args.writer.now) o.2 in
    subst (AllByRecursion (λ (x : ℕ × g.row.Request.Denot). g.Log.LogOfGroups.lawful c.args.self.now.table.shared.key.about x.1)) (sym t.3) (lawful_asks g.Request.HasGroupingItem.item_of g.Log.LogOfGroups.lawful c.args.self.now.table.shared.key.about o.0 t.0 t.2.4.2)
