use Rattle.std.proofs.Common.{◌≡◌, ℕ, ◌+◌, ◌∷◌, sym, ap, ◌∙◌, subst, arith}
use mathlib.Core.Option.{none}
use Rattle.line_rule.specs.declared.content.LineSlot.TheVariants.{TheRight}
use Rattle.line_rule.specs.Laws.{serves_picked}
use Rattle.line_writers.proofs.Ways.{joins_as}
use Rattle.line_writers.proofs.line_writers.WriterList.enter_second.Goals as goal

pub compare_exchange-requires : goal.compare_exchange-requires
compare_exchange-requires g c =
    let z = c.args.self.now.sized in let q = c.requires.seat in let key : c.args.self.now.table.shared.key.clients ≡ c.args.self.now.clients = z.2 in let o = c.requires.parted in (q, omega arith, joins_as _ _ _ (λ i. serves_picked g.Log.LogOfGroups.serves (sym c.requires.about i)) g.ForRight.PickedRight.given _ _ c.args.writer.now.seat.me c.args.writer.now.client c.args.older c.args.newest_member o.0 o.1 o.2 o.3 none c.requires.piped o.4 o.5 o.6 o.7)

pub returns-clause-entered : goal.returns-clause-entered
returns-clause-entered g c st mine g0 at =
    let z = c.args.self.now.sized in let q = c.requires.seat in let key : c.args.self.now.table.shared.key.clients ≡ c.args.self.now.clients = z.2 in let t = c.compare_exchange.ensures.2 c.args.writer.now.client st mine g0 c.args.older at in (
      (λ hit nz. t.0 hit (λ e. nz (sym hit ∙ e))),
      (λ hit zero. let u = t.1 hit (hit ∙ zero) in let last : u.1 ≡ c.args.self.now.clients + 1 = let e = u.5 in omega arith in (u.0, subst (λ about. serves_picked g.Log.LogOfGroups.serves about u.0 g0.from) c.requires.about u.2, u.3, u.4 ∙ ap (λ (j : ℕ). (j, TheRight u.0) ∷ c.args.writer.now.seat.me.1) last)),
      t.2,
    )
