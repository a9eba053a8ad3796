use Rattle.std.proofs.Common.{◌≡◌, ℕ, ◌+◌, ◌∷◌, refl, sym, ap, ◌∙◌, subst, arith}
use Rattle.line_rule.specs.declared.content.LineSlot.TheVariants.{TheRight}
use Rattle.line_rule.specs.Laws.{serves_picked}
use Rattle.line_writers.proofs.Same.{same_seat, same_writer}
use Rattle.line_writers.proofs.Ways.{summons_as}
use Rattle.line_writers.proofs.line_writers.WriterList.summon.Goals as goal

pub load-requires : goal.load-requires
load-requires g c =
    let w = c.state_word.ensures in let z = c.args.self.now.sized in let q = c.requires.seat in let key : c.args.self.now.table.shared.key.clients ≡ c.args.self.now.clients = z.2 in let o = c.requires.queued in (q.0, omega arith, summons_as _ _ _ (λ i. serves_picked g.Log.LogOfGroups.serves (sym c.requires.about i)) _ _ c.args.writer.now.seat.me c.args.writer.now.client c.state_word.result o.0 o.1 o.2 c.requires.piped o.3 c.state_word.ensures)

pub returns-clause-role : goal.returns-clause-role
returns-clause-role g c d mine g0 at =
    let z = c.args.self.now.sized in let q = c.requires.seat in let key : c.args.self.now.table.shared.key.clients ≡ c.args.self.now.clients = z.2 in let t = c.load.ensures.2 c.args.writer.now.client d mine g0 at in (
      (λ four. let u = t.0 four in let last : u.1 ≡ c.args.self.now.clients + 1 = let e = u.5 in omega arith in (u.0, subst (λ about. serves_picked g.Log.LogOfGroups.serves about u.0 g0.from) c.requires.about u.2, u.3, u.4 ∙ ap (λ (j : ℕ). (j, TheRight u.0) ∷ c.args.writer.now.seat.me.1) last)),
      t.1,
    )

pub returns-clause-waits : goal.returns-clause-waits
returns-clause-waits g c ne =
    let o = c.requires.queued in let e = c.load.ensures in
    same_writer _ c.args.writer.now refl refl
    (same_seat c.load.new.seat c.args.writer.now.seat e.0 e.1 ((e.2 c.args.writer.now.client o.0 o.1 o.2 o.3).1 ne))
