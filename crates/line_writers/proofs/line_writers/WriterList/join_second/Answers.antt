use Rattle.std.proofs.Common.{Bool, ◌≡◌, ℕ, ◌+◌, ◌<◌, ◌≤◌, ◌∷◌, sym, ap, ◌∙◌, subst, refl, arith, eq-eqb, ne_eqb}
use mathlib.Core.Logic.{dite}
use native.Mathlib.Decide.{ℕ_discrete}
use Rattle.line_rule.specs.declared.view.Squad.{Squad}
use Rattle.line_rule.specs.declared.view.Back.TheVariants.{Parting, Joining, Holding}
use Rattle.line_rule.specs.declared.content.LineSlot.TheVariants.{TheRight}
use Rattle.line_rule.specs.Plays.{AtWith, squad_with_end}
use Rattle.line_rule.proofs.Passes.{peeks_second}
use Rattle.line_rule.proofs.Onward.{one_hold_at}
use Rattle.line_rule.proofs.Passes.{squad_of}
use Rattle.line_writers.specs.Roles.{HasJoined}
use Rattle.line_writers.proofs.line_writers.WriterList.join_second.Goals as goal

pub loop-init : goal.loop-init
loop-init g c = (tt, tt, refl, refl, (λ st mine s b at. (b, at)), refl)

pub load-older-requires : goal.load-older-requires
load-older-requires g c = let z = c.args.self.now.sized in (c.loop.invariant.3 ∙ c.requires.seat.0, omega arith, peeks_second _ _ _ _ _)

pub aim_second-requires-clause-seat : goal.aim_second-requires-clause-seat
aim_second-requires-clause-seat g c =
    let q = c.requires.seat in let k = c.loop.invariant.2 in
    (c.load-older.ensures.0 ∙ c.loop.invariant.3 ∙ q.0, subst (λ (j : ℕ). 0 < j) (sym k) q.1, subst (λ (j : ℕ). j ≤ c.args.self.now.clients) (sym k) q.2, c.load-older.ensures.2.1, q.3)

pub aim_second-requires-clause-parted : goal.aim_second-requires-clause-parted
aim_second-requires-clause-parted g c =
    let o = c.requires.parted in let k = c.loop.invariant.2 in let i = c.loop.invariant.4 o.0 o.2 o.3 o.4 o.5 in
    let at1 = subst (λ (j : ℕ). AtWith j o.0 o.2 (Parting o.3 i.0) c.load-older.new.seat.me) (sym k) (ap (λ m. m.0) c.load-older.ensures.2.0 ∙ i.1) in (o.0, o.2, o.3, i.0, at1, o.6)

pub enter_second-found-requires-clause-parted : goal.enter_second-found-requires-clause-parted
enter_second-found-requires-clause-parted g c =
    let o = c.requires.parted in let k = c.loop.invariant.2 in let i = c.loop.invariant.4 o.0 o.2 o.3 o.4 o.5 in
    let at1 = subst (λ (j : ℕ). AtWith j o.0 o.2 (Parting o.3 i.0) c.load-older.new.seat.me) (sym k) (ap (λ m. m.0) c.load-older.ensures.2.0 ∙ i.1) in
    let e = c.aim_second.ensures.seat.1 in let t = c.aim_second.ensures.aimed o.0 o.2 o.3 i.0 at1 o.6 in
    (o.0, o.1, o.2, o.3, subst (λ (j : ℕ). AtWith j o.0 o.2 (Parting o.3 c.load-older.result) c.aim_second.new.writer.seat.me) (sym e) t.0, o.7, o.8, o.9)

pub returns-then-found-older-clause-joined : goal.returns-then-found-older-clause-joined
returns-then-found-older-clause-joined g c st mine s b at =
    let o = c.requires.parted in let k = c.loop.invariant.2 in let i = c.loop.invariant.4 st mine s b at in
    let at1 = subst (λ (j : ℕ). AtWith j st mine (Parting s i.0) c.load-older.new.seat.me) (sym k) (ap (λ m. m.0) c.load-older.ensures.2.0 ∙ i.1) in
    let same = one_hold_at c.args.writer.now.client c.args.writer.now.client o.0 st o.2 mine (Parting o.3 o.4) (Parting s b) c.args.writer.now.seat.me.0 o.5 at in
    let code : s.own.code ≡ c.args.code = ap (λ (y : Squad g.row.Request.Denot g.row.Reply.Denot). y.own.code) (sym (ap (squad_of o.3) same.3)) ∙ o.6 in
    let e = c.aim_second.ensures.seat.1 in let t = c.aim_second.ensures.aimed st mine s i.0 at1 code in
    let at2 = subst (λ (j : ℕ). AtWith j st mine (Parting s c.load-older.result) c.aim_second.new.writer.seat.me) (sym e) t.0 in
    let slots = t.1 ∙ ap (λ m. m.1) c.load-older.ensures.2.0 ∙ c.loop.invariant.5 in
    let u = c.enter_second-found.ensures.entered st mine s at2 in let hit = c.if-found-older.true in let both = e ∙ k in
    let m' = c.enter_second-found.new.writer.seat.me in let m = c.args.writer.now.seat.me in let older : ℕ = c.load-older.result in let to = g.ForRight.PickedRight.given in let n : ℕ = c.args.self.now.clients in
    dite (ℕ_discrete older 0)
    (λ z. let v = u.1 hit z in subst (λ (y : Bool). HasJoined (g.Log.LogOfGroups.serves c.args.self.now.table.shared.key.about) n c.args.writer.now.client to y st mine s m m') (sym (eq-eqb older 0 z)) (v.0, v.1, subst (λ (j : ℕ). AtWith j st mine (Holding (squad_with_end s to)) m') both v.2, v.3 ∙ ap (λ l. (n + 1, TheRight v.0) ∷ l) slots))
    (λ nz. let v = u.0 hit nz in subst (λ (y : Bool). HasJoined (g.Log.LogOfGroups.serves c.args.self.now.table.shared.key.about) n c.args.writer.now.client to y st mine s m m') (sym (ne_eqb older 0 nz)) (subst (λ (j : ℕ). AtWith j st mine (Joining (squad_with_end s to)) m') both v.0, v.1 ∙ slots))

pub loop-preserved : goal.loop-preserved
loop-preserved g c =
    let ks = c.enter_second-found.ensures.seat in let ams = c.aim_second.ensures.seat in
    let o = c.requires.parted in let k = c.loop.invariant.2 in let i = c.loop.invariant.4 o.0 o.2 o.3 o.4 o.5 in
    let at1 = subst (λ (j : ℕ). AtWith j o.0 o.2 (Parting o.3 i.0) c.load-older.new.seat.me) (sym k) (ap (λ m. m.0) c.load-older.ensures.2.0 ∙ i.1) in
    let e = c.aim_second.ensures.seat.1 in let t = c.aim_second.ensures.aimed o.0 o.2 o.3 i.0 at1 o.6 in
    let at2 = subst (λ (j : ℕ). AtWith j o.0 o.2 (Parting o.3 c.load-older.result) c.aim_second.new.writer.seat.me) (sym e) t.0 in
    let u = (c.enter_second-found.ensures.entered o.0 o.2 o.3 at2).2 c.if-found-older.false in (
      tt,
      tt,
      ks.1 ∙ ams.1 ∙ k,
      ks.0 ∙ ams.0 ∙ c.load-older.ensures.0 ∙ c.loop.invariant.3,
      (λ st mine s b at.
          let same = one_hold_at c.args.writer.now.client c.args.writer.now.client o.0 st o.2 mine (Parting o.3 o.4) (Parting s b) c.args.writer.now.seat.me.0 o.5 at in
          let code : s.own.code ≡ c.args.code = ap (λ (y : Squad g.row.Request.Denot g.row.Reply.Denot). y.own.code) (sym (ap (squad_of o.3) same.3)) ∙ o.6 in
          let i2 = c.loop.invariant.4 st mine s b at in
          let at3 = subst (λ (j : ℕ). AtWith j st mine (Parting s i2.0) c.load-older.new.seat.me) (sym k) (ap (λ m. m.0) c.load-older.ensures.2.0 ∙ i2.1) in
          let t2 = c.aim_second.ensures.aimed st mine s i2.0 at3 code in
          (c.load-older.result, ap (λ m. m.0) u ∙ subst (λ (j : ℕ). AtWith j st mine (Parting s c.load-older.result) c.aim_second.new.writer.seat.me) k t2.0)),
      ap (λ m. m.1) u ∙ t.1 ∙ ap (λ m. m.1) c.load-older.ensures.2.0 ∙ c.loop.invariant.5,
    )
