use Rattle.std.proofs.Common.{Bool, ◌≡◌, ℕ, ◌+◌, [], ◌∷◌, sym, ap, ◌∙◌, subst, refl}
use mathlib.Core.Logic.{dite}
use native.Mathlib.Decide.{ℕ_discrete}
use Rattle.atomic_table.specs.Table.{turned}
use Rattle.line_rule.specs.declared.view.Lead.{Lead}
use Rattle.line_rule.specs.declared.view.Squad.{Squad}
use Rattle.line_rule.specs.declared.view.LineStage.{LineStage}
use Rattle.line_rule.specs.declared.view.LineStage.TheVariants.{Cutting, Marking, Settling}
use Rattle.line_rule.specs.declared.view.Back.TheVariants.{Parting, Joining, Holding, Queued, Serving}
use Rattle.line_rule.specs.declared.content.LineSlot.TheVariants.{Told, TheLog, TheRight}
use Rattle.line_rule.specs.Plays.{AtWith, lead_with_walk, squad_at_cut, squad_with_end, debt, slots_of}
use Rattle.line_writers.specs.Roles.{HasStage, HasJoined}
use Rattle.line_writers.proofs.Sends.{joined_behind, joined_alone, slots_snoc}
use Rattle.line_writers.proofs.line_writers.WriterList.send_on.Goals as goal

pub part-next-requires-clause-ready : goal.part-next-requires-clause-ready
part-next-requires-clause-ready g c = let o = c.requires.ready in (o.0, o.1, o.5)

pub join_second-alone-requires-clause-parted : goal.join_second-alone-requires-clause-parted
join_second-alone-requires-clause-parted g c =
    let o = c.requires.ready in let k : ℕ = c.args.writer.now.client in let next : ℕ = c.part-next.result in let from = g.Given.PickedGiven.given in
    let pt = c.part-next.ensures.parted o.0 o.1 o.5.0 in let e1 : c.part-next.new.writer.client ≡ k = c.part-next.ensures.seat.1 in
    let lead' : Lead g.row.Request.Denot g.row.Reply.Denot = lead_with_walk o.0 pt.0 in let gp : Squad g.row.Request.Denot g.row.Reply.Denot = squad_at_cut o.0 from in let m1 = c.part-next.new.writer.seat.me in
    dite (ℕ_discrete next 0)
    (λ z. (Marking lead', lead', o.1, gp, 0, subst (λ (j : ℕ). AtWith j (Marking lead') o.1 (Parting gp 0) m1) (sym e1) (pt.1.0 z), o.6, refl, o.9.0, o.5.1))
    (λ nz. let x = pt.1.1 nz in (Cutting lead' x.0, lead', o.1, gp, 0, subst (λ (j : ℕ). AtWith j (Cutting lead' x.0) o.1 (Parting gp 0) m1) (sym e1) x.2, o.6, refl, o.9.0, o.5.1))

pub go_on-requires-clause-ready : goal.go_on-requires-clause-ready
go_on-requires-clause-ready g c =
    let o = c.requires.ready in let k : ℕ = c.args.writer.now.client in let n : ℕ = c.args.self.now.clients in let next : ℕ = c.part-next.result in let from = g.Given.PickedGiven.given in let to = g.ForRight.PickedRight.given in
    let pt = c.part-next.ensures.parted o.0 o.1 o.5.0 in let e1 : c.part-next.new.writer.client ≡ k = c.part-next.ensures.seat.1 in
    let lead' : Lead g.row.Request.Denot g.row.Reply.Denot = lead_with_walk o.0 pt.0 in let gp : Squad g.row.Request.Denot g.row.Reply.Denot = squad_at_cut o.0 from in let m1 = c.part-next.new.writer.seat.me in let m2 = c.join_second-alone.new.writer.seat.me in
    let e2 : c.join_second-alone.new.writer.client ≡ k = c.join_second-alone.ensures.seat.1 ∙ e1 in
    let joined : (st : LineStage g.row.Request.Denot g.row.Reply.Denot) → AtWith k st o.1 (Parting gp 0) m1 → HasJoined (g.Log.LogOfGroups.serves c.args.self.now.table.shared.key.about) n k to c.join_second-alone.result st o.1 gp m1 m2 = λ st here. subst (λ (j : ℕ). HasJoined (g.Log.LogOfGroups.serves c.args.self.now.table.shared.key.about) n j to c.join_second-alone.result st o.1 gp m1 m2) e1 (c.join_second-alone.ensures.joined st o.1 gp 0 (subst (λ (j : ℕ). AtWith j st o.1 (Parting gp 0) m1) (sym e1) here)) in
    let jn = joined_alone (g.Log.LogOfGroups.serves c.args.self.now.table.shared.key.about) n k to next lead' o.1 gp m1 m2 pt.1 (λ st here. subst (λ (y : Bool). HasJoined (g.Log.LogOfGroups.serves c.args.self.now.table.shared.key.about) n k to y st o.1 gp m1 m2) c.if-alone.true (joined st here)) in
    let tail = (n + 1, TheRight jn.0) ∷ [] in let tn = c.turn.ensures.2 in let m3 = c.turn.new.self.me in
    let stage = subst (λ m. HasStage c.join_second-alone.new.writer.client lead' o.1 (Holding (squad_with_end gp to)) next m) (sym tn) (subst (λ (j : ℕ). HasStage j lead' o.1 (Holding (squad_with_end gp to)) next (m2.0, turned m2.1)) (sym e2) jn.2) in
    let slot2 = ap (λ m. m.1) tn ∙ ap (λ l. turned l) (jn.3 ∙ ap (λ l. (n + 1, TheRight jn.0) ∷ l) (pt.2 ∙ o.7.1)) ∙ ap (λ zz. (0, TheLog o.4) ∷ zz) (slots_snoc o.2 ((k, Told o.3) ∷ []) tail) ∙ (λ i. (0, TheLog o.4) ∷ slots_of o.2 ((sym e2 i, Told o.3) ∷ tail)) in
    (lead', o.1, Holding (squad_with_end gp to), o.2, o.3, o.4, tail, stage, o.7.0, slot2, o.8, (c.requires.piped, o.9.1), (refl, refl))

pub go_on-requires-2-clause-ready : goal.go_on-requires-2-clause-ready
go_on-requires-2-clause-ready g c =
    let o = c.requires.ready in let k : ℕ = c.args.writer.now.client in let n : ℕ = c.args.self.now.clients in let next : ℕ = c.part-next.result in let from = g.Given.PickedGiven.given in let to = g.ForRight.PickedRight.given in
    let pt = c.part-next.ensures.parted o.0 o.1 o.5.0 in let e1 : c.part-next.new.writer.client ≡ k = c.part-next.ensures.seat.1 in
    let lead' : Lead g.row.Request.Denot g.row.Reply.Denot = lead_with_walk o.0 pt.0 in let gp : Squad g.row.Request.Denot g.row.Reply.Denot = squad_at_cut o.0 from in let m1 = c.part-next.new.writer.seat.me in let m2 = c.join_second-alone.new.writer.seat.me in
    let e2 : c.join_second-alone.new.writer.client ≡ k = c.join_second-alone.ensures.seat.1 ∙ e1 in
    let joined : (st : LineStage g.row.Request.Denot g.row.Reply.Denot) → AtWith k st o.1 (Parting gp 0) m1 → HasJoined (g.Log.LogOfGroups.serves c.args.self.now.table.shared.key.about) n k to c.join_second-alone.result st o.1 gp m1 m2 = λ st here. subst (λ (j : ℕ). HasJoined (g.Log.LogOfGroups.serves c.args.self.now.table.shared.key.about) n j to c.join_second-alone.result st o.1 gp m1 m2) e1 (c.join_second-alone.ensures.joined st o.1 gp 0 (subst (λ (j : ℕ). AtWith j st o.1 (Parting gp 0) m1) (sym e1) here)) in
    let jn = joined_behind (g.Log.LogOfGroups.serves c.args.self.now.table.shared.key.about) n k to next lead' o.1 gp m1 m2 pt.1 (λ st here. subst (λ (y : Bool). HasJoined (g.Log.LogOfGroups.serves c.args.self.now.table.shared.key.about) n k to y st o.1 gp m1 m2) c.if-alone.false (joined st here)) in
    let stage = subst (λ (j : ℕ). HasStage j lead' o.1 (Joining (squad_with_end gp to)) next m2) (sym e2) jn.0 in
    let slot2 = jn.1 ∙ pt.2 ∙ o.7.1 ∙ (λ i. (0, TheLog o.4) ∷ slots_of o.2 ((sym e2 i, Told o.3) ∷ [])) in
    (lead', o.1, Joining (squad_with_end gp to), o.2, o.3, o.4, [], stage, o.7.0, slot2, o.8, (c.requires.piped, o.9.1), (refl, refl))

pub returns-then-alone-clause-sent : goal.returns-then-alone-clause-sent
returns-then-alone-clause-sent g c lead mine gs p l at heads_are slot =
    let o = c.requires.ready in let k : ℕ = c.args.writer.now.client in let n : ℕ = c.args.self.now.clients in let next : ℕ = c.part-next.result in let from = g.Given.PickedGiven.given in let to = g.ForRight.PickedRight.given in
    let pt = c.part-next.ensures.parted lead mine at in let e1 : c.part-next.new.writer.client ≡ k = c.part-next.ensures.seat.1 in
    let lead' : Lead g.row.Request.Denot g.row.Reply.Denot = lead_with_walk lead pt.0 in let gp : Squad g.row.Request.Denot g.row.Reply.Denot = squad_at_cut lead from in let m1 = c.part-next.new.writer.seat.me in let m2 = c.join_second-alone.new.writer.seat.me in
    let e2 : c.join_second-alone.new.writer.client ≡ k = c.join_second-alone.ensures.seat.1 ∙ e1 in
    let joined : (st : LineStage g.row.Request.Denot g.row.Reply.Denot) → AtWith k st mine (Parting gp 0) m1 → HasJoined (g.Log.LogOfGroups.serves c.args.self.now.table.shared.key.about) n k to c.join_second-alone.result st mine gp m1 m2 = λ st here. subst (λ (j : ℕ). HasJoined (g.Log.LogOfGroups.serves c.args.self.now.table.shared.key.about) n j to c.join_second-alone.result st mine gp m1 m2) e1 (c.join_second-alone.ensures.joined st mine gp 0 (subst (λ (j : ℕ). AtWith j st mine (Parting gp 0) m1) (sym e1) here)) in
    let jn = joined_alone (g.Log.LogOfGroups.serves c.args.self.now.table.shared.key.about) n k to next lead' mine gp m1 m2 pt.1 (λ st here. subst (λ (y : Bool). HasJoined (g.Log.LogOfGroups.serves c.args.self.now.table.shared.key.about) n k to y st mine gp m1 m2) c.if-alone.true (joined st here)) in
    let tail = (n + 1, TheRight jn.0) ∷ [] in let tn = c.turn.ensures.2 in let m3 = c.turn.new.self.me in
    let stage = subst (λ m. HasStage c.join_second-alone.new.writer.client lead' mine (Holding (squad_with_end gp to)) next m) (sym tn) (subst (λ (j : ℕ). HasStage j lead' mine (Holding (squad_with_end gp to)) next (m2.0, turned m2.1)) (sym e2) jn.2) in
    let slot2 = ap (λ m. m.1) tn ∙ ap (λ l. turned l) (jn.3 ∙ ap (λ l. (n + 1, TheRight jn.0) ∷ l) (pt.2 ∙ slot)) ∙ ap (λ zz. (0, TheLog l) ∷ zz) (slots_snoc gs ((k, Told p) ∷ []) tail) ∙ (λ i. (0, TheLog l) ∷ slots_of gs ((sym e2 i, Told p) ∷ tail)) in
    let r = c.go_on.ensures.settling lead' mine (Holding (squad_with_end gp to)) gs p l tail stage heads_are slot2 in
    (jn.0, jn.1, subst (λ (j : ℕ). AtWith j (Settling (debt gs lead.own p)) mine (Serving (squad_with_end gp to) []) c.go_on.new.writer.seat.me) e2 r.0, r.1 ∙ (λ i. slots_of gs ((e2 i, Told p) ∷ tail)))

pub returns-clause-sent : goal.returns-clause-sent
returns-clause-sent g c lead mine gs p l at heads_are slot =
    let o = c.requires.ready in let k : ℕ = c.args.writer.now.client in let n : ℕ = c.args.self.now.clients in let next : ℕ = c.part-next.result in let from = g.Given.PickedGiven.given in let to = g.ForRight.PickedRight.given in
    let pt = c.part-next.ensures.parted lead mine at in let e1 : c.part-next.new.writer.client ≡ k = c.part-next.ensures.seat.1 in
    let lead' : Lead g.row.Request.Denot g.row.Reply.Denot = lead_with_walk lead pt.0 in let gp : Squad g.row.Request.Denot g.row.Reply.Denot = squad_at_cut lead from in let m1 = c.part-next.new.writer.seat.me in let m2 = c.join_second-alone.new.writer.seat.me in
    let e2 : c.join_second-alone.new.writer.client ≡ k = c.join_second-alone.ensures.seat.1 ∙ e1 in
    let joined : (st : LineStage g.row.Request.Denot g.row.Reply.Denot) → AtWith k st mine (Parting gp 0) m1 → HasJoined (g.Log.LogOfGroups.serves c.args.self.now.table.shared.key.about) n k to c.join_second-alone.result st mine gp m1 m2 = λ st here. subst (λ (j : ℕ). HasJoined (g.Log.LogOfGroups.serves c.args.self.now.table.shared.key.about) n j to c.join_second-alone.result st mine gp m1 m2) e1 (c.join_second-alone.ensures.joined st mine gp 0 (subst (λ (j : ℕ). AtWith j st mine (Parting gp 0) m1) (sym e1) here)) in
    let jn = joined_behind (g.Log.LogOfGroups.serves c.args.self.now.table.shared.key.about) n k to next lead' mine gp m1 m2 pt.1 (λ st here. subst (λ (y : Bool). HasJoined (g.Log.LogOfGroups.serves c.args.self.now.table.shared.key.about) n k to y st mine gp m1 m2) c.if-alone.false (joined st here)) in
    let stage = subst (λ (j : ℕ). HasStage j lead' mine (Joining (squad_with_end gp to)) next m2) (sym e2) jn.0 in
    let slot2 = jn.1 ∙ pt.2 ∙ slot ∙ (λ i. (0, TheLog l) ∷ slots_of gs ((sym e2 i, Told p) ∷ [])) in
    let r = c.go_on-2.ensures.settling lead' mine (Joining (squad_with_end gp to)) gs p l [] stage heads_are slot2 in
    (subst (λ (j : ℕ). AtWith j (Settling (debt gs lead.own p)) mine (Queued (squad_with_end gp to)) c.go_on-2.new.writer.seat.me) e2 r.0, r.1 ∙ (λ i. slots_of gs ((e2 i, Told p) ∷ [])))
