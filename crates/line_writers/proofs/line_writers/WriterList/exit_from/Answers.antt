use Rattle.std.proofs.Common.{append_assoc, ◌≡◌, ℕ, ◌<◌, ◌≤◌, [], ◌∷◌, ◌++◌, length, get_or, reverse, sym, ap, ◌∙◌, subst, refl, arith}
use Rattle.line_rule.specs.declared.view.Lead.{Lead}
use Rattle.line_rule.specs.declared.content.LineSlot.TheVariants.{Empty, Told, TheLog}
use Rattle.line_rule.specs.Chain.{newest, heads}
use Rattle.line_rule.specs.Plays.{debt, At, blanks, slots_of, squad_with_end, squad_at_cut}
use Rattle.line_rule.specs.declared.view.LineStage.TheVariants.{Leading}
use Rattle.line_writers.specs.Roles.{HasSent}
use Rattle.line_writers.specs.Seats.{answers_told}
use Rattle.line_writers.proofs.Gathers.{newest_is}
use Rattle.line_writers.proofs.Tells.{some_by, length-bys}
use Rattle.line_writers.specs.Roles.{firsts, fills, bys, lead_with_group, past_in}
use Rattle.line_writers.proofs.Fills.{pays_back, members_of, blanks_of, fills_of}
use Rattle.line_writers.proofs.line_writers.WriterList.exit_from.Goals as goal

pub fill-requires-clause-held : goal.fill-requires-clause-held
fill-requires-clause-held g c =
    let o = c.requires.group.1 in let k : ℕ = c.args.writer.now.client in
    let rev = ap reverse o.9 ∙ pays_back o.1 o.6 o.5 in
    ap (λ m. m.1) c.own_code-code.ensures.seat.2 ∙ o.7.5 ∙ (λ i. blanks (bys (sym o.8 i)) ((sym o.7.1 i, Empty) ∷ (0, Empty) ∷ [])) ∙ sym (blanks_of o.1 o.6 o.5 ((0, Empty) ∷ [])) ∙ sym (ap (λ l. blanks (firsts l) ((0, Empty) ∷ [])) rev)

pub put_log-requires-clause-held : goal.put_log-requires-clause-held
put_log-requires-clause-held g c = (_, c.fill.ensures.filled.0)

pub index-requires : goal.index-requires
index-requires g c =
    let o = c.requires.group.1 in let k : ℕ = c.args.writer.now.client in
    let rev = ap reverse o.9 ∙ pays_back o.1 o.6 o.5 in
    let lead : Lead g.row.Request.Denot g.row.Reply.Denot = lead_with_group o.1 o.4 (past_in c.args.writer.now.seat.me.0) o.7.0.0 o.2 in let mine = answers_told c.args.writer.now in
    let e1 : c.fill.new.writer.client ≡ k = c.fill.ensures.seat.1 ∙ c.own_code-code.ensures.seat.1 in
    let filled = c.fill.ensures.filled in
    let slots1 : c.fill.new.writer.seat.me.1 ≡ (0, Empty) ∷ slots_of o.5 ((k, Told o.6) ∷ []) = filled.0 ∙ ap (λ l. (0, Empty) ∷ fills l) rev ∙ ap (λ l. (0, Empty) ∷ l) (fills_of o.1 o.6 o.5) ∙ (λ i. (0, Empty) ∷ slots_of o.5 ((o.7.1 i, Told o.6) ∷ [])) in
    let members : c.fill.new.members.items ≡ bys (heads o.5 ++ o.1 ∷ []) = filled.1 ∙ ap firsts rev ∙ members_of o.1 o.6 o.5 in
    let e2 : c.put_log.new.writer.client ≡ k = c.put_log.ensures.seat.1 ∙ e1 in
    let slots2 : c.put_log.new.writer.seat.me.1 ≡ (0, TheLog c.args.log) ∷ slots_of o.5 ((k, Told o.6) ∷ []) = c.put_log.ensures.put (slots_of o.5 ((k, Told o.6) ∷ [])) slots1 in
    let at2 : At k (Leading lead) mine c.put_log.new.writer.seat.me = c.put_log.ensures.seat.2 ∙ c.fill.ensures.seat.2 ∙ ap (λ m. m.0) c.own_code-code.ensures.seat.2 ∙ o.7.0.1 in
    let at2' = subst (λ (j : ℕ). At j (Leading lead) mine c.put_log.new.writer.seat.me) (sym e2) at2 in
    let slots2' = slots2 ∙ (λ i. (0, TheLog c.args.log) ∷ slots_of o.5 ((sym e2 i, Told o.6) ∷ [])) in
    let l = some_by (heads o.5) o.1 in let e : length c.fill.new.members.items ≡ length (bys (heads o.5 ++ o.1 ∷ [])) = ap length members in omega arith

pub send_on-requires-clause-seat : goal.send_on-requires-clause-seat
send_on-requires-clause-seat g c =
    let q = c.requires.group.0 in let e : c.put_log.new.writer.client ≡ c.args.writer.now.client = c.put_log.ensures.seat.1 ∙ c.fill.ensures.seat.1 ∙ c.own_code-code.ensures.seat.1 in
    (c.put_log.ensures.seat.0 ∙ c.fill.ensures.seat.0 ∙ c.own_code-code.ensures.seat.0 ∙ q.0, subst (λ (j : ℕ). 0 < j) (sym e) q.1, subst (λ (j : ℕ). j ≤ c.args.self.now.clients) (sym e) q.2, c.own_code-code.ensures.small)

pub send_on-requires-clause-ready : goal.send_on-requires-clause-ready
send_on-requires-clause-ready g c =
    let o = c.requires.group.1 in let k : ℕ = c.args.writer.now.client in
    let rev = ap reverse o.9 ∙ pays_back o.1 o.6 o.5 in
    let lead : Lead g.row.Request.Denot g.row.Reply.Denot = lead_with_group o.1 o.4 (past_in c.args.writer.now.seat.me.0) o.7.0.0 o.2 in let mine = answers_told c.args.writer.now in
    let e1 : c.fill.new.writer.client ≡ k = c.fill.ensures.seat.1 ∙ c.own_code-code.ensures.seat.1 in
    let filled = c.fill.ensures.filled in
    let slots1 : c.fill.new.writer.seat.me.1 ≡ (0, Empty) ∷ slots_of o.5 ((k, Told o.6) ∷ []) = filled.0 ∙ ap (λ l. (0, Empty) ∷ fills l) rev ∙ ap (λ l. (0, Empty) ∷ l) (fills_of o.1 o.6 o.5) ∙ (λ i. (0, Empty) ∷ slots_of o.5 ((o.7.1 i, Told o.6) ∷ [])) in
    let members : c.fill.new.members.items ≡ bys (heads o.5 ++ o.1 ∷ []) = filled.1 ∙ ap firsts rev ∙ members_of o.1 o.6 o.5 in
    let e2 : c.put_log.new.writer.client ≡ k = c.put_log.ensures.seat.1 ∙ e1 in
    let slots2 : c.put_log.new.writer.seat.me.1 ≡ (0, TheLog c.args.log) ∷ slots_of o.5 ((k, Told o.6) ∷ []) = c.put_log.ensures.put (slots_of o.5 ((k, Told o.6) ∷ [])) slots1 in
    let at2 : At k (Leading lead) mine c.put_log.new.writer.seat.me = c.put_log.ensures.seat.2 ∙ c.fill.ensures.seat.2 ∙ ap (λ m. m.0) c.own_code-code.ensures.seat.2 ∙ o.7.0.1 in
    let at2' = subst (λ (j : ℕ). At j (Leading lead) mine c.put_log.new.writer.seat.me) (sym e2) at2 in
    let slots2' = slots2 ∙ (λ i. (0, TheLog c.args.log) ∷ slots_of o.5 ((sym e2 i, Told o.6) ∷ [])) in
    let got : ℕ = c.index.result.now in
    let first : got ≡ newest (o.2 ++ o.1 ∷ []) = c.index.ensures ∙ (λ i. get_or (members i) 0 got) ∙ newest_is (heads o.5) o.1 got ∙ ap (λ l. newest (l ++ o.1 ∷ [])) o.8 in
    let count : length c.fill.new.members.items ≡ length (o.2 ++ o.1 ∷ []) = ap length members ∙ (length-bys (heads o.5 ++ o.1 ∷ []) ∙ ap (λ l. length (l ++ o.1 ∷ [])) o.8) in
    (lead, mine, o.5, o.6, c.args.log, (at2', first, refl, (let l = c.len.ensures in omega (arith, count))), sym (c.own_code-code.ensures.code lead mine (o.7.0.0 ++ o.2) o.7.0.1 (sym (append_assoc o.7.0.0 o.2 (o.1 ∷ []))) o.7.1), (o.8, slots2'), o.10.0, o.10.1)

pub returns-clause-seat : goal.returns-clause-seat
returns-clause-seat g c = (c.send_on.ensures.seat.0 ∙ c.put_log.ensures.seat.0 ∙ c.fill.ensures.seat.0 ∙ c.own_code-code.ensures.seat.0, c.send_on.ensures.seat.1 ∙ c.put_log.ensures.seat.1 ∙ c.fill.ensures.seat.1 ∙ c.own_code-code.ensures.seat.1)

pub returns-clause-sent : goal.returns-clause-sent
returns-clause-sent g c max own group left seen gs p has heads_are replies =
    let k : ℕ = c.args.writer.now.client in
    let rev = ap reverse replies ∙ pays_back own p gs in
    let lead : Lead g.row.Request.Denot g.row.Reply.Denot = lead_with_group own seen (past_in c.args.writer.now.seat.me.0) has.0.0 group in let mine = answers_told c.args.writer.now in
    let e1 : c.fill.new.writer.client ≡ k = c.fill.ensures.seat.1 ∙ c.own_code-code.ensures.seat.1 in
    let filled = c.fill.ensures.filled in
    let slots1 : c.fill.new.writer.seat.me.1 ≡ (0, Empty) ∷ slots_of gs ((k, Told p) ∷ []) = filled.0 ∙ ap (λ l. (0, Empty) ∷ fills l) rev ∙ ap (λ l. (0, Empty) ∷ l) (fills_of own p gs) ∙ (λ i. (0, Empty) ∷ slots_of gs ((has.1 i, Told p) ∷ [])) in
    let members : c.fill.new.members.items ≡ bys (heads gs ++ own ∷ []) = filled.1 ∙ ap firsts rev ∙ members_of own p gs in
    let e2 : c.put_log.new.writer.client ≡ k = c.put_log.ensures.seat.1 ∙ e1 in
    let slots2 : c.put_log.new.writer.seat.me.1 ≡ (0, TheLog c.args.log) ∷ slots_of gs ((k, Told p) ∷ []) = c.put_log.ensures.put (slots_of gs ((k, Told p) ∷ [])) slots1 in
    let at2 : At k (Leading lead) mine c.put_log.new.writer.seat.me = c.put_log.ensures.seat.2 ∙ c.fill.ensures.seat.2 ∙ ap (λ m. m.0) c.own_code-code.ensures.seat.2 ∙ has.0.1 in
    let at2' = subst (λ (j : ℕ). At j (Leading lead) mine c.put_log.new.writer.seat.me) (sym e2) at2 in
    let slots2' = slots2 ∙ (λ i. (0, TheLog c.args.log) ∷ slots_of gs ((sym e2 i, Told p) ∷ [])) in
    let sent = c.send_on.ensures.sent lead mine gs p c.args.log at2' heads_are slots2' in
    (subst (λ (j : ℕ). HasSent (g.Log.LogOfGroups.serves c.args.self.now.table.shared.key.about) c.args.self.now.clients j c.send_on.result (debt gs own p) mine (squad_with_end (squad_at_cut lead g.Given.PickedGiven.given) g.ForRight.PickedRight.given) c.send_on.new.writer.seat.me) e2 sent, members)

pub returns-clause-room : goal.returns-clause-room
returns-clause-room g c = let h = c.send_on.ensures.seat in let n : ℕ = c.args.self.now.clients in (h.3, h.2, subst (λ (j : ℕ). n ≤ j) (sym h.4) c.requires.room.0.2, subst (λ (j : ℕ). n ≤ j) (sym c.fill.ensures.filled.3) c.requires.room.0.5)
