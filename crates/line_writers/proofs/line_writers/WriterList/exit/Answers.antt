use Rattle.std.proofs.Common.{◌≡◌, ℕ, ◌<◌, ◌≤◌, [], ◌∷◌, ◌++◌, length, get_or, reverse, sym, ap, ◌∙◌, subst, refl, arith}
use Rattle.line_rule.specs.declared.view.Lead.{Lead}
use Rattle.line_rule.specs.declared.content.LineSlot.TheVariants.{Empty, Told, TheLog}
use Rattle.line_rule.specs.Chain.{newest, Within, heads}
use Rattle.line_rule.specs.Plays.{At, blanks, slots_of, debt}
use Rattle.line_rule.specs.declared.view.LineStage.TheVariants.{Idle, Leading, Settling}
use Rattle.line_writers.specs.Seats.{answers_told, told_in_first}
use Rattle.line_rule.specs.Rule.{hold}
use Rattle.line_rule.proofs.Enters.{one_hold}
use Rattle.line_rule.proofs.Leads.{one_lead}
use Rattle.line_writers.proofs.Gathers.{newest_is}
use Rattle.line_writers.proofs.Tells.{some_by, length-bys}
use Rattle.line_writers.specs.Roles.{firsts, fills, bys, lead_with_group, past_in}
use Rattle.line_writers.proofs.Fills.{same_reply, pays_back, members_of, blanks_of, fills_of}
use Rattle.line_writers.proofs.line_writers.WriterList.exit.Goals as goal

pub fill-requires-clause-held : goal.fill-requires-clause-held
fill-requires-clause-held g c =
    let o = c.requires.group.1 in let k : ℕ = c.args.writer.now.client in
    let rev = ap reverse o.9 ∙ pays_back o.1 o.6 o.5 in
    o.7.5 ∙ (λ i. blanks (bys (sym o.8 i)) ((sym o.7.1 i, Empty) ∷ (0, Empty) ∷ [])) ∙ sym (blanks_of o.1 o.6 o.5 ((0, Empty) ∷ [])) ∙ sym (ap (λ l. blanks (firsts l) ((0, Empty) ∷ [])) rev)

pub put_log-requires-clause-held : goal.put_log-requires-clause-held
put_log-requires-clause-held g c = (_, c.fill.ensures.filled.0)

pub index-requires : goal.index-requires
index-requires g c =
    let o = c.requires.group.1 in let k : ℕ = c.args.writer.now.client in
    let rev = ap reverse o.9 ∙ pays_back o.1 o.6 o.5 in
    let lead : Lead g.row.Request.Denot g.row.Reply.Denot = lead_with_group o.1 o.4 (past_in c.args.writer.now.seat.me.0) o.7.0.0 o.2 in let mine = answers_told c.args.writer.now in
    let e1 : c.fill.new.writer.client ≡ k = c.fill.ensures.seat.1 in
    let filled = c.fill.ensures.filled in
    let slots1 : c.fill.new.writer.seat.me.1 ≡ (0, Empty) ∷ slots_of o.5 ((k, Told o.6) ∷ []) = filled.0 ∙ ap (λ l. (0, Empty) ∷ fills l) rev ∙ ap (λ l. (0, Empty) ∷ l) (fills_of o.1 o.6 o.5) ∙ (λ i. (0, Empty) ∷ slots_of o.5 ((o.7.1 i, Told o.6) ∷ [])) in
    let members : c.fill.new.members.items ≡ bys (heads o.5 ++ o.1 ∷ []) = filled.1 ∙ ap firsts rev ∙ members_of o.1 o.6 o.5 in
    let e2 : c.put_log.new.writer.client ≡ k = c.put_log.ensures.seat.1 ∙ e1 in
    let slots2 : c.put_log.new.writer.seat.me.1 ≡ (0, TheLog c.args.log) ∷ slots_of o.5 ((k, Told o.6) ∷ []) = c.put_log.ensures.put (slots_of o.5 ((k, Told o.6) ∷ [])) slots1 in
    let at2 : At k (Leading lead) mine c.put_log.new.writer.seat.me = c.put_log.ensures.seat.2 ∙ c.fill.ensures.seat.2 ∙ o.7.0.1 in
    let at2' = subst (λ (j : ℕ). At j (Leading lead) mine c.put_log.new.writer.seat.me) (sym e2) at2 in
    let slots2' = slots2 ∙ (λ i. (0, TheLog c.args.log) ∷ slots_of o.5 ((sym e2 i, Told o.6) ∷ [])) in
    let l = some_by (heads o.5) o.1 in let e : length c.fill.new.members.items ≡ length (bys (heads o.5 ++ o.1 ∷ [])) = ap length members in omega arith

pub hand_on-requires-clause-ready : goal.hand_on-requires-clause-ready
hand_on-requires-clause-ready g c =
    let o = c.requires.group.1 in let k : ℕ = c.args.writer.now.client in
    let rev = ap reverse o.9 ∙ pays_back o.1 o.6 o.5 in
    let lead : Lead g.row.Request.Denot g.row.Reply.Denot = lead_with_group o.1 o.4 (past_in c.args.writer.now.seat.me.0) o.7.0.0 o.2 in let mine = answers_told c.args.writer.now in
    let e1 : c.fill.new.writer.client ≡ k = c.fill.ensures.seat.1 in
    let filled = c.fill.ensures.filled in
    let slots1 : c.fill.new.writer.seat.me.1 ≡ (0, Empty) ∷ slots_of o.5 ((k, Told o.6) ∷ []) = filled.0 ∙ ap (λ l. (0, Empty) ∷ fills l) rev ∙ ap (λ l. (0, Empty) ∷ l) (fills_of o.1 o.6 o.5) ∙ (λ i. (0, Empty) ∷ slots_of o.5 ((o.7.1 i, Told o.6) ∷ [])) in
    let members : c.fill.new.members.items ≡ bys (heads o.5 ++ o.1 ∷ []) = filled.1 ∙ ap firsts rev ∙ members_of o.1 o.6 o.5 in
    let e2 : c.put_log.new.writer.client ≡ k = c.put_log.ensures.seat.1 ∙ e1 in
    let slots2 : c.put_log.new.writer.seat.me.1 ≡ (0, TheLog c.args.log) ∷ slots_of o.5 ((k, Told o.6) ∷ []) = c.put_log.ensures.put (slots_of o.5 ((k, Told o.6) ∷ [])) slots1 in
    let at2 : At k (Leading lead) mine c.put_log.new.writer.seat.me = c.put_log.ensures.seat.2 ∙ c.fill.ensures.seat.2 ∙ o.7.0.1 in
    let at2' = subst (λ (j : ℕ). At j (Leading lead) mine c.put_log.new.writer.seat.me) (sym e2) at2 in
    let slots2' = slots2 ∙ (λ i. (0, TheLog c.args.log) ∷ slots_of o.5 ((sym e2 i, Told o.6) ∷ [])) in
    let got : ℕ = c.index.result.now in
    let first : got ≡ newest (o.2 ++ o.1 ∷ []) = c.index.ensures ∙ (λ i. get_or (members i) 0 got) ∙ newest_is (heads o.5) o.1 got ∙ ap (λ l. newest (l ++ o.1 ∷ [])) o.8 in
    let count : length c.fill.new.members.items ≡ length (o.2 ++ o.1 ∷ []) = ap length members ∙ (length-bys (heads o.5 ++ o.1 ∷ []) ∙ ap (λ l. length (l ++ o.1 ∷ [])) o.8) in
    (lead, mine, o.5, o.6, c.args.log, at2', first, refl, (o.8, (TheLog c.args.log, slots2'), o.10.0, o.10.1), slots2', (let l = c.len.ensures in omega (arith, count)))

pub tell_all-requires-clause-owed : goal.tell_all-requires-clause-owed
tell_all-requires-clause-owed g c =
    let o = c.requires.group.1 in let k : ℕ = c.args.writer.now.client in
    let rev = ap reverse o.9 ∙ pays_back o.1 o.6 o.5 in
    let lead : Lead g.row.Request.Denot g.row.Reply.Denot = lead_with_group o.1 o.4 (past_in c.args.writer.now.seat.me.0) o.7.0.0 o.2 in let mine = answers_told c.args.writer.now in
    let e1 : c.fill.new.writer.client ≡ k = c.fill.ensures.seat.1 in
    let filled = c.fill.ensures.filled in
    let slots1 : c.fill.new.writer.seat.me.1 ≡ (0, Empty) ∷ slots_of o.5 ((k, Told o.6) ∷ []) = filled.0 ∙ ap (λ l. (0, Empty) ∷ fills l) rev ∙ ap (λ l. (0, Empty) ∷ l) (fills_of o.1 o.6 o.5) ∙ (λ i. (0, Empty) ∷ slots_of o.5 ((o.7.1 i, Told o.6) ∷ [])) in
    let members : c.fill.new.members.items ≡ bys (heads o.5 ++ o.1 ∷ []) = filled.1 ∙ ap firsts rev ∙ members_of o.1 o.6 o.5 in
    let e2 : c.put_log.new.writer.client ≡ k = c.put_log.ensures.seat.1 ∙ e1 in
    let slots2 : c.put_log.new.writer.seat.me.1 ≡ (0, TheLog c.args.log) ∷ slots_of o.5 ((k, Told o.6) ∷ []) = c.put_log.ensures.put (slots_of o.5 ((k, Told o.6) ∷ [])) slots1 in
    let at2 : At k (Leading lead) mine c.put_log.new.writer.seat.me = c.put_log.ensures.seat.2 ∙ c.fill.ensures.seat.2 ∙ o.7.0.1 in
    let at2' = subst (λ (j : ℕ). At j (Leading lead) mine c.put_log.new.writer.seat.me) (sym e2) at2 in
    let slots2' = slots2 ∙ (λ i. (0, TheLog c.args.log) ∷ slots_of o.5 ((sym e2 i, Told o.6) ∷ [])) in
    let s = c.hand_on.ensures.settling lead mine o.5 o.6 c.args.log at2' o.8 slots2' in
    let e3 : c.hand_on.new.writer.client ≡ c.put_log.new.writer.client = c.hand_on.ensures.seat.1 in
    let at3 = subst (λ (j : ℕ). At j (Settling (debt o.5 o.1 o.6)) mine c.hand_on.new.writer.seat.me) (sym e3) s.0 in
    let slots3 = s.1 ∙ (λ i. slots_of o.5 ((sym e3 i, Told o.6) ∷ [])) in
    (mine, o.5, o.1, o.6, (at3, slots3), c.as_slice.ensures.value ∙ members, subst (Within c.args.self.now.clients) (sym o.8) o.7.3)

pub retire-requires-clause-owed : goal.retire-requires-clause-owed
retire-requires-clause-owed g c =
    let o = c.requires.group.1 in let k : ℕ = c.args.writer.now.client in
    let rev = ap reverse o.9 ∙ pays_back o.1 o.6 o.5 in
    let lead : Lead g.row.Request.Denot g.row.Reply.Denot = lead_with_group o.1 o.4 (past_in c.args.writer.now.seat.me.0) o.7.0.0 o.2 in let mine = answers_told c.args.writer.now in
    let e1 : c.fill.new.writer.client ≡ k = c.fill.ensures.seat.1 in
    let filled = c.fill.ensures.filled in
    let slots1 : c.fill.new.writer.seat.me.1 ≡ (0, Empty) ∷ slots_of o.5 ((k, Told o.6) ∷ []) = filled.0 ∙ ap (λ l. (0, Empty) ∷ fills l) rev ∙ ap (λ l. (0, Empty) ∷ l) (fills_of o.1 o.6 o.5) ∙ (λ i. (0, Empty) ∷ slots_of o.5 ((o.7.1 i, Told o.6) ∷ [])) in
    let members : c.fill.new.members.items ≡ bys (heads o.5 ++ o.1 ∷ []) = filled.1 ∙ ap firsts rev ∙ members_of o.1 o.6 o.5 in
    let e2 : c.put_log.new.writer.client ≡ k = c.put_log.ensures.seat.1 ∙ e1 in
    let slots2 : c.put_log.new.writer.seat.me.1 ≡ (0, TheLog c.args.log) ∷ slots_of o.5 ((k, Told o.6) ∷ []) = c.put_log.ensures.put (slots_of o.5 ((k, Told o.6) ∷ [])) slots1 in
    let at2 : At k (Leading lead) mine c.put_log.new.writer.seat.me = c.put_log.ensures.seat.2 ∙ c.fill.ensures.seat.2 ∙ o.7.0.1 in
    let at2' = subst (λ (j : ℕ). At j (Leading lead) mine c.put_log.new.writer.seat.me) (sym e2) at2 in
    let slots2' = slots2 ∙ (λ i. (0, TheLog c.args.log) ∷ slots_of o.5 ((sym e2 i, Told o.6) ∷ [])) in
    let s = c.hand_on.ensures.settling lead mine o.5 o.6 c.args.log at2' o.8 slots2' in
    let e3 : c.hand_on.new.writer.client ≡ c.put_log.new.writer.client = c.hand_on.ensures.seat.1 in
    let at3 = subst (λ (j : ℕ). At j (Settling (debt o.5 o.1 o.6)) mine c.hand_on.new.writer.seat.me) (sym e3) s.0 in
    let slots3 = s.1 ∙ (λ i. slots_of o.5 ((sym e3 i, Told o.6) ∷ [])) in
    let t = c.tell_all.ensures.told mine o.5 o.1 o.6 (at3, slots3) in
    let e4 : c.tell_all.new.writer.client ≡ c.hand_on.new.writer.client = c.tell_all.ensures.seat.1 in
    let at4 = subst (λ (j : ℕ). At j (Settling (debt [] o.1 o.6)) mine c.tell_all.new.writer.seat.me) (sym e4) t.0 in
    let slots4 = t.1 ∙ (λ i. (sym e4 i, Told o.6) ∷ []) in
    (mine, o.1, o.6, (at4, slots4))

pub returns-clause-room : goal.returns-clause-room
returns-clause-room g c =
    let q = c.requires.room.0 in let h = c.hand_on.ensures.seat in let f = c.fill.ensures.filled in
    ((h.3, h.2, subst (λ (j : ℕ). c.args.self.now.clients ≤ j) (sym h.4) q.2, c.clear.ensures.len, c.clear.ensures.items, subst (λ (j : ℕ). c.args.self.now.clients ≤ j) (sym (c.clear.ensures.capacity ∙ f.3)) q.5), f.2)

pub returns-clause-out : goal.returns-clause-out
returns-clause-out g c =
    let o = c.requires.group.1 in let k : ℕ = c.args.writer.now.client in
    let rev = ap reverse o.9 ∙ pays_back o.1 o.6 o.5 in
    let lead : Lead g.row.Request.Denot g.row.Reply.Denot = lead_with_group o.1 o.4 (past_in c.args.writer.now.seat.me.0) o.7.0.0 o.2 in let mine = answers_told c.args.writer.now in
    let e1 : c.fill.new.writer.client ≡ k = c.fill.ensures.seat.1 in
    let filled = c.fill.ensures.filled in
    let slots1 : c.fill.new.writer.seat.me.1 ≡ (0, Empty) ∷ slots_of o.5 ((k, Told o.6) ∷ []) = filled.0 ∙ ap (λ l. (0, Empty) ∷ fills l) rev ∙ ap (λ l. (0, Empty) ∷ l) (fills_of o.1 o.6 o.5) ∙ (λ i. (0, Empty) ∷ slots_of o.5 ((o.7.1 i, Told o.6) ∷ [])) in
    let members : c.fill.new.members.items ≡ bys (heads o.5 ++ o.1 ∷ []) = filled.1 ∙ ap firsts rev ∙ members_of o.1 o.6 o.5 in
    let e2 : c.put_log.new.writer.client ≡ k = c.put_log.ensures.seat.1 ∙ e1 in
    let slots2 : c.put_log.new.writer.seat.me.1 ≡ (0, TheLog c.args.log) ∷ slots_of o.5 ((k, Told o.6) ∷ []) = c.put_log.ensures.put (slots_of o.5 ((k, Told o.6) ∷ [])) slots1 in
    let at2 : At k (Leading lead) mine c.put_log.new.writer.seat.me = c.put_log.ensures.seat.2 ∙ c.fill.ensures.seat.2 ∙ o.7.0.1 in
    let at2' = subst (λ (j : ℕ). At j (Leading lead) mine c.put_log.new.writer.seat.me) (sym e2) at2 in
    let slots2' = slots2 ∙ (λ i. (0, TheLog c.args.log) ∷ slots_of o.5 ((sym e2 i, Told o.6) ∷ [])) in
    let s = c.hand_on.ensures.settling lead mine o.5 o.6 c.args.log at2' o.8 slots2' in
    let e3 : c.hand_on.new.writer.client ≡ c.put_log.new.writer.client = c.hand_on.ensures.seat.1 in
    let at3 = subst (λ (j : ℕ). At j (Settling (debt o.5 o.1 o.6)) mine c.hand_on.new.writer.seat.me) (sym e3) s.0 in
    let slots3 = s.1 ∙ (λ i. slots_of o.5 ((sym e3 i, Told o.6) ∷ [])) in
    let t = c.tell_all.ensures.told mine o.5 o.1 o.6 (at3, slots3) in
    let e4 : c.tell_all.new.writer.client ≡ c.hand_on.new.writer.client = c.tell_all.ensures.seat.1 in
    let at4 = subst (λ (j : ℕ). At j (Settling (debt [] o.1 o.6)) mine c.tell_all.new.writer.seat.me) (sym e4) t.0 in
    let slots4 = t.1 ∙ (λ i. (sym e4 i, Told o.6) ∷ []) in
    let r = c.retire.ensures.idle mine o.1 o.6 (at4, slots4) in
    let e5 : c.retire.new.writer.client ≡ k = c.retire.ensures.seat.1 ∙ e4 ∙ e3 ∙ e2 in
    let table = c.retire.ensures.seat.0 ∙ c.tell_all.ensures.seat.0 ∙ c.hand_on.ensures.seat.0 ∙ c.put_log.ensures.seat.0 ∙ c.fill.ensures.seat.0 ∙ c.requires.group.0.0 in
    let told_is : answers_told c.retire.new.writer ≡ mine ++ (o.1.asked, o.6) ∷ [] = ap told_in_first r.0 in (
      (table, subst (λ (j : ℕ). 0 < j) (sym e5) c.requires.group.0.1, subst (λ (j : ℕ). j ≤ c.args.self.now.clients) (sym e5) c.requires.group.0.2),
      (r.0 ∙ (λ i. hold (sym c.retire.ensures.seat.1 i) Idle (sym told_is i) ∷ []), r.1),
      λ max own group left seen gs p has heads_are replies.
          let same = one_lead lead (lead_with_group own seen (past_in c.args.writer.now.seat.me.0) has.0.0 group) (one_hold k k (Leading lead) (Leading (lead_with_group own seen (past_in c.args.writer.now.seat.me.0) has.0.0 group)) mine mine c.args.writer.now.seat.me.0 o.7.0.1 has.0.1).1 in
          let p_is : o.6 ≡ p = same_reply o.1 own o.6 p o.5 gs (sym o.9 ∙ replies) in
          (told_is ∙ (λ i. mine ++ ((same i).own.asked, p_is i) ∷ []), r.2 ∙ p_is),
    )

pub returns-clause-client : goal.returns-clause-client
returns-clause-client g c = c.retire.ensures.seat.1 ∙ (c.tell_all.ensures.seat.1 ∙ (c.hand_on.ensures.seat.1 ∙ (c.put_log.ensures.seat.1 ∙ c.fill.ensures.seat.1)))
