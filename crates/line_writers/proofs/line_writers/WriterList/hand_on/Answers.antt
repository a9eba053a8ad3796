use Rattle.std.proofs.Common.{◌≡◌, ℕ, ◌+◌, ◌-◌, ◌^◌, ◌<◌, [], ◌∷◌, ◌++◌, length, get_or, sym, ap, ◌∙◌, subst, refl, inl, arith}
use Rattle.line_rule.specs.declared.view.Lead.{Lead}
use Rattle.line_rule.specs.declared.content.LineSlot.TheVariants.{Told, TheLog}
use Rattle.line_rule.specs.declared.view.LineStage.TheVariants.{Leading, Settling}
use Rattle.line_rule.specs.Chain.{pairs}
use Rattle.line_rule.specs.Plays.{At, lead_with_walk, in_hand, debt, slots_of}
use Rattle.line_writers.specs.Roles.{HasRead, CodesFit}
use Rattle.line_writers.proofs.Surveys.{pair_at, length-pairs, code_fits}
use Rattle.line_rule.proofs.Enters.{one_hold}
use Rattle.line_rule.proofs.Leads.{one_lead}
use Rattle.line_writers.proofs.Hands.{behind}
use Rattle.line_writers.proofs.line_writers.WriterList.hand_on.Goals as goal

pub survey-requires-clause-read : goal.survey-requires-clause-read
survey-requires-clause-read g c =
    let o = c.requires.ready in let k : ℕ = c.args.writer.now.client in let slots : ℕ = c.args.self.now.table.shared.table_id.slots in let found : ℕ = c.leave-found.result in let z = c.args.self.now.sized in
    let w = (c.leave-found.ensures.left o.0 o.1 o.2 o.3 o.4 o.5 o.8.0 o.9).1 c.if-found-newest_member.false in
    let b = behind k slots o.0 o.1 found c.args.newest_member c.args.writer.now.seat.me c.leave-found.new.writer.seat.me w o.6 c.if-found-newest_member.false in
    let e1 : c.leave-found.new.writer.client ≡ k = c.leave-found.ensures.seat.1 in
    subst (λ (j : ℕ). HasRead 0 slots j found c.leave-found.new.writer.seat.me) (sym e1) b.read

pub overflow_sub-len : goal.overflow_sub-len
overflow_sub-len g c =
    let o = c.requires.ready in let k : ℕ = c.args.writer.now.client in let slots : ℕ = c.args.self.now.table.shared.table_id.slots in let found : ℕ = c.leave-found.result in let z = c.args.self.now.sized in
    let w = (c.leave-found.ensures.left o.0 o.1 o.2 o.3 o.4 o.5 o.8.0 o.9).1 c.if-found-newest_member.false in
    let b = behind k slots o.0 o.1 found c.args.newest_member c.args.writer.now.seat.me c.leave-found.new.writer.seat.me w o.6 c.if-found-newest_member.false in
    let e1 : c.leave-found.new.writer.client ≡ k = c.leave-found.ensures.seat.1 in
    let lead' : Lead g.row.Request.Denot g.row.Reply.Denot = lead_with_walk o.0 (b.queue ++ in_hand o.0) in
    let items : c.survey.new.walk.items ≡ pairs (b.pre ++ b.x ∷ in_hand o.0) = c.survey.ensures.walk (b.queue ++ in_hand o.0) (inl (refl, (Leading lead', o.1, subst (λ (j : ℕ). At j (Leading lead') o.1 c.leave-found.new.writer.seat.me) (sym e1) b.at, refl))) ∙ ap pairs b.parts in
    let long : length c.survey.new.walk.items ≡ length b.pre + 1 + length (in_hand o.0) = ap length items ∙ (length-pairs (b.pre ++ b.x ∷ in_hand o.0) ∙ (ap length (sym b.parts) ∙ b.long)) in
    let count : c.args.count ≡ length (in_hand o.0) = o.10 in
    omega arith

pub overflow_sub-len-2 : goal.overflow_sub-len-2
overflow_sub-len-2 g c =
    let o = c.requires.ready in let k : ℕ = c.args.writer.now.client in let slots : ℕ = c.args.self.now.table.shared.table_id.slots in let found : ℕ = c.leave-found.result in let z = c.args.self.now.sized in
    let w = (c.leave-found.ensures.left o.0 o.1 o.2 o.3 o.4 o.5 o.8.0 o.9).1 c.if-found-newest_member.false in
    let b = behind k slots o.0 o.1 found c.args.newest_member c.args.writer.now.seat.me c.leave-found.new.writer.seat.me w o.6 c.if-found-newest_member.false in
    let e1 : c.leave-found.new.writer.client ≡ k = c.leave-found.ensures.seat.1 in
    let lead' : Lead g.row.Request.Denot g.row.Reply.Denot = lead_with_walk o.0 (b.queue ++ in_hand o.0) in
    let items : c.survey.new.walk.items ≡ pairs (b.pre ++ b.x ∷ in_hand o.0) = c.survey.ensures.walk (b.queue ++ in_hand o.0) (inl (refl, (Leading lead', o.1, subst (λ (j : ℕ). At j (Leading lead') o.1 c.leave-found.new.writer.seat.me) (sym e1) b.at, refl))) ∙ ap pairs b.parts in
    let long : length c.survey.new.walk.items ≡ length b.pre + 1 + length (in_hand o.0) = ap length items ∙ (length-pairs (b.pre ++ b.x ∷ in_hand o.0) ∙ (ap length (sym b.parts) ∙ b.long)) in
    let count : c.args.count ≡ length (in_hand o.0) = o.10 in
    omega arith

pub index-requires : goal.index-requires
index-requires g c =
    let o = c.requires.ready in let k : ℕ = c.args.writer.now.client in let slots : ℕ = c.args.self.now.table.shared.table_id.slots in let found : ℕ = c.leave-found.result in let z = c.args.self.now.sized in
    let w = (c.leave-found.ensures.left o.0 o.1 o.2 o.3 o.4 o.5 o.8.0 o.9).1 c.if-found-newest_member.false in
    let b = behind k slots o.0 o.1 found c.args.newest_member c.args.writer.now.seat.me c.leave-found.new.writer.seat.me w o.6 c.if-found-newest_member.false in
    let e1 : c.leave-found.new.writer.client ≡ k = c.leave-found.ensures.seat.1 in
    let lead' : Lead g.row.Request.Denot g.row.Reply.Denot = lead_with_walk o.0 (b.queue ++ in_hand o.0) in
    let items : c.survey.new.walk.items ≡ pairs (b.pre ++ b.x ∷ in_hand o.0) = c.survey.ensures.walk (b.queue ++ in_hand o.0) (inl (refl, (Leading lead', o.1, subst (λ (j : ℕ). At j (Leading lead') o.1 c.leave-found.new.writer.seat.me) (sym e1) b.at, refl))) ∙ ap pairs b.parts in
    let long : length c.survey.new.walk.items ≡ length b.pre + 1 + length (in_hand o.0) = ap length items ∙ (length-pairs (b.pre ++ b.x ∷ in_hand o.0) ∙ (ap length (sym b.parts) ∙ b.long)) in
    let count : c.args.count ≡ length (in_hand o.0) = o.10 in
    omega arith

pub wake-requires-clause-seat : goal.wake-requires-clause-seat
wake-requires-clause-seat g c =
    let o = c.requires.ready in let k : ℕ = c.args.writer.now.client in let slots : ℕ = c.args.self.now.table.shared.table_id.slots in let found : ℕ = c.leave-found.result in let z = c.args.self.now.sized in
    let w = (c.leave-found.ensures.left o.0 o.1 o.2 o.3 o.4 o.5 o.8.0 o.9).1 c.if-found-newest_member.false in
    let b = behind k slots o.0 o.1 found c.args.newest_member c.args.writer.now.seat.me c.leave-found.new.writer.seat.me w o.6 c.if-found-newest_member.false in
    let e1 : c.leave-found.new.writer.client ≡ k = c.leave-found.ensures.seat.1 in
    let lead' : Lead g.row.Request.Denot g.row.Reply.Denot = lead_with_walk o.0 (b.queue ++ in_hand o.0) in
    let items : c.survey.new.walk.items ≡ pairs (b.pre ++ b.x ∷ in_hand o.0) = c.survey.ensures.walk (b.queue ++ in_hand o.0) (inl (refl, (Leading lead', o.1, subst (λ (j : ℕ). At j (Leading lead') o.1 c.leave-found.new.writer.seat.me) (sym e1) b.at, refl))) ∙ ap pairs b.parts in
    let long : length c.survey.new.walk.items ≡ length b.pre + 1 + length (in_hand o.0) = ap length items ∙ (length-pairs (b.pre ++ b.x ∷ in_hand o.0) ∙ (ap length (sym b.parts) ∙ b.long)) in
    let count : c.args.count ≡ length (in_hand o.0) = o.10 in
    let got = c.index.result.now in
    let index : c.len.result - c.args.count - 1 ≡ length b.pre = let l = c.len.ensures in omega arith in
    let is : got ≡ (b.x.by, b.x.code) = c.index.ensures ∙ (λ i. get_or (items i) (index i) got) ∙ pair_at b.pre b.x (in_hand o.0) got in
    let range = subst (λ (y : ℕ × ℕ). (0 < y.0) × (y.0 + 1 < slots)) (sym is) b.range in
    let fits = subst (λ (y : ℕ × ℕ). y.1 < 2 ^ 56) (sym is) (code_fits b.pre b.x (in_hand o.0) (subst CodesFit items c.survey.ensures.codes)) in
    let r1 = range.1 in
    (c.survey.ensures.seat.0 ∙ c.leave-found.ensures.seat.0 ∙ c.requires.seat.0, range.0, omega arith, fits)

pub wake-requires-clause-ready : goal.wake-requires-clause-ready
wake-requires-clause-ready g c =
    let o = c.requires.ready in let k : ℕ = c.args.writer.now.client in let slots : ℕ = c.args.self.now.table.shared.table_id.slots in let found : ℕ = c.leave-found.result in let z = c.args.self.now.sized in
    let w = (c.leave-found.ensures.left o.0 o.1 o.2 o.3 o.4 o.5 o.8.0 o.9).1 c.if-found-newest_member.false in
    let b = behind k slots o.0 o.1 found c.args.newest_member c.args.writer.now.seat.me c.leave-found.new.writer.seat.me w o.6 c.if-found-newest_member.false in
    let e1 : c.leave-found.new.writer.client ≡ k = c.leave-found.ensures.seat.1 in
    let lead' : Lead g.row.Request.Denot g.row.Reply.Denot = lead_with_walk o.0 (b.queue ++ in_hand o.0) in
    let items : c.survey.new.walk.items ≡ pairs (b.pre ++ b.x ∷ in_hand o.0) = c.survey.ensures.walk (b.queue ++ in_hand o.0) (inl (refl, (Leading lead', o.1, subst (λ (j : ℕ). At j (Leading lead') o.1 c.leave-found.new.writer.seat.me) (sym e1) b.at, refl))) ∙ ap pairs b.parts in
    let long : length c.survey.new.walk.items ≡ length b.pre + 1 + length (in_hand o.0) = ap length items ∙ (length-pairs (b.pre ++ b.x ∷ in_hand o.0) ∙ (ap length (sym b.parts) ∙ b.long)) in
    let count : c.args.count ≡ length (in_hand o.0) = o.10 in
    let got = c.index.result.now in
    let index : c.len.result - c.args.count - 1 ≡ length b.pre = let l = c.len.ensures in omega arith in
    let is : got ≡ (b.x.by, b.x.code) = c.index.ensures ∙ (λ i. get_or (items i) (index i) got) ∙ pair_at b.pre b.x (in_hand o.0) got in
    let e2 : c.survey.new.writer.client ≡ k = c.survey.ensures.seat.1 ∙ e1 in
    let me = c.survey.ensures.seat.2 in
    let at = subst (λ (j : ℕ). At j (Leading lead') o.1 c.survey.new.writer.seat.me) (sym e2) (ap (λ m. m.0) me ∙ b.at) in
    let slot = ap (λ m. m.1) me ∙ b.slots_same ∙ o.9 ∙ (λ i. (0, TheLog o.4) ∷ slots_of o.2 ((sym e2 i, Told o.3) ∷ [])) in
    (lead', o.1, b.pre, b.x, o.2, o.3, o.4, (at, b.parts), sym (ap (λ (y : ℕ × ℕ). y.0) is), sym (ap (λ (y : ℕ × ℕ). y.1) is), o.7, (o.8.0, (TheLog o.4, slot), o.8.2, o.8.3), slot)

pub returns-clause-settling : goal.returns-clause-settling
returns-clause-settling g c lead mine gs p l at heads_are slot_is =
    let o = c.requires.ready in let k : ℕ = c.args.writer.now.client in let slots : ℕ = c.args.self.now.table.shared.table_id.slots in let found : ℕ = c.leave-found.result in let z = c.args.self.now.sized in
    let w = (c.leave-found.ensures.left o.0 o.1 o.2 o.3 o.4 o.5 o.8.0 o.9).1 c.if-found-newest_member.false in
    let b = behind k slots o.0 o.1 found c.args.newest_member c.args.writer.now.seat.me c.leave-found.new.writer.seat.me w o.6 c.if-found-newest_member.false in
    let e1 : c.leave-found.new.writer.client ≡ k = c.leave-found.ensures.seat.1 in
    let lead' : Lead g.row.Request.Denot g.row.Reply.Denot = lead_with_walk o.0 (b.queue ++ in_hand o.0) in
    let items : c.survey.new.walk.items ≡ pairs (b.pre ++ b.x ∷ in_hand o.0) = c.survey.ensures.walk (b.queue ++ in_hand o.0) (inl (refl, (Leading lead', o.1, subst (λ (j : ℕ). At j (Leading lead') o.1 c.leave-found.new.writer.seat.me) (sym e1) b.at, refl))) ∙ ap pairs b.parts in
    let long : length c.survey.new.walk.items ≡ length b.pre + 1 + length (in_hand o.0) = ap length items ∙ (length-pairs (b.pre ++ b.x ∷ in_hand o.0) ∙ (ap length (sym b.parts) ∙ b.long)) in
    let count : c.args.count ≡ length (in_hand o.0) = o.10 in
    let e2 : c.survey.new.writer.client ≡ k = c.survey.ensures.seat.1 ∙ e1 in
    let me = c.survey.ensures.seat.2 in
    let same = one_lead o.0 lead (one_hold k k (Leading o.0) (Leading lead) o.1 mine c.args.writer.now.seat.me.0 o.5 at).1 in
    let w' = (c.leave-found.ensures.left lead mine gs p l at heads_are slot_is).1 c.if-found-newest_member.false in
    let lead2 : Lead g.row.Request.Denot g.row.Reply.Denot = lead_with_walk lead (w'.0 ++ in_hand lead) in
    let now = subst (λ (j : ℕ). At j (Leading lead2) mine c.survey.new.writer.seat.me) (sym e2) (ap (λ m. m.0) me ∙ w'.1) in
    let slot = ap (λ m. m.1) me ∙ w'.2 ∙ slot_is ∙ (λ i. (0, TheLog l) ∷ slots_of gs ((sym e2 i, Told p) ∷ [])) in
    let t = c.wake.ensures.left lead2 mine gs p l now heads_are slot in
    subst (λ (j : ℕ). At j (Settling (debt gs lead.own p)) mine c.wake.new.writer.seat.me × (c.wake.new.writer.seat.me.1 ≡ slots_of gs ((j, Told p) ∷ []))) e2 t
