use Rattle.std.proofs.Common.{◌≡◌, ℕ, ◌+◌, ◌-◌, ◌^◌, ◌<◌, [], ◌∷◌, ◌++◌, length, get_or, sym, ap, ◌∙◌, subst, refl, inl, arith}
use Rattle.line_rule.specs.declared.view.Lead.{Lead}
use Rattle.line_rule.specs.declared.view.LineStage.TheVariants.{Leading, Cutting}
use Rattle.line_rule.specs.declared.view.Back.TheVariants.{Parting}
use Rattle.line_rule.specs.Chain.{pairs}
use Rattle.line_rule.specs.Plays.{At, lead_with_walk, in_hand, squad_at_cut}
use Rattle.line_rule.specs.Rule.{hold_at}
use Rattle.line_writers.specs.Roles.{HasRead, CodesFit}
use Rattle.line_writers.proofs.Surveys.{pair_at, length-pairs, code_fits}
use Rattle.line_rule.proofs.Enters.{one_hold}
use Rattle.line_rule.proofs.Leads.{one_lead}
use Rattle.line_writers.proofs.Hands.{behind}
use Rattle.line_writers.proofs.line_writers.WriterList.part.Goals as goal

pub returns-then-found-newest_member-clause-parted : goal.returns-then-found-newest_member-clause-parted
returns-then-found-newest_member-clause-parted g c lead mine at = let t = (c.mark-found.ensures.marked lead mine at).0 c.if-found-newest_member.true in ([], ((λ _. t.0), (λ ne. absurd (ne refl))), t.1)

pub survey-requires-clause-read : goal.survey-requires-clause-read
survey-requires-clause-read g c =
    let o = c.requires.ready in let k : ℕ = c.args.writer.now.client in let slots : ℕ = c.args.self.now.table.shared.table_id.slots in let found : ℕ = c.mark-found.result in let z = c.args.self.now.sized in
    let w = (c.mark-found.ensures.marked o.0 o.1 o.2.0).1 c.if-found-newest_member.false in
    let b = behind k slots o.0 o.1 found c.args.newest_member c.args.writer.now.seat.me c.mark-found.new.writer.seat.me w o.2.1 c.if-found-newest_member.false in
    let e1 : c.mark-found.new.writer.client ≡ k = c.mark-found.ensures.seat.1 in
    let lead' : Lead g.row.Request.Denot g.row.Reply.Denot = lead_with_walk o.0 (b.queue ++ in_hand o.0) in
    subst (λ (j : ℕ). HasRead 0 slots j found c.mark-found.new.writer.seat.me) (sym e1) b.read

pub overflow_sub-len : goal.overflow_sub-len
overflow_sub-len g c =
    let o = c.requires.ready in let k : ℕ = c.args.writer.now.client in let slots : ℕ = c.args.self.now.table.shared.table_id.slots in let found : ℕ = c.mark-found.result in let z = c.args.self.now.sized in
    let w = (c.mark-found.ensures.marked o.0 o.1 o.2.0).1 c.if-found-newest_member.false in
    let b = behind k slots o.0 o.1 found c.args.newest_member c.args.writer.now.seat.me c.mark-found.new.writer.seat.me w o.2.1 c.if-found-newest_member.false in
    let e1 : c.mark-found.new.writer.client ≡ k = c.mark-found.ensures.seat.1 in
    let lead' : Lead g.row.Request.Denot g.row.Reply.Denot = lead_with_walk o.0 (b.queue ++ in_hand o.0) in
    let items : c.survey.new.walk.items ≡ pairs (b.pre ++ b.x ∷ in_hand o.0) = c.survey.ensures.walk (b.queue ++ in_hand o.0) (inl (refl, (Leading lead', o.1, subst (λ (j : ℕ). At j (Leading lead') o.1 c.mark-found.new.writer.seat.me) (sym e1) b.at, refl))) ∙ ap pairs b.parts in
    let long : length c.survey.new.walk.items ≡ length b.pre + 1 + length (in_hand o.0) = ap length items ∙ (length-pairs (b.pre ++ b.x ∷ in_hand o.0) ∙ (ap length (sym b.parts) ∙ b.long)) in
    let count : c.args.count ≡ length (in_hand o.0) = o.2.3 in
    omega arith

pub overflow_sub-len-2 : goal.overflow_sub-len-2
overflow_sub-len-2 g c =
    let o = c.requires.ready in let k : ℕ = c.args.writer.now.client in let slots : ℕ = c.args.self.now.table.shared.table_id.slots in let found : ℕ = c.mark-found.result in let z = c.args.self.now.sized in
    let w = (c.mark-found.ensures.marked o.0 o.1 o.2.0).1 c.if-found-newest_member.false in
    let b = behind k slots o.0 o.1 found c.args.newest_member c.args.writer.now.seat.me c.mark-found.new.writer.seat.me w o.2.1 c.if-found-newest_member.false in
    let e1 : c.mark-found.new.writer.client ≡ k = c.mark-found.ensures.seat.1 in
    let lead' : Lead g.row.Request.Denot g.row.Reply.Denot = lead_with_walk o.0 (b.queue ++ in_hand o.0) in
    let items : c.survey.new.walk.items ≡ pairs (b.pre ++ b.x ∷ in_hand o.0) = c.survey.ensures.walk (b.queue ++ in_hand o.0) (inl (refl, (Leading lead', o.1, subst (λ (j : ℕ). At j (Leading lead') o.1 c.mark-found.new.writer.seat.me) (sym e1) b.at, refl))) ∙ ap pairs b.parts in
    let long : length c.survey.new.walk.items ≡ length b.pre + 1 + length (in_hand o.0) = ap length items ∙ (length-pairs (b.pre ++ b.x ∷ in_hand o.0) ∙ (ap length (sym b.parts) ∙ b.long)) in
    let count : c.args.count ≡ length (in_hand o.0) = o.2.3 in
    omega arith

pub index-requires : goal.index-requires
index-requires g c =
    let o = c.requires.ready in let k : ℕ = c.args.writer.now.client in let slots : ℕ = c.args.self.now.table.shared.table_id.slots in let found : ℕ = c.mark-found.result in let z = c.args.self.now.sized in
    let w = (c.mark-found.ensures.marked o.0 o.1 o.2.0).1 c.if-found-newest_member.false in
    let b = behind k slots o.0 o.1 found c.args.newest_member c.args.writer.now.seat.me c.mark-found.new.writer.seat.me w o.2.1 c.if-found-newest_member.false in
    let e1 : c.mark-found.new.writer.client ≡ k = c.mark-found.ensures.seat.1 in
    let lead' : Lead g.row.Request.Denot g.row.Reply.Denot = lead_with_walk o.0 (b.queue ++ in_hand o.0) in
    let items : c.survey.new.walk.items ≡ pairs (b.pre ++ b.x ∷ in_hand o.0) = c.survey.ensures.walk (b.queue ++ in_hand o.0) (inl (refl, (Leading lead', o.1, subst (λ (j : ℕ). At j (Leading lead') o.1 c.mark-found.new.writer.seat.me) (sym e1) b.at, refl))) ∙ ap pairs b.parts in
    let long : length c.survey.new.walk.items ≡ length b.pre + 1 + length (in_hand o.0) = ap length items ∙ (length-pairs (b.pre ++ b.x ∷ in_hand o.0) ∙ (ap length (sym b.parts) ∙ b.long)) in
    let count : c.args.count ≡ length (in_hand o.0) = o.2.3 in
    omega arith

pub cut_away-requires-clause-seat : goal.cut_away-requires-clause-seat
cut_away-requires-clause-seat g c =
    let o = c.requires.ready in let k : ℕ = c.args.writer.now.client in let slots : ℕ = c.args.self.now.table.shared.table_id.slots in let found : ℕ = c.mark-found.result in let z = c.args.self.now.sized in
    let w = (c.mark-found.ensures.marked o.0 o.1 o.2.0).1 c.if-found-newest_member.false in
    let b = behind k slots o.0 o.1 found c.args.newest_member c.args.writer.now.seat.me c.mark-found.new.writer.seat.me w o.2.1 c.if-found-newest_member.false in
    let e1 : c.mark-found.new.writer.client ≡ k = c.mark-found.ensures.seat.1 in
    let lead' : Lead g.row.Request.Denot g.row.Reply.Denot = lead_with_walk o.0 (b.queue ++ in_hand o.0) in
    let items : c.survey.new.walk.items ≡ pairs (b.pre ++ b.x ∷ in_hand o.0) = c.survey.ensures.walk (b.queue ++ in_hand o.0) (inl (refl, (Leading lead', o.1, subst (λ (j : ℕ). At j (Leading lead') o.1 c.mark-found.new.writer.seat.me) (sym e1) b.at, refl))) ∙ ap pairs b.parts in
    let long : length c.survey.new.walk.items ≡ length b.pre + 1 + length (in_hand o.0) = ap length items ∙ (length-pairs (b.pre ++ b.x ∷ in_hand o.0) ∙ (ap length (sym b.parts) ∙ b.long)) in
    let count : c.args.count ≡ length (in_hand o.0) = o.2.3 in
    let got = c.index.result.now in
    let index : c.len.result - c.args.count - 1 ≡ length b.pre = let l = c.len.ensures in omega arith in
    let is : got ≡ (b.x.by, b.x.code) = c.index.ensures ∙ (λ i. get_or (items i) (index i) got) ∙ pair_at b.pre b.x (in_hand o.0) got in
    let range = subst (λ (y : ℕ × ℕ). (0 < y.0) × (y.0 + 1 < slots)) (sym is) b.range in
    let r1 = range.1 in
    let fits = subst (λ (y : ℕ × ℕ). y.1 < 2 ^ 56) (sym is) (code_fits b.pre b.x (in_hand o.0) (subst CodesFit items c.survey.ensures.codes)) in
    (c.survey.ensures.seat.0 ∙ c.mark-found.ensures.seat.0 ∙ c.requires.seat.0, range.0, omega arith, fits)

pub cut_away-requires-clause-next : goal.cut_away-requires-clause-next
cut_away-requires-clause-next g c =
    let o = c.requires.ready in let k : ℕ = c.args.writer.now.client in let slots : ℕ = c.args.self.now.table.shared.table_id.slots in let found : ℕ = c.mark-found.result in let z = c.args.self.now.sized in
    let w = (c.mark-found.ensures.marked o.0 o.1 o.2.0).1 c.if-found-newest_member.false in
    let b = behind k slots o.0 o.1 found c.args.newest_member c.args.writer.now.seat.me c.mark-found.new.writer.seat.me w o.2.1 c.if-found-newest_member.false in
    let e1 : c.mark-found.new.writer.client ≡ k = c.mark-found.ensures.seat.1 in
    let lead' : Lead g.row.Request.Denot g.row.Reply.Denot = lead_with_walk o.0 (b.queue ++ in_hand o.0) in
    let items : c.survey.new.walk.items ≡ pairs (b.pre ++ b.x ∷ in_hand o.0) = c.survey.ensures.walk (b.queue ++ in_hand o.0) (inl (refl, (Leading lead', o.1, subst (λ (j : ℕ). At j (Leading lead') o.1 c.mark-found.new.writer.seat.me) (sym e1) b.at, refl))) ∙ ap pairs b.parts in
    let long : length c.survey.new.walk.items ≡ length b.pre + 1 + length (in_hand o.0) = ap length items ∙ (length-pairs (b.pre ++ b.x ∷ in_hand o.0) ∙ (ap length (sym b.parts) ∙ b.long)) in
    let count : c.args.count ≡ length (in_hand o.0) = o.2.3 in
    let got = c.index.result.now in
    let index : c.len.result - c.args.count - 1 ≡ length b.pre = let l = c.len.ensures in omega arith in
    let is : got ≡ (b.x.by, b.x.code) = c.index.ensures ∙ (λ i. get_or (items i) (index i) got) ∙ pair_at b.pre b.x (in_hand o.0) got in
    let range = subst (λ (y : ℕ × ℕ). (0 < y.0) × (y.0 + 1 < slots)) (sym is) b.range in
    let r1 = range.1 in
    let e2 : c.survey.new.writer.client ≡ k = c.survey.ensures.seat.1 ∙ e1 in
    let me = c.survey.ensures.seat.2 in
    let at2 = subst (λ (j : ℕ). At j (Leading lead') o.1 c.survey.new.writer.seat.me) (sym e2) (ap (λ m. m.0) me ∙ b.at) in
    let by : b.x.by ≡ got.0 = sym (ap (λ (y : ℕ × ℕ). y.0) is) in
    (lead', o.1, b.pre, b.x, (at2, b.parts), by, sym (ap (λ (y : ℕ × ℕ). y.1) is), o.2.2)

pub returns-clause-next : goal.returns-clause-next
returns-clause-next g c =
    let o = c.requires.ready in let k : ℕ = c.args.writer.now.client in let slots : ℕ = c.args.self.now.table.shared.table_id.slots in let found : ℕ = c.mark-found.result in let z = c.args.self.now.sized in
    let w = (c.mark-found.ensures.marked o.0 o.1 o.2.0).1 c.if-found-newest_member.false in
    let b = behind k slots o.0 o.1 found c.args.newest_member c.args.writer.now.seat.me c.mark-found.new.writer.seat.me w o.2.1 c.if-found-newest_member.false in
    let e1 : c.mark-found.new.writer.client ≡ k = c.mark-found.ensures.seat.1 in
    let lead' : Lead g.row.Request.Denot g.row.Reply.Denot = lead_with_walk o.0 (b.queue ++ in_hand o.0) in
    let items : c.survey.new.walk.items ≡ pairs (b.pre ++ b.x ∷ in_hand o.0) = c.survey.ensures.walk (b.queue ++ in_hand o.0) (inl (refl, (Leading lead', o.1, subst (λ (j : ℕ). At j (Leading lead') o.1 c.mark-found.new.writer.seat.me) (sym e1) b.at, refl))) ∙ ap pairs b.parts in
    let long : length c.survey.new.walk.items ≡ length b.pre + 1 + length (in_hand o.0) = ap length items ∙ (length-pairs (b.pre ++ b.x ∷ in_hand o.0) ∙ (ap length (sym b.parts) ∙ b.long)) in
    let count : c.args.count ≡ length (in_hand o.0) = o.2.3 in
    let got = c.index.result.now in
    let index : c.len.result - c.args.count - 1 ≡ length b.pre = let l = c.len.ensures in omega arith in
    let is : got ≡ (b.x.by, b.x.code) = c.index.ensures ∙ (λ i. get_or (items i) (index i) got) ∙ pair_at b.pre b.x (in_hand o.0) got in
    let range = subst (λ (y : ℕ × ℕ). (0 < y.0) × (y.0 + 1 < slots)) (sym is) b.range in
    let r1 = range.1 in
    omega arith

pub returns-clause-parted : goal.returns-clause-parted
returns-clause-parted g c lead mine at =
    let o = c.requires.ready in let k : ℕ = c.args.writer.now.client in let slots : ℕ = c.args.self.now.table.shared.table_id.slots in let found : ℕ = c.mark-found.result in let z = c.args.self.now.sized in
    let w = (c.mark-found.ensures.marked o.0 o.1 o.2.0).1 c.if-found-newest_member.false in
    let b = behind k slots o.0 o.1 found c.args.newest_member c.args.writer.now.seat.me c.mark-found.new.writer.seat.me w o.2.1 c.if-found-newest_member.false in
    let e1 : c.mark-found.new.writer.client ≡ k = c.mark-found.ensures.seat.1 in
    let lead' : Lead g.row.Request.Denot g.row.Reply.Denot = lead_with_walk o.0 (b.queue ++ in_hand o.0) in
    let items : c.survey.new.walk.items ≡ pairs (b.pre ++ b.x ∷ in_hand o.0) = c.survey.ensures.walk (b.queue ++ in_hand o.0) (inl (refl, (Leading lead', o.1, subst (λ (j : ℕ). At j (Leading lead') o.1 c.mark-found.new.writer.seat.me) (sym e1) b.at, refl))) ∙ ap pairs b.parts in
    let long : length c.survey.new.walk.items ≡ length b.pre + 1 + length (in_hand o.0) = ap length items ∙ (length-pairs (b.pre ++ b.x ∷ in_hand o.0) ∙ (ap length (sym b.parts) ∙ b.long)) in
    let count : c.args.count ≡ length (in_hand o.0) = o.2.3 in
    let got = c.index.result.now in
    let index : c.len.result - c.args.count - 1 ≡ length b.pre = let l = c.len.ensures in omega arith in
    let is : got ≡ (b.x.by, b.x.code) = c.index.ensures ∙ (λ i. get_or (items i) (index i) got) ∙ pair_at b.pre b.x (in_hand o.0) got in
    let range = subst (λ (y : ℕ × ℕ). (0 < y.0) × (y.0 + 1 < slots)) (sym is) b.range in
    let r1 = range.1 in
    let e2 : c.survey.new.writer.client ≡ k = c.survey.ensures.seat.1 ∙ e1 in
    let me = c.survey.ensures.seat.2 in
    let at2 = subst (λ (j : ℕ). At j (Leading lead') o.1 c.survey.new.writer.seat.me) (sym e2) (ap (λ m. m.0) me ∙ b.at) in
    let by : b.x.by ≡ got.0 = sym (ap (λ (y : ℕ × ℕ). y.0) is) in
    let cut = c.cut_away.ensures.cut lead' o.1 b.pre b.x (at2, b.parts) by in let e3 = c.cut_away.ensures.seat.1 ∙ e2 in
    let same = one_hold k k (Leading o.0) (Leading lead) o.1 mine c.args.writer.now.seat.me.0 o.2.0 at in
    let le : o.0 ≡ lead = one_lead o.0 lead same.1 in let walk = b.queue ++ in_hand o.0 in
    let at4 = cut.0 ∙ (λ i. hold_at (e2 i) (Cutting (lead_with_walk (le i) walk) b.x) (same.2 i) (Parting (squad_at_cut (le i) g.Given.PickedGiven.given) 0) ∷ []) in
    (walk, ((λ zero. let r0 = range.0 in absurd (omega arith)), (λ _. (b.x, by, at4))), cut.1 ∙ ap (λ m. m.1) me ∙ b.slots_same)
