use Rattle.std.proofs.Common.{◌≡◌, ℕ, ◌+◌, ◌-◌, ◌^◌, ◌<◌, [], ◌∷◌, ◌++◌, length, get_or, sym, ap, ◌∙◌, subst, refl, inl, inr, arith}
use Rattle.line_rule.specs.declared.view.Lead.{Lead}
use Rattle.line_rule.specs.declared.content.LineSlot.TheVariants.{Told, TheLog}
use Rattle.line_rule.specs.declared.view.LineStage.TheVariants.{Marking, Cutting, Settling}
use Rattle.line_rule.specs.Chain.{pairs}
use Rattle.line_rule.specs.Plays.{AtWith, SeesTo, lead_with_walk, debt, slots_of, back_after_log}
use Rattle.line_rule.specs.Rule.{hold_at}
use Rattle.line_writers.specs.Roles.{HasRead, CodesFit}
use Rattle.line_writers.proofs.Surveys.{pair_at, length-pairs, code_fits}
use Rattle.line_rule.proofs.Onward.{one_hold_at}
use Rattle.line_rule.proofs.Leads.{lead_in}
use Rattle.line_writers.proofs.Frees.{behind_marked}
use Rattle.line_writers.proofs.line_writers.WriterList.free_on.Goals as goal
use Rattle.line_rule.specs.declared.words.TheConstants.{MARK}

pub survey-requires-clause-read : goal.survey-requires-clause-read
survey-requires-clause-read g c =
    let o = c.requires.ready in let k : ℕ = c.args.writer.now.client in let slots : ℕ = c.args.self.now.table.shared.table_id.slots in let found : ℕ = c.free-found.result in let z = c.args.self.now.sized in
    let w = (c.free-found.ensures.freed o.0 o.1 o.2 o.3 o.4 o.5 o.6 o.7 o.8 o.9).1 c.if-found-eq-MARK.false in
    let b = behind_marked k slots o.0 o.1 o.2 found c.args.writer.now.seat.me c.free-found.new.writer.seat.me w c.if-found-eq-MARK.false in
    let e1 : c.free-found.new.writer.client ≡ k = c.free-found.ensures.seat.1 in
    let lead' : Lead g.row.Request.Denot g.row.Reply.Denot = lead_with_walk o.0 b.walk in
    subst (λ (j : ℕ). HasRead MARK slots j found c.free-found.new.writer.seat.me) (sym e1) b.read

pub overflow_sub-len : goal.overflow_sub-len
overflow_sub-len g c =
    let o = c.requires.ready in let k : ℕ = c.args.writer.now.client in let slots : ℕ = c.args.self.now.table.shared.table_id.slots in let found : ℕ = c.free-found.result in let z = c.args.self.now.sized in
    let w = (c.free-found.ensures.freed o.0 o.1 o.2 o.3 o.4 o.5 o.6 o.7 o.8 o.9).1 c.if-found-eq-MARK.false in
    let b = behind_marked k slots o.0 o.1 o.2 found c.args.writer.now.seat.me c.free-found.new.writer.seat.me w c.if-found-eq-MARK.false in
    let e1 : c.free-found.new.writer.client ≡ k = c.free-found.ensures.seat.1 in
    let lead' : Lead g.row.Request.Denot g.row.Reply.Denot = lead_with_walk o.0 b.walk in
    let sees : SeesTo MARK c.free-found.new.writer.client c.free-found.new.writer.seat.me b.walk = inr (inl (refl, (lead', o.1, o.2, subst (λ (j : ℕ). AtWith j (Marking lead') o.1 o.2 c.free-found.new.writer.seat.me) (sym e1) b.at, refl))) in
    let items : c.survey.new.walk.items ≡ pairs (b.pre ++ b.x ∷ []) = c.survey.ensures.walk b.walk sees ∙ ap pairs b.parts in
    let long : length c.survey.new.walk.items ≡ length b.pre + 1 = ap length items ∙ (length-pairs (b.pre ++ b.x ∷ []) ∙ (ap length (sym b.parts) ∙ b.long)) in
    omega arith

pub index-requires : goal.index-requires
index-requires g c =
    let o = c.requires.ready in let k : ℕ = c.args.writer.now.client in let slots : ℕ = c.args.self.now.table.shared.table_id.slots in let found : ℕ = c.free-found.result in let z = c.args.self.now.sized in
    let w = (c.free-found.ensures.freed o.0 o.1 o.2 o.3 o.4 o.5 o.6 o.7 o.8 o.9).1 c.if-found-eq-MARK.false in
    let b = behind_marked k slots o.0 o.1 o.2 found c.args.writer.now.seat.me c.free-found.new.writer.seat.me w c.if-found-eq-MARK.false in
    let e1 : c.free-found.new.writer.client ≡ k = c.free-found.ensures.seat.1 in
    let lead' : Lead g.row.Request.Denot g.row.Reply.Denot = lead_with_walk o.0 b.walk in
    let sees : SeesTo MARK c.free-found.new.writer.client c.free-found.new.writer.seat.me b.walk = inr (inl (refl, (lead', o.1, o.2, subst (λ (j : ℕ). AtWith j (Marking lead') o.1 o.2 c.free-found.new.writer.seat.me) (sym e1) b.at, refl))) in
    let items : c.survey.new.walk.items ≡ pairs (b.pre ++ b.x ∷ []) = c.survey.ensures.walk b.walk sees ∙ ap pairs b.parts in
    let long : length c.survey.new.walk.items ≡ length b.pre + 1 = ap length items ∙ (length-pairs (b.pre ++ b.x ∷ []) ∙ (ap length (sym b.parts) ∙ b.long)) in
    omega arith

pub cut_behind-requires-clause-seat : goal.cut_behind-requires-clause-seat
cut_behind-requires-clause-seat g c =
    let o = c.requires.ready in let k : ℕ = c.args.writer.now.client in let slots : ℕ = c.args.self.now.table.shared.table_id.slots in let found : ℕ = c.free-found.result in let z = c.args.self.now.sized in
    let w = (c.free-found.ensures.freed o.0 o.1 o.2 o.3 o.4 o.5 o.6 o.7 o.8 o.9).1 c.if-found-eq-MARK.false in
    let b = behind_marked k slots o.0 o.1 o.2 found c.args.writer.now.seat.me c.free-found.new.writer.seat.me w c.if-found-eq-MARK.false in
    let e1 : c.free-found.new.writer.client ≡ k = c.free-found.ensures.seat.1 in
    let lead' : Lead g.row.Request.Denot g.row.Reply.Denot = lead_with_walk o.0 b.walk in
    let sees : SeesTo MARK c.free-found.new.writer.client c.free-found.new.writer.seat.me b.walk = inr (inl (refl, (lead', o.1, o.2, subst (λ (j : ℕ). AtWith j (Marking lead') o.1 o.2 c.free-found.new.writer.seat.me) (sym e1) b.at, refl))) in
    let items : c.survey.new.walk.items ≡ pairs (b.pre ++ b.x ∷ []) = c.survey.ensures.walk b.walk sees ∙ ap pairs b.parts in
    let long : length c.survey.new.walk.items ≡ length b.pre + 1 = ap length items ∙ (length-pairs (b.pre ++ b.x ∷ []) ∙ (ap length (sym b.parts) ∙ b.long)) in
    let got = c.index.result.now in
    let index : c.len.result - 1 ≡ length b.pre = let l = c.len.ensures in omega arith in
    let is : got ≡ (b.x.by, b.x.code) = c.index.ensures ∙ (λ i. get_or (items i) (index i) got) ∙ pair_at b.pre b.x [] got in
    let range = subst (λ (y : ℕ × ℕ). (0 < y.0) × (y.0 + 1 < slots)) (sym is) b.range in
    let fits = subst (λ (y : ℕ × ℕ). y.1 < 2 ^ 56) (sym is) (code_fits b.pre b.x [] (subst CodesFit items c.survey.ensures.codes)) in
    let r1 = range.1 in
    (c.survey.ensures.seat.0 ∙ c.free-found.ensures.seat.0 ∙ c.requires.seat.0, range.0, omega arith, fits)

pub cut_behind-requires-clause-next : goal.cut_behind-requires-clause-next
cut_behind-requires-clause-next g c =
    let o = c.requires.ready in let k : ℕ = c.args.writer.now.client in let slots : ℕ = c.args.self.now.table.shared.table_id.slots in let found : ℕ = c.free-found.result in let z = c.args.self.now.sized in
    let w = (c.free-found.ensures.freed o.0 o.1 o.2 o.3 o.4 o.5 o.6 o.7 o.8 o.9).1 c.if-found-eq-MARK.false in
    let b = behind_marked k slots o.0 o.1 o.2 found c.args.writer.now.seat.me c.free-found.new.writer.seat.me w c.if-found-eq-MARK.false in
    let e1 : c.free-found.new.writer.client ≡ k = c.free-found.ensures.seat.1 in
    let lead' : Lead g.row.Request.Denot g.row.Reply.Denot = lead_with_walk o.0 b.walk in
    let sees : SeesTo MARK c.free-found.new.writer.client c.free-found.new.writer.seat.me b.walk = inr (inl (refl, (lead', o.1, o.2, subst (λ (j : ℕ). AtWith j (Marking lead') o.1 o.2 c.free-found.new.writer.seat.me) (sym e1) b.at, refl))) in
    let items : c.survey.new.walk.items ≡ pairs (b.pre ++ b.x ∷ []) = c.survey.ensures.walk b.walk sees ∙ ap pairs b.parts in
    let long : length c.survey.new.walk.items ≡ length b.pre + 1 = ap length items ∙ (length-pairs (b.pre ++ b.x ∷ []) ∙ (ap length (sym b.parts) ∙ b.long)) in
    let got = c.index.result.now in
    let index : c.len.result - 1 ≡ length b.pre = let l = c.len.ensures in omega arith in
    let is : got ≡ (b.x.by, b.x.code) = c.index.ensures ∙ (λ i. get_or (items i) (index i) got) ∙ pair_at b.pre b.x [] got in
    let e2 : c.survey.new.writer.client ≡ k = c.survey.ensures.seat.1 ∙ e1 in
    let me = c.survey.ensures.seat.2 in
    let at2 = subst (λ (j : ℕ). AtWith j (Marking lead') o.1 o.2 c.survey.new.writer.seat.me) (sym e2) (ap (λ m. m.0) me ∙ b.at) in
    let by : b.x.by ≡ got.0 = sym (ap (λ (y : ℕ × ℕ). y.0) is) in
    (lead', o.1, o.2, b.pre, b.x, at2, b.parts, by, sym (ap (λ (y : ℕ × ℕ). y.1) is))

pub wake_on-requires-clause-seat : goal.wake_on-requires-clause-seat
wake_on-requires-clause-seat g c =
    let o = c.requires.ready in let k : ℕ = c.args.writer.now.client in let slots : ℕ = c.args.self.now.table.shared.table_id.slots in let found : ℕ = c.free-found.result in let z = c.args.self.now.sized in
    let w = (c.free-found.ensures.freed o.0 o.1 o.2 o.3 o.4 o.5 o.6 o.7 o.8 o.9).1 c.if-found-eq-MARK.false in
    let b = behind_marked k slots o.0 o.1 o.2 found c.args.writer.now.seat.me c.free-found.new.writer.seat.me w c.if-found-eq-MARK.false in
    let e1 : c.free-found.new.writer.client ≡ k = c.free-found.ensures.seat.1 in
    let lead' : Lead g.row.Request.Denot g.row.Reply.Denot = lead_with_walk o.0 b.walk in
    let sees : SeesTo MARK c.free-found.new.writer.client c.free-found.new.writer.seat.me b.walk = inr (inl (refl, (lead', o.1, o.2, subst (λ (j : ℕ). AtWith j (Marking lead') o.1 o.2 c.free-found.new.writer.seat.me) (sym e1) b.at, refl))) in
    let items : c.survey.new.walk.items ≡ pairs (b.pre ++ b.x ∷ []) = c.survey.ensures.walk b.walk sees ∙ ap pairs b.parts in
    let long : length c.survey.new.walk.items ≡ length b.pre + 1 = ap length items ∙ (length-pairs (b.pre ++ b.x ∷ []) ∙ (ap length (sym b.parts) ∙ b.long)) in
    let got = c.index.result.now in
    let index : c.len.result - 1 ≡ length b.pre = let l = c.len.ensures in omega arith in
    let is : got ≡ (b.x.by, b.x.code) = c.index.ensures ∙ (λ i. get_or (items i) (index i) got) ∙ pair_at b.pre b.x [] got in
    let range = subst (λ (y : ℕ × ℕ). (0 < y.0) × (y.0 + 1 < slots)) (sym is) b.range in
    let r1 = range.1 in
    (c.cut_behind.ensures.seat.0 ∙ c.survey.ensures.seat.0 ∙ c.free-found.ensures.seat.0 ∙ c.requires.seat.0, range.0, omega arith)

pub wake_on-requires-clause-ready : goal.wake_on-requires-clause-ready
wake_on-requires-clause-ready g c =
    let o = c.requires.ready in let k : ℕ = c.args.writer.now.client in let slots : ℕ = c.args.self.now.table.shared.table_id.slots in let found : ℕ = c.free-found.result in let z = c.args.self.now.sized in
    let w = (c.free-found.ensures.freed o.0 o.1 o.2 o.3 o.4 o.5 o.6 o.7 o.8 o.9).1 c.if-found-eq-MARK.false in
    let b = behind_marked k slots o.0 o.1 o.2 found c.args.writer.now.seat.me c.free-found.new.writer.seat.me w c.if-found-eq-MARK.false in
    let e1 : c.free-found.new.writer.client ≡ k = c.free-found.ensures.seat.1 in
    let lead' : Lead g.row.Request.Denot g.row.Reply.Denot = lead_with_walk o.0 b.walk in
    let sees : SeesTo MARK c.free-found.new.writer.client c.free-found.new.writer.seat.me b.walk = inr (inl (refl, (lead', o.1, o.2, subst (λ (j : ℕ). AtWith j (Marking lead') o.1 o.2 c.free-found.new.writer.seat.me) (sym e1) b.at, refl))) in
    let items : c.survey.new.walk.items ≡ pairs (b.pre ++ b.x ∷ []) = c.survey.ensures.walk b.walk sees ∙ ap pairs b.parts in
    let long : length c.survey.new.walk.items ≡ length b.pre + 1 = ap length items ∙ (length-pairs (b.pre ++ b.x ∷ []) ∙ (ap length (sym b.parts) ∙ b.long)) in
    let got = c.index.result.now in
    let index : c.len.result - 1 ≡ length b.pre = let l = c.len.ensures in omega arith in
    let is : got ≡ (b.x.by, b.x.code) = c.index.ensures ∙ (λ i. get_or (items i) (index i) got) ∙ pair_at b.pre b.x [] got in
    let e2 : c.survey.new.writer.client ≡ k = c.survey.ensures.seat.1 ∙ e1 in
    let me = c.survey.ensures.seat.2 in
    let at2 = subst (λ (j : ℕ). AtWith j (Marking lead') o.1 o.2 c.survey.new.writer.seat.me) (sym e2) (ap (λ m. m.0) me ∙ b.at) in
    let by : b.x.by ≡ got.0 = sym (ap (λ (y : ℕ × ℕ). y.0) is) in
    let cut = c.cut_behind.ensures.cut lead' o.1 o.2 b.pre b.x at2 b.parts by in let e3 = c.cut_behind.ensures.seat.1 in let e4 = e3 ∙ e2 in
    let at3 = subst (λ (j : ℕ). AtWith j (Cutting lead' b.x) o.1 o.2 c.cut_behind.new.writer.seat.me) (sym e3) cut.0 in
    let slot3 = cut.1 ∙ ap (λ m. m.1) me ∙ b.slots_same ∙ o.9 ∙ (λ i. (0, TheLog o.5) ∷ slots_of o.3 ((sym e4 i, Told o.4) ∷ o.6)) in
    (b.x, by, (lead', o.1, o.2, o.3, o.4, o.5, o.6, at3, o.8, slot3, o.10, o.11, o.12))

pub returns-clause-settling : goal.returns-clause-settling
returns-clause-settling g c lead mine y gs p l t at heads_are slot_is =
    let o = c.requires.ready in let k : ℕ = c.args.writer.now.client in let slots : ℕ = c.args.self.now.table.shared.table_id.slots in let found : ℕ = c.free-found.result in let z = c.args.self.now.sized in
    let w = (c.free-found.ensures.freed o.0 o.1 o.2 o.3 o.4 o.5 o.6 o.7 o.8 o.9).1 c.if-found-eq-MARK.false in
    let b = behind_marked k slots o.0 o.1 o.2 found c.args.writer.now.seat.me c.free-found.new.writer.seat.me w c.if-found-eq-MARK.false in
    let e1 : c.free-found.new.writer.client ≡ k = c.free-found.ensures.seat.1 in
    let lead' : Lead g.row.Request.Denot g.row.Reply.Denot = lead_with_walk o.0 b.walk in
    let sees : SeesTo MARK c.free-found.new.writer.client c.free-found.new.writer.seat.me b.walk = inr (inl (refl, (lead', o.1, o.2, subst (λ (j : ℕ). AtWith j (Marking lead') o.1 o.2 c.free-found.new.writer.seat.me) (sym e1) b.at, refl))) in
    let items : c.survey.new.walk.items ≡ pairs (b.pre ++ b.x ∷ []) = c.survey.ensures.walk b.walk sees ∙ ap pairs b.parts in
    let long : length c.survey.new.walk.items ≡ length b.pre + 1 = ap length items ∙ (length-pairs (b.pre ++ b.x ∷ []) ∙ (ap length (sym b.parts) ∙ b.long)) in
    let got = c.index.result.now in
    let index : c.len.result - 1 ≡ length b.pre = let l = c.len.ensures in omega arith in
    let is : got ≡ (b.x.by, b.x.code) = c.index.ensures ∙ (λ i. get_or (items i) (index i) got) ∙ pair_at b.pre b.x [] got in
    let e2 : c.survey.new.writer.client ≡ k = c.survey.ensures.seat.1 ∙ e1 in
    let me = c.survey.ensures.seat.2 in
    let at2 = subst (λ (j : ℕ). AtWith j (Marking lead') o.1 o.2 c.survey.new.writer.seat.me) (sym e2) (ap (λ m. m.0) me ∙ b.at) in
    let by : b.x.by ≡ got.0 = sym (ap (λ (y : ℕ × ℕ). y.0) is) in
    let cut = c.cut_behind.ensures.cut lead' o.1 o.2 b.pre b.x at2 b.parts by in let e3 = c.cut_behind.ensures.seat.1 in let e4 = e3 ∙ e2 in
    let same = one_hold_at k k (Marking o.0) (Marking lead) o.1 mine o.2 y c.args.writer.now.seat.me.0 o.7 at in
    let le : o.0 ≡ lead = ap (lead_in o.0) same.1 in
    let at3 = subst (λ (j : ℕ). AtWith j (Cutting lead' b.x) o.1 o.2 c.cut_behind.new.writer.seat.me) (sym e3) cut.0 in
    let at4 = at3 ∙ (λ i. hold_at c.cut_behind.new.writer.client (Cutting (lead_with_walk (le i) b.walk) b.x) (same.2 i) (same.3 i) ∷ []) in
    let slot4 = cut.1 ∙ ap (λ m. m.1) me ∙ b.slots_same ∙ slot_is ∙ (λ i. (0, TheLog l) ∷ slots_of gs ((sym e4 i, Told p) ∷ t)) in
    let r = c.wake_on.ensures.woken b.x (lead_with_walk lead b.walk) mine y gs p l t at4 heads_are slot4 in
    (subst (λ (j : ℕ). AtWith j (Settling (debt gs lead.own p)) mine (back_after_log y) c.wake_on.new.writer.seat.me) e4 r.0, r.1 ∙ (λ i. slots_of gs ((e4 i, Told p) ∷ t)))

pub returns-then-found-eq-MARK-clause-settling : goal.returns-then-found-eq-MARK-clause-settling
returns-then-found-eq-MARK-clause-settling g c lead mine y gs p l t at heads_are slot_is = (c.free-found.ensures.freed lead mine y gs p l t at heads_are slot_is).0 c.if-found-eq-MARK.true
