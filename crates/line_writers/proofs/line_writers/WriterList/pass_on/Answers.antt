use Rattle.std.proofs.Common.{◌≡◌, ℕ, ◌+◌, ◌-◌, ◌^◌, ◌<◌, [], ◌∷◌, ◌++◌, length, get_or, sym, ap, ◌∙◌, subst, refl, inr, arith}
use Rattle.line_rule.specs.declared.content.LineSlot.TheVariants.{TheRight}
use Rattle.line_rule.specs.declared.view.LineStage.TheVariants.{Settling}
use Rattle.line_rule.specs.declared.view.Back.TheVariants.{Serving, Passing}
use Rattle.line_rule.specs.Chain.{pairs}
use Rattle.line_rule.specs.Plays.{At, AtWith, SeesTo}
use Rattle.line_rule.specs.Standing.{line_of}
use Rattle.line_rule.specs.Rule.{hold}
use Rattle.line_writers.specs.Roles.{HasRead, CodesFit}
use Rattle.line_writers.proofs.Surveys.{pair_at, length-pairs, code_fits}
use Rattle.line_rule.proofs.Onward.{one_hold_at}
use Rattle.line_writers.proofs.Frees.{behind_second}
use Rattle.line_writers.proofs.line_writers.WriterList.pass_on.Goals as goal

pub survey-requires-clause-read : goal.survey-requires-clause-read
survey-requires-clause-read g c =
    let o = c.requires.ready in let k : ℕ = c.args.writer.now.client in let slots : ℕ = c.args.self.now.table.shared.table_id.slots in let found : ℕ = c.leave_second-found.result in let z = c.args.self.now.sized in
    let w = (c.leave_second-found.ensures.left o.0 o.1 o.2 o.3 (c.args.self.now.clients + 1, TheRight o.4) o.5 o.6 o.7).1 c.if-found-newest_member.false in
    let b = behind_second k slots o.0 o.1 o.2 found c.args.newest_member c.args.writer.now.seat.me c.leave_second-found.new.writer.seat.me w o.8.0 c.if-found-newest_member.false in
    let e1 : c.leave_second-found.new.writer.client ≡ k = c.leave_second-found.ensures.seat.1 in
    subst (λ (j : ℕ). HasRead 0 slots j found c.leave_second-found.new.writer.seat.me) (sym e1) b.read

pub overflow_sub-len : goal.overflow_sub-len
overflow_sub-len g c =
    let o = c.requires.ready in let k : ℕ = c.args.writer.now.client in let slots : ℕ = c.args.self.now.table.shared.table_id.slots in let found : ℕ = c.leave_second-found.result in let z = c.args.self.now.sized in
    let w = (c.leave_second-found.ensures.left o.0 o.1 o.2 o.3 (c.args.self.now.clients + 1, TheRight o.4) o.5 o.6 o.7).1 c.if-found-newest_member.false in
    let b = behind_second k slots o.0 o.1 o.2 found c.args.newest_member c.args.writer.now.seat.me c.leave_second-found.new.writer.seat.me w o.8.0 c.if-found-newest_member.false in
    let e1 : c.leave_second-found.new.writer.client ≡ k = c.leave_second-found.ensures.seat.1 in
    let sees : SeesTo 0 c.leave_second-found.new.writer.client c.leave_second-found.new.writer.seat.me b.walk = inr (inr (refl, (Settling o.0, o.1, o.2, subst (λ (j : ℕ). AtWith j (Settling o.0) o.1 (Serving o.2 b.walk) c.leave_second-found.new.writer.seat.me) (sym e1) b.at))) in
    let items : c.survey.new.walk.items ≡ pairs (b.pre ++ b.x ∷ line_of o.2) = c.survey.ensures.walk b.walk sees ∙ ap pairs b.parts in
    let long : length c.survey.new.walk.items ≡ length b.pre + 1 + length (line_of o.2) = ap length items ∙ (length-pairs (b.pre ++ b.x ∷ line_of o.2) ∙ (ap length (sym b.parts) ∙ b.long)) in
    let count : c.args.count ≡ length (line_of o.2) = o.8.2 in
    omega arith

pub overflow_sub-len-2 : goal.overflow_sub-len-2
overflow_sub-len-2 g c =
    let o = c.requires.ready in let k : ℕ = c.args.writer.now.client in let slots : ℕ = c.args.self.now.table.shared.table_id.slots in let found : ℕ = c.leave_second-found.result in let z = c.args.self.now.sized in
    let w = (c.leave_second-found.ensures.left o.0 o.1 o.2 o.3 (c.args.self.now.clients + 1, TheRight o.4) o.5 o.6 o.7).1 c.if-found-newest_member.false in
    let b = behind_second k slots o.0 o.1 o.2 found c.args.newest_member c.args.writer.now.seat.me c.leave_second-found.new.writer.seat.me w o.8.0 c.if-found-newest_member.false in
    let e1 : c.leave_second-found.new.writer.client ≡ k = c.leave_second-found.ensures.seat.1 in
    let sees : SeesTo 0 c.leave_second-found.new.writer.client c.leave_second-found.new.writer.seat.me b.walk = inr (inr (refl, (Settling o.0, o.1, o.2, subst (λ (j : ℕ). AtWith j (Settling o.0) o.1 (Serving o.2 b.walk) c.leave_second-found.new.writer.seat.me) (sym e1) b.at))) in
    let items : c.survey.new.walk.items ≡ pairs (b.pre ++ b.x ∷ line_of o.2) = c.survey.ensures.walk b.walk sees ∙ ap pairs b.parts in
    let long : length c.survey.new.walk.items ≡ length b.pre + 1 + length (line_of o.2) = ap length items ∙ (length-pairs (b.pre ++ b.x ∷ line_of o.2) ∙ (ap length (sym b.parts) ∙ b.long)) in
    let count : c.args.count ≡ length (line_of o.2) = o.8.2 in
    omega arith

pub index-requires : goal.index-requires
index-requires g c =
    let o = c.requires.ready in let k : ℕ = c.args.writer.now.client in let slots : ℕ = c.args.self.now.table.shared.table_id.slots in let found : ℕ = c.leave_second-found.result in let z = c.args.self.now.sized in
    let w = (c.leave_second-found.ensures.left o.0 o.1 o.2 o.3 (c.args.self.now.clients + 1, TheRight o.4) o.5 o.6 o.7).1 c.if-found-newest_member.false in
    let b = behind_second k slots o.0 o.1 o.2 found c.args.newest_member c.args.writer.now.seat.me c.leave_second-found.new.writer.seat.me w o.8.0 c.if-found-newest_member.false in
    let e1 : c.leave_second-found.new.writer.client ≡ k = c.leave_second-found.ensures.seat.1 in
    let sees : SeesTo 0 c.leave_second-found.new.writer.client c.leave_second-found.new.writer.seat.me b.walk = inr (inr (refl, (Settling o.0, o.1, o.2, subst (λ (j : ℕ). AtWith j (Settling o.0) o.1 (Serving o.2 b.walk) c.leave_second-found.new.writer.seat.me) (sym e1) b.at))) in
    let items : c.survey.new.walk.items ≡ pairs (b.pre ++ b.x ∷ line_of o.2) = c.survey.ensures.walk b.walk sees ∙ ap pairs b.parts in
    let long : length c.survey.new.walk.items ≡ length b.pre + 1 + length (line_of o.2) = ap length items ∙ (length-pairs (b.pre ++ b.x ∷ line_of o.2) ∙ (ap length (sym b.parts) ∙ b.long)) in
    let count : c.args.count ≡ length (line_of o.2) = o.8.2 in
    omega arith

pub clear_second-requires-clause-seat : goal.clear_second-requires-clause-seat
clear_second-requires-clause-seat g c =
    let o = c.requires.ready in let k : ℕ = c.args.writer.now.client in let slots : ℕ = c.args.self.now.table.shared.table_id.slots in let found : ℕ = c.leave_second-found.result in let z = c.args.self.now.sized in
    let w = (c.leave_second-found.ensures.left o.0 o.1 o.2 o.3 (c.args.self.now.clients + 1, TheRight o.4) o.5 o.6 o.7).1 c.if-found-newest_member.false in
    let b = behind_second k slots o.0 o.1 o.2 found c.args.newest_member c.args.writer.now.seat.me c.leave_second-found.new.writer.seat.me w o.8.0 c.if-found-newest_member.false in
    let e1 : c.leave_second-found.new.writer.client ≡ k = c.leave_second-found.ensures.seat.1 in
    let sees : SeesTo 0 c.leave_second-found.new.writer.client c.leave_second-found.new.writer.seat.me b.walk = inr (inr (refl, (Settling o.0, o.1, o.2, subst (λ (j : ℕ). AtWith j (Settling o.0) o.1 (Serving o.2 b.walk) c.leave_second-found.new.writer.seat.me) (sym e1) b.at))) in
    let items : c.survey.new.walk.items ≡ pairs (b.pre ++ b.x ∷ line_of o.2) = c.survey.ensures.walk b.walk sees ∙ ap pairs b.parts in
    let long : length c.survey.new.walk.items ≡ length b.pre + 1 + length (line_of o.2) = ap length items ∙ (length-pairs (b.pre ++ b.x ∷ line_of o.2) ∙ (ap length (sym b.parts) ∙ b.long)) in
    let count : c.args.count ≡ length (line_of o.2) = o.8.2 in
    let got = c.index.result.now in
    let index : c.len.result - c.args.count - 1 ≡ length b.pre = let l = c.len.ensures in omega arith in
    let is : got ≡ (b.x.by, b.x.code) = c.index.ensures ∙ (λ i. get_or (items i) (index i) got) ∙ pair_at b.pre b.x (line_of o.2) got in
    let range = subst (λ (y : ℕ × ℕ). (0 < y.0) × (y.0 + 1 < slots)) (sym is) b.range in
    let r1 = range.1 in
    let fits = subst (λ (y : ℕ × ℕ). y.1 < 2 ^ 56) (sym is) (code_fits b.pre b.x (line_of o.2) (subst CodesFit items c.survey.ensures.codes)) in
    (c.survey.ensures.seat.0 ∙ c.leave_second-found.ensures.seat.0 ∙ c.requires.seat.0, range.0, omega arith, fits)

pub clear_second-requires-clause-next : goal.clear_second-requires-clause-next
clear_second-requires-clause-next g c =
    let o = c.requires.ready in let k : ℕ = c.args.writer.now.client in let slots : ℕ = c.args.self.now.table.shared.table_id.slots in let found : ℕ = c.leave_second-found.result in let z = c.args.self.now.sized in
    let w = (c.leave_second-found.ensures.left o.0 o.1 o.2 o.3 (c.args.self.now.clients + 1, TheRight o.4) o.5 o.6 o.7).1 c.if-found-newest_member.false in
    let b = behind_second k slots o.0 o.1 o.2 found c.args.newest_member c.args.writer.now.seat.me c.leave_second-found.new.writer.seat.me w o.8.0 c.if-found-newest_member.false in
    let e1 : c.leave_second-found.new.writer.client ≡ k = c.leave_second-found.ensures.seat.1 in
    let sees : SeesTo 0 c.leave_second-found.new.writer.client c.leave_second-found.new.writer.seat.me b.walk = inr (inr (refl, (Settling o.0, o.1, o.2, subst (λ (j : ℕ). AtWith j (Settling o.0) o.1 (Serving o.2 b.walk) c.leave_second-found.new.writer.seat.me) (sym e1) b.at))) in
    let items : c.survey.new.walk.items ≡ pairs (b.pre ++ b.x ∷ line_of o.2) = c.survey.ensures.walk b.walk sees ∙ ap pairs b.parts in
    let long : length c.survey.new.walk.items ≡ length b.pre + 1 + length (line_of o.2) = ap length items ∙ (length-pairs (b.pre ++ b.x ∷ line_of o.2) ∙ (ap length (sym b.parts) ∙ b.long)) in
    let count : c.args.count ≡ length (line_of o.2) = o.8.2 in
    let got = c.index.result.now in
    let index : c.len.result - c.args.count - 1 ≡ length b.pre = let l = c.len.ensures in omega arith in
    let is : got ≡ (b.x.by, b.x.code) = c.index.ensures ∙ (λ i. get_or (items i) (index i) got) ∙ pair_at b.pre b.x (line_of o.2) got in
    let range = subst (λ (y : ℕ × ℕ). (0 < y.0) × (y.0 + 1 < slots)) (sym is) b.range in
    let r1 = range.1 in
    let e2 : c.survey.new.writer.client ≡ k = c.survey.ensures.seat.1 ∙ e1 in
    let me = c.survey.ensures.seat.2 in
    let at2 = subst (λ (j : ℕ). AtWith j (Settling o.0) o.1 (Serving o.2 b.walk) c.survey.new.writer.seat.me) (sym e2) (ap (λ m. m.0) me ∙ b.at) in
    let by : b.x.by ≡ got.0 = sym (ap (λ (y : ℕ × ℕ). y.0) is) in
    (o.0, o.1, o.2, b.walk, b.pre, b.x, at2, b.parts, by, sym (ap (λ (y : ℕ × ℕ). y.1) is))

pub call_next-requires-clause-seat : goal.call_next-requires-clause-seat
call_next-requires-clause-seat g c =
    let o = c.requires.ready in let k : ℕ = c.args.writer.now.client in let slots : ℕ = c.args.self.now.table.shared.table_id.slots in let found : ℕ = c.leave_second-found.result in let z = c.args.self.now.sized in
    let w = (c.leave_second-found.ensures.left o.0 o.1 o.2 o.3 (c.args.self.now.clients + 1, TheRight o.4) o.5 o.6 o.7).1 c.if-found-newest_member.false in
    let b = behind_second k slots o.0 o.1 o.2 found c.args.newest_member c.args.writer.now.seat.me c.leave_second-found.new.writer.seat.me w o.8.0 c.if-found-newest_member.false in
    let e1 : c.leave_second-found.new.writer.client ≡ k = c.leave_second-found.ensures.seat.1 in
    let sees : SeesTo 0 c.leave_second-found.new.writer.client c.leave_second-found.new.writer.seat.me b.walk = inr (inr (refl, (Settling o.0, o.1, o.2, subst (λ (j : ℕ). AtWith j (Settling o.0) o.1 (Serving o.2 b.walk) c.leave_second-found.new.writer.seat.me) (sym e1) b.at))) in
    let items : c.survey.new.walk.items ≡ pairs (b.pre ++ b.x ∷ line_of o.2) = c.survey.ensures.walk b.walk sees ∙ ap pairs b.parts in
    let long : length c.survey.new.walk.items ≡ length b.pre + 1 + length (line_of o.2) = ap length items ∙ (length-pairs (b.pre ++ b.x ∷ line_of o.2) ∙ (ap length (sym b.parts) ∙ b.long)) in
    let count : c.args.count ≡ length (line_of o.2) = o.8.2 in
    let got = c.index.result.now in
    let index : c.len.result - c.args.count - 1 ≡ length b.pre = let l = c.len.ensures in omega arith in
    let is : got ≡ (b.x.by, b.x.code) = c.index.ensures ∙ (λ i. get_or (items i) (index i) got) ∙ pair_at b.pre b.x (line_of o.2) got in
    let range = subst (λ (y : ℕ × ℕ). (0 < y.0) × (y.0 + 1 < slots)) (sym is) b.range in
    let r1 = range.1 in
    (c.clear_second.ensures.seat.0 ∙ c.survey.ensures.seat.0 ∙ c.leave_second-found.ensures.seat.0 ∙ c.requires.seat.0, range.0, omega arith)

pub call_next-requires-clause-passes : goal.call_next-requires-clause-passes
call_next-requires-clause-passes g c =
    let o = c.requires.ready in let k : ℕ = c.args.writer.now.client in let slots : ℕ = c.args.self.now.table.shared.table_id.slots in let found : ℕ = c.leave_second-found.result in let z = c.args.self.now.sized in
    let w = (c.leave_second-found.ensures.left o.0 o.1 o.2 o.3 (c.args.self.now.clients + 1, TheRight o.4) o.5 o.6 o.7).1 c.if-found-newest_member.false in
    let b = behind_second k slots o.0 o.1 o.2 found c.args.newest_member c.args.writer.now.seat.me c.leave_second-found.new.writer.seat.me w o.8.0 c.if-found-newest_member.false in
    let e1 : c.leave_second-found.new.writer.client ≡ k = c.leave_second-found.ensures.seat.1 in
    let sees : SeesTo 0 c.leave_second-found.new.writer.client c.leave_second-found.new.writer.seat.me b.walk = inr (inr (refl, (Settling o.0, o.1, o.2, subst (λ (j : ℕ). AtWith j (Settling o.0) o.1 (Serving o.2 b.walk) c.leave_second-found.new.writer.seat.me) (sym e1) b.at))) in
    let items : c.survey.new.walk.items ≡ pairs (b.pre ++ b.x ∷ line_of o.2) = c.survey.ensures.walk b.walk sees ∙ ap pairs b.parts in
    let long : length c.survey.new.walk.items ≡ length b.pre + 1 + length (line_of o.2) = ap length items ∙ (length-pairs (b.pre ++ b.x ∷ line_of o.2) ∙ (ap length (sym b.parts) ∙ b.long)) in
    let count : c.args.count ≡ length (line_of o.2) = o.8.2 in
    let got = c.index.result.now in
    let index : c.len.result - c.args.count - 1 ≡ length b.pre = let l = c.len.ensures in omega arith in
    let is : got ≡ (b.x.by, b.x.code) = c.index.ensures ∙ (λ i. get_or (items i) (index i) got) ∙ pair_at b.pre b.x (line_of o.2) got in
    let range = subst (λ (y : ℕ × ℕ). (0 < y.0) × (y.0 + 1 < slots)) (sym is) b.range in
    let r1 = range.1 in
    let e2 : c.survey.new.writer.client ≡ k = c.survey.ensures.seat.1 ∙ e1 in
    let me = c.survey.ensures.seat.2 in
    let at2 = subst (λ (j : ℕ). AtWith j (Settling o.0) o.1 (Serving o.2 b.walk) c.survey.new.writer.seat.me) (sym e2) (ap (λ m. m.0) me ∙ b.at) in
    let by : b.x.by ≡ got.0 = sym (ap (λ (y : ℕ × ℕ). y.0) is) in
    let cl = c.clear_second.ensures.cleared o.0 o.1 o.2 b.walk b.pre b.x at2 b.parts by in let e3 = c.clear_second.ensures.seat.1 in
    let at3 = subst (λ (j : ℕ). AtWith j (Settling o.0) o.1 (Passing o.2 b.x) c.clear_second.new.writer.seat.me) (sym e3) cl.0 in
    let slot3 = cl.1 ∙ ap (λ m. m.1) me ∙ b.slots_same in
    (Settling o.0, o.1, o.2, b.x, o.4, o.5, at3, slot3 ∙ o.7, by, o.8.1)

pub returns-then-found-newest_member-clause-passed : goal.returns-then-found-newest_member-clause-passed
returns-then-found-newest_member-clause-passed g c d mine s line y t at slot = (c.leave_second-found.ensures.left d mine s line y t at slot).0 c.if-found-newest_member.true

pub returns-clause-passed : goal.returns-clause-passed
returns-clause-passed g c d mine s line y t at slot =
    let o = c.requires.ready in let k : ℕ = c.args.writer.now.client in let slots : ℕ = c.args.self.now.table.shared.table_id.slots in let found : ℕ = c.leave_second-found.result in let z = c.args.self.now.sized in
    let w = (c.leave_second-found.ensures.left o.0 o.1 o.2 o.3 (c.args.self.now.clients + 1, TheRight o.4) o.5 o.6 o.7).1 c.if-found-newest_member.false in
    let b = behind_second k slots o.0 o.1 o.2 found c.args.newest_member c.args.writer.now.seat.me c.leave_second-found.new.writer.seat.me w o.8.0 c.if-found-newest_member.false in
    let e1 : c.leave_second-found.new.writer.client ≡ k = c.leave_second-found.ensures.seat.1 in
    let sees : SeesTo 0 c.leave_second-found.new.writer.client c.leave_second-found.new.writer.seat.me b.walk = inr (inr (refl, (Settling o.0, o.1, o.2, subst (λ (j : ℕ). AtWith j (Settling o.0) o.1 (Serving o.2 b.walk) c.leave_second-found.new.writer.seat.me) (sym e1) b.at))) in
    let items : c.survey.new.walk.items ≡ pairs (b.pre ++ b.x ∷ line_of o.2) = c.survey.ensures.walk b.walk sees ∙ ap pairs b.parts in
    let long : length c.survey.new.walk.items ≡ length b.pre + 1 + length (line_of o.2) = ap length items ∙ (length-pairs (b.pre ++ b.x ∷ line_of o.2) ∙ (ap length (sym b.parts) ∙ b.long)) in
    let count : c.args.count ≡ length (line_of o.2) = o.8.2 in
    let got = c.index.result.now in
    let index : c.len.result - c.args.count - 1 ≡ length b.pre = let l = c.len.ensures in omega arith in
    let is : got ≡ (b.x.by, b.x.code) = c.index.ensures ∙ (λ i. get_or (items i) (index i) got) ∙ pair_at b.pre b.x (line_of o.2) got in
    let range = subst (λ (y : ℕ × ℕ). (0 < y.0) × (y.0 + 1 < slots)) (sym is) b.range in
    let r1 = range.1 in
    let e2 : c.survey.new.writer.client ≡ k = c.survey.ensures.seat.1 ∙ e1 in
    let me = c.survey.ensures.seat.2 in
    let at2 = subst (λ (j : ℕ). AtWith j (Settling o.0) o.1 (Serving o.2 b.walk) c.survey.new.writer.seat.me) (sym e2) (ap (λ m. m.0) me ∙ b.at) in
    let by : b.x.by ≡ got.0 = sym (ap (λ (y : ℕ × ℕ). y.0) is) in
    let cl = c.clear_second.ensures.cleared o.0 o.1 o.2 b.walk b.pre b.x at2 b.parts by in let e3 = c.clear_second.ensures.seat.1 in
    let at3 = subst (λ (j : ℕ). AtWith j (Settling o.0) o.1 (Passing o.2 b.x) c.clear_second.new.writer.seat.me) (sym e3) cl.0 in
    let slot3 = cl.1 ∙ ap (λ m. m.1) me ∙ b.slots_same in
    let same = one_hold_at k k (Settling o.0) (Settling d) o.1 mine (Serving o.2 o.3) (Serving s line) c.args.writer.now.seat.me.0 o.6 at in
    let r = c.call_next.ensures.called (Settling o.0) o.1 o.2 b.x y t at3 (slot3 ∙ slot) in
    (subst (λ (j : ℕ). At j (Settling d) mine c.call_next.new.writer.seat.me) (e3 ∙ e2) (r.0 ∙ (λ i. hold c.clear_second.new.writer.client (same.1 i) (same.2 i) ∷ [])), r.1)
