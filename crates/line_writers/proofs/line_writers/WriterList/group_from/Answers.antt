use Rattle.std.proofs.Common.{◌≡◌, ℕ, ◌+◌, List, [], ◌∷◌, ◌++◌, length, sym, ap, ◌∙◌, subst, refl, inl, arith, append_assoc, length-append}
use Rattle.line_rule.specs.declared.view.QueuedWriter.{QueuedWriter}
use Rattle.line_rule.specs.declared.view.Handling.{Handling}
use Rattle.line_rule.specs.declared.view.Lead.{Lead}
use Rattle.line_rule.specs.declared.content.LineSlot.TheVariants.{Empty, Asked}
use Rattle.line_rule.specs.declared.view.LineStage.TheVariants.{Fresh, Leading}
use Rattle.line_rule.specs.Chain.{newest, pairs}
use Rattle.line_rule.specs.Events.{HasBuilt}
use Rattle.line_rule.specs.Grouping.{IsWhole}
use Rattle.line_rule.specs.Rule.{asks_for, asks_picked}
use Rattle.line_rule.specs.Plays.{At, AllBelow, lead_at_build}
use Rattle.line_rule.proofs.Enters.{one_hold}
use Rattle.line_rule.proofs.Leads.{one_fresh}
use Rattle.line_rule.specs.Members.{asks}
use Rattle.line_writers.specs.Roles.{HasRead, Grouped}
use Rattle.line_writers.proofs.Surveys.{some_newest, length-pairs}
use Rattle.line_writers.proofs.Gathers.{leader_last, within_of}
use Rattle.line_writers.proofs.line_writers.WriterList.group_from.Goals as goal

pub survey-requires-clause-read : goal.survey-requires-clause-read
survey-requires-clause-read g c =
    let o = c.requires.leads in let k : ℕ = c.args.writer.now.client in let slots : ℕ = c.args.self.now.table.shared.table_id.slots in let z = c.args.self.now.sized in
    let b = c.build-first.ensures.built o.0 o.1 o.2 o.3.0 in
    let W : List (QueuedWriter g.row.Request.Denot) = b.0 ++ (b.1 ++ o.0 ∷ []) in
    let lead : Lead g.row.Request.Denot g.row.Reply.Denot = lead_at_build o.0 o.1 b.2 W b.1 in
    let e1 : c.build-first.new.writer.client ≡ k = c.build-first.ensures.seat.1 in
    let f = some_newest b.0 b.1 o.0 in
    subst (λ (j : ℕ). HasRead 0 slots j c.build-first.result c.build-first.new.writer.seat.me) (sym e1) (W, f.0, f.1, inl (refl, (Leading lead, o.2, b.3, refl)), f.2, b.7 ∙ ap newest f.2, b.8, b.9)

pub unreachable-requires : goal.unreachable-requires
unreachable-requires g c =
    let o = c.requires.leads in let k : ℕ = c.args.writer.now.client in let slots : ℕ = c.args.self.now.table.shared.table_id.slots in let z = c.args.self.now.sized in
    let b = c.build-first.ensures.built o.0 o.1 o.2 o.3.0 in
    let W : List (QueuedWriter g.row.Request.Denot) = b.0 ++ (b.1 ++ o.0 ∷ []) in
    let lead : Lead g.row.Request.Denot g.row.Reply.Denot = lead_at_build o.0 o.1 b.2 W b.1 in
    let e1 : c.build-first.new.writer.client ≡ k = c.build-first.ensures.seat.1 in
    let items : c.survey.new.walk.items ≡ pairs W = c.survey.ensures.walk W (inl (refl, (Leading lead, o.2, subst (λ (j : ℕ). At j (Leading lead) o.2 c.build-first.new.writer.seat.me) (sym e1) b.3, refl))) in
    let e2 : c.survey.new.writer.client ≡ k = c.survey.ensures.seat.1 ∙ e1 in
    let slot1 : c.survey.new.writer.seat.me.1 ≡ (c.survey.new.writer.client, Asked o.0.asked) ∷ (0, Empty) ∷ [] = ap (λ m. m.1) c.survey.ensures.seat.2 ∙ b.4 ∙ o.3.2 ∙ (λ i. (sym e2 i, Asked o.0.asked) ∷ (0, Empty) ∷ []) in
    (let e = c.in_default.ensures.cases.0 in let l : length c.survey.new.walk.items ≡ length W = ap length items ∙ length-pairs W in let one = length-append b.0 (b.1 ++ o.0 ∷ []) in let two = length-append b.1 (o.0 ∷ []) in omega arith)

pub overflow_cast-by : goal.overflow_cast-by
overflow_cast-by g c =
    let o = c.requires.leads in let k : ℕ = c.args.writer.now.client in let slots : ℕ = c.args.self.now.table.shared.table_id.slots in let z = c.args.self.now.sized in
    let b = c.build-first.ensures.built o.0 o.1 o.2 o.3.0 in
    let W : List (QueuedWriter g.row.Request.Denot) = b.0 ++ (b.1 ++ o.0 ∷ []) in
    let lead : Lead g.row.Request.Denot g.row.Reply.Denot = lead_at_build o.0 o.1 b.2 W b.1 in
    let e1 : c.build-first.new.writer.client ≡ k = c.build-first.ensures.seat.1 in
    let items : c.survey.new.walk.items ≡ pairs W = c.survey.ensures.walk W (inl (refl, (Leading lead, o.2, subst (λ (j : ℕ). At j (Leading lead) o.2 c.build-first.new.writer.seat.me) (sym e1) b.3, refl))) in
    let e2 : c.survey.new.writer.client ≡ k = c.survey.ensures.seat.1 ∙ e1 in
    let last = leader_last b.0 b.1 o.0 c.pop.new.self.items c.in-Some.by c.in-Some.code (sym items ∙ c.in-Some.ensures.items) in
    let by_is : c.in-Some.by ≡ k = sym last.1 ∙ o.3.1 in let q = c.requires.seat in omega arith

pub own_request-request-requires-clause-held : goal.own_request-request-requires-clause-held
own_request-request-requires-clause-held g c =
    let o = c.requires.leads in let k : ℕ = c.args.writer.now.client in let slots : ℕ = c.args.self.now.table.shared.table_id.slots in let z = c.args.self.now.sized in
    let b = c.build-first.ensures.built o.0 o.1 o.2 o.3.0 in
    let W : List (QueuedWriter g.row.Request.Denot) = b.0 ++ (b.1 ++ o.0 ∷ []) in
    let lead : Lead g.row.Request.Denot g.row.Reply.Denot = lead_at_build o.0 o.1 b.2 W b.1 in
    let e1 : c.build-first.new.writer.client ≡ k = c.build-first.ensures.seat.1 in
    let items : c.survey.new.walk.items ≡ pairs W = c.survey.ensures.walk W (inl (refl, (Leading lead, o.2, subst (λ (j : ℕ). At j (Leading lead) o.2 c.build-first.new.writer.seat.me) (sym e1) b.3, refl))) in
    let e2 : c.survey.new.writer.client ≡ k = c.survey.ensures.seat.1 ∙ e1 in
    let slot1 : c.survey.new.writer.seat.me.1 ≡ (c.survey.new.writer.client, Asked o.0.asked) ∷ (0, Empty) ∷ [] = ap (λ m. m.1) c.survey.ensures.seat.2 ∙ b.4 ∙ o.3.2 ∙ (λ i. (sym e2 i, Asked o.0.asked) ∷ (0, Empty) ∷ []) in
    (o.0.asked, (0, Empty) ∷ [], slot1)

pub gather-requires-clause-walk : goal.gather-requires-clause-walk
gather-requires-clause-walk g c =
    let o = c.requires.leads in let k : ℕ = c.args.writer.now.client in let slots : ℕ = c.args.self.now.table.shared.table_id.slots in let z = c.args.self.now.sized in
    let b = c.build-first.ensures.built o.0 o.1 o.2 o.3.0 in
    let W : List (QueuedWriter g.row.Request.Denot) = b.0 ++ (b.1 ++ o.0 ∷ []) in
    let lead : Lead g.row.Request.Denot g.row.Reply.Denot = lead_at_build o.0 o.1 b.2 W b.1 in
    let e1 : c.build-first.new.writer.client ≡ k = c.build-first.ensures.seat.1 in
    let items : c.survey.new.walk.items ≡ pairs W = c.survey.ensures.walk W (inl (refl, (Leading lead, o.2, subst (λ (j : ℕ). At j (Leading lead) o.2 c.build-first.new.writer.seat.me) (sym e1) b.3, refl))) in
    let e2 : c.survey.new.writer.client ≡ k = c.survey.ensures.seat.1 ∙ e1 in
    let slot1 : c.survey.new.writer.seat.me.1 ≡ (c.survey.new.writer.client, Asked o.0.asked) ∷ (0, Empty) ∷ [] = ap (λ m. m.1) c.survey.ensures.seat.2 ∙ b.4 ∙ o.3.2 ∙ (λ i. (sym e2 i, Asked o.0.asked) ∷ (0, Empty) ∷ []) in
    let last = leader_last b.0 b.1 o.0 c.pop.new.self.items c.in-Some.by c.in-Some.code (sym items ∙ c.in-Some.ensures.items) in
    let q = c.own_request-request.ensures.taken o.0.asked ((0, Empty) ∷ []) slot1 in
    let e3 : c.own_request-request.new.writer.client ≡ k = c.own_request-request.ensures.seat.1 ∙ e2 in
    let at3 = subst (λ (j : ℕ). At j (Leading lead) o.2 c.own_request-request.new.writer.seat.me) (sym e3) (c.own_request-request.ensures.seat.2 ∙ ap (λ m. m.0) c.survey.ensures.seat.2 ∙ b.3) in
    let law = asks_for g.Request.HasGroupingItem.item_of g.Log.LogOfGroups.lawful c.args.self.now.table.shared.key.about in
    let whole : IsWhole law c.args.max o.0 b.1 b.0 = subst (λ (j : ℕ). IsWhole law j o.0 b.1 b.0) c.requires.max.0 (subst (λ about. IsWhole (asks_picked g.Request.HasGroupingItem.item_of g.Log.LogOfGroups.lawful about) g.About.PickedAbout.number o.0 b.1 b.0) c.requires.about b.5) in
    let asked : c.push_reserved.new.self.items ≡ (c.own_request-request.new.writer.client, o.0.asked) ∷ [] = c.push_reserved.ensures.items ∙ (λ i. c.requires.room.2 i ++ (sym last.1 i, q.1 i) ∷ []) ∙ (λ i. (o.3.1 i, o.0.asked) ∷ []) ∙ (λ i. (sym e3 i, o.0.asked) ∷ []) in
    (o.0, b.1, b.0, o.1, o.2, b.2, at3, o.3.1 ∙ sym e3, last.2, whole, within_of c.args.self.now.clients slots (b.0 ++ b.1) (o.0 ∷ []) z.1 (subst (AllBelow slots) (sym (append_assoc b.0 b.1 (o.0 ∷ []))) b.9), last.0, asked, q.0 ∙ (λ i. (c.survey.ensures.seat.1 i, Empty) ∷ (0, Empty) ∷ []) ∙ (λ i. (e1 i, Empty) ∷ (0, Empty) ∷ []) ∙ (λ i. (sym e3 i, Empty) ∷ (0, Empty) ∷ []), subst (λ (j : ℕ). HasBuilt j o.0 b.1 b.0 o.1 b.2) c.requires.max.0 b.6)

pub gather-requires-clause-room : goal.gather-requires-clause-room
gather-requires-clause-room g c =
    let o = c.requires.leads in let k : ℕ = c.args.writer.now.client in let slots : ℕ = c.args.self.now.table.shared.table_id.slots in let z = c.args.self.now.sized in
    let b = c.build-first.ensures.built o.0 o.1 o.2 o.3.0 in
    let W : List (QueuedWriter g.row.Request.Denot) = b.0 ++ (b.1 ++ o.0 ∷ []) in
    let lead : Lead g.row.Request.Denot g.row.Reply.Denot = lead_at_build o.0 o.1 b.2 W b.1 in
    let e1 : c.build-first.new.writer.client ≡ k = c.build-first.ensures.seat.1 in
    let items : c.survey.new.walk.items ≡ pairs W = c.survey.ensures.walk W (inl (refl, (Leading lead, o.2, subst (λ (j : ℕ). At j (Leading lead) o.2 c.build-first.new.writer.seat.me) (sym e1) b.3, refl))) in
    let e2 : c.survey.new.writer.client ≡ k = c.survey.ensures.seat.1 ∙ e1 in
    let slot1 : c.survey.new.writer.seat.me.1 ≡ (c.survey.new.writer.client, Asked o.0.asked) ∷ (0, Empty) ∷ [] = ap (λ m. m.1) c.survey.ensures.seat.2 ∙ b.4 ∙ o.3.2 ∙ (λ i. (sym e2 i, Asked o.0.asked) ∷ (0, Empty) ∷ []) in
    let last = leader_last b.0 b.1 o.0 c.pop.new.self.items c.in-Some.by c.in-Some.code (sym items ∙ c.in-Some.ensures.items) in
    let q = c.own_request-request.ensures.taken o.0.asked ((0, Empty) ∷ []) slot1 in
    let e3 : c.own_request-request.new.writer.client ≡ k = c.own_request-request.ensures.seat.1 ∙ e2 in
    let at3 = subst (λ (j : ℕ). At j (Leading lead) o.2 c.own_request-request.new.writer.seat.me) (sym e3) (c.own_request-request.ensures.seat.2 ∙ ap (λ m. m.0) c.survey.ensures.seat.2 ∙ b.3) in
    let law = asks_for g.Request.HasGroupingItem.item_of g.Log.LogOfGroups.lawful c.args.self.now.table.shared.key.about in
    let whole : IsWhole law c.args.max o.0 b.1 b.0 = subst (λ (j : ℕ). IsWhole law j o.0 b.1 b.0) c.requires.max.0 (subst (λ about. IsWhole (asks_picked g.Request.HasGroupingItem.item_of g.Log.LogOfGroups.lawful about) g.About.PickedAbout.number o.0 b.1 b.0) c.requires.about b.5) in
    let asked : c.push_reserved.new.self.items ≡ (c.own_request-request.new.writer.client, o.0.asked) ∷ [] = c.push_reserved.ensures.items ∙ (λ i. c.requires.room.2 i ++ (sym last.1 i, q.1 i) ∷ []) ∙ (λ i. (o.3.1 i, o.0.asked) ∷ []) ∙ (λ i. (sym e3 i, o.0.asked) ∷ []) in
    let long : length c.survey.new.walk.items ≡ length c.pop.new.self.items + 1 = ap length c.in-Some.ensures.items ∙ length-append c.pop.new.self.items ((c.in-Some.by, c.in-Some.code) ∷ []) in
    let all : length c.survey.new.walk.items ≡ length W = ap length items ∙ length-pairs W in
    let short = b.8 in let r = c.requires.room in let cap = c.push_reserved.ensures.capacity in let len = c.push_reserved.ensures.len in
    (omega arith, omega arith, omega arith)

pub returns-clause-group : goal.returns-clause-group
returns-clause-group g c own seen mine ch =
    let o = c.requires.leads in let k : ℕ = c.args.writer.now.client in let slots : ℕ = c.args.self.now.table.shared.table_id.slots in let z = c.args.self.now.sized in
    let b = c.build-first.ensures.built o.0 o.1 o.2 o.3.0 in
    let W : List (QueuedWriter g.row.Request.Denot) = b.0 ++ (b.1 ++ o.0 ∷ []) in
    let lead : Lead g.row.Request.Denot g.row.Reply.Denot = lead_at_build o.0 o.1 b.2 W b.1 in
    let e1 : c.build-first.new.writer.client ≡ k = c.build-first.ensures.seat.1 in
    let items : c.survey.new.walk.items ≡ pairs W = c.survey.ensures.walk W (inl (refl, (Leading lead, o.2, subst (λ (j : ℕ). At j (Leading lead) o.2 c.build-first.new.writer.seat.me) (sym e1) b.3, refl))) in
    let e2 : c.survey.new.writer.client ≡ k = c.survey.ensures.seat.1 ∙ e1 in
    let slot1 : c.survey.new.writer.seat.me.1 ≡ (c.survey.new.writer.client, Asked o.0.asked) ∷ (0, Empty) ∷ [] = ap (λ m. m.1) c.survey.ensures.seat.2 ∙ b.4 ∙ o.3.2 ∙ (λ i. (sym e2 i, Asked o.0.asked) ∷ (0, Empty) ∷ []) in
    let last = leader_last b.0 b.1 o.0 c.pop.new.self.items c.in-Some.by c.in-Some.code (sym items ∙ c.in-Some.ensures.items) in
    let q = c.own_request-request.ensures.taken o.0.asked ((0, Empty) ∷ []) slot1 in
    let e3 : c.own_request-request.new.writer.client ≡ k = c.own_request-request.ensures.seat.1 ∙ e2 in
    let at3 = subst (λ (j : ℕ). At j (Leading lead) o.2 c.own_request-request.new.writer.seat.me) (sym e3) (c.own_request-request.ensures.seat.2 ∙ ap (λ m. m.0) c.survey.ensures.seat.2 ∙ b.3) in
    let law = asks_for g.Request.HasGroupingItem.item_of g.Log.LogOfGroups.lawful c.args.self.now.table.shared.key.about in
    let whole : IsWhole law c.args.max o.0 b.1 b.0 = subst (λ (j : ℕ). IsWhole law j o.0 b.1 b.0) c.requires.max.0 (subst (λ about. IsWhole (asks_picked g.Request.HasGroupingItem.item_of g.Log.LogOfGroups.lawful about) g.About.PickedAbout.number o.0 b.1 b.0) c.requires.about b.5) in
    let asked : c.push_reserved.new.self.items ≡ (c.own_request-request.new.writer.client, o.0.asked) ∷ [] = c.push_reserved.ensures.items ∙ (λ i. c.requires.room.2 i ++ (sym last.1 i, q.1 i) ∷ []) ∙ (λ i. (o.3.1 i, o.0.asked) ∷ []) ∙ (λ i. (sym e3 i, o.0.asked) ∷ []) in
    let e = one_hold k k (Fresh o.0 o.1) (Fresh own seen) o.2 mine c.args.writer.now.seat.me.0 o.3.0 ch.0 in let f = one_fresh o.0 own o.1 seen e.1 in
    let t = c.gather.ensures.gathered o.0 b.1 b.0 o.1 o.2 (b.2, at3, subst (λ (j : ℕ). HasBuilt j o.0 b.1 b.0 o.1 b.2) c.requires.max.0 b.6, whole) in
    subst (λ (z : ℕ × QueuedWriter g.row.Request.Denot × List (Handling g.row.Request.Denot g.row.Reply.Denot) × List (g.row.Request.Denot × g.row.Reply.Denot)). (group left : List (QueuedWriter g.row.Request.Denot)) × Grouped law c.args.self.now.clients c.args.max z.0 z.1 group left z.2 z.3 c.gather.new.writer.seat.me × (c.gather.new.asked.items ≡ asks z.1 group)) (λ i. (e3 i, f.0 i, f.1 i, e.2 i)) (b.1, b.0, t.0, t.1)
