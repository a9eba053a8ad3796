use Rattle.std.proofs.Common.{◌≡◌, ℕ, ◌≤◌, [], ◌∷◌, ◌++◌, sym, ap, ◌∙◌, subst, refl, arith, append-nil}
use Rattle.line_rule.specs.declared.view.Lead.{Lead}
use Rattle.line_rule.specs.declared.view.LineStage.TheVariants.{Stalling}
use Rattle.line_rule.specs.declared.view.Stall.TheVariants.{Stopped, Holds}
use Rattle.line_rule.specs.declared.content.LineSlot.TheVariants.{Empty}
use Rattle.line_rule.specs.Chain.{newest}
use Rattle.line_rule.specs.Plays.{At}
use Rattle.line_rule.specs.Rule.{asks_for}
use Rattle.line_writers.specs.Roles.{lead_with_group}
use Rattle.line_writers.specs.Seats.{answers_told}
use Rattle.line_writers.specs.Stalled.{IsStalling}
use Rattle.line_writers.proofs.Queues.{at_next, goes_on_to}
use Rattle.line_writers.proofs.line_writers.WriterList.next_queued.Goals as goal

pub returns-in_err-client-clause-none : goal.returns-in_err-client-clause-none
returns-in_err-client-clause-none g c none own group left rest seen v =
    let law = asks_for g.Request.HasGroupingItem.item_of g.Log.LogOfGroups.lawful c.args.self.now.table.shared.key.about in let n : ℕ = c.args.self.now.clients in let w = c.args.writer.now in
    let p = c.in_err-client.ensures.none refl v.0 rest v.1.0 v.1.1 in let e = c.pass_over.ensures.newest in
    let all : v.0 ++ rest ≡ (v.0 ++ rest) ++ [] = sym (append-nil (v.0 ++ rest)) in (
      p.0,
      (
        v.0 ++ rest,
        (p.1, tt, e ∙ (v.1.2 ∙ ap (λ z. newest (z ++ (group ++ own ∷ []))) all)),
        subst (λ (j : ℕ). IsStalling law n c.args.self.now.group_bytes own group left seen (answers_told w) (Stopped j) ((v.0 ++ rest) ++ []) [] w) (sym e) (subst (λ z. IsStalling law n c.args.self.now.group_bytes own group left seen (answers_told w) (Stopped c.args.room.now.stall.newest) z [] w) all v.2),
      ),
    )

pub hold-request-requires-clause-seat : goal.hold-request-requires-clause-seat
hold-request-requires-clause-seat g c =
    let law = asks_for g.Request.HasGroupingItem.item_of g.Log.LogOfGroups.lawful c.args.self.now.table.shared.key.about in let n : ℕ = c.args.self.now.clients in let w = c.args.writer.now in
    let b = c.requires.stalled.0 in let o = c.requires.stalled.1 in let v = o.5 in let z = c.args.self.now.sized in
    let t = at_next law n c.args.self.now.group_bytes o.0 o.1 o.2 o.4 (answers_told w) o.3 c.args.room.now c.pass_over.new.room w c.in_ok-client.client z.3 b.2 v (c.in_ok-client.ensures.some v.0 o.3 v.1.0 v.1.1) in
    (b.0, subst (λ (j : ℕ). j ≤ n) t.by t.range.1)

pub hold-request-requires-clause-next : goal.hold-request-requires-clause-next
hold-request-requires-clause-next g c =
    let law = asks_for g.Request.HasGroupingItem.item_of g.Log.LogOfGroups.lawful c.args.self.now.table.shared.key.about in let n : ℕ = c.args.self.now.clients in let w = c.args.writer.now in
    let b = c.requires.stalled.0 in let o = c.requires.stalled.1 in let v = o.5 in let z = c.args.self.now.sized in
    let t = at_next law n c.args.self.now.group_bytes o.0 o.1 o.2 o.4 (answers_told w) o.3 c.args.room.now c.pass_over.new.room w c.in_ok-client.client z.3 b.2 v (c.in_ok-client.ensures.some v.0 o.3 v.1.0 v.1.1) in
    (c.args.room.now.stall.newest, lead_with_group o.0 o.4 t.s.past (t.newer ++ t.x ∷ t.older) o.1, answers_told w, t.newer, t.older, t.x, t.s.at, t.walk_is, t.by, t.small)

pub returns-clause-some : goal.returns-clause-some
returns-clause-some g c own group left rest seen v =
    let law = asks_for g.Request.HasGroupingItem.item_of g.Log.LogOfGroups.lawful c.args.self.now.table.shared.key.about in let n : ℕ = c.args.self.now.clients in let w = c.args.writer.now in let mine = answers_told w in
    let b = c.requires.stalled.0 in let z = c.args.self.now.sized in let max : ℕ = c.args.self.now.group_bytes in let e = c.pass_over.ensures.newest in
    let t = at_next law n max own group left seen mine rest c.args.room.now c.pass_over.new.room w c.in_ok-client.client z.3 b.2 v (c.in_ok-client.ensures.some v.0 rest v.1.0 v.1.1) in
    let queue = t.newer ++ t.x ∷ t.older in
    let lead : Lead g.row.Request.Denot g.row.Reply.Denot = lead_with_group own seen t.s.past queue group in
    let h = c.hold-request.ensures.held c.args.room.now.stall.newest lead mine t.newer t.older t.x t.s.at t.walk_is t.by t.small in
    let at = subst (λ (j : ℕ). At w.client (Stalling lead (Holds j t.x)) mine c.hold-request.new.writer.seat.me) (sym e) h.0 in
    let code = c.hold-request.ensures.link.1 in let code_is = h.3 in (
      t.slow,
      t.x,
      t.older,
      t.rest_is,
      t.none_hasty,
      sym h.4,
      (
        t.newer,
        (t.lists, t.ends, e ∙ t.newest_is, sym t.by, h.2, h.3, c.hold-request.ensures.link.0, omega arith),
        goes_on_to law n max own group left seen mine (Stopped c.args.room.now.stall.newest) (Holds c.pass_over.new.room.stall.newest t.x) queue queue [] ((t.x.by, Empty) ∷ []) w c.hold-request.new.writer t.s c.hold-request.ensures.seat.1 at (h.1 ∙ ap (λ l. (t.x.by, Empty) ∷ l) t.s.slots) t.s.queued,
        t.hasty,
        h.5,
      ),
    )

pub returns-clause-lawful : goal.returns-clause-lawful
returns-clause-lawful g c =
    let law = asks_for g.Request.HasGroupingItem.item_of g.Log.LogOfGroups.lawful c.args.self.now.table.shared.key.about in let n : ℕ = c.args.self.now.clients in let w = c.args.writer.now in
    let b = c.requires.stalled.0 in let o = c.requires.stalled.1 in let v = o.5 in let z = c.args.self.now.sized in
    let t = at_next law n c.args.self.now.group_bytes o.0 o.1 o.2 o.4 (answers_told w) o.3 c.args.room.now c.pass_over.new.room w c.in_ok-client.client z.3 b.2 v (c.in_ok-client.ensures.some v.0 o.3 v.1.0 v.1.1) in
    let h = c.hold-request.ensures.held c.args.room.now.stall.newest (lead_with_group o.0 o.4 t.s.past (t.newer ++ t.x ∷ t.older) o.1) (answers_told w) t.newer t.older t.x t.s.at t.walk_is t.by t.small in
    subst (λ q. g.Log.LogOfGroups.lawful c.args.self.now.table.shared.key.about q) (sym h.4) h.5.1
