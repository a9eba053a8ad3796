use Rattle.std.proofs.Common.{◌≡◌, ℕ, ◌<◌, ◌≤◌, [], ◌∷◌, ◌++◌, sym, ap, ◌∙◌, subst, refl, arith}
use Rattle.atomic_table.specs.Table.{rest}
use Rattle.line_rule.specs.declared.view.Lead.{Lead}
use Rattle.line_rule.specs.declared.view.Stall.TheVariants.{Stopped, Holds, Owes}
use Rattle.line_rule.specs.declared.content.LineSlot.TheVariants.{Empty, Told}
use Rattle.line_rule.specs.Chain.{state_at}
use Rattle.line_rule.specs.Plays.{blanks}
use Rattle.line_rule.specs.Rule.{asks_for}
use Rattle.line_rule.proofs.Departs.{dismisses}
use Rattle.line_rule.proofs.Groups.{within_at}
use Rattle.line_writers.specs.Roles.{bys, lead_with_group}
use Rattle.line_writers.specs.Seats.{answers_told, told_in_first}
use Rattle.line_writers.specs.Stalled.{HasStalled, HoldsWith}
use Rattle.line_writers.proofs.Queues.{goes_on_to}
use Rattle.line_writers.proofs.line_writers.WriterList.drop_queued.Goals as goal

pub pass_by-requires : goal.pass_by-requires
pass_by-requires g c =
    let law = asks_for g.Request.HasGroupingItem.item_of g.Log.LogOfGroups.lawful c.args.self.now.table.shared.key.about in let n : ℕ = c.args.self.now.clients in let max : ℕ = c.args.self.now.group_bytes in
    let b = c.requires.holds.0 in let o = c.requires.holds.1 in let x = o.5 in let v = o.6 in let s = v.2 in let w = c.args.writer.now in let room = c.args.room.now in let queue = v.0 ++ x ∷ o.3 in
    let held : room.stall.held ≡ x.by = v.1.3 in let e = c.exchange.ensures.3 in let w1 = record w { seat = c.exchange.new.seat } in
    let told : answers_told w ≡ answers_told w1 = sym (ap told_in_first (ap (λ m. m.0) e)) in
    let s1 = goes_on_to law n max o.0 o.1 o.2 o.4 (answers_told w) (Holds room.stall.newest x) (Holds room.stall.newest x) queue queue ((x.by, Empty) ∷ []) ((x.by, Told c.args.reply) ∷ []) w w1 s refl (ap (λ m. m.0) e ∙ s.at) (ap (λ m. m.1) e ∙ (λ i. (held i, Told c.args.reply) ∷ rest (s.slots i))) s.queued in record {
      told = ((c.exchange.ensures.0 ∙ b.0, b.1, b.2), (o.0, o.1, o.2, o.3, o.4, x, c.args.reply, subst (λ m. HoldsWith law n max o.0 o.1 o.2 o.4 m (Told c.args.reply) x o.3 room w1) told (v.0, v.1, s1, v.3, v.4), o.7));
    }

pub state_word-requires : goal.state_word-requires
state_word-requires g c =
    let n : ℕ = c.args.self.now.clients in let o = c.requires.holds.1 in let v = o.6 in let z = c.args.self.now.sized in
    let r = within_at n v.0 o.5 o.3 v.2.queued in let hi = r.1 in let few = z.3 in let held : c.args.room.now.stall.held ≡ o.5.by = v.1.3 in omega arith

pub store-requires : goal.store-requires
store-requires g c =
    let law = asks_for g.Request.HasGroupingItem.item_of g.Log.LogOfGroups.lawful c.args.self.now.table.shared.key.about in let n : ℕ = c.args.self.now.clients in let max : ℕ = c.args.self.now.group_bytes in
    let b = c.requires.holds.0 in let o = c.requires.holds.1 in let x = o.5 in let v = o.6 in let s = v.2 in let w = c.args.writer.now in let room = c.args.room.now in let queue = v.0 ++ x ∷ o.3 in
    let held : room.stall.held ≡ x.by = v.1.3 in let e = c.exchange.ensures.3 in let w1 = record w { seat = c.exchange.new.seat } in
    let told : answers_told w ≡ answers_told w1 = sym (ap told_in_first (ap (λ m. m.0) e)) in
    let s1 = goes_on_to law n max o.0 o.1 o.2 o.4 (answers_told w) (Holds room.stall.newest x) (Holds room.stall.newest x) queue queue ((x.by, Empty) ∷ []) ((x.by, Told c.args.reply) ∷ []) w w1 s refl (ap (λ m. m.0) e ∙ s.at) (ap (λ m. m.1) e ∙ (λ i. (held i, Told c.args.reply) ∷ rest (s.slots i))) s.queued in
    let q = c.pass_by.ensures.owes o.0 o.1 o.2 o.3 o.4 x c.args.reply (subst (λ m. HoldsWith law n max o.0 o.1 o.2 o.4 m (Told c.args.reply) x o.3 room w1) told (v.0, v.1, s1, v.3, v.4)) in
    let w2 = c.pass_by.new.writer in let hi : x.by ≤ n = q.5 in let z = c.args.self.now.sized in let key : c.args.self.now.table.shared.key.clients ≡ c.args.self.now.clients = z.2 in let word = c.state_word.ensures in (
      c.pass_by.ensures.seat.0 ∙ c.exchange.ensures.0 ∙ b.0,
      omega arith,
      dismisses _ _ _ _ w2.seat.me w2.client c.state_word.result c.pass_by.new.room.stall.newest (lead_with_group o.0 o.4 q.2.past (q.0 ++ o.3) o.1) (answers_told w1) x c.args.reply (blanks (bys o.1) ((w2.client, Empty) ∷ (0, Empty) ∷ [])) q.2.at q.2.slots (c.state_word.ensures ∙ ap state_at held) (q.4, omega arith),
    )

pub returns-clause-stalled : goal.returns-clause-stalled
returns-clause-stalled g c =
    let law = asks_for g.Request.HasGroupingItem.item_of g.Log.LogOfGroups.lawful c.args.self.now.table.shared.key.about in let n : ℕ = c.args.self.now.clients in let max : ℕ = c.args.self.now.group_bytes in
    let b = c.requires.holds.0 in let w = c.args.writer.now in let room = c.args.room.now in let e = c.exchange.ensures.3 in let w1 = record w { seat = c.exchange.new.seat } in let w2 = c.pass_by.new.writer in
    let told : answers_told w ≡ answers_told w1 = sym (ap told_in_first (ap (λ m. m.0) e)) in let k = c.pass_by.ensures.seat.1 in (
      (c.store.ensures.0 ∙ c.pass_by.ensures.seat.0 ∙ c.exchange.ensures.0 ∙ b.0, subst (λ (j : ℕ). 0 < j) (sym k) b.1, subst (λ (j : ℕ). j ≤ n) (sym k) b.2),
      λ own group left older seen x v.
          let s = v.2 in let queue = v.0 ++ x ∷ older in let held : room.stall.held ≡ x.by = v.1.3 in
          let s1 = goes_on_to law n max own group left seen (answers_told w) (Holds room.stall.newest x) (Holds room.stall.newest x) queue queue ((x.by, Empty) ∷ []) ((x.by, Told c.args.reply) ∷ []) w w1 s refl (ap (λ m. m.0) e ∙ s.at) (ap (λ m. m.1) e ∙ (λ i. (held i, Told c.args.reply) ∷ rest (s.slots i))) s.queued in
          let q = c.pass_by.ensures.owes own group left older seen x c.args.reply (subst (λ m. HoldsWith law n max own group left seen m (Told c.args.reply) x older room w1) told (v.0, v.1, s1, v.3, v.4)) in
          let lead : Lead g.row.Request.Denot g.row.Reply.Denot = lead_with_group own seen q.2.past (q.0 ++ older) group in let newest = c.pass_by.new.room.stall.newest in
          let h = c.store.ensures.2 w2.client newest lead x c.args.reply (answers_told w1) q.2.at in let w3 = record w2 { seat = c.store.new.seat } in
          let s3 = goes_on_to law n max own group left seen (answers_told w1) (Owes newest x c.args.reply) (Stopped newest) (q.0 ++ older) (q.0 ++ older) ((x.by, Told c.args.reply) ∷ []) [] w2 w3 q.2 refl h.0 (h.1 ∙ ap rest q.2.slots) q.2.queued in
          subst (λ m. HasStalled law n max own group left seen m older c.pass_by.new.room w3) (sym told) (q.0, q.1, s3),
    )
