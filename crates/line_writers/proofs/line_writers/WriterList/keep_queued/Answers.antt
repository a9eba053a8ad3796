use Rattle.std.proofs.Common.{◌≡◌, ℕ, ◌≤◌, [], ◌∷◌, ◌++◌, sym, ap, ◌∙◌, subst, refl, arith, append_assoc}
use Rattle.atomic_table.specs.Table.{rest}
use Rattle.line_rule.specs.declared.view.Lead.{Lead}
use Rattle.line_rule.specs.declared.view.Stall.TheVariants.{Stopped, Holds}
use Rattle.line_rule.specs.declared.content.LineSlot.TheVariants.{Empty, Asked}
use Rattle.line_rule.specs.Chain.{older_at, pack}
use Rattle.line_rule.specs.Plays.{blanks}
use Rattle.line_rule.specs.Rule.{asks_for}
use Rattle.line_rule.proofs.Drops.{gives_back}
use Rattle.line_rule.proofs.Groups.{within_at}
use Rattle.line_writers.specs.Roles.{bys, lead_with_group, CodesFit}
use Rattle.line_writers.specs.Seats.{answers_told}
use Rattle.line_writers.proofs.Queues.{goes_on_to, looks_at_none}
use Rattle.line_writers.proofs.line_writers.WriterList.keep_queued.Goals as goal

pub older_word-requires : goal.older_word-requires
older_word-requires g c =
    let n : ℕ = c.args.self.now.clients in let o = c.requires.holds.1 in let v = o.6 in let z = c.args.self.now.sized in
    let r = within_at n v.0 o.5 o.3 v.2.queued in let hi = r.1 in let few = z.3 in let held : c.args.room.now.stall.held ≡ o.5.by = v.1.3 in omega arith

pub store-requires : goal.store-requires
store-requires g c =
    let n : ℕ = c.args.self.now.clients in let b = c.requires.holds.0 in let o = c.requires.holds.1 in let v = o.6 in let z = c.args.self.now.sized in let w = c.args.writer.now in
    let r = within_at n v.0 o.5 o.3 v.2.queued in let hi = r.1 in let few = z.3 in let word = c.older_word.ensures in let x = o.5 in
    let held : c.args.room.now.stall.held ≡ x.by = v.1.3 in let members = o.1 ++ o.0 ∷ [] in
    let e = c.exchange.ensures.3 in let t = blanks (bys o.1) ((w.client, Empty) ∷ (0, Empty) ∷ []) in
    let slots : c.exchange.new.seat.me.1 ≡ (x.by, Asked x.asked) ∷ t = ap (λ m. m.1) e ∙ (λ i. (held i, Asked (sym o.7 i)) ∷ rest (v.2.slots i)) in (
      c.exchange.ensures.0 ∙ b.0,
      omega arith,
      gives_back _ _ _ _ c.exchange.new.seat.me w.client c.older_word.result c.args.room.now.stall.newest c.pack.result (lead_with_group o.0 o.4 v.2.past (v.0 ++ x ∷ o.3) o.1) (answers_told w) v.0 (o.3 ++ members) x t (ap (λ m. m.0) e ∙ v.2.at) slots (append_assoc v.0 (x ∷ o.3) members) (c.older_word.ensures ∙ ap older_at held) (c.pack.ensures ∙ (λ i. pack (v.1.4 i) (v.1.5 i))),
    )

pub returns-clause-stalled : goal.returns-clause-stalled
returns-clause-stalled g c =
    let law = asks_for g.Request.HasGroupingItem.item_of g.Log.LogOfGroups.lawful c.args.self.now.table.shared.key.about in let n : ℕ = c.args.self.now.clients in let max : ℕ = c.args.self.now.group_bytes in
    let b = c.requires.holds.0 in let w = c.args.writer.now in let mine = answers_told w in let room = c.args.room.now in (
      (c.store.ensures.0 ∙ c.exchange.ensures.0 ∙ b.0, b.1, b.2),
      λ own group left older seen x v.
          let e = c.exchange.ensures.3 in let s = v.2 in let queue = v.0 ++ x ∷ older in
          let lead : Lead g.row.Request.Denot g.row.Reply.Denot = lead_with_group own seen s.past queue group in
          let h = c.store.ensures.2 w.client room.stall.newest lead x mine (ap (λ m. m.0) e ∙ s.at) in
          let w' = record w { seat = c.store.new.seat } in
          let stopped = goes_on_to law n max own group left seen mine (Holds room.stall.newest x) (Stopped room.stall.newest) queue queue ((x.by, Empty) ∷ []) [] w w' s refl h.0 (h.1 ∙ ap (λ m. rest m.1) e ∙ ap rest s.slots) s.queued in
          looks_at_none law n max own group left seen mine queue (record room { walk = c.clear.new.self }) w'
          (c.clear.ensures.items, subst CodesFit (sym c.clear.ensures.items) tt, subst (λ (j : ℕ). n ≤ j) (sym c.clear.ensures.capacity) v.1.0.2, v.1.0.3, v.1.0.4, v.1.0.5) v.1.2 stopped,
    )
