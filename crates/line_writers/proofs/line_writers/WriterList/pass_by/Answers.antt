use Rattle.std.proofs.Common.{◌≡◌, ℕ, [], ◌∷◌, ◌++◌, sym, ap, ◌∙◌, subst, refl, arith, append_assoc}
use Rattle.line_rule.specs.declared.view.Lead.{Lead}
use Rattle.line_rule.specs.declared.view.LineStage.TheVariants.{Stalling}
use Rattle.line_rule.specs.declared.view.Stall.TheVariants.{Holds, Owes}
use Rattle.line_rule.specs.declared.content.LineSlot.TheVariants.{Empty, Told}
use Rattle.line_rule.specs.Chain.{newest, older_at, pack, Within}
use Rattle.line_rule.specs.Plays.{blanks, lead_with_walk}
use Rattle.line_rule.specs.Rule.{asks_for, hold}
use Rattle.line_rule.proofs.Departs.{passes_by}
use Rattle.line_rule.proofs.Groups.{within_at}
use Rattle.line_rule.proofs.Drops.{within_without}
use Rattle.line_writers.specs.Roles.{bys, lead_with_group}
use Rattle.line_writers.specs.Seats.{answers_told}
use Rattle.line_writers.specs.Stalled.{EndsWith}
use Rattle.line_writers.proofs.Queues.{goes_on_to}
use Rattle.line_writers.proofs.Gone.{ends_before_any, with_next, without_next, same_newest, passes_first_at}
use Rattle.line_writers.proofs.line_writers.WriterList.pass_by.Goals as goal

pub older_word-requires : goal.older_word-requires
older_word-requires g c =
    let n : ℕ = c.args.self.now.clients in let o = c.requires.told.1 in let v = o.7 in let z = c.args.self.now.sized in let few = z.3 in
    let ends = subst (EndsWith v.0) c.in-Some.is v.1.1 in
    let r = within_at n ends.0 ends.1 (o.5 ∷ o.3) (subst (Within n) (ap (λ l. l ++ o.5 ∷ o.3) ends.2 ∙ append_assoc ends.0 (ends.1 ∷ []) (o.5 ∷ o.3)) v.2.queued) in
    let hi = r.1 in let by : c.in-Some.client ≡ ends.1.by = ap (λ (y : ℕ × ℕ). y.0) ends.3 in omega arith

pub store-requires : goal.store-requires
store-requires g c =
    let n : ℕ = c.args.self.now.clients in let b = c.requires.told.0 in let o = c.requires.told.1 in let v = o.7 in let z = c.args.self.now.sized in let few = z.3 in let w = c.args.writer.now in let x = o.5 in
    let ends = subst (EndsWith v.0) c.in-Some.is v.1.1 in let members = o.1 ++ o.0 ∷ [] in
    let r = within_at n ends.0 ends.1 (o.5 ∷ o.3) (subst (Within n) (ap (λ l. l ++ o.5 ∷ o.3) ends.2 ∙ append_assoc ends.0 (ends.1 ∷ []) (o.5 ∷ o.3)) v.2.queued) in
    let hi = r.1 in let by : c.in-Some.client ≡ ends.1.by = ap (λ (y : ℕ × ℕ). y.0) ends.3 in let code : c.in-Some.code ≡ ends.1.code = ap (λ (y : ℕ × ℕ). y.1) ends.3 in let word = c.older_word.ensures in (
      b.0,
      omega arith,
      passes_by _ _ _ _ w.seat.me w.client c.older_word.result c.args.room.now.stall.newest c.pack.result (lead_with_group o.0 o.4 v.2.past (v.0 ++ x ∷ o.3) o.1) (answers_told w) ends.0 (o.3 ++ members) ends.1 x o.6 (blanks (bys o.1) ((w.client, Empty) ∷ (0, Empty) ∷ [])) v.2.at v.2.slots refl o.8 v.3 (with_next v.0 ends.0 o.3 members ends.1 ends.2 x) (c.older_word.ensures ∙ ap older_at by) (c.pack.ensures ∙ (λ i. pack (v.1.4 i) (code i))),
    )

pub store-requires-in-None : goal.store-requires-in-None
store-requires-in-None g c =
    let n : ℕ = c.args.self.now.clients in let b = c.requires.told.0 in let o = c.requires.told.1 in let v = o.7 in let z = c.args.self.now.sized in let w = c.args.writer.now in let x = o.5 in
    let first : v.0 ≡ [] = subst (EndsWith v.0) c.in-None.is v.1.1 in let members = o.1 ++ o.0 ∷ [] in
    let walk : (v.0 ++ x ∷ o.3) ++ members ≡ x ∷ (o.3 ++ members) = ap (λ l. (l ++ x ∷ o.3) ++ members) first in let word = c.older_word-in-None.ensures in (
      b.0,
      omega arith,
      passes_first_at _ _ _ _ w.seat.me w.client c.older_word-in-None.result c.args.room.now.stall.newest _ (lead_with_group o.0 o.4 v.2.past (v.0 ++ x ∷ o.3) o.1) (answers_told w) (o.3 ++ members) x o.6 (blanks (bys o.1) ((w.client, Empty) ∷ (0, Empty) ∷ [])) v.2.at v.2.slots refl o.8 v.3 walk (sym (v.1.2 ∙ ap newest walk)) v.1.4 c.older_word-in-None.ensures,
    )

pub returns-in-Some-clause-owes : goal.returns-in-Some-clause-owes
returns-in-Some-clause-owes g c own group left older seen x p v =
    let law = asks_for g.Request.HasGroupingItem.item_of g.Log.LogOfGroups.lawful c.args.self.now.table.shared.key.about in let n : ℕ = c.args.self.now.clients in let max : ℕ = c.args.self.now.group_bytes in
    let w = c.args.writer.now in let mine = answers_told w in let room = c.args.room.now in let s = v.2 in let members = group ++ own ∷ [] in
    let ends = subst (EndsWith v.0) c.in-Some.is v.1.1 in let by : c.in-Some.client ≡ ends.1.by = ap (λ (y : ℕ × ℕ). y.0) ends.3 in
    let queue = v.0 ++ x ∷ older in let lead : Lead g.row.Request.Denot g.row.Reply.Denot = lead_with_group own seen s.past queue group in let t = blanks (bys group) ((w.client, Empty) ∷ (0, Empty) ∷ []) in
    let r = within_at n v.0 x older s.queued in
    let h = c.store.ensures.2 w.client room.stall.newest lead mine ends.0 (older ++ members) ends.1 x p t s.at (with_next v.0 ends.0 older members ends.1 ends.2 x) (c.older_word.ensures ∙ ap older_at by) s.slots in
    let at = h.0 ∙ (λ i. hold w.client (Stalling (lead_with_walk lead (sym (without_next v.0 ends.0 older members ends.1 ends.2) i)) (Owes room.stall.newest x p)) mine ∷ []) in (
      v.0,
      (v.1.0, ends_before_any older v.0 room.stall.passed v.1.1, v.1.2 ∙ same_newest v.0 ends.0 older members ends.1 ends.2 x),
      goes_on_to law n max own group left seen mine (Holds room.stall.newest x) (Owes room.stall.newest x p) queue (v.0 ++ older) ((x.by, Told p) ∷ []) ((x.by, Told p) ∷ []) w (record w { seat = c.store.new.seat }) s refl at (h.1 ∙ s.slots) (within_without n v.0 x older s.queued),
      v.1.3,
      r.0,
      r.1,
    )

pub returns-in-None-clause-owes : goal.returns-in-None-clause-owes
returns-in-None-clause-owes g c own group left older seen x p v =
    let law = asks_for g.Request.HasGroupingItem.item_of g.Log.LogOfGroups.lawful c.args.self.now.table.shared.key.about in let n : ℕ = c.args.self.now.clients in let max : ℕ = c.args.self.now.group_bytes in
    let w = c.args.writer.now in let mine = answers_told w in let room = c.args.room.now in let s = v.2 in let members = group ++ own ∷ [] in
    let first : v.0 ≡ [] = subst (EndsWith v.0) c.in-None.is v.1.1 in
    let queue = v.0 ++ x ∷ older in let lead : Lead g.row.Request.Denot g.row.Reply.Denot = lead_with_group own seen s.past queue group in let t = blanks (bys group) ((w.client, Empty) ∷ (0, Empty) ∷ []) in
    let walk : (v.0 ++ x ∷ older) ++ members ≡ x ∷ (older ++ members) = ap (λ l. (l ++ x ∷ older) ++ members) first in
    let left_is : (v.0 ++ older) ++ members ≡ older ++ members = ap (λ l. (l ++ older) ++ members) first in
    let r = within_at n v.0 x older s.queued in
    let h = c.store-in-None.ensures.2 w.client room.stall.newest lead mine (older ++ members) x p t s.at walk s.slots in
    let at = h.0 ∙ (λ i. hold w.client (Stalling (lead_with_walk lead (sym left_is i)) (Owes room.stall.link.client x p)) mine ∷ []) in (
      v.0,
      (v.1.0, ends_before_any older v.0 room.stall.passed v.1.1, v.1.4 ∙ ap newest (sym left_is)),
      goes_on_to law n max own group left seen mine (Holds room.stall.newest x) (Owes room.stall.link.client x p) queue (v.0 ++ older) ((x.by, Told p) ∷ []) ((x.by, Told p) ∷ []) w (record w { seat = c.store-in-None.new.seat }) s refl at (h.1 ∙ s.slots) (within_without n v.0 x older s.queued),
      v.1.3,
      r.0,
      r.1,
    )
