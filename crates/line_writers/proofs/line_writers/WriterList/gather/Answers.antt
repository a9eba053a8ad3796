use Rattle.std.proofs.Common.{◌≤◌, ℕ, ◌+◌, List, [], ◌∷◌, ◌++◌, sym, ap, ◌∙◌, subst, refl, arith, length, length-append}
use Rattle.line_rule.specs.declared.view.Lead.{Lead}
use Rattle.line_rule.specs.declared.view.LineStage.TheVariants.{Leading}
use Rattle.line_rule.specs.Plays.{At, lead_with_one_more}
use Rattle.line_rule.specs.Rule.{asks_for}
use Rattle.line_writers.specs.Roles.{NextIs}
use Rattle.line_writers.proofs.Gathers.{Gathered, gathers, stops, stops_empty, stops_full, next_is, next_range, goes_on, top, no_items, fits_as}
use Rattle.line_grouping.proofs.Places.{fits_below}
use Rattle.model_base.specs.declared.group.Item.{Item}
use Rattle.line_writers.proofs.line_writers.WriterList.gather.Goals as goal

pub loop-step-init : goal.loop-step-init
loop-step-init g c = record {
  client = refl;
  table = refl;
  asked_room = refl;
  walk_room = refl;
  count = omega arith;
  asked_len = c.requires.room.2;
  so_far = subst (λ (z : ℕ). Gathered (asks_for g.Request.HasGroupingItem.item_of g.Log.LogOfGroups.lawful c.args.self.now.table.shared.key.about) c.args.self.now.clients c.args.max c.args.leader_code c.args.writer.now.client c.args.writer.now.seat.me c.args.writer.now.seat.me c.args.walk.now.items c.args.asked.now.items z) (sym (ap (λ (x : Item). x.size) c.item_of-leader.ensures))
      (gathers (asks_for g.Request.HasGroupingItem.item_of g.Log.LogOfGroups.lawful c.args.self.now.table.shared.key.about) c.args.self.now.clients c.args.max c.args.leader_code c.args.writer.now.client c.args.writer.now.seat.me c.args.walk.now.items c.args.asked.now.items c.requires.walk);
}

pub returns-then-not-fits-clause-gathered : goal.returns-then-not-fits-clause-gathered
returns-then-not-fits-clause-gathered g c own group left seen mine b =
    let v = c.loop-step.invariant.so_far in let n : ℕ = c.args.self.now.clients in let k : ℕ = c.args.writer.now.client in let was = c.args.writer.now.seat.me in
    stops (asks_for g.Request.HasGroupingItem.item_of g.Log.LogOfGroups.lawful c.args.self.now.table.shared.key.about) n c.args.max c.args.leader_code k was c.loop-step.writer.seat.me c.loop-step.walk.items c.loop-step.asked.items c.loop-step.sum v
    (stops_full (asks_for g.Request.HasGroupingItem.item_of g.Log.LogOfGroups.lawful c.args.self.now.table.shared.key.about) n c.args.max c.args.leader_code k was c.loop-step.writer.seat.me c.loop-step.walk.items c.loop-step.asked.items c.loop-step.sum v c.pop.new.self.items c.in-Some.by c.in-Some.code c.in-Some.ensures.items (fits_as c.args.max c.args.leader_code c.loop-step.sum c.in-Some.code c.item_of-leader.result c.item_of-item.result c.item_of-leader.ensures c.item_of-item.ensures ∙ sym c.fits.ensures ∙ c.if-not-fits.true))
    own group left seen b.0 mine b.1 b.2 b.3 c.requires.seat.1

pub returns-clause-gathered : goal.returns-clause-gathered
returns-clause-gathered g c own group left seen mine b =
    let v = c.loop-step.invariant.so_far in let n : ℕ = c.args.self.now.clients in let k : ℕ = c.args.writer.now.client in let was = c.args.writer.now.seat.me in let e = c.loop-step.invariant.count in let test = c.loop-step-test.false in let room = c.requires.room.0 in
    stops (asks_for g.Request.HasGroupingItem.item_of g.Log.LogOfGroups.lawful c.args.self.now.table.shared.key.about) n c.args.max c.args.leader_code k was c.loop-step.writer.seat.me c.loop-step.walk.items c.loop-step.asked.items c.loop-step.sum v
    (stops_empty (asks_for g.Request.HasGroupingItem.item_of g.Log.LogOfGroups.lawful c.args.self.now.table.shared.key.about) n c.args.max c.args.leader_code k was c.loop-step.writer.seat.me c.loop-step.walk.items c.loop-step.asked.items c.loop-step.sum v (no_items c.loop-step.walk.items (omega arith)))
    own group left seen b.0 mine b.1 b.2 b.3 c.requires.seat.1

pub fetch-request-requires-clause-seat : goal.fetch-request-requires-clause-seat
fetch-request-requires-clause-seat g c =
    let v = c.loop-step.invariant in let n : ℕ = c.args.self.now.clients in let k : ℕ = c.args.writer.now.client in
    (v.table ∙ c.requires.seat.0, (next_range (asks_for g.Request.HasGroupingItem.item_of g.Log.LogOfGroups.lawful c.args.self.now.table.shared.key.about) n c.args.max c.args.leader_code k c.args.writer.now.seat.me c.loop-step.writer.seat.me c.loop-step.walk.items c.loop-step.asked.items c.loop-step.sum v.so_far c.pop.new.self.items c.in-Some.by c.in-Some.code c.in-Some.ensures.items).1)

pub fetch-request-requires-clause-next : goal.fetch-request-requires-clause-next
fetch-request-requires-clause-next g c =
    let v = c.loop-step.invariant in let s = v.so_far in let ld : Lead g.row.Request.Denot g.row.Reply.Denot = record { own = s.own; walk = s.left ++ (s.group ++ s.own ∷ []); group = s.group; taken = s.tk; seen = s.seen; past = s.past } in let n : ℕ = c.args.self.now.clients in let k : ℕ = c.args.writer.now.client in
    let x = top (asks_for g.Request.HasGroupingItem.item_of g.Log.LogOfGroups.lawful c.args.self.now.table.shared.key.about) n c.args.max c.args.leader_code k c.args.writer.now.seat.me c.loop-step.writer.seat.me c.loop-step.walk.items c.loop-step.asked.items c.loop-step.sum s c.pop.new.self.items c.in-Some.by c.in-Some.code c.in-Some.ensures.items in
    let is = next_is (asks_for g.Request.HasGroupingItem.item_of g.Log.LogOfGroups.lawful c.args.self.now.table.shared.key.about) n c.args.max c.args.leader_code k c.args.writer.now.seat.me c.loop-step.writer.seat.me c.loop-step.walk.items c.loop-step.asked.items c.loop-step.sum s c.pop.new.self.items c.in-Some.by c.in-Some.code c.in-Some.ensures.items in
    (ld, s.mine, x.0, x.1, subst (λ (j : ℕ). NextIs j ld s.mine x.0 x.1 c.loop-step.writer.seat.me) (sym v.client) is, x.4)

pub overflow_cast-by : goal.overflow_cast-by
overflow_cast-by g c =
    let v = c.loop-step.invariant in let n : ℕ = c.args.self.now.clients in let k : ℕ = c.args.writer.now.client in let z = c.args.self.now.sized in
    let r = next_range (asks_for g.Request.HasGroupingItem.item_of g.Log.LogOfGroups.lawful c.args.self.now.table.shared.key.about) n c.args.max c.args.leader_code k c.args.writer.now.seat.me c.loop-step.writer.seat.me c.loop-step.walk.items c.loop-step.asked.items c.loop-step.sum v.so_far c.pop.new.self.items c.in-Some.by c.in-Some.code c.in-Some.ensures.items in
    omega arith

pub overflow_add-sum : goal.overflow_add-sum
overflow_add-sum g c =
    let item : Item = c.item_of-item.result in let below : c.loop-step.sum + item.size ≤ c.args.max = fits_below c.args.max c.item_of-leader.result (c.loop-step.sum + item.size) item (sym c.fits.ensures ∙ c.if-not-fits.false) in let most = c.ranges.max in omega (arith, below)

pub loop-step-preserved : goal.loop-step-preserved
loop-step-preserved g c =
    let v = c.loop-step.invariant in let s = v.so_far in let ld : Lead g.row.Request.Denot g.row.Reply.Denot = record { own = s.own; walk = s.left ++ (s.group ++ s.own ∷ []); group = s.group; taken = s.tk; seen = s.seen; past = s.past } in let n : ℕ = c.args.self.now.clients in let k : ℕ = c.args.writer.now.client in
    let x = top (asks_for g.Request.HasGroupingItem.item_of g.Log.LogOfGroups.lawful c.args.self.now.table.shared.key.about) n c.args.max c.args.leader_code k c.args.writer.now.seat.me c.loop-step.writer.seat.me c.loop-step.walk.items c.loop-step.asked.items c.loop-step.sum s c.pop.new.self.items c.in-Some.by c.in-Some.code c.in-Some.ensures.items in
    let is = next_is (asks_for g.Request.HasGroupingItem.item_of g.Log.LogOfGroups.lawful c.args.self.now.table.shared.key.about) n c.args.max c.args.leader_code k c.args.writer.now.seat.me c.loop-step.writer.seat.me c.loop-step.walk.items c.loop-step.asked.items c.loop-step.sum s c.pop.new.self.items c.in-Some.by c.in-Some.code c.in-Some.ensures.items in
    let f = c.fetch-request.ensures in
    let t = f.taken ld s.mine x.0 x.1 (subst (λ (j : ℕ). NextIs j ld s.mine x.0 x.1 c.loop-step.writer.seat.me) (sym v.client) is) x.4 in
    let fit = (fits_as c.args.max c.args.leader_code c.loop-step.sum c.in-Some.code c.item_of-leader.result c.item_of-item.result c.item_of-leader.ensures c.item_of-item.ensures ∙ sym c.fits.ensures ∙ c.if-not-fits.false) in
    record {
      client = f.seat.1 ∙ v.client;
      table = f.seat.0 ∙ v.table;
      asked_room = c.push_reserved.ensures.capacity ∙ v.asked_room;
      walk_room = c.pop.ensures.capacity ∙ v.walk_room;
      count = (let e = v.count in omega (arith, ap length c.in-Some.ensures.items, length-append c.pop.new.self.items ((c.in-Some.by, c.in-Some.code) ∷ [])));
      asked_len = (let e = v.asked_len in let l = c.push_reserved.ensures.len in omega arith);
      so_far = subst (λ (l : List (ℕ × g.row.Request.Denot) × ℕ). Gathered (asks_for g.Request.HasGroupingItem.item_of g.Log.LogOfGroups.lawful c.args.self.now.table.shared.key.about) n c.args.max c.args.leader_code k c.args.writer.now.seat.me c.fetch-request.new.writer.seat.me c.pop.new.self.items l.0 l.1) (λ i. (sym c.push_reserved.ensures.items i, c.loop-step.sum + (sym c.item_of-item.ensures i).size))
          (goes_on (asks_for g.Request.HasGroupingItem.item_of g.Log.LogOfGroups.lawful c.args.self.now.table.shared.key.about) n c.args.max c.args.leader_code k c.args.writer.now.seat.me c.loop-step.writer.seat.me c.loop-step.walk.items c.loop-step.asked.items c.loop-step.sum s c.pop.new.self.items c.in-Some.by c.in-Some.code c.in-Some.ensures.items c.fetch-request.new.writer.seat.me c.fetch-request.result fit (subst (λ (j : ℕ). At j (Leading (lead_with_one_more ld x.1)) s.mine c.fetch-request.new.writer.seat.me) v.client t.0) t.1 t.2);
    }
