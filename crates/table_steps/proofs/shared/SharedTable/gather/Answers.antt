use Rattle.std.proofs.Common.{◌≡◌, ℕ, ◌-◌, take, vec_len, [], ◌∷◌, ◌++◌, inl, refl, sym, ap, ◌∙◌, subst, arith, append_assoc}
use Rattle.table_rule.specs.declared.view.Opening.{Opening}
use Rattle.table_rule.specs.declared.view.Lock.TheVariants.{Free}
use Rattle.table_rule.specs.declared.view.Stage.TheVariants.{Idle, Resting}
use Rattle.table_rule.specs.Histories.{In}
use Rattle.table_rule.specs.Rule.{seat_state}
use Rattle.table_steps.specs.Ends.{AreJoined}
use Rattle.table_rule.proofs.Histories.{in_left, in_right}
use Rattle.table_rule.proofs.Seats.{joins, closes_load}
use Rattle.table_steps.proofs.Keyed.{shards_of, joined_more}
use Rattle.table_steps.proofs.shared.SharedTable.gather.Goals as goal

pub join_seat-requires : goal.join_seat-requires
join_seat-requires g c = let q = c.args.self.now.sized in let z : Opening = c.args.self.now.table.shared.key in let e = shards_of z c.args.self.now.sizes q.2 in let v = c.loop-seat.invariant in let all : c.args.clients.items ≡ c.pop.new.self.items ++ (c.in-Some.seat ∷ v.2.0) = v.2.1 ∙ (ap (λ l. l ++ v.2.0) c.in-Some.ensures.items ∙ append_assoc c.pop.new.self.items (c.in-Some.seat ∷ []) v.2.0) in let free = c.requires.idle c.in-Some.seat (subst (In c.in-Some.seat) (sym all) (in_right c.in-Some.seat c.pop.new.self.items _ (inl refl))) in
    (v.0 ∙ c.requires.turn.1.0, free.1.0, free.1.1, (omega arith), joins g.ShardTree.Versioned.versions g.NodeList.Versioned.versions z _ _ c.loop-seat.turn.seat.me.0 c.in-Some.seat.client.seat.me.0)

pub loop-seat-preserved : goal.loop-seat-preserved
loop-seat-preserved g c = let q = c.args.self.now.sized in let z : Opening = c.args.self.now.table.shared.key in let e = shards_of z c.args.self.now.sizes q.2 in let v = c.loop-seat.invariant in let all : c.args.clients.items ≡ c.pop.new.self.items ++ (c.in-Some.seat ∷ v.2.0) = v.2.1 ∙ (ap (λ l. l ++ v.2.0) c.in-Some.ensures.items ∙ append_assoc c.pop.new.self.items (c.in-Some.seat ∷ []) v.2.0) in let free = c.requires.idle c.in-Some.seat (subst (In c.in-Some.seat) (sym all) (in_right c.in-Some.seat c.pop.new.self.items _ (inl refl))) in let j = ap (λ m. m.0) c.join_seat.ensures.2 in (
  c.join_seat.ensures.0 ∙ v.0,
  λ history at. subst (In (seat_state 0 z history Free Resting)) (sym j) (in_left _ c.loop-seat.turn.seat.me.0 c.in-Some.seat.client.seat.me.0 (v.1 history at)),
  (c.in-Some.seat ∷ v.2.0, all, subst (AreJoined z (c.in-Some.seat ∷ v.2.0)) (sym j) (joined_more z c.in-Some.seat v.2.0 c.loop-seat.turn.seat.me.0 v.2.2)),
)

pub loop-seat-preserved-in-Some : goal.loop-seat-preserved-in-Some
loop-seat-preserved-in-Some g c = let q = c.args.self.now.sized in let z : Opening = c.args.self.now.table.shared.key in let e = shards_of z c.args.self.now.sizes q.2 in let v = c.loop-seat.invariant in let all : c.args.clients.items ≡ c.pop.new.self.items ++ (c.in-Some.seat ∷ v.2.0) = v.2.1 ∙ (ap (λ l. l ++ v.2.0) c.in-Some.ensures.items ∙ append_assoc c.pop.new.self.items (c.in-Some.seat ∷ []) v.2.0) in let free = c.requires.idle c.in-Some.seat (subst (In c.in-Some.seat) (sym all) (in_right c.in-Some.seat c.pop.new.self.items _ (inl refl))) in let j = ap (λ m. m.0) c.join_seat.ensures.2 in (
  c.join_seat.ensures.0 ∙ v.0,
  λ history at. subst (In (seat_state 0 z history Free Resting)) (sym j) (in_left _ c.loop-seat.turn.seat.me.0 c.in-Some.seat.client.seat.me.0 (v.1 history at)),
  (c.in-Some.seat ∷ v.2.0, all, subst (AreJoined z (c.in-Some.seat ∷ v.2.0)) (sym j) (joined_more z c.in-Some.seat v.2.0 c.loop-seat.turn.seat.me.0 v.2.2)),
)

pub load-requires : goal.load-requires
load-requires g c = let q = c.args.self.now.sized in let z : Opening = c.args.self.now.table.shared.key in let e = shards_of z c.args.self.now.sizes q.2 in let v = c.loop-seat.invariant in (v.0 ∙ c.requires.turn.1.0, omega arith, closes_load g.ShardTree.Versioned.versions g.NodeList.Versioned.versions z _ _ c.loop-seat.turn.seat.me _ e)

pub returns : goal.returns
returns g c history at = let q = c.args.self.now.sized in let z : Opening = c.args.self.now.table.shared.key in let e = shards_of z c.args.self.now.sizes q.2 in let v = c.loop-seat.invariant in
    let o = c.load.ensures.2 z history (v.1 history at.2) in
    let none_left = c.in_default.ensures.cases.0 in
    let count : vec_len c.loop-seat.clients - 1 ≡ 0 = omega arith in
    let gone = c.in_default.ensures.rest ∙ ap (λ (k : ℕ). take k c.loop-seat.clients.items) count in
    let all : c.args.clients.items ≡ v.2.0 = v.2.1 ∙ (ap (λ l. l ++ v.2.0) c.in_default.ensures.items ∙ ap (λ l. (l ++ []) ++ v.2.0) gone) in
    (o.0.0, (λ w seen has here. o.0.1 (seat_state w.client.number z seen Free Idle) (v.2.2 w seen (subst (In w) all has) here)))
