use Rattle.std.proofs.Common.{ℕ, ◌+◌, ◌++◌, length, ap, ◌∙◌, arith}
use Rattle.table_rule.specs.declared.view.Opening.{Opening}
use Rattle.table_rule.specs.declared.view.Stage.TheVariants.{Idle, Resting}
use Rattle.model_base.specs.Halves.{all_but_first, first_only}
use Rattle.table_rule.specs.Steps.{IsWithTurn}
use Rattle.table_steps.proofs.Keyed.{shards_of}
use Rattle.table_rule.proofs.Launching.{launches}
use Rattle.table_rule.proofs.Seats.{joins, splits_turn}
use Rattle.table_steps.proofs.shared.SharedTable.set_running.Goals as goal

pub overflow_add-self : goal.overflow_add-self
overflow_add-self g c = let q = c.args.self.now.sized in omega arith

pub join_seat-requires : goal.join_seat-requires
join_seat-requires g c =
    let q = c.args.self.now.sized in let z : Opening = c.args.self.now.table.shared.key in let s = c.requires.seat in
    (s.0, s.1, s.2, (omega arith), joins g.ShardTree.Versioned.versions g.NodeList.Versioned.versions z _ _ c.args.who.now.seat.me.0 c.args.turn.seat.me.0)

pub store-requires : goal.store-requires
store-requires g c =
    let q = c.args.self.now.sized in let z : Opening = c.args.self.now.table.shared.key in let e = shards_of z c.args.self.now.sizes q.2 in let o = c.requires.next in let s = c.requires.seat in let k : ℕ = c.args.who.now.number in
    let both : IsWithTurn k z o.0 Idle o.1 Resting c.join_seat.new.seat.me = ap (λ m. m.0) c.join_seat.ensures.2 ∙ (λ i. o.2 i ++ o.3 i) in
    (c.join_seat.ensures.0 ∙ s.0, omega arith, launches g.ShardTree.Versioned.versions g.NodeList.Versioned.versions z _ _ c.join_seat.new.seat.me k _ _ o.0 o.1 g.Group.GroupPlan.group (ap (λ (k : ℕ). k + 1) e) (c.len.ensures ∙ ap length c.requires.group) s.3 both o.4.0 o.4.1 o.4.2)

pub split_seat-seat-requires : goal.split_seat-seat-requires
split_seat-seat-requires g c =
    let q = c.args.self.now.sized in let z : Opening = c.args.self.now.table.shared.key in let o = c.requires.next in let s = c.requires.seat in let k : ℕ = c.args.who.now.number in
    let both : IsWithTurn k z o.0 Idle o.1 Resting c.join_seat.new.seat.me = ap (λ m. m.0) c.join_seat.ensures.2 ∙ (λ i. o.2 i ++ o.3 i) in
    let now = c.store.ensures.2 k z o.0 o.1 both in
    (c.store.ensures.0 ∙ c.join_seat.ensures.0 ∙ s.0, (omega arith), splits_turn g.ShardTree.Versioned.versions g.NodeList.Versioned.versions z _ k o.0 o.1 _ _ c.store.new.seat.me.0 s.3 now.0)

pub returns-clause-client : goal.returns-clause-client
returns-clause-client g c =
    let z : Opening = c.args.self.now.table.shared.key in let o = c.requires.next in let k : ℕ = c.args.who.now.number in
    let both : IsWithTurn k z o.0 Idle o.1 Resting c.join_seat.new.seat.me = ap (λ m. m.0) c.join_seat.ensures.2 ∙ (λ i. o.2 i ++ o.3 i) in
    let now = c.store.ensures.2 k z o.0 o.1 both in
    (c.split_seat-seat.ensures.0 ∙ c.store.ensures.0 ∙ c.join_seat.ensures.0, search, ap (λ m. m.1) c.split_seat-seat.ensures.2 ∙ now.1 ∙ ap (λ m. m.1) c.join_seat.ensures.2)

pub returns-clause-launched : goal.returns-clause-launched
returns-clause-launched g c own seen at turn =
    let z : Opening = c.args.self.now.table.shared.key in let k : ℕ = c.args.who.now.number in
    let both : IsWithTurn k z own Idle seen Resting c.join_seat.new.seat.me = ap (λ m. m.0) c.join_seat.ensures.2 ∙ (λ i. at i ++ turn i) in
    ap (λ m. m.0) c.split_seat-seat.ensures.2 ∙ ap first_only (c.store.ensures.2 k z own seen both).0

pub returns-clause-handing : goal.returns-clause-handing
returns-clause-handing g c own seen at turn =
    let z : Opening = c.args.self.now.table.shared.key in let k : ℕ = c.args.who.now.number in
    let both : IsWithTurn k z own Idle seen Resting c.join_seat.new.seat.me = ap (λ m. m.0) c.join_seat.ensures.2 ∙ (λ i. at i ++ turn i) in
    ap (λ m. m.0) c.split_seat-seat.ensures.4 ∙ ap all_but_first (c.store.ensures.2 k z own seen both).0
