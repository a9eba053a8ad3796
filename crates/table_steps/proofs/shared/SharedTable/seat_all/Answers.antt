use Rattle.std.proofs.Common.{◌≡◌, ℕ, suc, ◌+◌, ◌-◌, ◌<◌, ◌≤◌, [], ◌∷◌, refl, ap, ◌∙◌, subst, ⊎_elim, arith, None}
use Rattle.table_steps.specs.declared.sizes.Sizes.{Sizes}
use Rattle.table_rule.specs.declared.view.Opening.{Opening}
use Rattle.table_rule.specs.Histories.{In}
use Rattle.table_rule.specs.Rule.{newcomers}
use Rattle.table_rule.proofs.Histories.{in_split}
use Rattle.table_rule.proofs.Seats.{left_is, splits_first}
use Rattle.table_steps.specs.declared.seat.TableSeat.{TableSeat}
use Rattle.table_steps.specs.Ends.{IsSeatOf, AreSeatsOf}
use Rattle.table_steps.proofs.Openings.{numbers_more}
use Rattle.table_steps.proofs.shared.SharedTable.seat_all.Goals as goal

pub split_seat-own-requires : goal.split_seat-own-requires
split_seat-own-requires g c =
    let v = c.loop-seated.invariant in let q = c.args.self.now.sized in let z : Opening = c.args.self.now.table.shared.key in
    let lt = c.loop-seated-test.true in let sum = v.2.1 in let cl : z.clients ≡ c.args.self.now.sizes.clients = ap (λ (s : Sizes). s.clients) q.2 in
    let one_more : v.2.0 ≡ suc (v.2.0 - 1) = omega arith in
    (v.0 ∙ c.requires.0, omega arith, splits_first g.ShardTree.Versioned.versions g.NodeList.Versioned.versions z _ (c.loop-seated.seated + 1) (v.2.0 - 1) c.loop-seated.seat.me.0 (omega arith) (v.2.2 ∙ ap (newcomers z (c.loop-seated.seated + 1)) one_more))

pub loop-seated-preserved : goal.loop-seated-preserved
loop-seated-preserved g c =
    let v = c.loop-seated.invariant in let q = c.args.self.now.sized in let z : Opening = c.args.self.now.table.shared.key in
    let lt = c.loop-seated-test.true in let sum = v.2.1 in let cl : z.clients ≡ c.args.self.now.sizes.clients = ap (λ (s : Sizes). s.clients) q.2 in
    let number : ℕ = c.loop-seated.seated + 1 in
    let one_more : v.2.0 ≡ suc (v.2.0 - 1) = omega arith in
    let next : suc number ≡ number + 1 = omega arith in
    let cut = left_is g.ShardTree.Versioned.versions g.NodeList.Versioned.versions z number (v.2.0 - 1) c.loop-seated.seat.me.0 (v.2.2 ∙ ap (newcomers z number) one_more) in
    let s = c.split_seat-own.ensures in
    let client : TableSeat g.row.ShardTree.Denot g.row.NodeList.Denot = record { client = record { number = number; seat = c.split_seat-own.result }; turn = None; last = c.args.self.now.sizes.start } in (
      s.0 ∙ v.0,
      ap (λ m. m.1) s.2 ∙ v.1,
      (v.2.0 - 1, (omega arith), ap (λ m. m.0) s.2 ∙ (cut.0 ∙ ap (λ (k : ℕ). newcomers z k (v.2.0 - 1)) next)),
      (
        numbers_more c.loop-seated.clients.items client c.push.new.self.items c.loop-seated.seated c.in_ok-push.ensures.items v.3.0 refl,
        λ w h. ⊎_elim (λ old. let o = v.3.1 w old in let top = o.3 in (o.0, o.1, o.2, (omega arith)))
            (λ new. ⊎_elim (λ e. subst (λ (w : TableSeat g.row.ShardTree.Denot g.row.NodeList.Denot). IsSeatOf c.args.self.now.table.shared.table_id z [] w.client × (w.turn ≡ None) × (0 < w.client.number) × (w.client.number ≤ c.loop-seated.seated + 1)) e ((s.3 ∙ (v.0 ∙ c.requires.0), ap (λ m. m.1) s.4, ap (λ m. m.0) s.4 ∙ cut.1), refl, (omega arith), (omega arith))) (λ (none : ⊥). absurd none) new)
            (in_split w c.loop-seated.clients.items (client ∷ []) (subst (In w) c.in_ok-push.ensures.items h)),
      ),
    )

pub returns-clause-clients : goal.returns-clause-clients
returns-clause-clients g c =
    let v = c.loop-seated.invariant in let q = c.args.self.now.sized in let z : Opening = c.args.self.now.table.shared.key in
    let sum = v.2.1 in let cl : z.clients ≡ c.args.self.now.sizes.clients = ap (λ (s : Sizes). s.clients) q.2 in let stop = c.loop-seated-test.false in
    subst (λ (n : ℕ). AreSeatsOf c.args.self.now.table.shared.table_id z n c.loop-seated.clients.items) (let e : c.loop-seated.seated ≡ z.clients = omega arith in e) v.3
