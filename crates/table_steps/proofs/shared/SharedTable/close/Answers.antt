use Rattle.std.proofs.Common.{◌≡◌, ℕ, ◌+◌, List, [], ◌∷◌, map, refl, sym, ap, ◌∙◌, subst, inl, inr, ⊎_elim}
use Rattle.table_rule.specs.declared.content.MemberVersions.{MemberVersions}
use Rattle.table_rule.specs.declared.view.Opening.{Opening}
use Rattle.table_rule.specs.declared.view.Stage.{Stage}
use Rattle.table_rule.specs.declared.view.Stage.TheVariants.{Idle}
use Rattle.table_rule.specs.Histories.{In, Begins, IsHistory}
use Rattle.table_calls.specs.Account.{Account}
use Rattle.table_steps.specs.declared.seat.TableSeat.{TableSeat}
use Rattle.table_steps.specs.Accounts.{first_state, account, Carries}
use Rattle.table_steps.proofs.Accounts.{staged, stage_of}
use Rattle.table_steps.proofs.shared.SharedTable.close.Goals as goal

in_map : {A B : Type 0} (f : A → B) (xs : List A) (y : B) → In y (map f xs) → (x : A) × In x xs × (f x ≡ y)
in_map f [] y h = absurd h
in_map {A = A} f (x ∷ xs) y h = ⊎_elim (λ (e : f x ≡ y). (x, inl refl, e)) (λ (t : In y (map f xs)). let k = in_map f xs y t in (k.0, inr k.1, k.2)) h

pub gather-requires-clause-idle : goal.gather-requires-clause-idle
gather-requires-clause-idle g c seat h =
    let z : Opening = c.args.self.table.shared.key in let k : ℕ = seat.client.number in let m = seat.client.seat.me in
    let r = c.requires.clients seat h in let o = r.0.0 in
    let nil : m.1 ≡ [] = subst (λ (s : Stage). Carries (z.shards + k) seat.last s m.1) (stage_of k z o.3.0 o.3.1 Idle m o.3.2 r.1.idle) o.3.3 in
    (o.3.0, (o.0, nil, staged k z o.3.0 o.3.1 Idle m o.3.2 r.1.idle))

pub returns : goal.returns
returns g c =
    let z : Opening = c.args.self.table.shared.key in
    let t = c.requires.turn in
    let done = c.gather.ensures t.0 t.1 in
    let same : t.0 ≡ (first_state c.args.seats.turn.seat.me.0).seen = sym (ap (λ l. (first_state l).seen) t.1.2) in
    record {
      is_history = subst (IsHistory z.start) same done.0;
      each = λ y h.
          let x = in_map (λ (s : TableSeat g.row.ShardTree.Denot g.row.NodeList.Denot). account s) c.args.seats.clients.items y h in
          let seat : TableSeat g.row.ShardTree.Denot g.row.NodeList.Denot = x.0 in let k : ℕ = seat.client.number in let m = seat.client.seat.me in
          let r = c.requires.clients seat x.1 in let o = r.0.0 in
          let at = staged k z o.3.0 o.3.1 Idle m o.3.2 r.1.idle in
          let seen_is : o.3.0 ≡ y.seen = sym (ap (λ l. (first_state l).seen) at) ∙ ap (λ (a : Account). a.seen) x.2 in
          subst (λ (p : List (List MemberVersions) × List (List MemberVersions)). Begins p.0 p.1) (λ i. (seen_is i, same i)) (done.1 seat o.3.0 x.1 at);
    }
