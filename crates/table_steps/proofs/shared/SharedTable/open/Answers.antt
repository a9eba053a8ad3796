use Rattle.std.proofs.Common.{◌≡◌, ℕ, ◌+◌, ◌≤◌, [], ◌++◌, ◌∙◌, length, replicate, refl, sym, ap, subst, arith}
use Rattle.std.proofs.lemmas.List.{length-map}
use Rattle.table_rule.specs.declared.content.Content.TheVariants.{Blank}
use Rattle.table_rule.specs.declared.view.Stage.TheVariants.{Idle}
use Rattle.table_steps.specs.Accounts.{first_state, launch_of, Keeps}
use Rattle.table_steps.specs.Ends.{AreSeatsOf}
use Rattle.table_steps.specs.Sizes.{sizes_of}
use Rattle.table_rule.specs.declared.view.Opening.{Opening}
use Rattle.table_steps.proofs.Openings.{opens_first, first_words_length, first_slots_length}
use Rattle.table_steps.proofs.shared.SharedTable.open.Goals as goal

pub new-requires : goal.new-requires
new-requires g c =
    let z : Opening = record { clients = c.args.clients; shards = c.len.result; start = c.args.last; base = c.args.base } in let many : z.shards ≡ length c.args.trees.items = c.len.ensures ∙ c.args.trees.ok.0 in let some = c.requires.count.0 in
    opens_first g.ShardTree.Versioned.versions g.NodeList.Versioned.versions z c.deref.result.now c.add_blanks.new.slots.items c.args.trees.items (c.deref.ensures.value ∙ c.in_ok-words.ensures) (c.in_ok-add_blanks.ensures ∙ ap (λ l. l ++ replicate (z.clients + 1) Blank) c.in_ok-slots.ensures) (omega arith) (sym many) c.requires.over.0 c.requires.over.1

pub invariant_of-shared : goal.invariant_of-shared
invariant_of-shared g c =
    let o = c.in-Ok.ensures.ok in let k : ℕ = c.len.result in let n : ℕ = c.args.clients in let b = c.ranges.clients in
    let count : k ≡ length c.args.trees.items = c.len.ensures ∙ c.args.trees.ok.0 in let some = c.requires.count.0 in let few = c.requires.count.1 in
    let many : length c.in_ok-slots.slots.items ≡ k = ap length c.in_ok-slots.ensures ∙ length-map c.args.trees.items _ ∙ sym count in
    record {
      sized = (
        o.0 ∙ (ap length (c.deref.ensures.value ∙ c.in_ok-words.ensures) ∙ first_words_length k c.args.last n),
        o.1 ∙ (ap length c.in_ok-add_blanks.ensures ∙ first_slots_length c.in_ok-slots.slots.items k n Blank many),
        ap sizes_of o.5,
        omega arith,
        omega arith,
        omega arith,
      );
    }

pub returns-clause-turn : goal.returns-clause-turn
returns-clause-turn g c = let t = c.in_ok-seats.ensures.turn in (([], t), ap (λ l. (first_state l).seen) t.2)

pub returns-clause-clients : goal.returns-clause-clients
returns-clause-clients g c =
    let z : Opening = c.in-Ok.table.shared.key in
    let count : z.clients ≡ c.args.clients = ap (λ (y : Opening). y.clients) c.in-Ok.ensures.ok.5 in
    let all = subst (λ (n : ℕ). AreSeatsOf c.in-Ok.table.shared.table_id z n c.in_ok-seats.seats.clients.items) count c.in_ok-seats.ensures.clients in (
      all.0,
      λ seat h. let e = all.1 seat h in (
        ((e.0.0, e.2, subst (λ (n : ℕ). seat.client.number ≤ n) (sym count) e.3, ([], Idle, e.0.2, e.0.1)), subst (Keeps c.in-Ok.table.shared.table_id z) (sym e.1) tt),
        record { idle = ap (λ l. (first_state l).stage) e.0.2; none_launched = ap launch_of e.1 },
        ap (λ l. (first_state l).seen) e.0.2,
      ),
    )
