-- The member's part is found and changed, or there is room for one more.
use Rattle.std.proofs.Common.{◌≡◌, ◌≤◌, List, [], ◌∷◌, ◌++◌, ℕ, eqb, set, Option, Some, None, sym, ap, ◌∙◌, arith, rules}
use Rattle.std.specs.List.{position_from}
use Rattle.table_rule.specs.declared.content.Version.{Version}
use Rattle.table_nodes.specs.Parts.{with_part, Members}
use Rattle.table_nodes.specs.declared.parts.MemberNodes.{MemberNodes}
use Rattle.table_nodes.proofs.Members.{found_at, absent_from, room_left, room_kept}
use Rattle.table_nodes.proofs.parts.Parts.add.Goals as goal

pub index_mut-requires : goal.index_mut-requires
index_mut-requires c =
    let b = c.self.inside in
    let at : position_from (λ (p : MemberNodes). eqb p.member c.args.member) 0 b.parts.items ≡ Some c.in-Some.at = search rules in
    let found = found_at b.parts.items c.args.member c.in-Some.at c.args.nodes at in
    let within = found.within in
    search rules

pub invariant_of-self : goal.invariant_of-self
invariant_of-self c =
    let b = c.self.inside in
    let at : position_from (λ (p : MemberNodes). eqb p.member c.args.member) 0 b.parts.items ≡ Some c.in-Some.at = search rules in
    let found = found_at b.parts.items c.args.member c.in-Some.at c.args.nodes at in
    let p = c.index_mut.result.now in
    let changed : set b.parts.items c.in-Some.at (record { member = p.member; nodes = c.append.new.self }) ≡ with_part b.parts.items c.args.member c.args.nodes =
    ap (λ (vs : List Version). set b.parts.items c.in-Some.at (record { member = p.member; nodes = vs })) c.append.ensures ∙ sym (found.changed p c.index_mut.ensures.value) in
    let high : c.args.member ≤ b.clients = rw (ap (λ (m : Members). m.clients) c.self.view_is) c.requires.high in
    room_kept b.clients c.args.member c.args.nodes b.parts c.self.invariant c.requires.low high _ changed (omega arith)

pub unwrap-requires : goal.unwrap-requires
unwrap-requires c =
    let b = c.self.inside in
    let none : Option ℕ = None in
    let at : position_from (λ (p : MemberNodes). eqb p.member c.args.member) 0 b.parts.items ≡ none = search rules in
    let absent = absent_from c.args.member c.args.nodes b.parts.items 0 at in
    let high : c.args.member ≤ b.clients = rw (ap (λ (m : Members). m.clients) c.self.view_is) c.requires.high in
    let room = room_left b.clients c.args.member c.args.nodes b.parts c.self.invariant c.requires.low high absent in
    c.push.ensures.succeeds (search rules)

put : (c : goal.After-unwrap) → c.push.new.self.items ≡ c.self.inside.parts.items ++ record { member = c.args.member; nodes = c.args.nodes } ∷ []
put c = (rw c.unwrap.ensures at c.push.ensures.items) ∙ ap (λ (vs : List Version). c.self.inside.parts.items ++ record { member = c.args.member; nodes = vs } ∷ []) c.of-nodes.ensures

pub invariant_of-self-in-None : goal.invariant_of-self-in-None
invariant_of-self-in-None c =
    let b = c.self.inside in
    let none : Option ℕ = None in
    let at : position_from (λ (p : MemberNodes). eqb p.member c.args.member) 0 b.parts.items ≡ none = search rules in
    let absent = absent_from c.args.member c.args.nodes b.parts.items 0 at in
    let high : c.args.member ≤ b.clients = rw (ap (λ (m : Members). m.clients) c.self.view_is) c.requires.high in
    let items = put c in
    room_kept b.clients c.args.member c.args.nodes b.parts c.self.invariant c.requires.low high c.push.new.self (items ∙ sym absent.behind) c.push.ensures.capacity

pub returns-in-Some : goal.returns-in-Some
returns-in-Some c =
    let b = c.self.inside in
    let at : position_from (λ (p : MemberNodes). eqb p.member c.args.member) 0 b.parts.items ≡ Some c.in-Some.at = search rules in
    let found = found_at b.parts.items c.args.member c.in-Some.at c.args.nodes at in
    let p = c.index_mut.result.now in
    let changed : set b.parts.items c.in-Some.at (record { member = p.member; nodes = c.append.new.self }) ≡ with_part b.parts.items c.args.member c.args.nodes =
    ap (λ (vs : List Version). set b.parts.items c.in-Some.at (record { member = p.member; nodes = vs })) c.append.ensures ∙ sym (found.changed p c.index_mut.ensures.value) in
    let view = c.self.view_is in
    λ i. record { clients = (view i).clients; parts = (changed ∙ ap (λ (m : Members). with_part m.parts c.args.member c.args.nodes) view) i }

pub returns-in-None : goal.returns-in-None
returns-in-None c =
    let b = c.self.inside in
    let none : Option ℕ = None in
    let at : position_from (λ (p : MemberNodes). eqb p.member c.args.member) 0 b.parts.items ≡ none = search rules in
    let absent = absent_from c.args.member c.args.nodes b.parts.items 0 at in
    let items = put c in
    let view = c.self.view_is in
    λ i. record { clients = (view i).clients; parts = (items ∙ sym absent.behind ∙ ap (λ (m : Members). with_part m.parts c.args.member c.args.nodes) view) i }
