-- The members of a write group, with the versions that each of them brings.
use Rattle.std.specs.Prelude.{ℕ, ◌≤◌, List, [], ◌∷◌, ◌++◌, map, Vec, vec_capacity, nat_eq, ◌==◌, if◌then◌else◌}
use Rattle.std.specs.declared.alloc.Global.{Global}
use Rattle.std.specs.List.{AllByRecursion, IsDistinct}
use Rattle.table_rule.specs.declared.content.Version.{Version}
use Rattle.table_rule.specs.declared.content.MemberVersions.{MemberVersions}
use Rattle.table_nodes.specs.declared.parts.MemberNodes.{MemberNodes}

-- how many clients there are, and the parts of those that are members
pub record Members : Type 0 where
  pub clients : ℕ
  pub parts : List MemberNodes

-- the parts, with versions appended to those of a member, or as a part of its own after the others
abbrev pub with_part : List MemberNodes → ℕ → List Version → List MemberNodes
with_part [] member versions = record { member = member; nodes = versions } ∷ []
with_part (part ∷ parts) member versions =
    if part.member == member then record part { nodes = part.nodes ++ versions } ∷ parts
    else part ∷ with_part parts member versions

abbrev pub members_of : List MemberNodes → List ℕ
members_of parts = map (λ (part : MemberNodes). part.member) parts

-- the parts as a table sees them
abbrev pub group_of : List MemberNodes → List MemberVersions
group_of parts = map (λ (part : MemberNodes). record { member = part.member; versions = part.nodes }) parts

-- Each member is there once, with a number from 1 to the number of clients, and there is room for all clients.
pub record HasRoom (clients : ℕ) (parts : Vec MemberNodes Global) : Type 0 where
  pub once : IsDistinct nat_eq (members_of parts.items)
  pub numbers : AllByRecursion (λ member. (1 ≤ member) × (member ≤ clients)) (members_of parts.items)
  pub room : clients ≤ vec_capacity parts
