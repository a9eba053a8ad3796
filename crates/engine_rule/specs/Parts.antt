-- Which members work on a group.
use Rattle.std.specs.Prelude.{◌≡◌, ℕ, List, ◌∷◌, map}
use Rattle.table_rule.specs.declared.content.MemberVersions.{MemberVersions}

-- the members of the parts, in their order
abbrev pub members_of : List MemberVersions → List ℕ
members_of parts = map (λ (part : MemberVersions). part.member) parts

-- the parts are the leader's own, and then those of exactly these members, in this order
abbrev pub HaveParts : ℕ → List ℕ → List MemberVersions → Type 0
HaveParts leader members parts = members_of parts ≡ leader ∷ members
