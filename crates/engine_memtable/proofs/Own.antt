-- The leader has a part of its own, and waits for it.
use Rattle.std.proofs.Common.{◌≡◌, ℕ, inl, List, [], ◌∷◌, refl, ap}
use Rattle.table_rule.specs.declared.content.MemberVersions.{MemberVersions}
use Rattle.table_rule.specs.Histories.{In}
use Rattle.table_rule.specs.Events.{IsMember}
use Rattle.table_calls.specs.Account.{Account, Launches}
use Rattle.engine_memtable.specs.Working.{HasLaunched}
use Rattle.engine_rule.specs.Parts.{HaveParts}

head_or : ℕ → List ℕ → ℕ
head_or d [] = d
head_or d (x ∷ xs) = x

same_head : (x y : ℕ) (xs ys : List ℕ) → x ∷ xs ≡ y ∷ ys → x ≡ y
unfolding head_or
same_head x y xs ys e = ap (head_or x) e

pub own_part : (leader : ℕ) (members : List ℕ) (parts : List MemberVersions) → HaveParts leader members parts → (part : MemberVersions) × In part parts × (part.member ≡ leader)
own_part leader members [] have = absurd (cc)
own_part leader members (p ∷ ps) have = (p, inl refl, same_head _ _ _ _ have)

pub has_launched : (start : ℕ) (before : Account) (history : List (List MemberVersions)) (group : List MemberVersions) (after : Account) → Launches start before history group after → IsMember before.number group
    → HasLaunched start before.number before.seen history group after
has_launched start before history group after launches own = record { number_is = launches.number; seen_is = launches.seen; stage_is = launches.own_part own; launched_is = launches.launched_is }
