-- Which entries each group of commits made.
use Rattle.std.specs.Prelude.{◌≡◌, ℕ, ◌+◌, ◌-◌, Bool, true, false, List, [], ◌∷◌, length, map, filter, take, get_or, flat_map, if◌then◌else◌}
use Rattle.std.specs.List.{AllZip}
use Rattle.model_base.specs.History.{Entry}
use Rattle.model_base.specs.Attempts.{Attempt, WriteStatus, succeeded, slowed, faulted, full}
use Rattle.model_base.specs.Groups.{Member, Group}

abbrev pub is_success : WriteStatus → Bool
is_success succeeded = true
is_success slowed = false
is_success (faulted count) = false
is_success (full last) = false

-- of a client's commits, whether each succeeded
abbrev pub successes : List Attempt → List Bool
successes attempts = map (λ (h : Attempt). is_success h.status) attempts

-- the client's number and the ordinal of the entry that a commit makes, if it succeeds; `before` says of the client's
-- earlier commits whether they did
abbrev pub name_behind : ℕ → List Bool → Bool → List (ℕ × ℕ)
name_behind client before success =
    if success then (client, 1 + length (filter (λ (b : Bool). b) before)) ∷ [] else []

-- the same for a group's member, among the commits of all clients; a commit that failed made no entry
abbrev pub name_made : List (List Attempt) → Member → List (ℕ × ℕ)
name_made attempts m =
    let own = successes (get_or attempts (m.client - 1) []) in
    name_behind m.client (take m.call own) (get_or own m.call false)

-- the same for all members of a group, in their order
abbrev pub names_made : List (List Attempt) → Group → List (ℕ × ℕ)
names_made attempts g = flat_map (name_made attempts) g.members

abbrev pub name_of : Entry → ℕ × ℕ
name_of e = (e.client, e.ordinal)

-- The history's entries are cut into parts, one for each group of commits: those that its members made, and no others.
pub record AreParts (attempts : List (List Attempt)) (groups : List Group) (entries : List Entry)
    (parts : List (List Entry)) : Type 0 where
  pub cut : flat_map (λ part. part) parts ≡ entries
  pub made : AllZip (λ (g : Group) (part : List Entry). map name_of part ≡ names_made attempts g) groups parts
