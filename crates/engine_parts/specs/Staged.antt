-- What a leader has of its group once it is in the log.
use Rattle.std.specs.Prelude.{◌≡◌, ℕ, ◌+◌, ◌<◌, List, [], ◌∷◌, ◌++◌, length, Option, Some, None, ⊤}
use Rattle.std.specs.List.{AllByRecursion}
use Rattle.table_rule.specs.declared.content.MemberVersions.{MemberVersions}
use Rattle.table_rule.specs.Histories.{Members, Runs, versions_in}
use Rattle.table_nodes.specs.declared.parts.MemberNodes.{MemberNodes}
use Rattle.table_nodes.specs.Parts.{group_of}
use Rattle.engine_rule.specs.Parts.{HaveParts}
use Rattle.engine_rule.specs.Commits.{Answer as CommitAnswer, accepted, held_up, failed, no_room}
use Rattle.engine_parts.specs.declared.requests.Answer.{Answer}
use Rattle.engine_parts.specs.Handled.{answer_in}

-- what is published once these parts are published too, if there are any
abbrev pub published_with : Option ℕ → List MemberNodes → List (List MemberVersions) → List (List MemberVersions)
published_with None parts published = published
published_with (Some end) parts published = published ++ group_of parts ∷ []

abbrev pub HasNoRun : CommitAnswer → Type 0
HasNoRun (accepted first group_last) = ⊥
HasNoRun (held_up numbers) = ⊤
HasNoRun (failed count) = ⊤
HasNoRun (no_room at) = ⊤

-- this client may launch these parts after `last`, while exactly the members in `beside` work in parallel with it
pub record MayLaunch (leader clients last end : ℕ) (beside : List ℕ) (parts : List MemberVersions) : Type 0 where
  pub runs : Runs last (versions_in parts)
  pub some : 0 < length (versions_in parts)
  pub members : Members clients parts
  pub each : HaveParts leader beside parts
  pub ends : end ≡ last + length (versions_in parts)

-- either no member has a run, and there are no parts; or there are parts, and the last sequence given is the last of
-- theirs
abbrev pub IsStaged : ℕ → ℕ → ℕ → ℕ → Option ℕ → List ℕ → List MemberNodes → List (ℕ × Answer) → Type 0
IsStaged leader clients last now None beside parts replies = (parts ≡ []) × (now ≡ last)
    × AllByRecursion (λ (y : ℕ × Answer). HasNoRun (answer_in y.1.answer)) replies
IsStaged leader clients last now (Some end) beside parts replies = (now ≡ end)
    × MayLaunch leader clients last end beside (group_of parts)
