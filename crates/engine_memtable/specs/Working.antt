-- What a member has done after its work on its own part of a launched group.
use Rattle.std.specs.Prelude.{◌≡◌, ◌⊎◌, ℕ, List, [], ◌∷◌, ◌++◌, Some}
use Rattle.table_rule.specs.declared.content.MemberVersions.{MemberVersions}
use Rattle.table_rule.specs.declared.content.Version.{Version}
use Rattle.table_rule.specs.declared.view.Launched.{Launched}
use Rattle.table_rule.specs.declared.view.Opening.{Opening}
use Rattle.table_rule.specs.declared.view.Stage.TheVariants.{Idle, Waiting}
use Rattle.table_rule.specs.Histories.{Begins, IsHistory}
use Rattle.table_rule.specs.Steps.{IsAwaited, IsPartOf, launched_behind}
use Rattle.table_calls.specs.Account.{Account}

-- The part was the member's own part of a launched group, which comes after all that the member had seen. The part is
-- in the trees, and finished. Either it was the last part of its group, and then the member published the whole group
-- and has seen it; or the member has seen what it had seen before.
pub record Works (opening : Opening) (before after : Account) : Type 0 where
  pub launched : Launched
  pub versions : List Version
  pub own_part : IsPartOf opening before.number before.seen launched versions
  pub awaited : IsAwaited before.stage launched
  pub number : after.number ≡ before.number
  pub idle : after.stage ≡ Idle
  pub same : after.launched ≡ before.launched
  pub seen : (after.seen ≡ before.seen)
      ⊎ ((after.seen ≡ launched.before ++ launched.group ∷ []) × IsHistory opening.start after.seen)
  pub goes_on : Begins before.seen after.seen

-- The member finished its part of this group, and, if it was the last to finish, published the group.
pub record HasFinished (start : ℕ) (before : Account) (launched : Launched) (after : Account) : Type 0 where
  pub number : after.number ≡ before.number
  pub idle : after.stage ≡ Idle
  pub same : after.launched ≡ before.launched
  pub seen : (after.seen ≡ before.seen)
      ⊎ ((after.seen ≡ launched.before ++ launched.group ∷ []) × IsHistory start after.seen
      × Begins before.seen launched.before)

-- The member launched this group after the history `before`, when it had seen `seen`, and must now take its own part of
-- it.
pub record HasLaunched (start number : ℕ) (seen before : List (List MemberVersions)) (group : List MemberVersions)
    (after : Account) : Type 0 where
  pub number_is : after.number ≡ number
  pub seen_is : after.seen ≡ seen
  pub stage_is : after.stage ≡ Waiting (launched_behind start before group)
  pub launched_is : after.launched ≡ Some (launched_behind start before group)
