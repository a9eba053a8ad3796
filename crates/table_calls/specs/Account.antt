-- What callers see of a client's seat: what it knows of a table, and what it has to do there.
use Rattle.std.specs.Prelude.{◌≡◌, ℕ, ◌<◌, ◌≤◌, List, [], ◌∷◌, ◌++◌, length, Option, None, Some}
use Rattle.table_rule.specs.declared.content.MemberVersions.{MemberVersions}
use Rattle.table_rule.specs.declared.content.Version.{Version}
use Rattle.table_rule.specs.declared.view.Launched.{Launched}
use Rattle.table_rule.specs.declared.view.Opening.{Opening}
use Rattle.table_rule.specs.declared.view.Stage.{Stage}
use Rattle.table_rule.specs.declared.view.Stage.TheVariants.{Idle, Waiting, Holding, Publishing}
use Rattle.table_rule.specs.Events.{IsMember}
use Rattle.table_rule.specs.Histories.{In, Apart, Begins, IsHistory}
use Rattle.table_rule.specs.Steps.{work, launched_behind, IsPartOf, IsAwaited}
use Rattle.table_calls.specs.declared.finished.Finished.{Finished}
use Rattle.table_calls.specs.declared.finished.Finished.TheVariants.{Last, Others}

pub record Account : Type 0 where
  -- the client's number
  pub number : ℕ
  -- the published groups that it has seen, the oldest first
  pub seen : List (List MemberVersions)
  -- where its own part is
  pub stage : Stage
  -- the group that it launched and waits for
  pub launched : Option Launched

-- It has seen the history up to some moment, and no less than before.
pub record Learns (start : ℕ) (before after : Account) : Type 0 where
  pub number : after.number ≡ before.number
  pub stage : after.stage ≡ before.stage
  pub launched : after.launched ≡ before.launched
  pub seen : Begins before.seen after.seen
  pub is_history : IsHistory start after.seen

-- Its part moves on.
pub record Steps (before : Account) (stage : Stage) (after : Account) : Type 0 where
  pub number : after.number ≡ before.number
  pub seen : after.seen ≡ before.seen
  pub stage_is : after.stage ≡ stage
  pub launched : after.launched ≡ before.launched

-- It launched a group after a history. It must then take its own part of it; without one it has none to wait for.
pub record Launches (start : ℕ) (before : Account) (history : List (List MemberVersions)) (group : List MemberVersions)
    (after : Account) : Type 0 where
  pub number : after.number ≡ before.number
  pub seen : after.seen ≡ before.seen
  pub own_part : IsMember before.number group → after.stage ≡ Waiting (launched_behind start history group)
  pub no_part : Apart before.number group → after.stage ≡ Idle
  pub launched_is : after.launched ≡ Some (launched_behind start history group)

-- It took its own part of a launched group. If it was waiting for its part of a group that it launched, it is that
-- group.
pub record Takes (opening : Opening) (before : Account) (versions : List Version) (after : Account) : Type 0 where
  pub launched : Launched
  pub steps : Steps before (Holding (work launched [] versions)) after
  pub own_part : IsPartOf opening before.number before.seen launched versions
  pub awaited : IsAwaited before.stage launched

-- a member hears that it was the last just where it found no other one running
abbrev pub IsTold : ℕ → Finished → Type 0
IsTold found Last = found ≡ 1
IsTold found Others = 1 < found

-- the last one may publish the group, once
abbrev pub after_finish : Launched → Finished → Stage
after_finish launched Last = Publishing launched
after_finish launched Others = Idle

-- It has finished its part.
pub record Counts (before : Account) (launched : Launched) (finished : Finished) (after : Account) : Type 0 where
  -- how many members of the group were running before, itself among them
  pub found : ℕ
  pub within : found ≤ length launched.group
  pub told : IsTold found finished
  pub steps : Steps before (after_finish launched finished) after

-- It published the group, and has seen it, after the history that was there before.
pub record Publishes (start : ℕ) (before : Account) (launched : Launched) (after : Account) : Type 0 where
  pub number : after.number ≡ before.number
  pub stage_is : after.stage ≡ Idle
  pub launched_is : after.launched ≡ before.launched
  pub seen_is : after.seen ≡ launched.before ++ launched.group ∷ []
  pub seen_before : Begins before.seen launched.before
  pub is_history : IsHistory start after.seen

-- It has nothing to do.
pub record IsReady (account : Account) : Type 0 where
  pub idle : account.stage ≡ Idle
  pub none_launched : account.launched ≡ None

-- All that was published is one history, and each client has seen a beginning of it.
pub record IsClosing (start : ℕ) (history : List (List MemberVersions)) (accounts : List Account) : Type 0 where
  pub is_history : IsHistory start history
  pub each : (account : Account) → In account accounts → Begins account.seen history
