-- What is known of the logs of a call, or of its only one, by what their disks tell before the call and after it. The
-- promises of a call are said of this, whether there is one log (`OneLog`) or several (`SeveralLogs`).
use Rattle.std.specs.Prelude.{ℕ, List}
use Rattle.model_base.specs.Calls as calls
use Rattle.model_base.specs.Script.{Script}
use Rattle.model_base.specs.declared.log.EndReason.{EndReason}

-- The logs of a call that should run a script.
pub record LogsOfRun : Type 1 where
  -- how many calls of their disks had failed before this call, and after it
  pub failed : ℕ
  pub fails : ℕ
  -- their disks tell what they hold
  pub told : Type 0
  -- as far as their disks tell, each is empty, or isn't to be a new one
  pub fit : Type 0
  -- the script was run over them, with this outcome, and this is what it left in them
  pub ran : Script → calls.Outcome → Type 0
  -- their disks weren't touched
  pub untouched : Type 0
  -- nothing was run over them, and they were left alone
  pub left_alone : Type 0
  -- They should be new ones, but one isn't empty. The first such has so many bytes. They stay as they were.
  pub not_empty : ℕ → Type 0
  -- They should go on, but recovery ends at this place for this reason, which the mode doesn't accept. They stay as
  -- they were.
  pub damaged : ℕ → EndReason → Type 0
  -- They should go on, and the mode accepts where their recovery ends, but this is the greatest family of the keys that
  -- it recovers, and no run is set up for it. They stay as they were.
  pub high_family : ℕ → Type 0

-- The logs of a call that should say what they recover.
pub record LogsToRecover : Type 1 where
  -- how many calls of their disks had failed before this call, and after it
  pub failed : ℕ
  pub fails : ℕ
  -- no call of their disks failed in this call
  pub no_fault : Type 0
  -- their disks were only read: they tell what they told before, and a crash leaves no less
  pub only_read : Type 0
  -- this text says what they recover, and the mode accepts where their recovery ends
  pub recover : List ℕ → Type 0
  -- the mode doesn't accept where their recovery ends, and this refusal says where that is and why
  pub damaged : List ℕ → Type 0
