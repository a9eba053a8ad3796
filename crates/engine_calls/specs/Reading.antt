-- What reads of keys in column families answer, and what a read of the log says that gave nothing.
use Rattle.std.specs.Prelude.{◌≡◌, true, false, ℕ, List, Result, Err, MatchOption, IsOkUnless}
use Rattle.model_base.specs.declared.write.ReadRefused.{ReadRefused}
use Rattle.model_base.specs.declared.write.ReadRefused.TheVariants as no
use Rattle.model_base.specs.Progress.{first_missing}
use Rattle.model_base.specs.Tokens.{holds_stop}
use Rattle.model_base.specs.Trace.{Settings}
use Rattle.model_accounts.specs.Accounts.{Account, FailsToRead, Keeps}
use Rattle.engine_calls.specs.declared.answers.SinceRefused.{SinceRefused}
use Rattle.engine_calls.specs.declared.answers.SinceRefused.TheVariants as none

-- A read of keys in these families is refused for a family exactly where there isn't one of them, and names the first
-- such one. Any other read is answered, unless there is no memory.
abbrev pub IsOfFamilies : {A : Type 0} → Settings → List ℕ → Result A ReadRefused → Type 0
IsOfFamilies settings named result = MatchOption (first_missing settings.families named)
    (IsOkUnless result no.NoMemory) (λ family. result ≡ Err (no.NoFamily family))

-- Why a read of the log gave nothing, and what it leaves of the client's account. The client holds a stop token; or it
-- holds none, and there was no memory, or the log's disk failed in the read.
abbrev pub FailsFor : Settings → Account → SinceRefused → Account → Type 0
FailsFor settings v none.SelfStop w = (holds_stop v.asked ≡ true) × Keeps v w
FailsFor settings v none.NoMemory w = (holds_stop v.asked ≡ false) × Keeps v w
FailsFor settings v (none.ReadFault count) w = (holds_stop v.asked ≡ false) × FailsToRead settings v count w
