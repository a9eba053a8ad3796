-- Which refusals are left where the log has no fault.
use Rattle.std.specs.Prelude.{◌≡◌, Bool, true, false, List}
use Rattle.std.specs.List.{AllByRecursion}
use Rattle.model_base.specs.declared.write.Refusal.{Refusal}
use Rattle.model_base.specs.declared.write.Refusal.TheVariants.{NoMemory, Empty, TooLarge, SyncWithoutLog, NoFamily, SelfStop, LogFault, SequenceFull, Incomplete}
use Rattle.model_base.specs.Calls.{Call, Reply, refused}

-- The batch is empty or too large, it was to be synced but not logged, it or a read names a family that there isn't, or
-- no sequences are left for it. Or the client holds a stop token itself, or asked not to wait while writes were held
-- up.
abbrev pub is_for_itself : Refusal → Bool
is_for_itself Empty = true
is_for_itself (TooLarge size) = true
is_for_itself SyncWithoutLog = true
is_for_itself (NoFamily family) = true
is_for_itself (SequenceFull last) = true
is_for_itself SelfStop = true
is_for_itself (Incomplete stops delays wait) = true
is_for_itself (LogFault count) = false
is_for_itself NoMemory = false

-- if the reply is a refusal, it is for such a cause
abbrev pub RefusesForItself : Reply → Type 0
RefusesForItself reply = (why : Refusal) → reply ≡ refused why → is_for_itself why ≡ true

-- none of these calls was refused, except for such causes of their own
abbrev pub AreRefusedForThemselves : List Call → Type 0
AreRefusedForThemselves calls = AllByRecursion (λ (c : Call). RefusesForItself c.reply) calls
