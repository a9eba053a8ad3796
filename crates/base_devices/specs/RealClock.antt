-- What the system's clock shows.
use Rattle.std.specs.Prelude.{ℕ, Option}
use Rattle.base_devices.specs.declared.real_clock.RealClock.{RealClock}

-- the last moment that it answered
abbrev pub real_answered : {R : Type 0} → RealClock R → Option ℕ
real_answered c = c.answered

-- how many microseconds it was asked to let pass
abbrev pub real_paused : {R : Type 0} → RealClock R → ℕ
real_paused c = c.paused
