-- What a stepped clock shows.
use Rattle.std.specs.Prelude.{ℕ, Option}
use Rattle.base_devices.specs.declared.stepped_clock.SteppedClock.{SteppedClock}

-- the moment at which it is
abbrev pub clock_at : SteppedClock → ℕ
clock_at c = c.at

-- the last moment that it answered
abbrev pub clock_answered : SteppedClock → Option ℕ
clock_answered c = c.answered

-- how many microseconds it was asked to let pass
abbrev pub clock_paused : SteppedClock → ℕ
clock_paused c = c.paused
