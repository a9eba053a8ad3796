-- The exit statuses.
use Rattle.std.specs.Prelude.{ℕ}
use Rattle.list_call.specs.declared.status.Status.{Status}
use Rattle.list_call.specs.declared.status.Status.TheVariants.{Done, Words, Disk, Sink, Memory, Damage}

abbrev pub code : Status → ℕ
code Done = 0
code Words = 1
code Disk = 3
code Sink = 5
code Memory = 6
code Damage = 8
