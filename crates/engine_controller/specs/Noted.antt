-- What contracts see of a note.
use Rattle.std.specs.Prelude.{List}
use Rattle.atomic_table.specs.Seated.{TableId}
use Rattle.engine_controller.specs.declared.rule.Call.{Call}

-- the table of the controller that it is of, and the calls that it shows
pub record Noted : Type 0 where
  pub cell : TableId
  pub seen : List Call
