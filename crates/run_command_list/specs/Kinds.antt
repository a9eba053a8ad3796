-- What commands are for.
use Rattle.std.specs.Prelude.{Option, Some, None}
use Rattle.model_base.specs.Batch.{Record}
use Rattle.model_base.specs.Calls.{Command, add, clear, commit, get, many, scan, updates, stop, unstop, slow, unslow}
use Rattle.run_command_list.specs.declared.command_kind.CommandKind.{CommandKind}
use Rattle.run_command_list.specs.declared.command_kind.CommandKind.TheVariants as kind

abbrev pub kind_of : Command → CommandKind
kind_of (add r) = kind.Addition
kind_of clear = kind.Clear
kind_of (commit options) = kind.Commit
kind_of (get key) = kind.Read
kind_of (many keys) = kind.Read
kind_of (scan family lo hi) = kind.Read
kind_of (updates n) = kind.Read
kind_of stop = kind.Token
kind_of unstop = kind.Token
kind_of (slow rate) = kind.Token
kind_of unslow = kind.Token

-- the record that a command adds to the batch, if it adds one
abbrev pub record_added : Command → Option Record
record_added (add r) = Some r
record_added other = None
