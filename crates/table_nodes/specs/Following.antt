-- What comes after a node, as contracts see it.
use Rattle.std.specs.Prelude.{List, []}
use Rattle.table_rule.specs.declared.content.Version.{Version}

-- the versions of its children, which come first, and those of its next ones
pub record Following : Type 0 where
  pub children : List Version
  pub next : List Version

abbrev pub nothing : Following
nothing = record { children = []; next = [] }
