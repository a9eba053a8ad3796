-- What comes after a node, by its links.
use Rattle.std.specs.Prelude.{[]}
use Rattle.table_nodes.specs.Following.{Following}
use Rattle.table_nodes.specs.Nodes.{versions_at}
use Rattle.table_nodes.specs.declared.links.Shape.{Shape}
use Rattle.table_nodes.specs.declared.links.Shape.TheVariants.{Next, Children, Both}

abbrev pub following_of : Shape → Following
following_of (Next next) = record { children = []; next = next }
following_of (Children rank children) = record { children = versions_at children.value; next = [] }
following_of (Both rank children next) = record { children = versions_at children.value; next = versions_at next.value }
