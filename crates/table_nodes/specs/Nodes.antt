-- What contracts see of the nodes.
use Rattle.std.specs.Prelude.{ℕ, List, [], ◌∷◌, ◌++◌, Option, Some, None, Box}
use Rattle.std.specs.declared.alloc.Global.{Global}
use Rattle.model_base.specs.declared.key.Key.{Key}
use Rattle.table_rule.specs.declared.content.Version.{Version}
use Rattle.table_nodes.specs.Chains.{Chain}
use Rattle.table_nodes.specs.declared.node.Node.{Node}

abbrev pub at_key : ℕ → List ℕ → Key
at_key family key = record { family = family; bytes = key }

-- a node's key, in its family
abbrev pub own_key : Node → Key
own_key n = n.content.key

-- the version that a node is
abbrev pub version_of : Node → Version
version_of n = record { key = own_key n; value = n.content.value; sequence = n.sequence }

-- its versions, while it is in a tree of keys: its own is the newest, and its list has the older ones
abbrev pub chain_of : Node → Chain
chain_of n = record { newest = version_of n; older = n.links.next }

-- the versions of a list from a node on
abbrev pub versions_at : Node → List Version
versions_at n = version_of n ∷ (n.links.children ++ n.links.next)

-- those of the list that begins with a node, or has none
abbrev pub versions_on : Option Node → List Version
versions_on None = []
versions_on (Some n) = versions_at n

abbrev pub versions_from : Option (Box Node Global) → List Version
versions_from None = []
versions_from (Some n) = versions_at n.value
