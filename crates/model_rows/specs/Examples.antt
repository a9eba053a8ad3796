-- The records, options and sizes that the examples use.
use Rattle.std.specs.Prelude.{ℕ, true, false, codes, List, Some, None, Result, Err}
use Rattle.model_base.specs.declared.script.ScriptFault.{ScriptFault}
use Rattle.model_base.specs.declared.write.WriteOptions.{WriteOptions}
use Rattle.model_base.specs.declared.group.Item.{Item}
use Rattle.model_base.specs.declared.key.Key.{Key}
use Rattle.model_base.specs.Batch.{Record, value, deletion, single_deletion}
use Rattle.model_base.specs.Map.{key_in}
use Rattle.model_base.specs.Script.{Script, Fault}

-- `put a 1`, `put a 2` and `put b 2`
abbrev pub put_a1 : Record
put_a1 = value None (codes "a") (codes "1")

abbrev pub put_a2 : Record
put_a2 = value None (codes "a") (codes "2")

abbrev pub put_b2 : Record
put_b2 = value None (codes "b") (codes "2")

-- `fput 1 a 2`, `fdel 1 a` and `fsdel 1 a`
abbrev pub put_1a2 : Record
put_1a2 = value (Some 1) (codes "a") (codes "2")

abbrev pub del_1a : Record
del_1a = deletion (Some 1) (codes "a")

abbrev pub sdel_1a : Record
sdel_1a = single_deletion (Some 1) (codes "a")

-- a key of the default family
abbrev pub default_key : List ℕ → Key
default_key key = key_in None key

-- the keys `a` and `b` of the default family, and `a` of family 1
abbrev pub key_a : Key
key_a = default_key (codes "a")

abbrev pub key_b : Key
key_b = default_key (codes "b")

abbrev pub key_1a : Key
key_1a = key_in (Some 1) (codes "a")

-- a commit without flags
abbrev pub plain : WriteOptions
plain = record { sync = false; no_log = false; no_slowdown = false }

-- a commit that may not wait where writes are held up
abbrev pub noslow : WriteOptions
noslow = record plain { no_slowdown = true }

-- a write of n bytes with these options, and one without flags
abbrev pub sized_with : ℕ → WriteOptions → Item
sized_with n options = record { size = n; options = options; alone = false }

abbrev pub sized : ℕ → Item
sized n = sized_with n plain

-- a write of n bytes that goes alone
abbrev pub lone : ℕ → Item
lone n = record { size = n; options = plain; alone = true }

-- a script's first fault is in line n
abbrev pub fault_at : ℕ → ScriptFault → Result Script Fault
fault_at n kind = Err (record { line = n; kind = kind })
