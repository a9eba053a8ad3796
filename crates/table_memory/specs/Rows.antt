-- What is said of rows.
use Rattle.std.specs.List.Sorted.{IsStrictlySortedBy}
use Rattle.std.specs.Map.{keys_of}
use Rattle.model_base.specs.Map.{Rows, byte_order}

-- each key is below those after it
abbrev pub AreRising : Rows → Type 0
AreRising rows = IsStrictlySortedBy byte_order (keys_of rows)
