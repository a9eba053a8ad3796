-- Operations of which the rows say how they are spelled.
use Rattle.std.specs.Prelude.{[], ◌∷◌, Some, None, codes}
use Rattle.batch_operations.specs.Operations.{Operation}

abbrev pub merge : Operation
merge = record { tag = 0x02; family = None; strings = codes "hits" ∷ codes "1" ∷ [] }

abbrev pub range : Operation
range = record { tag = 0x0e; family = Some 2; strings = codes "a" ∷ codes "c" ∷ [] }

abbrev pub far_family : Operation
far_family = record { tag = 0x04; family = Some 300; strings = [] ∷ [] }

abbrev pub mark : Operation
mark = record { tag = 0x09; family = None; strings = [] }

abbrev pub commit : Operation
commit = record { tag = 0x0b; family = None; strings = codes "xid1" ∷ [] }
