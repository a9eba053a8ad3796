-- A line that is written in pieces, one after another.
use Rattle.std.proofs.Common.{ℕ, ◌+◌, ◌<◌, List, ◌++◌, length, take, Option, Result, Ok, Err, sym, subst, arith, length-append}
use Rattle.std.proofs.KnownBytes.{Appends-trans}
use Rattle.std.proofs.Math.Seq.{take-append-add}
use Rattle.std.proofs.lemmas.List.{take-append-le}
use Rattle.std.specs.Prelude.{IsErr}
use Rattle.std.specs.Io.KnownBytes.{Appends}
use Rattle.base_devices.specs.Streams.{WritesAll}

-- a part was taken, but not all
abbrev pub TakesPart : Option (List ℕ) → Option (List ℕ) → List ℕ → Type 0
TakesPart old new piece = (n : ℕ) × (n < length piece) × Appends old new (take n piece)

-- part of the first piece is part of both
pub part_of_both : (old new : Option (List ℕ)) (p q : List ℕ) → TakesPart old new p → TakesPart old new (p ++ q)
part_of_both old new p q part =
    let some = part.1 in
    (part.0, omega (arith, some, length-append p q), subst (Appends old new) (sym (take-append-le part.0 p q (omega (arith, some)))) part.2)

-- after the first piece was taken, part of the second one was
pub part_after : (old mid new : Option (List ℕ)) (p q : List ℕ) → Appends old mid p → TakesPart mid new q → TakesPart old new (p ++ q)
part_after old mid new p q first part =
    let some = part.1 in
    (length p + part.0, omega (arith, some, length-append p q), subst (Appends old new) (sym (take-append-add p q part.0)) (Appends-trans old mid new p (take part.0 q) first part.2))

-- after the first piece was taken, the second one was written
pub all_after : {T E : Type 0} (old mid new : Option (List ℕ)) (p q : List ℕ) (result : Result T E) → Appends old mid p → WritesAll mid new result q → WritesAll old new result (p ++ q)
all_after old mid new p q (Ok t) first second = record { bytes = Appends-trans old mid new p q first second.bytes }
all_after old mid new p q (Err e) first second = record { bytes = part_after old mid new p q first second.bytes }

-- where the second piece was taken in part, the line was too
pub second_fails : {T E : Type 0} (old mid new : Option (List ℕ)) (p q r : List ℕ) (result : Result T E) → IsErr result → Appends old mid p → TakesPart mid new q → WritesAll old new result (p ++ q ++ r)
second_fails old mid new p q r (Ok t) is first part = absurd (cc is)
second_fails old mid new p q r (Err e) is first part = record { bytes = part_of_both old new (p ++ q) r (part_after old mid new p q first part) }
