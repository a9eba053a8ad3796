-- What contracts see of the parts of a record's bytes.
use Rattle.std.specs.Prelude.{ℕ, List, [], ◌∷◌}
use Rattle.batch_operations.specs.Operations.{Operation}
use Rattle.batch_operations.specs.declared.view.OperationView.{OperationView}
use Rattle.batch_operations.specs.declared.view.Strings.{Strings}
use Rattle.batch_operations.specs.declared.view.Strings.TheVariants as view

abbrev pub strings_of : Strings → List (List ℕ)
strings_of view.None = []
strings_of (view.One only) = only.now ∷ []
strings_of (view.Two first second) = first.now ∷ second.now ∷ []

-- the operation that a view shows
abbrev pub operation_of : OperationView → Operation
operation_of v = record { tag = v.tag; family = v.family; strings = strings_of v.strings }
