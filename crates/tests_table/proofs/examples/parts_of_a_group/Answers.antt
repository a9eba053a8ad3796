-- Both sides compute to the same parts.
use Rattle.std.proofs.Common.{refl}
use Rattle.tests_table.proofs.examples.parts_of_a_group.Goals as goal

pub returns : goal.returns
returns c = refl
