-- A client that has nothing to do may take a part.
use Rattle.std.proofs.Common.{sym, subst}
use Rattle.table_rule.specs.Steps.{MayTake}
use Rattle.tests_table.proofs.tests.at_once.play.Goals as goal

pub complete-player-requires-clause-free : goal.complete-player-requires-clause-free
complete-player-requires-clause-free g c = subst MayTake (sym c.requires.player.0.1.idle) tt
