use Rattle.tests_line.specs.Players.{MayWrite}
use Rattle.tests_line.proofs.tests.playing.write_often.Given as goal

abbrev pub invariant-loop-time : goal.invariant-loop-time
invariant-loop-time g l = MayWrite l.list l.initial.player.writer.client l.player
