use Rattle.std.proofs.Common.{◌≡◌}
use Rattle.tests_engine.specs.Callers.{number_of, MayCall}
use Rattle.tests_engine.proofs.tests.playing.play.Given as goal

abbrev pub invariant-loop-i : goal.invariant-loop-i
invariant-loop-i g l = MayCall l.engine l.client × (number_of l.client ≡ number_of l.initial.client)
