use Rattle.std.proofs.Common.{◌∙◌}
use Rattle.tests_line.proofs.tests.play_row.Goals as goal

pub returns : goal.returns
returns g c = (c.finish_all.ensures.0, c.finish_all.ensures.1 ∙ c.ask_all.ensures.1)
