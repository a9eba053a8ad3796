use Rattle.std.proofs.Common.{arith}
use Rattle.run_scripts.specs.declared.language.Language.TheVariants.{Replay}
use Rattle.run_scripts.proofs.ScriptSizes.{fits_batches}
use Rattle.run_scripts.proofs.schedule.parse_schedule.Goals as goal

pub returns-in-Some-clause-fits : goal.returns-in-Some-clause-fits
returns-in-Some-clause-fits c = fits_batches Replay c.in_ok-script.field-0.script c.in_ok-script.ensures.commands (omega (arith, c.in_ok-script.ensures.small, c.if-text-gt-TEXT_LIMIT.false))
