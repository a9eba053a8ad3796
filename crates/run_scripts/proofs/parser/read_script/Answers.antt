use Rattle.std.proofs.Common.{arith}
use Rattle.run_scripts.proofs.ScriptSizes.{fits_batches}
use Rattle.run_scripts.proofs.parser.read_script.Goals as goal

pub returns-clause-fits : goal.returns-clause-fits
returns-clause-fits c = fits_batches c.args.language c.in_ok-script.script c.in_ok-script.ensures.commands (omega (arith, c.in_ok-script.ensures.small, c.if-text-gt-TEXT_LIMIT.false))
