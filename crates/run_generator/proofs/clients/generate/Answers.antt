use Rattle.std.proofs.Common.{arith}
use Rattle.run_generator.proofs.Drawn.{clients_more}
use Rattle.run_generator.proofs.Said.{generated_said}
use Rattle.run_generator.proofs.Sizes.{generated_fits}
use Rattle.run_generator.proofs.Values.{generated_small}
use Rattle.run_generator.proofs.clients.generate.Goals as goal

pub loop-before-preserved : goal.loop-before-preserved
loop-before-preserved c =
    rw c.in_ok-push.ensures.items (clients_more c.args.seed c.args.batches c.loop-before.before c.loop-before.script.clients.items c.in_ok-commands.commands c.in_ok-commands.ensures c.loop-before.invariant)

pub returns-clause-fits : goal.returns-clause-fits
returns-clause-fits c =
    let fits = generated_fits c.args.seed c.loop-before.before c.args.batches (omega arith) (omega arith) in
    rw c.loop-before.invariant fits

pub returns-clause-commands : goal.returns-clause-commands
returns-clause-commands c =
    generated_said c.args.seed c.loop-before.before c.args.batches c.loop-before.script.clients.items (omega arith) c.loop-before.invariant

pub returns-clause-values : goal.returns-clause-values
returns-clause-values c =
    let small = generated_small c.args.seed c.loop-before.before c.args.batches in
    rw c.loop-before.invariant small
