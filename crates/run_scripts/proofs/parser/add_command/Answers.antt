use Rattle.std.proofs.Common.{refl, arith}
use Rattle.run_command_list.specs.Views.{command_of}
use Rattle.run_scripts.proofs.ScriptReading.{with_command-set}
use Rattle.run_scripts.proofs.parser.add_command.Goals as goal

pub returns-clause-script : goal.returns-clause-script
returns-clause-script c =
    let clients = c.args.script.now.clients in
    with_command-set clients.items _ c.push.new.self c.in-Some.commands.now (command_of c.args.command) (omega (arith, clients.ok.0)) (c.in-Some.ensures.variant.0 refl)
    (rw (c.in_ok-push.ensures.ok, ← c.in-Some.ensures.value) refl)
