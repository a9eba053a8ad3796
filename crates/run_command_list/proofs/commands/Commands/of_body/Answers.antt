-- Each command has at least one byte.
use Rattle.std.proofs.Common.{◌≡◌, length, ap, arith}
use Rattle.run_command_list.specs.Contents.{AreCommands}
use Rattle.run_command_list.specs.OneList.{same_commands}
use Rattle.run_command_list.proofs.Additions.{few_commands}
use Rattle.run_command_list.proofs.commands.Commands.of_body.Goals as goal

pub returns-clause-bound : goal.returns-clause-bound
returns-clause-bound c =
    let are : (h : AreCommands c.args.bytes.now) → h.commands ≡ c.requires.commands = λ h. same_commands c.args.bytes.now h c.requires in
    rw are (omega (arith, few_commands c.requires.commands, ap length c.requires.spelled))
