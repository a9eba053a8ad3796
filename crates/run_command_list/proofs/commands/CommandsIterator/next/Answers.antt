use Rattle.std.proofs.Common.{◌≡◌, ◌∷◌, sym, ◌∙◌, arith, rules}
use Rattle.run_command_list.specs.Contents.{AreCommands}
use Rattle.run_command_list.specs.OneList.{same_commands}
use Rattle.run_command_list.specs.Views.{command_of}
use Rattle.run_command_list.proofs.Left.{no_command, behind_command}
use Rattle.run_command_list.proofs.commands.CommandsIterator.next.Goals as goal

pub returns-in_err-command-clause-steps : goal.returns-in_err-command-clause-steps
returns-in_err-command-clause-steps c =
    let old = c.self.inside in
    let none = sym c.self.view_is ∙ no_command old.bytes.now old.are (search rules) in
    rw c.from_residual.ensures (none, none)

pub invariant_of-self-inside : goal.invariant_of-self-inside
invariant_of-self-inside c =
    let old = c.self.inside in
    ((behind_command old.bytes.now old.are (command_of c.in_ok-command.command) c.in_ok-command.rest.now c.in_ok-command.ensures).0, tt)

pub returns-clause-steps : goal.returns-clause-steps
returns-clause-steps c =
    let old = c.self.inside in
    let behind = behind_command old.bytes.now old.are (command_of c.in_ok-command.command) c.in_ok-command.rest.now c.in_ok-command.ensures in
    let are : (h : AreCommands c.in_ok-command.rest.now) → h.commands ≡ behind.0.commands = λ h. same_commands c.in_ok-command.rest.now h behind.0 in
    rw are (sym c.self.view_is ∙ behind.1)

pub returns-clause-goes : goal.returns-clause-goes
returns-clause-goes c =
    let old = c.self.inside in
    let behind = behind_command old.bytes.now old.are (command_of c.in_ok-command.command) c.in_ok-command.rest.now c.in_ok-command.ensures in
    let are : (h : AreCommands c.in_ok-command.rest.now) → h.commands ≡ behind.0.commands = λ h. same_commands c.in_ok-command.rest.now h behind.0 in
    let first : c.args.self.now ≡ command_of c.in_ok-command.command ∷ behind.0.commands = sym c.self.view_is ∙ behind.1 in
    rw (are, first) (record { on = λ _. (tt, tt, omega arith); keeps = tt; rests = λ _. tt })
