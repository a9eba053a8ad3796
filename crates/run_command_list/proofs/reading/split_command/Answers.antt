use Rattle.std.proofs.Common.{rules}
use Rattle.run_command_list.specs.Reading.{read_command}
use Rattle.run_command_list.proofs.reading.split_command.Goals as goal

pub returns-in_err-tag : goal.returns-in_err-tag
unfolding read_command
returns-in_err-tag c = search rules

pub returns : goal.returns
unfolding read_command
returns c = search rules
