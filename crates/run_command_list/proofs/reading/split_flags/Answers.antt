use Rattle.std.proofs.Common.{rules}
use Rattle.run_command_list.specs.Reading.{some_flags}
use Rattle.run_command_list.proofs.reading.split_flags.Goals as goal

pub returns-in_err-flags : goal.returns-in_err-flags
unfolding some_flags
returns-in_err-flags c = search rules

pub returns : goal.returns
unfolding some_flags
returns c = search rules
