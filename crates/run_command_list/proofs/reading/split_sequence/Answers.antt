use Rattle.std.proofs.Common.{rules}
use Rattle.run_command_list.specs.Reading.{some_sequence}
use Rattle.run_command_list.proofs.reading.split_sequence.Goals as goal

pub returns-in_err-since : goal.returns-in_err-since
unfolding some_sequence
returns-in_err-since c = search rules

pub returns : goal.returns
unfolding some_sequence
returns c = search rules
