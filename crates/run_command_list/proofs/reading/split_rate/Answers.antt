use Rattle.std.proofs.Common.{rules}
use Rattle.run_command_list.specs.Reading.{some_rate}
use Rattle.run_command_list.proofs.reading.split_rate.Goals as goal

pub returns-in_err-rate : goal.returns-in_err-rate
unfolding some_rate
returns-in_err-rate c = search rules

pub returns : goal.returns
unfolding some_rate
returns c = search rules
