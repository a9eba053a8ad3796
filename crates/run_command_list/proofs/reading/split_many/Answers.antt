use Rattle.std.proofs.Common.{rules}
use Rattle.run_command_list.specs.Reading.{many_keys}
use Rattle.run_command_list.proofs.reading.split_many.Goals as goal

pub returns-in_err-count : goal.returns-in_err-count
unfolding many_keys
returns-in_err-count c = search rules

pub returns-in_err-keys : goal.returns-in_err-keys
unfolding many_keys
returns-in_err-keys c = search rules

pub returns : goal.returns
unfolding many_keys
returns c = search rules
