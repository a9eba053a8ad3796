use Rattle.std.proofs.Common.{rules}
use Rattle.run_command_list.specs.Reading.{one_key}
use Rattle.run_command_list.proofs.reading.split_single_delete_in.Goals as goal

pub returns-in_err-family : goal.returns-in_err-family
unfolding one_key
returns-in_err-family c = search rules

pub returns : goal.returns
unfolding one_key
returns c = search rules
