use Rattle.std.proofs.Common.{rules}
use Rattle.run_command_list.specs.Reading.{key_and_word}
use Rattle.run_command_list.proofs.reading.split_put_in.Goals as goal

pub returns-in_err-family : goal.returns-in_err-family
unfolding key_and_word
returns-in_err-family c = search rules

pub returns-in_err-value : goal.returns-in_err-value
unfolding key_and_word
returns-in_err-value c = search rules

pub returns : goal.returns
unfolding key_and_word
returns c = search rules
