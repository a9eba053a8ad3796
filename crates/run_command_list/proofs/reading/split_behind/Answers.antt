use Rattle.std.proofs.Common.{rules}
use Rattle.run_command_list.specs.Reading.{one_word, two_words}
use Rattle.run_command_list.proofs.reading.split_behind.Goals as goal

pub returns-in_err-key-in-1 : goal.returns-in_err-key-in-1
unfolding two_words
returns-in_err-key-in-1 c = search rules

pub returns-in_err-value-in-1 : goal.returns-in_err-value-in-1
unfolding two_words
returns-in_err-value-in-1 c = search rules

pub returns-in_ok-value-in-1 : goal.returns-in_ok-value-in-1
unfolding two_words
returns-in_ok-value-in-1 c = search rules

pub returns-in_err-key-in-2 : goal.returns-in_err-key-in-2
unfolding one_word
returns-in_err-key-in-2 c = search rules

pub returns-in_ok-key-in-2 : goal.returns-in_ok-key-in-2
unfolding one_word
returns-in_ok-key-in-2 c = search rules

pub returns-in_err-key-in-3 : goal.returns-in_err-key-in-3
unfolding one_word
returns-in_err-key-in-3 c = search rules

pub returns-in_ok-key-in-3 : goal.returns-in_ok-key-in-3
unfolding one_word
returns-in_ok-key-in-3 c = search rules

pub returns-in_err-text-in-4 : goal.returns-in_err-text-in-4
unfolding one_word
returns-in_err-text-in-4 c = search rules

pub returns-in_ok-text-in-4 : goal.returns-in_ok-text-in-4
unfolding one_word
returns-in_ok-text-in-4 c = search rules
