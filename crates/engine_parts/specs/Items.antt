-- What the list of writers sees of requests and replies.
use Rattle.std.specs.Prelude.{ℕ, ◌+◌, ◌-◌, is_some, List, Option, Result, Ok, Err}
use Rattle.model_base.specs.declared.group.Item.{Item}
use Rattle.model_base.specs.declared.write.WriteOptions.{WriteOptions}
use Rattle.model_base.specs.Batch.{Record, size_of_batch}
use Rattle.engine_calls.specs.declared.answers.Receipt.{Receipt}
use Rattle.engine_calls.specs.declared.answers.Refused.{Refused}

-- what grouping sees of a batch, or of a read of the log, which has a group of its own
abbrev pub item_with : Option ℕ → List Record → WriteOptions → Item
item_with since records options = record { size = size_of_batch records; options = options; alone = is_some since }

-- the first sequence and the count of a run; the count is 0 where there is none
abbrev pub run_in : Result Receipt Refused → ℕ × ℕ
run_in (Ok receipt) = (receipt.run.first, receipt.run.last + 1 - receipt.run.first)
run_in (Err refused) = (0, 0)
