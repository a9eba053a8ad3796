-- The group in the code's table, or the one that goes there next.
use Rattle.std.specs.Prelude.{ℕ, List}
use Rattle.replay_core.specs.declared.state.State.{State}
use Rattle.replay_core.specs.declared.writer.Writer.{Writer}
use Rattle.replay_core.specs.Leads.{table_start, table_len, table_part}

-- where it begins among the writers that wait
abbrev pub table_start_in : State → ℕ
table_start_in r = table_start r.options.pipelined r.in_second

-- how many writers it has
abbrev pub table_len_in : State → ℕ
table_len_in r = table_len r.options.pipelined r.second.items r.log r.in_hand

abbrev pub table_group_in : State → List Writer
table_group_in r = table_part r.options.pipelined r.in_second r.second.items r.log r.in_hand r.linked.items
