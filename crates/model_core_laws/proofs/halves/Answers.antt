-- Which half each event leaves alone.
use Rattle.model_core_laws.proofs.halves.Goals as goal
use Rattle.model_core_laws.proofs.EachHalf as by

pub returns : goal.returns
returns c = record {
  list_events_leave_table = by.list_events_leave_table;
  table_events_leave_list = by.table_events_leave_list;
  table_step = by.table_step;
  list_step = by.list_step;
}
