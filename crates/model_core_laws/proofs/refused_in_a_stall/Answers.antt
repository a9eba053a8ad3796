-- What a stall does to those that are refused, clause by clause.
use Rattle.model_core_laws.proofs.refused_in_a_stall.Goals as goal
use Rattle.model_core_laws.proofs.Stalls as by

pub returns : goal.returns
returns c = record {
  nobody_comes = by.nobody_comes;
  one_leaves = by.one_leaves;
  no_entry_by_link = by.no_more_by_link;
  no_entry_by_leave = by.no_more_by_leave;
}
