use Rattle.table_rule.proofs.Bases.{map_at, base_at}
use Rattle.table_rule.proofs.base_law.maps_as_bases.Goals as goal

pub returns-clause-map : goal.returns-clause-map
returns-clause-map c n pairs sorted = map_at n pairs sorted

pub returns-clause-base : goal.returns-clause-base
returns-clause-base c start n pairs low = base_at start n pairs low
