use Rattle.table_rule.specs.Histories.{versions_at}
use Rattle.table_memory.proofs.memory_table.MemoryTable.open_with.Given as goal

-- what the table is opened over
abbrev pub ghosts-base_of : goal.ghosts-base_of
ghosts-base_of a = record { versions = versions_at a._sequence a._map.now }
