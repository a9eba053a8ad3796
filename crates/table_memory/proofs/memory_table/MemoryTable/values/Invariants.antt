use Rattle.std.proofs.Common.{◌≡◌, map, take}
use Rattle.base_bytes.specs.declared.answers.Place.{Place}
use Rattle.table_rule.specs.Histories.{value_in}
use Rattle.table_tree.specs.Rows.{at_key}
use Rattle.table_memory.specs.Meaning.{opening_of, account_of, IsOurs}
use Rattle.table_memory.proofs.memory_table.MemoryTable.values.Given as goal

abbrev pub invariant-loop-i : goal.invariant-loop-i
invariant-loop-i g l = IsOurs l.self l.seat × (account_of l.seat ≡ account_of l.fn.seat) × (l.values ≡ map (λ (p : Place). value_in (opening_of l.self).base (at_key p.family p.key) (account_of l.fn.seat).seen) (take l.i l.places))
