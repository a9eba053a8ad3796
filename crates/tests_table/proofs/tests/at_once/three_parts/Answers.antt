-- The first part is client 1's.
use Rattle.std.proofs.Common.{refl, rules}
use Rattle.table_rule.specs.declared.content.MemberVersions.{MemberVersions}
use Rattle.tests_table.proofs.tests.at_once.three_parts.Goals as goal

pub returns-clause-first : goal.returns-clause-first
returns-clause-first g c = let own : MemberVersions = record { member = 1; versions = c.node_of.result } in (own, search rules, refl)
