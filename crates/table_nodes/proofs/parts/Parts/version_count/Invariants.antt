-- The versions that are counted, and those of the parts that are left, are all of them.
use Rattle.std.proofs.Common.{◌≡◌, ◌+◌, length, drop}
use Rattle.table_rule.specs.Histories.{versions_in}
use Rattle.table_nodes.specs.Parts.{group_of}
use Rattle.table_nodes.proofs.parts.Parts.version_count.Given as goal

abbrev pub invariant-loop-part : goal.invariant-loop-part
invariant-loop-part l = l.count + length (versions_in (group_of (drop l.part-index l.part-items))) ≡ length (versions_in (group_of l.fn.self.parts))
