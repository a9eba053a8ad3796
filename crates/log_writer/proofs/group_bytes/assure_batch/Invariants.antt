use Rattle.std.proofs.Common.{take}
use Rattle.std.specs.List.{AllByRecursion}
use Rattle.log_writer.proofs.Members.{IsReadableMember}
use Rattle.log_writer.proofs.group_bytes.assure_batch.Given as goal

-- the additions of the members so far can be read back
abbrev pub invariant-loop-member : goal.invariant-loop-member
invariant-loop-member l = AllByRecursion IsReadableMember (take l.member-index l.members)
