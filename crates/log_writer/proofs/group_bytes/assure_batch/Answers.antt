use Rattle.std.proofs.Common.{subst}
use Rattle.std.proofs.lemmas.List.{take_all}
use Rattle.std.specs.List.{AllByRecursion}
use Rattle.log_writer.proofs.Members.{IsReadableMember, all_take_more, group_is_batch}
use Rattle.log_writer.proofs.group_bytes.assure_batch.Goals as goal

pub loop-member-preserved : goal.loop-member-preserved
loop-member-preserved c =
    all_take_more IsReadableMember c.args.members.now c.loop-member.member-index c.member-item.result c.loop-member.invariant c.loop-member-test.true c.member-item.is c.records.ensures.readable

pub returns : goal.returns
returns c =
    let members = c.args.members.now in
    group_is_batch c.args.first members c.requires.counts c.requires.run
    (subst (λ l. AllByRecursion IsReadableMember l) (take_all c.loop-member.member-index members c.loop-member-test.false) c.loop-member.invariant)
