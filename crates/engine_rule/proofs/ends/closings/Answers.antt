use Rattle.engine_rule.proofs.Closing.{closing}
use Rattle.std.proofs.Common.{List, subst}
use Rattle.model_base.specs.LogContents.{GroupCall}
use Rattle.engine_rule.specs.LogSights.{ShowTheLog}
use Rattle.engine_rule.proofs.LogSights.{worked_are}
use Rattle.engine_rule.proofs.ends.closings.Goals as goal

pub returns : goal.returns
returns c = record {
  closing = λ settings kept ended s sights history accounts is show are legal heard calls_of within read. closing settings s.commits s.last s.fault s.published s.calls s.asked history is sights
      (subst (λ (worked : List GroupCall). ShowTheLog worked sights) (worked_are settings.group_bytes is.in_groups.groups s.commits s.fault s.last s.calls is.written) show) accounts are.all s.reads are.each kept legal heard calls_of within read.right ended read.rose read.of_clients read.own read.counted;
}
