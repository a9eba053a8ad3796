use denote.Param.Send.{sendable}
use Rattle.std.proofs.Crossing.{crosses}
use Rattle.wolzenn_c.proofs.handle.WzHandle.TheSendSync as handle_crosses
use Rattle.wolzenn_c.proofs.handle.handle_crosses.Goals as goal

pub crossing-requires : goal.crossing-requires
crossing-requires c = search (sendable, crosses, handle_crosses.the_send) depth 12

pub returns : goal.returns
returns c = c.crossing.ensures
