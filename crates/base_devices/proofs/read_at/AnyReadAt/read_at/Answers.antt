use Rattle.std.proofs.Common.{ap}
use Rattle.base_devices.specs.Disk.{BytesAt}
use Rattle.base_devices.specs.OnlyReads.{content_of}
use Rattle.base_devices.proofs.Contents.{to_content}
use Rattle.base_devices.proofs.read_at.AnyReadAt.read_at.Goals as goal

pub returns-clause-bytes : goal.returns-clause-bytes
returns-clause-bytes g c = to_content (g.D.Disk.told c.args.self.now) (λ content. BytesAt content c.args.at c.read.new.buf c.read.result) c.read.ensures.bytes

pub returns-clause-same : goal.returns-clause-same
returns-clause-same g c = ap content_of c.read.ensures.same

pub returns-clause-only : goal.returns-clause-only
returns-clause-only g c = record {
  later = c.read.ensures.cause.later;
  same = c.read.ensures.same;
  adds_none = c.read.ensures.adds_none;
  time = c.read.ensures.time;
}
