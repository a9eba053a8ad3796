use Rattle.std.proofs.Common.{◌≡◌, length}
use Rattle.base_devices.proofs.Contents.{to_content}
use Rattle.log_recovery.proofs.many.len_of.Goals as goal

pub returns-in-Ok-clause-len : goal.returns-in-Ok-clause-len
returns-in-Ok-clause-len g c = to_content (g.D.Disk.told c.args.disk.now) (λ file. c.in-Ok.len ≡ length file) c.in-Ok.ensures.len
