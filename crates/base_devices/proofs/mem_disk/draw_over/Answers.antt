use Rattle.std.proofs.Common.{◌<◌, ◌%◌, length, ap, arith}
use Rattle.base_devices.proofs.Drawn.{drawn_further}
use Rattle.base_devices.proofs.mem_disk.draw_over.Goals as goal

pub loop-byte-preserved : goal.loop-byte-preserved
loop-byte-preserved c =
    let i = c.loop-byte.byte-index in
    let more : i < length c.args.bytes.now = omega arith in
    let lt : i < length c.loop-byte.bytes = omega (arith, more, c.loop-byte.auto.bytes) in
    drawn_further c.loop-byte.bytes _ i (length c.args.bytes.now) c.loop-byte.draws.state c.next.new.self.state (c.next.result % 256) lt more c.next.ensures.state (ap (λ n. n % 256) c.next.ensures.number) c.loop-byte.invariant
