use Rattle.std.proofs.Common.{◌%◌, ◌<◌, length, arith}
use Rattle.run_generator.proofs.Sizes.{key_len}
use Rattle.run_generator.proofs.records.add_record.Goals as goal

pub push-requires : goal.push-requires
push-requires c =
    let len = key_len c.args.client (c.next-number.result % 100) c.requires (omega arith) in
    rw (c.as_slice-key.ensures, c.in_ok-key.ensures) (omega (arith, len.1))

pub push-requires-2 : goal.push-requires-2
push-requires-2 c =
    let len = key_len c.args.client (c.next-number.result % 100) c.requires (omega arith) in
    let key : length c.as_slice-key.result.now < 4294967296 = rw (c.as_slice-key.ensures, c.in_ok-key.ensures) (omega (arith, len.1)) in
    (key, omega (arith, c.as_bytes-value.ensures.len, c.format.ensures.short))
