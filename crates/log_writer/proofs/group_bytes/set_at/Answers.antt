use Rattle.std.proofs.Common.{◌+◌, ◌-◌, length, ap, arith}
use Rattle.std.proofs.lemmas.Slice.{drop-put_mid}
use Rattle.log_writer.proofs.group_bytes.set_at.Goals as goal

pub returns-clause-behind : goal.returns-clause-behind
returns-clause-behind c =
    let at = c.args.at in
    let end = at + length c.args.more.now in
    drop-put_mid at (end - at) c.args.bytes.now c.copy_from_slice.new.self end (omega arith) (omega (arith, c.requires)) (omega (arith, ap length c.copy_from_slice.ensures.after))
