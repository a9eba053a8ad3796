use Rattle.std.proofs.Common.{refl, ◌∙◌, arith}
use Rattle.log_scan.proofs.Resumed.{compressed_by}
use Rattle.log_scan.proofs.resuming.is_compressed.Goals as goal

pub returns : goal.returns
returns c =
    compressed_by c.args.rest.now _ c.as_slice.result.now c.args.place c.len_in.result c.eq.result (omega (arith, c.if-place-gt0.false)) (omega (arith, c.if-rest-lt7.false)) c.len_in.ensures
    refl (c.as_slice.ensures ∙ c.header.ensures) c.eq.ensures
