use Rattle.std.proofs.Common.{◌+◌, ◌≤◌, length, drop, None, subst, sym, arith, length-drop}
use Rattle.model_base.specs.Reading as reading
use Rattle.log_block.specs.Fragments.{Tells}
use Rattle.log_block.proofs.Types.{some_kind}
use Rattle.log_block.proofs.Cases.{plain_by_checksum}
use Rattle.log_block.proofs.Fields.{rest_is}
use Rattle.log_block.proofs.fragments.read_plain.Goals as goal

pub returns : goal.returns
returns c =
    let bytes = drop c.args.at c.args.block.now in
    let rest = rest_is c.args.block.now c.args.at in
    let code = (rw rest at c.is_type.ensures).0 c.if-not-is_type.false in
    let kind = some_kind None (reading.type_field bytes) code.0 code.1 in
    let there : 7 + reading.length_field bytes ≤ length bytes = omega (arith, rw rest at c.part_end.ensures, length-drop c.args.at c.args.block.now) in
    subst (Tells None c.args.block.now c.args.at c.read_checked.result) (sym (plain_by_checksum bytes kind.0 there kind.1)) (c.read_checked.ensures kind.0 kind.1)
