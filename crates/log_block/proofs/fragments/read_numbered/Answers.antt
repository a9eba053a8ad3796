use Rattle.std.proofs.Common.{◌+◌, ◌≤◌, length, drop, Some, subst, sym, ◌∙◌, arith, length-drop}
use Rattle.model_base.specs.Reading as reading
use Rattle.log_block.specs.Fragments.{Tells}
use Rattle.log_block.proofs.Types.{some_kind}
use Rattle.log_block.proofs.Cases.{numbered_by_checksum}
use Rattle.log_block.proofs.Fields.{rest_is}
use Rattle.log_block.proofs.fragments.read_numbered.Goals as goal

pub returns : goal.returns
returns c =
    let bytes = drop c.args.at c.args.block.now in
    let rest = rest_is c.args.block.now c.args.at in
    let code = (rw rest at c.is_type.ensures).0 c.if-not-is_type.false in
    let kind = some_kind (Some c.args.number) (reading.type_field bytes) code.0 code.1 in
    let there : 11 + reading.length_field bytes ≤ length bytes = omega (arith, rw rest at c.part_end.ensures, length-drop c.args.at c.args.block.now) in
    let own = sym (rw (rest, c.as_slice.ensures, c.to_le_bytes.ensures) at c.ne.ensures) ∙ c.if-ne.false in
    subst (Tells (Some c.args.number) c.args.block.now c.args.at c.read_checked.result) (sym (numbered_by_checksum c.args.number bytes kind.0 own there kind.1)) (c.read_checked.ensures kind.0 kind.1)
