use Rattle.std.proofs.Common.{◌≡◌, ◌-◌, true, false, take, drop, cond, sym, ◌∙◌, ap, subst, arith, length-drop}
use Rattle.model_base.specs.declared.log.Damage.TheVariants.{Zeros}
use Rattle.model_base.specs.Log.{header_len}
use Rattle.model_base.specs.Reading.{damage, are_zeros}
use Rattle.log_block.specs.Fragments.{Tells, decided}
use Rattle.log_block.proofs.Fields.{rest_is}
use Rattle.log_block.proofs.Cases.{seen_zeros, seen_trailer, seen_none, seen_short, seen_there}
use Rattle.log_block.proofs.fragments.read_fragment.Goals as goal

pub returns-then-are_zeros : goal.returns-then-are_zeros
returns-then-are_zeros c =
    let rest = rest_is c.args.block.now c.args.at in
    seen_zeros c.args.number (32768 - c.args.at) (drop c.args.at c.args.block.now) (omega arith) (cc (rest, c.are_zeros.ensures, c.if-are_zeros.true))

pub returns-else-are_zeros : goal.returns-else-are_zeros
returns-else-are_zeros c =
    let rest = rest_is c.args.block.now c.args.at in
    seen_trailer c.args.number (32768 - c.args.at) (drop c.args.at c.args.block.now) (omega arith) (cc (rest, c.are_zeros.ensures, c.if-are_zeros.false))

pub returns-then-is_empty : goal.returns-then-is_empty
returns-then-is_empty c =
    let rest = rest_is c.args.block.now c.args.at in
    seen_none c.args.number (32768 - c.args.at) (drop c.args.at c.args.block.now) (omega arith) (grind (arith, rest, c.is_empty.ensures, c.if-is_empty.true))

pub returns-then-rest-header : goal.returns-then-rest-header
returns-then-rest-header c =
    let rest = rest_is c.args.block.now c.args.at in
    seen_short c.args.number (32768 - c.args.at) (drop c.args.at c.args.block.now) (omega arith) (grind (arith, rest, c.is_empty.ensures, c.if-is_empty.false)) (omega (arith, length-drop c.args.at c.args.block.now))

pub returns-then-are_zeros-2 : goal.returns-then-are_zeros-2
returns-then-are_zeros-2 c =
    let rest = rest_is c.args.block.now c.args.at in
    let zeros : are_zeros (take (header_len c.args.number) (drop c.args.at c.args.block.now)) ≡ true = cc (rest, c.header_len-header.ensures, c.are_zeros-else-rest-header.ensures, c.if-are_zeros-2.true) in
    seen_there c.args.number (32768 - c.args.at) (drop c.args.at c.args.block.now) (omega arith) (grind (arith, rest, c.is_empty.ensures, c.if-is_empty.false)) (omega (arith, length-drop c.args.at c.args.block.now))
    ∙ ap (λ b. cond b (damage Zeros) (decided c.args.number (drop c.args.at c.args.block.now))) zeros

pub returns-else-are_zeros-2 : goal.returns-else-are_zeros-2
returns-else-are_zeros-2 c =
    let rest = rest_is c.args.block.now c.args.at in
    let others : are_zeros (take (header_len c.args.number) (drop c.args.at c.args.block.now)) ≡ false = cc (rest, c.header_len-header.ensures, c.are_zeros-else-rest-header.ensures, c.if-are_zeros-2.false) in
    subst (Tells c.args.number c.args.block.now c.args.at c.read_part.result)
    (sym (seen_there c.args.number (32768 - c.args.at) (drop c.args.at c.args.block.now) (omega arith) (grind (arith, rest, c.is_empty.ensures, c.if-is_empty.false)) (omega (arith, length-drop c.args.at c.args.block.now))
    ∙ ap (λ b. cond b (damage Zeros) (decided c.args.number (drop c.args.at c.args.block.now))) others))
    c.read_part.ensures
