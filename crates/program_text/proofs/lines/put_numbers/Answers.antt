-- A space and a number more.
use Rattle.std.proofs.Common.{◌∷◌, [], decimal}
use Rattle.std.proofs.lemmas.List.{take_more}
use Rattle.program_printing.proofs.Putting.{then_put}
use Rattle.program_text.proofs.Loops.{all_put, one_more}
use Rattle.program_text.proofs.lines.put_numbers.Goals as goal

pub loop-number-preserved : goal.loop-number-preserved
loop-number-preserved g c =
    let numbers = c.args.numbers.now in
    let i = c.loop-number.number-index in
    one_more g.K.Sink (λ n. 32 ∷ decimal n) _ _ _ _ _ _ numbers i _ (take_more numbers i _ c.loop-number-test.true) c.loop-number.invariant
    (then_put g.K.Sink _ _ _ _ _ _ (32 ∷ []) (decimal _) c.put.ensures c.put_number.ensures)

pub returns : goal.returns
returns g c = all_put g.K.Sink (λ n. 32 ∷ decimal n) _ _ _ _ c.args.numbers.now c.loop-number.number-index c.loop-number-test.false c.loop-number.invariant
