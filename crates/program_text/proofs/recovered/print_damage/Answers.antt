-- The words, joined by spaces.
use Rattle.std.proofs.Common.{[]}
use Rattle.std.specs.Prelude.{codes, decimal}
use Rattle.program_text.specs.Refusals as texts
use Rattle.program_text.proofs.Loops.{as_text}
use Rattle.program_text.proofs.Printed.{at_start, none_printed}
use Rattle.program_text.proofs.Spaced.{reason_behind}
use Rattle.program_text.proofs.recovered.print_damage.Goals as goal

pub returns-in_err-printer : goal.returns-in_err-printer
returns-in_err-printer g c = none_printed g.K.Sink c.args.sink.now c.from_residual.result (texts.damage c.args.at c.args.why) c.from_residual.ensures.1

pub returns : goal.returns
returns g c =
    let start = c.args.sink.now in
    c.finish.ensures start _ (as_text g.K.Sink start _ _ _ _ (reason_behind [] (codes "damage") (decimal c.args.at) c.args.why)
    (c.put_reason.ensures start _ (c.put-2.ensures start _ (c.put_numbers.ensures start _ (c.put.ensures start [] (at_start g.K.Sink start c.in_ok-printer.printer c.in_ok-printer.ensures))))))
