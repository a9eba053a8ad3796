-- The words, joined by spaces.
use Rattle.std.proofs.Common.{[]}
use Rattle.std.specs.Prelude.{codes, decimal}
use Rattle.model_base.specs.Script as model
use Rattle.program_text.specs.Refusals as texts
use Rattle.program_text.proofs.Loops.{as_text}
use Rattle.program_text.proofs.Printed.{at_start, none_printed}
use Rattle.program_text.proofs.Spaced.{three_words}
use Rattle.program_text.proofs.texts.print_script_fault.Goals as goal

pub returns-in_err-printer : goal.returns-in_err-printer
returns-in_err-printer g c = none_printed g.K.Sink c.args.sink.now c.from_residual.result (texts.script_fault (record { line = c.args.line; kind = c.args.kind })) c.from_residual.ensures.1

pub returns : goal.returns
returns g c =
    let start = c.args.sink.now in
    let all = rw c.fault_word.ensures at (c.put-4.ensures start _ (c.put-3.ensures start _ (c.put-2.ensures start _ (c.put_numbers.ensures start _ (c.put.ensures start [] (at_start g.K.Sink start c.in_ok-printer.printer c.in_ok-printer.ensures)))))) in
    c.finish.ensures start _ (as_text g.K.Sink start _ _ _ _ (three_words [] (codes "script") (decimal c.args.line) (model.fault_word c.args.kind)) all)
