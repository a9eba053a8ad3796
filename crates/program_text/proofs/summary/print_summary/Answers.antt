-- The lines one after another.
use Rattle.std.proofs.Common.{◌≡◌, [], ◌++◌, subst, rules}
use Rattle.std.specs.Prelude.{codes}
use Rattle.model_base.specs.Generator.{number_line, summary_text}
use Rattle.program_printing.specs.Printing.{Prints}
use Rattle.program_text.proofs.Loops.{as_text}
use Rattle.program_text.proofs.Printed.{at_start, none_printed}
use Rattle.program_text.proofs.Summaries.{shown_summary, summary_shown}
use Rattle.program_text.proofs.summary.print_summary.Goals as goal

pub returns-in_err-printer : goal.returns-in_err-printer
returns-in_err-printer g c = λ o start legal shows total. none_printed g.K.Sink c.args.sink.now c.from_residual.result (summary_text o) c.from_residual.ensures.1

pub returns : goal.returns
returns g c = λ o start legal shows total.
    let from = c.args.sink.now in
    let same : ((((number_line (codes "clients") c.len.result ++ number_line (codes "batches") c.len-2.result) ++ number_line (codes "records") c.record_count.result)
    ++ number_line (codes "last") c.from.result) ++ number_line (codes "keys") c.len-3.result) ++ number_line (codes "sum") c.args.sum ≡ shown_summary c.args.outcome.now c.args.sum = search rules in
    let all = as_text g.K.Sink from _ _ _ _ same
    (c.put_number_line-6.ensures from _ (c.put_number_line-5.ensures from _ (c.put_number_line-4.ensures from _ (c.put_number_line-3.ensures from _ (c.put_number_line-2.ensures from _
    (c.put_number_line.ensures from [] (at_start g.K.Sink from c.in_ok-printer.printer c.in_ok-printer.ensures))))))) in
    subst (Prints g.K.Sink from c.finish.new.sink c.finish.result) (summary_shown c.args.outcome.now o start c.args.sum legal shows total) (c.finish.ensures from _ all)
