-- One line.
use Rattle.std.proofs.Common.{[]}
use Rattle.program_text.specs.Refusals as texts
use Rattle.program_text.proofs.Printed.{at_start, none_printed}
use Rattle.program_text.proofs.recovered.print_logs_damage.Goals as goal

pub returns-in_err-printer : goal.returns-in_err-printer
returns-in_err-printer g c = none_printed g.K.Sink c.args.sink.now c.from_residual.result (texts.logs_damage c.args.log c.args.at c.args.why) c.from_residual.ensures.1

pub returns : goal.returns
returns g c =
    let start = c.args.sink.now in
    c.finish.ensures start _ (c.put_numbered_end.ensures start [] (at_start g.K.Sink start c.in_ok-printer.printer c.in_ok-printer.ensures))
