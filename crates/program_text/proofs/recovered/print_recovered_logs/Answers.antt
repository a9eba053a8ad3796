-- The parts one after another.
use Rattle.std.proofs.Common.{[]}
use Rattle.program_text.specs.ShownText.{shown_recovered_logs_text}
use Rattle.program_text.proofs.Printed.{at_start, none_printed}
use Rattle.program_text.proofs.ShownRecovered.{recovered_logs_shown}
use Rattle.program_text.proofs.recovered.print_recovered_logs.Goals as goal

pub returns-in_err-printer : goal.returns-in_err-printer
returns-in_err-printer g c = (shown_recovered_logs_text c.args.recovered.now, (λ r shows. recovered_logs_shown c.args.recovered.now r shows), none_printed g.K.Sink c.args.sink.now c.from_residual.result (shown_recovered_logs_text c.args.recovered.now) c.from_residual.ensures.1)

pub returns : goal.returns
returns g c =
    let start = c.args.sink.now in
    let shown = c.args.recovered.now in
    let all = rw c.deref.ensures.value at
    (c.finish.ensures start _ (c.put_numbered_end.ensures start _ (c.put_recovered_map.ensures start _ (c.put_groups.ensures start [] (at_start g.K.Sink start c.in_ok-printer.printer c.in_ok-printer.ensures))))) in
    (shown_recovered_logs_text shown, (λ r shows. recovered_logs_shown shown r shows), all)
