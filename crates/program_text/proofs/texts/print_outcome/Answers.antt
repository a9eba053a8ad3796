-- The parts one after another.
use Rattle.std.proofs.Common.{[], subst}
use Rattle.model_base.specs.Text.{outcome_text}
use Rattle.program_printing.specs.Printing.{Prints}
use Rattle.program_text.proofs.Printed.{at_start, none_printed}
use Rattle.program_text.proofs.Shown.{outcome_shown}
use Rattle.program_text.proofs.texts.print_outcome.Goals as goal

pub returns-in_err-printer : goal.returns-in_err-printer
returns-in_err-printer g c = λ o shows. none_printed g.K.Sink c.args.sink.now c.from_residual.result (outcome_text o) c.from_residual.ensures.1

pub returns : goal.returns
returns g c =
    λ o shows.
    let start = c.args.sink.now in
    let all = rw (c.deref.ensures.value, c.deref-2.ensures.value) at
    (c.finish.ensures start _ (c.put_log.ensures start _ (c.put_map.ensures start _ (c.put_history.ensures start _ (c.put_clients.ensures start [] (at_start g.K.Sink start c.in_ok-printer.printer c.in_ok-printer.ensures)))))) in
    subst (Prints g.K.Sink start c.finish.new.sink c.finish.result) (outcome_shown c.args.outcome.now o shows) all
