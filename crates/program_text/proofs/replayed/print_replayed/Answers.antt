-- The parts one after another.
use Rattle.std.proofs.Common.{[]}
use Rattle.program_text.specs.ShownText.{shown_replayed_text}
use Rattle.program_text.proofs.Printed.{at_start, none_printed}
use Rattle.program_text.proofs.ReplayTexts.{replayed_shown}
use Rattle.program_text.proofs.replayed.print_replayed.Goals as goal

pub returns-in_err-printer : goal.returns-in_err-printer
returns-in_err-printer g c = (shown_replayed_text c.args.replayed.now, (λ r shows. replayed_shown c.args.replayed.now r shows), none_printed g.K.Sink c.args.sink.now c.from_residual.result (shown_replayed_text c.args.replayed.now) c.from_residual.ensures.1)

pub returns : goal.returns
returns g c =
    let start = c.args.sink.now in
    let shown = c.args.replayed.now in
    let all = rw (c.deref.ensures.value, c.deref-2.ensures.value) at
    (c.finish.ensures start _ (c.put_line.ensures start _ (c.put_map.ensures start _ (c.put_entries.ensures start _ (c.put_clients.ensures start _ (c.put_counts.ensures start [] (at_start g.K.Sink start c.in_ok-printer.printer c.in_ok-printer.ensures))))))) in
    (shown_replayed_text shown, (λ r shows. replayed_shown shown r shows), all)
