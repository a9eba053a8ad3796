-- The text that was parsed is what the source had.
use Rattle.std.proofs.Common.{sym, subst}
use Rattle.program_call.specs.Reading.{HasRead}
use Rattle.program_call.proofs.WholeSchedules.{has_schedule}
use Rattle.program_call.proofs.reading.read_schedule.Goals as goal

pub returns-in-Ok-clause-schedule : goal.returns-in-Ok-clause-schedule
returns-in-Ok-clause-schedule g c =
    let old = g.S.Source.left c.args.source.now in
    let new = g.S.Source.left c.read_text.new.source in
    let has = subst (λ t. HasRead old new t) (sym c.deref.ensures.value) c.in_ok-text.ensures.text in
    has_schedule old new c.deref.result.now c.in-Ok.schedule has c.in-Ok.ensures.schedule c.in-Ok.ensures.clients c.in-Ok.ensures.fits c.in-Ok.ensures.commands
