-- The text that was parsed is what the source had.
use Rattle.std.proofs.Common.{sym, subst}
use Rattle.program_call.specs.Reading.{HasRead}
use Rattle.program_call.proofs.WholeTexts.{has_script}
use Rattle.program_call.proofs.reading.read_script.Goals as goal

pub returns-in-Ok-clause-script : goal.returns-in-Ok-clause-script
returns-in-Ok-clause-script g c =
    let old = g.S.Source.left c.args.source.now in
    let new = g.S.Source.left c.read_text.new.source in
    let has = subst (λ t. HasRead old new t) (sym c.deref.ensures.value) c.in_ok-text.ensures.text in
    has_script old new c.deref.result.now c.in-Ok.script has c.in-Ok.ensures.script c.in-Ok.ensures.clients c.in-Ok.ensures.fits
