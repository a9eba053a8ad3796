use Rattle.std.proofs.Common.{◌≡◌, ◌∙◌, ap}
use Rattle.model_base.specs.declared.log.Damage.TheVariants.{ShortHeader, Zeros, BadLength}
use Rattle.model_base.specs.declared.log.EndReason.TheVariants.{Broken}
use Rattle.log_recovery.proofs.Telling.{if_all}
use Rattle.log_recovery.proofs.CutOff.{by_header, by_record, by_part, by_zeros}
use Rattle.log_recovery.proofs.modes.is_cut_off.Goals as goal

pub returns-in-Unfinished-clause-decided : goal.returns-in-Unfinished-clause-decided
returns-in-Unfinished-clause-decided g c =
    if_all (g.R.ReadAt.held c.args.disk.now) _ (λ d. by_record c.args.number d c.args.end.at c.args.end.why c.in-Unfinished.is)

pub returns-in-Broken-ShortHeader-clause-decided : goal.returns-in-Broken-ShortHeader-clause-decided
returns-in-Broken-ShortHeader-clause-decided g c =
    let why = c.in-Broken-ShortHeader in
    let damage : why.field-0 ≡ ShortHeader = rw why.is at why.field-0-is in
    if_all (g.R.ReadAt.held c.args.disk.now) _ (λ d. by_header c.args.number d c.args.end.at c.args.end.why (why.is ∙ ap Broken damage))

pub returns-in-Broken-BadLength-clause-decided : goal.returns-in-Broken-BadLength-clause-decided
returns-in-Broken-BadLength-clause-decided g c =
    let why = c.in-Broken-BadLength in
    let damage : why.field-0 ≡ BadLength = rw why.is at why.field-0-is in
    by_part (g.R.ReadAt.held c.args.disk.now) c.passes_file.result c.args.number c.args.end.at c.args.end.why (why.is ∙ ap Broken damage) c.passes_file.ensures.decided

pub returns-in-Broken-Zeros-clause-decided : goal.returns-in-Broken-Zeros-clause-decided
returns-in-Broken-Zeros-clause-decided g c =
    let why = c.in-Broken-Zeros in
    let damage : why.field-0 ≡ Zeros = rw why.is at why.field-0-is in
    by_zeros (g.R.ReadAt.held c.args.disk.now) c.are_zeros_from.result c.args.number c.args.end.at c.args.end.why (why.is ∙ ap Broken damage) c.are_zeros_from.ensures.decided
