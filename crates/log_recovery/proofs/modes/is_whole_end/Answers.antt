use Rattle.std.proofs.Common.{◌≡◌, refl, sym, ◌∙◌, ap, subst}
use Rattle.model_base.specs.declared.log.Damage.TheVariants.{OldLog}
use Rattle.model_base.specs.declared.log.EndReason.TheVariants.{Broken}
use Rattle.log_recovery.specs.Modes.{IsWholeEnd, clean, old_log}
use Rattle.log_recovery.proofs.modes.is_whole_end.Goals as goal

pub returns-in-Clean : goal.returns-in-Clean
returns-in-Clean c = (λ _. subst IsWholeEnd (sym c.in-Clean.is) clean, λ _. refl)

pub returns-in-Broken-OldLog : goal.returns-in-Broken-OldLog
returns-in-Broken-OldLog c =
    let why = c.in-Broken-OldLog in
    let damage : why.field-0 ≡ OldLog why.field-0-0 = rw why.is at why.field-0-is in
    (λ _. subst IsWholeEnd (sym (why.is ∙ ap Broken damage)) old_log, λ _. refl)
