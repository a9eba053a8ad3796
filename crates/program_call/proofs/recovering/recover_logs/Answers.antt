-- The disks are those that were told about.
use Rattle.std.proofs.Common.{◌≡◌, length, ap, sym, ◌∙◌, subst}
use Rattle.std.proofs.lemmas.List.{with_items_is}
use Rattle.program_call.specs.Answers.{RecoversLogs}
use Rattle.program_call.specs.Reports.{code}
use Rattle.program_call.specs.SeveralDisks.{OverFront}
use Rattle.program_call.specs.SeveralLogs.{logs_to_recover}
use Rattle.program_call.proofs.recovering.recover_logs.Goals as goal

pub returns-clause-recovers : goal.returns-clause-recovers
returns-clause-recovers g c =
    let told = c.tell_front-status in
    let disks = c.args.disks in
    let value = c.deref_mut.ensures.value in
    let same : length told.new.disks ≡ disks.len = told.ensures.number ∙ ap length value ∙ sym disks.ok.0 in
    let kept = ap (λ v. v.items) c.end_many.ensures.disks ∙ with_items_is disks told.new.disks same in
    rw (c.end_many.ensures.status, kept)
    (subst (λ olds. OverFront c.args.used olds told.new.disks (λ opened ended. RecoversLogs g.K.Sink c.args.sink.now told.new.sink (logs_to_recover g.D.Disk c.args.mode opened ended) (code told.result))) value told.ensures.recovers)
