use Rattle.std.proofs.Common.{◌≡◌, refl, sym, ◌∙◌, ap, subst}
use Rattle.model_base.specs.Batch.{count_of, IsBatch}
use Rattle.model_base.specs.Map.{after_records}
use Rattle.log_recovery.specs.Keeping.{IsRunEnd}
use Rattle.log_recovery.proofs.Keeping.{refuses_run, run_of, adds}
use Rattle.log_recovery.proofs.kept.Kept.keep.Goals as goal

pub returns-in-Some : goal.returns-in-Some
returns-in-Some c =
    let last = c.args.self.now.last in
    let why = c.in-Some.why in
    let records = c.in-Ok.batch.records in (
      refl,
      refuses_run last c.in-Ok.batch.sequence c.args.bytes.now records why c.in-Ok.ensures.ok
          (subst (λ n. IsRunEnd last n (count_of records) why) c.sequence-first.ensures (subst (λ n. IsRunEnd last c.sequence-first.result n why) c.count-count.ensures c.in-Some.ensures)),
    )

pub returns : goal.returns
returns c =
    let old = c.args.self.now in
    let first : c.sequence-first.result ≡ c.in-Ok.batch.sequence = c.sequence-first.ensures in
    adds old _ c.args.bytes.now c.args.end c.sequence-first.result c.count-count.result c.in-Ok.batch.records
    (subst (λ n. IsBatch c.args.bytes.now n c.in-Ok.batch.records) (sym first) c.in-Ok.ensures.ok) c.count-count.ensures
    (run_of old.last c.sequence-first.result c.count-count.result c.run_end.result c.run_end.ensures c.in_default.not-Some)
    c.in_ok-push.ensures.items
    (c.in_ok-write_records.ensures.ok ∙ ap (after_records old.map) c.records.ensures.value)
    c.last_after-self.ensures
    refl
