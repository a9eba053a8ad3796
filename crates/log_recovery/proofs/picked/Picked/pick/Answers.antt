-- The record is picked or not, as it is asked for, or reading stops at it.
use Rattle.std.proofs.Common.{◌≡◌, ℕ, List, [], ◌∷◌, ◌++◌, cond, refl, sym, ◌∙◌, ap, subst, append-nil}
use Rattle.model_base.specs.Batch.{count_of, IsBatch}
use Rattle.log_recovery.specs.declared.picked.Picked.{Picked}
use Rattle.log_recovery.specs.Keeping.{IsRunEnd}
use Rattle.log_recovery.proofs.Keeping.{refuses_run, run_of}
use Rattle.log_recovery.proofs.Picking.{picks_within, record_past}
use Rattle.log_recovery.proofs.picked.Picked.pick.Goals.{then-is_picked+in_ok-record+in_ok-push, else-is_picked}
use Rattle.log_recovery.proofs.picked.Picked.pick.Goals as goal

pub returns-in-Some : goal.returns-in-Some
returns-in-Some c =
    let last = c.args.self.now.last in
    let why = c.in-Some.why in
    let records = c.in-Ok.batch.records in (
      refl,
      refuses_run last c.in-Ok.batch.sequence c.args.bytes.now records why c.in-Ok.ensures.ok
          (subst (λ n. IsRunEnd last n (count_of records) why) c.sequence-first.ensures (subst (λ n. IsRunEnd last c.sequence-first.result n why) c.count-count.ensures c.in-Some.ensures)),
    )

pub returns-then-is_past : goal.returns-then-is_past
returns-then-is_past c =
    let last = c.args.self.now.last in
    let bytes = c.args.bytes.now in
    let first : c.sequence-first.result ≡ c.in-Ok.batch.sequence = c.sequence-first.ensures in (
      refl,
      record_past c.args.upto last c.sequence-first.result c.count-count.result bytes c.in-Ok.batch.records
          (subst (λ n. IsBatch bytes n c.in-Ok.batch.records) (sym first) c.in-Ok.ensures.ok) c.count-count.ensures
          (run_of last c.sequence-first.result c.count-count.result c.run_end.result c.run_end.ensures c.in_default.not-Some)
          (sym c.is_past.ensures ∙ c.if-is_past.true),
    )

pub returns : goal.returns
returns c =
    let old = c.args.self.now in
    let bytes = c.args.bytes.now in
    let first : c.sequence-first.result ≡ c.in-Ok.batch.sequence = c.sequence-first.ensures in
    let added : c.if-is_picked.self.records.items ≡ old.records.items ++ cond c.is_picked.result (bytes ∷ []) [] =
    elim c.if-is_picked.branch [
      | then-is_picked+in_ok-record+in_ok-push w ↦ rw w.if-is_picked.true (ap (λ (p : Picked). p.records.items) w.self-is ∙ w.in_ok-push.ensures.items ∙ ap (λ (r : List ℕ). old.records.items ++ r ∷ []) w.in_ok-record.ensures)
      | else-is_picked w ↦ rw w.if-is_picked.false (ap (λ (p : Picked). p.records.items) w.self-is ∙ sym (append-nil old.records.items))
    ] in
    picks_within c.args.since c.args.upto old _ bytes c.args.end c.sequence-first.result c.count-count.result c.in-Ok.batch.records c.is_picked.result
    (subst (λ n. IsBatch bytes n c.in-Ok.batch.records) (sym first) c.in-Ok.ensures.ok) c.count-count.ensures
    (run_of old.last c.sequence-first.result c.count-count.result c.run_end.result c.run_end.ensures c.in_default.not-Some)
    (sym c.is_past.ensures ∙ c.if-is_past.false)
    (c.is_picked.ensures bytes) added
    c.last_after-last.ensures
    refl
