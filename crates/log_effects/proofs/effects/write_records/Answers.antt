use Rattle.std.proofs.Common.{◌≡◌, List, [], ◌∷◌, ◌++◌, length, take, Result, Ok, Err, OnErr, sym, ap, ◌∙◌, arith, append_assoc, length-append}
use Rattle.std.proofs.Math.Seq.{take-append_seam}
use Rattle.std.proofs.lemmas.List.Sums.{fold_push}
use Rattle.model_base.specs.Batch.{Record}
use Rattle.model_base.specs.Map.{Pairs, after_record, after_records}
use Rattle.log_batch.specs.View.{record_of}
use Rattle.log_effects.proofs.effects.write_records.Goals as goal

pub loop-view-preserved : goal.loop-view-preserved
loop-view-preserved c =
    let now = c.loop-view.invariant in
    let entry = record_of c.in-Some.view in
    let left = c.next.new.self in
    let first : c.loop-view.view-iterator ≡ entry ∷ left = c.in-Some.ensures.steps in (
      now.0 ++ entry ∷ [],
      now.1 ∙ (ap (λ (l : List Record). now.0 ++ l) first ∙ sym (append_assoc now.0 (entry ∷ []) left)),
      c.in_ok-write_record.ensures.ok ∙ (ap (λ (m : Pairs). after_record m entry) now.2 ∙ sym (fold_push after_record c.args.map.now now.0 entry)),
    )

at_error : {A E P : Type 0} → (r : Result A E) → P → OnErr r P
at_error (Ok x) p = tt
at_error (Err e) p = p

pub returns-in_err-write_record-clause-err : goal.returns-in_err-write_record-clause-err
returns-in_err-write_record-clause-err c =
    let now = c.loop-view.invariant in
    let entry = record_of c.in-Some.view in
    let left = c.next.new.self in
    let all : c.args.records ≡ now.0 ++ entry ∷ left = now.1 ∙ ap (λ (l : List Record). now.0 ++ l) c.in-Some.ensures.steps in
    let front : take (length now.0) c.args.records ≡ now.0 = ap (λ (l : List Record). take (length now.0) l) all ∙ take-append_seam now.0 (entry ∷ left) in
    at_error c.from_residual.result (
      length now.0,
      omega (arith, ap length all, length-append now.0 (entry ∷ left)),
      c.in_err-write_record.ensures.err ∙ (now.2 ∙ ap (λ (l : List Record). after_records c.args.map.now l) (sym front)),
    )
