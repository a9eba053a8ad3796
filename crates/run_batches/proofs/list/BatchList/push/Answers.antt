use Rattle.std.proofs.Common.{◌≡◌, List, [], ◌∷◌, ◌++◌, length, refl, ap, ◌∙◌, subst, arith, rules}
use Rattle.std.proofs.lemmas.Grind.{common_steps}
use Rattle.log_batch.specs.Contents.{Contents}
use Rattle.run_batches.specs.declared.accepted.AcceptedBatch.{AcceptedBatch}
use Rattle.run_batches.specs.OneBatch.{IsBatchOf}
use Rattle.run_batches.specs.Layout.{bytes_of}
use Rattle.run_batches.specs.OneList.{AreBatches, same_batches}
use Rattle.run_batches.proofs.Additions.{with_batch, as_before, on_ok}
use Rattle.run_batches.proofs.list.BatchList.push.Goals as goal
use Rattle.run_batches.proofs.list.BatchList.push.Goals.{After-truncate, Else-is_err}

-- the list as it was
before : (c : After-truncate) → (same : AreBatches c.truncate.new.self.items c.append.new.ends.items) × (same.batches ≡ c.self.inside.holds.batches)
before c =
    let l = c.self.inside in
    let bytes : c.truncate.new.self.items ≡ l.bytes.items = grind (arith, common_steps) in
    let ends : c.append.new.ends.items ≡ l.ends.items = search rules in
    as_before l.bytes.items c.truncate.new.self.items l.ends.items c.append.new.ends.items l.holds bytes ends

pub invariant_of-self-inside : goal.invariant_of-self-inside
invariant_of-self-inside c = ((before c).0, tt)

pub returns-then-is_err-clause-err : goal.returns-then-is_err-clause-err
returns-then-is_err-clause-err c =
    let are : (h : AreBatches c.truncate.new.self.items c.append.new.ends.items) → h.batches ≡ c.self.inside.holds.batches =
    λ h. same_batches c.truncate.new.self.items c.append.new.ends.items h (before c.before).0 ∙ (before c.before).1 in
    rw are c.self.view_is

-- the batch that is added
abbrev added : Else-is_err → AcceptedBatch Contents
added c = record { flag = c.args.flag; batch = c.args.batch.now }

more : (c : Else-is_err) → (more : AreBatches c.append.new.bytes.items c.append.new.ends.items) × (more.batches ≡ c.self.inside.holds.batches ++ added c ∷ [])
more c =
    let l = c.self.inside in
    let own = c.bytes_of-own.result.now in
    let bytes : c.append.new.bytes.items ≡ l.bytes.items ++ c.byte_of-flag.result ∷ own = on_ok c.append.result _ (search rules) c.append.ensures.ok in
    let ends : c.append.new.ends.items ≡ l.ends.items ++ length c.append.new.bytes.items ∷ [] = on_ok c.append.result _ (search rules) c.append.ensures.end in
    let spelled : c.byte_of-flag.result ∷ own ≡ bytes_of (added c) = rw (c.byte_of-flag.ensures, c.bytes_of-own.ensures.spelled) refl in
    with_batch l.bytes.items c.append.new.bytes.items l.ends.items c.append.new.ends.items l.holds (added c)
    (subst (λ b. IsBatchOf b c.args.batch.now) c.bytes_of-own.ensures.spelled c.bytes_of-own.ensures) (bytes ∙ ap (λ b. l.bytes.items ++ b) spelled) ends

pub invariant_of-self-inside-else-is_err : goal.invariant_of-self-inside-else-is_err
invariant_of-self-inside-else-is_err c = ((more c).0, tt)

pub returns-clause-ok : goal.returns-clause-ok
returns-clause-ok c =
    let are : (h : AreBatches c.append.new.bytes.items c.append.new.ends.items) → h.batches ≡ c.self.inside.holds.batches ++ added c.before ∷ [] =
    λ h. same_batches c.append.new.bytes.items c.append.new.ends.items h (more c.before).0 ∙ (more c.before).1 in
    rw are (ap (λ (v : List (AcceptedBatch Contents)). v ++ added c.before ∷ []) c.self.view_is)
