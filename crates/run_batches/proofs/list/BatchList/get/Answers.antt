use Rattle.std.proofs.Common.{◌≡◌, List, ℕ, length, get_or, sym, ap, ◌∙◌, subst, arith}
use Rattle.std.specs.Prelude.{Some}
use Rattle.log_batch.specs.Contents.{Contents}
use Rattle.run_batches.specs.declared.accepted.AcceptedBatch.{AcceptedBatch}
use Rattle.run_batches.specs.OneBatch.{batch_bytes, IsBatchOf, one_batch}
use Rattle.run_batches.specs.Layout.{byte_of, flag_of, bytes_of}
use Rattle.run_batches.specs.OneList.{flag_back}
use Rattle.run_batches.proofs.Places.{found_at, behind_first}
use Rattle.run_batches.proofs.list.BatchList.get.Goals as goal

pub part_at-part-requires : goal.part_at-part-requires
part_at-part-requires c =
    let l = c.self.inside in
    let p = found_at l.bytes.items l.ends.items l.holds c.args.at c.deref.result.now c.deref-2.result.now c.args.self.now c.deref.ensures.value c.deref-2.ensures.value c.self.view_is c.requires in
    record { at_in = p.at_in; rising = p.rising; within = p.within }

pub bounds-part-0 : goal.bounds-part-0
bounds-part-0 c =
    let l = c.self.inside in
    let p = found_at l.bytes.items l.ends.items l.holds c.args.at c.deref.result.now c.deref-2.result.now c.args.self.now c.deref.ensures.value c.deref-2.ensures.value c.self.view_is c.requires in
    let part : c.part_at-part.result.now ≡ bytes_of p.kept = c.part_at-part.ensures ∙ p.part in
    omega (arith, ap length part)

pub slice_bounds-of-count : goal.slice_bounds-of-count
slice_bounds-of-count c =
    let l = c.self.inside in
    let p = found_at l.bytes.items l.ends.items l.holds c.args.at c.deref.result.now c.deref-2.result.now c.args.self.now c.deref.ensures.value c.deref-2.ensures.value c.self.view_is c.requires in
    let part : c.part_at-part.result.now ≡ bytes_of p.kept = c.part_at-part.ensures ∙ p.part in
    omega (arith, ap length part)

pub slice_bounds-of-start : goal.slice_bounds-of-start
slice_bounds-of-start c =
    let l = c.self.inside in
    let p = found_at l.bytes.items l.ends.items l.holds c.args.at c.deref.result.now c.deref-2.result.now c.args.self.now c.deref.ensures.value c.deref-2.ensures.value c.self.view_is c.requires in
    let part : c.part_at-part.result.now ≡ bytes_of p.kept = c.part_at-part.ensures ∙ p.part in
    omega (arith, ap length part)

pub of-requires : goal.of-requires
of-requires c =
    let l = c.self.inside in
    let p = found_at l.bytes.items l.ends.items l.holds c.args.at c.deref.result.now c.deref-2.result.now c.args.self.now c.deref.ensures.value c.deref-2.ensures.value c.self.view_is c.requires in
    let part : c.part_at-part.result.now ≡ bytes_of p.kept = c.part_at-part.ensures ∙ p.part in
    let own = behind_first c.part_at-part.result.now (byte_of p.kept.flag) (batch_bytes p.kept.batch) part in
    record { contents = p.kept.batch; is = subst (λ (b : List ℕ). IsBatchOf b p.kept.batch) (sym own) p.fits }

pub returns : goal.returns
returns c =
    let l = c.self.inside in
    let p = found_at l.bytes.items l.ends.items l.holds c.args.at c.deref.result.now c.deref-2.result.now c.args.self.now c.deref.ensures.value c.deref-2.ensures.value c.self.view_is c.requires in
    let part : c.part_at-part.result.now ≡ bytes_of p.kept = c.part_at-part.ensures ∙ p.part in
    let own = behind_first c.part_at-part.result.now (byte_of p.kept.flag) (batch_bytes p.kept.batch) part in
    let flag : c.flag_of.result ≡ p.kept.flag = c.flag_of.ensures ∙ ap (λ (b : List ℕ). flag_of (get_or b 0 0)) part ∙ flag_back p.kept.flag in
    let batch : c.of.result ≡ p.kept.batch = one_batch (batch_bytes p.kept.batch) c.of.result p.kept.batch (subst (λ (b : List ℕ). IsBatchOf b c.of.result) own c.of.ensures) p.fits in
    let kept : p.kept ≡ record { flag = c.flag_of.result; batch = c.of.result } = λ i. record { flag = sym flag i; batch = sym batch i } in
    p.is ∙ ap (λ (k : AcceptedBatch Contents). Some k) kept
