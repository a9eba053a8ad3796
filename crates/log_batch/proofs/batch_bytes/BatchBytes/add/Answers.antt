use Rattle.std.proofs.Common.{◌≡◌, ◌+◌, [], ◌∷◌, ◌++◌, sym, ◌∙◌, ap, arith}
use Rattle.std.proofs.lemmas.Grind.{common_steps}
use Rattle.model_base.specs.declared.limits.TheConstants.{MAX_SIZE}
use Rattle.model_base.specs.Batch.{count_of, record_bytes, header, body, IsReadable, size_of_batch}
use Rattle.std.specs.List.{AllByRecursion}
use Rattle.log_batch.specs.Contents.{Contents, IsBatch, with_addition}
use Rattle.log_batch.specs.View.{record_of}
use Rattle.log_batch.proofs.Additions.{records_are, few_readable, all_both, count_of-added, counts_once, small_count, added_bytes, added_fits}
use Rattle.log_batch.proofs.batch_bytes.BatchBytes.add.Goals as goal

pub returns-then-is_err-clause-err : goal.returns-then-is_err-clause-err
returns-then-is_err-clause-err c =
    let old = c.self.inside in
    let same : c.truncate.new.self ≡ old.bytes = grind (arith, common_steps) in
    let are : (h : IsBatch c.truncate.new.self old.sequence old.count) → h.records ≡ old.holds.records =
    λ h. records_are c.truncate.new.self old.sequence old.count h old.holds.records old.holds.readable old.holds.count_is (same ∙ old.holds.bytes_are) in
    rw are c.self.view_is

pub overflow_add-self : goal.overflow_add-self
overflow_add-self c =
    let old = c.self.inside in
    omega (arith, small_count old.bytes old.sequence old.count old.holds, counts_once (record_of c.args.view), c.sequences_of.ensures)

-- the new count is that of the additions with the record
counted : (c : goal.After-overwrite) → c.self.inside.count + c.sequences_of.result ≡ count_of (c.self.inside.holds.records ++ record_of c.args.view ∷ [])
counted c =
    let old = c.self.inside in
    ap (λ n. n + c.sequences_of.result) old.holds.count_is ∙ ap (λ n. count_of old.holds.records + n) c.sequences_of.ensures ∙ sym (count_of-added old.holds.records (record_of c.args.view))

-- all of them are readable
read : (c : goal.After-overwrite) → AllByRecursion IsReadable (c.self.inside.holds.records ++ record_of c.args.view ∷ [])
read c =
    let old = c.self.inside in
    let r = record_of c.args.view in
    let few = few_readable r c.size_with_record-size.ensures.fits (omega (arith, c.size_with_record-size.ensures.size, c.if-size-gt-MAX_SIZE.false)) in
    all_both IsReadable old.holds.records (r ∷ []) old.holds.readable (few, tt)

-- the bytes that are written are those of the batch with the record
written : (c : goal.After-overwrite) → c.overwrite.new.self ≡ header c.self.inside.sequence (c.self.inside.count + c.sequences_of.result) ++ body (c.self.inside.holds.records ++ record_of c.args.view ∷ [])
written c =
    let old = c.self.inside in
    let r = record_of c.args.view in
    let appended : c.append_record.new.bytes ≡ old.bytes ++ record_bytes r = grind (arith, common_steps) in
    added_bytes old.bytes c.append_record.new.bytes c.overwrite.new.self old.sequence old.count (old.count + c.sequences_of.result) old.holds.records r old.holds.bytes_are appended (rw c.to_le_bytes.ensures at c.overwrite.ensures)

pub invariant_of-self-inside-2 : goal.invariant_of-self-inside-2
invariant_of-self-inside-2 c =
    let old = c.self.inside in
    let r = record_of c.args.view in (
      record {
        records = old.holds.records ++ r ∷ [];
        count_is = counted c;
        readable = read c;
        bytes_are = written c;
        fits = added_fits c.overwrite.new.self old.sequence (old.count + c.sequences_of.result) MAX_SIZE old.holds.records r (written c)
            (omega (arith, c.size.ensures.value, ap (λ (v : Contents). size_of_batch v.records) c.self.view_is, c.size_with_record-size.ensures.size, c.if-size-gt-MAX_SIZE.false));
      },
      tt,
    )

pub returns-clause-ok : goal.returns-clause-ok
returns-clause-ok c =
    let old = c.self.inside in
    let r = record_of c.args.view in
    let are : (h : IsBatch c.overwrite.new.self old.sequence (old.count + c.sequences_of.result)) → h.records ≡ old.holds.records ++ r ∷ [] =
    λ h. records_are c.overwrite.new.self old.sequence (old.count + c.sequences_of.result) h (old.holds.records ++ r ∷ []) (read c.before) (counted c.before) (written c.before) in
    rw are (ap (λ (v : Contents). with_addition v r) c.self.view_is)
