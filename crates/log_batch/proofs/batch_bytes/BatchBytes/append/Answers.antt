use Rattle.std.proofs.Common.{◌≡◌, ◌+◌, ◌++◌, length, sym, ◌∙◌, ap, subst, arith}
use Rattle.std.proofs.lemmas.Grind.{common_steps}
use Rattle.model_base.specs.declared.limits.TheConstants.{MAX_SIZE}
use Rattle.model_base.specs.Batch.{count_of, header, body, IsReadable, size_of_batch}
use Rattle.std.specs.List.{AllByRecursion}
use Rattle.log_batch.specs.Contents.{Contents, IsBatch, with_additions}
use Rattle.log_batch.proofs.Additions.{records_are, all_both, count_of-appended, counts_no_more, small_count, appended_bytes, appended_fits}
use Rattle.log_batch.proofs.batch_bytes.BatchBytes.append.Goals as goal

pub returns-then-is_err-clause-err : goal.returns-then-is_err-clause-err
returns-then-is_err-clause-err c =
    let old = c.self.inside in
    let same : c.append.new.self ≡ old.bytes = grind (arith, common_steps) in
    let are : (h : IsBatch c.append.new.self old.sequence old.count) → h.records ≡ old.holds.records =
    λ h. records_are c.append.new.self old.sequence old.count h old.holds.records old.holds.readable old.holds.count_is (same ∙ old.holds.bytes_are) in
    rw are c.self.view_is

pub overflow_add-self : goal.overflow_add-self
overflow_add-self c =
    let old = c.self.inside in
    omega (arith, small_count old.bytes old.sequence old.count old.holds, c.size.ensures.limit, c.saturating_add-size.ensures, c.if-size-gt-MAX_SIZE.false, ap length c.bytes-body.ensures.spelled, ap (λ l. length (body l)) c.records-records.ensures.value, counts_no_more c.args.other.now.records, c.count.ensures)

-- the new count is that of the additions with the records
counted : (c : goal.After-overwrite) → c.self.inside.count + c.count.result ≡ count_of (c.self.inside.holds.records ++ c.args.other.now.records)
counted c =
    let old = c.self.inside in
    ap (λ n. n + c.count.result) old.holds.count_is ∙ ap (λ n. count_of old.holds.records + n) c.count.ensures ∙ sym (count_of-appended old.holds.records c.args.other.now.records)

-- all of them are readable
read : (c : goal.After-overwrite) → AllByRecursion IsReadable (c.self.inside.holds.records ++ c.args.other.now.records)
read c =
    let old = c.self.inside in
    all_both IsReadable old.holds.records c.args.other.now.records old.holds.readable
    (subst (AllByRecursion IsReadable) c.records-records.ensures.value c.bytes-body.ensures.readable)

-- the bytes that are written are those of the batch with the records
written : (c : goal.After-overwrite) → c.overwrite.new.self ≡ header c.self.inside.sequence (c.self.inside.count + c.count.result) ++ body (c.self.inside.holds.records ++ c.args.other.now.records)
written c =
    let old = c.self.inside in
    let more = c.args.other.now.records in
    let bodies : c.bytes-body.result.now ≡ body more = c.bytes-body.ensures.spelled ∙ ap body c.records-records.ensures.value in
    let appended : c.append.new.self ≡ old.bytes ++ body more = rw (sym bodies) (grind (arith, common_steps)) in
    appended_bytes old.bytes c.append.new.self c.overwrite.new.self old.sequence old.count (old.count + c.count.result) old.holds.records more old.holds.bytes_are appended (rw c.to_le_bytes.ensures at c.overwrite.ensures)

pub invariant_of-self-inside-2 : goal.invariant_of-self-inside-2
invariant_of-self-inside-2 c =
    let old = c.self.inside in
    let more = c.args.other.now.records in (
      record {
        records = old.holds.records ++ more;
        count_is = counted c;
        readable = read c;
        bytes_are = written c;
        fits = appended_fits c.overwrite.new.self old.sequence (old.count + c.count.result) MAX_SIZE old.holds.records more (written c)
            (omega (arith, c.size.ensures.value, ap (λ (v : Contents). size_of_batch v.records) c.self.view_is, c.saturating_add-size.ensures, ap length c.bytes-body.ensures.spelled, ap (λ l. length (body l)) c.records-records.ensures.value, c.if-size-gt-MAX_SIZE.false));
      },
      tt,
    )

pub returns-clause-ok : goal.returns-clause-ok
returns-clause-ok c =
    let old = c.self.inside in
    let more = c.args.other.now.records in
    let are : (h : IsBatch c.overwrite.new.self old.sequence (old.count + c.count.result)) → h.records ≡ old.holds.records ++ more =
    λ h. records_are c.overwrite.new.self old.sequence (old.count + c.count.result) h (old.holds.records ++ more) (read c.before) (counted c.before) (written c.before) in
    rw are (ap (λ (v : Contents). with_additions v more) c.self.view_is)
