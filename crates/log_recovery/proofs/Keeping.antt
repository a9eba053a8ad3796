-- A record that was read is kept, or it ends recovery.
use Rattle.std.proofs.Common.{◌≡◌, ℕ, ◌+◌, ◌-◌, ◌<◌, List, [], ◌∷◌, ◌++◌, length, Option, Some, None, MatchOption, ◌==◌, cond, refl, sym, ◌∙◌, ap, subst, arith}
use Rattle.model_base.specs.declared.log.EndReason.{EndReason}
use Rattle.model_base.specs.declared.log.EndReason.TheVariants as ends
use Rattle.model_base.specs.Batch.{Record, count_of, batch, IsBatch}
use Rattle.model_base.specs.History.{max_sequence}
use Rattle.model_base.specs.Recovery.{RecordEnds, order, high}
use Rattle.model_base.specs.Map.{after_records}
use Rattle.log_recovery.specs.declared.kept.Kept.{Kept}
use Rattle.log_recovery.specs.Keeping.{MayBeKept, Adds, Refuses, MayRun, IsRunEnd}
use Rattle.log_recovery.proofs.MoreKept.{one_header}

-- a batch that may follow has a run that may follow
kept_run : (last first : ℕ) (bytes : List ℕ) (records : List Record) → IsBatch bytes first records → MayBeKept last bytes → MayRun last first (count_of records)
kept_run last first bytes records is m =
    let one = one_header bytes first m.batch.first records m.batch.records is (subst (λ l. IsBatch l m.batch.first m.batch.records) m.same m.is) in
    subst (λ n. MayRun last n (count_of records)) (sym one.0) (subst (λ n. MayRun last m.batch.first n) (sym one.1) m.may)

-- A batch whose run may not follow isn't kept.
pub refuses_run : (last first : ℕ) (bytes : List ℕ) (records : List Record) (why : EndReason) → IsBatch bytes first records → IsRunEnd last first (count_of records) why → Refuses last bytes why
refuses_run last first bytes records (ends.Order f l) is e = record {
  ends = subst (λ x. RecordEnds last bytes (ends.Order x l)) (sym e.0) (subst (λ y. RecordEnds last bytes (ends.Order first y)) (sym e.1) (order records is e.2 e.3));
  not_kept = λ m. let may = kept_run last first bytes records is m e.2 in omega (arith, may.0, e.3);
}
refuses_run last first bytes records (ends.High f n) is e = record {
  ends = subst (λ x. RecordEnds last bytes (ends.High x n)) (sym e.0) (high records is e.1 (λ none. e.2 (sym e.1 ∙ none)) e.3 (subst (λ k. max_sequence < first + k - 1) (sym e.1) e.4));
  not_kept = λ m. let may = kept_run last first bytes records is m e.2 in omega (arith, may.1, e.4);
}
refuses_run last first bytes records ends.Clean is e = absurd e
refuses_run last first bytes records (ends.Broken d) is e = absurd e
refuses_run last first bytes records ends.BadOrder is e = absurd e
refuses_run last first bytes records ends.Unfinished is e = absurd e
refuses_run last first bytes records ends.Short is e = absurd e
refuses_run last first bytes records ends.BadVarint is e = absurd e
refuses_run last first bytes records (ends.Tag t) is e = absurd e
refuses_run last first bytes records (ends.Count said found) is e = absurd e

-- A batch whose run may follow may be kept.
abbrev pub may_be_kept : (last first : ℕ) (bytes : List ℕ) (records : List Record) → IsBatch bytes first records → MayRun last first (count_of records) → MayBeKept last bytes
may_be_kept last first bytes records is may = record {
  batch = record { first = first; records = records };
  same = sym is.spelled;
  is = subst (λ l. IsBatch l first records) is.spelled is;
  may = may;
}

-- the run of a batch that is read, in the numbers that the code has, may follow if the code finds no reason why not
pub run_of : (last first count : ℕ) (r : Option EndReason) → MatchOption r (MayRun last first count) (IsRunEnd last first count) → ((why : EndReason) → r ≡ Some why → ⊥) → MayRun last first count
run_of last first count None m none = m
run_of last first count (Some why) m none = absurd (none why refl)

-- What the code changes is that it keeps this batch.
pub adds : (old new : Kept) (bytes : List ℕ) (end first count : ℕ) (records : List Record) → IsBatch bytes first records → count ≡ count_of records → MayRun old.last first count
    → new.groups.items ≡ old.groups.items ++ record { first = first; count = count; size = length bytes } ∷ [] → new.map ≡ after_records old.map records
    → new.last ≡ cond (count == 0) old.last (first + count - 1) → new.end ≡ end → Adds old new bytes end
adds old new bytes end first count records is count_is may groups map last end_is =
    let spelled : bytes ≡ batch first records = is.spelled in
    record {
      kept = may_be_kept old.last first bytes records is (subst (MayRun old.last first) count_is may);
      groups = groups ∙ (ap (λ (n : ℕ). old.groups.items ++ record { first = first; count = n; size = length bytes } ∷ []) count_is ∙ ap (λ (l : List ℕ). old.groups.items ++ record { first = first; count = count_of records; size = length l } ∷ []) spelled);
      map = map;
      last = last ∙ ap (λ (n : ℕ). cond (n == 0) old.last (first + n - 1)) count_is;
      end_is = end_is;
    }
