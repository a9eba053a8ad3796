-- A client's accepted batches are its entries.
use Rattle.std.proofs.Common.{◌≡◌, inl, inr, ℕ, ◌+◌, ◌-◌, ◌^◌, ◌≤◌, min, Option, Some, None, MatchOption, List, [], ◌∷◌, ◌++◌, length, refl, ap, sym, ◌∙◌, subst, arith}
use Rattle.model_base.specs.declared.write.WriteOptions.{WriteOptions}
use Rattle.model_base.specs.declared.write.Refusal.{Refusal}
use Rattle.model_base.specs.Batch.{Record, count_of}
use Rattle.model_base.specs.History as history
use Rattle.model_base.specs.Tokens.{holds_stop}
use Rattle.model_base.specs.Trace.{Settings}
use Rattle.model_base.specs.Progress.{next_entry, early_refusal}
use Rattle.log_batch.specs.Contents.{Contents}
use Rattle.run_batches.specs.declared.accepted.AcceptedBatch.{AcceptedBatch}
use Rattle.run_outcome.specs.declared.history_entry.HistoryEntry.{HistoryEntry}
use Rattle.run_outcome.specs.Shows.{ShowsEntry}
use Rattle.run_outcome.specs.Histories.{last_in, entry_of, entries_of}
use Rattle.run_outcome.proofs.Entries.{entries_of-push, length-entries_of}
use Rattle.model_accounts.specs.Accounts.{Account, Keeps, IsRefusedLate, Refuses}
use Rattle.run_threads.specs.Answers.{ShowsEntries, ShowsAccepted}
use Rattle.run_threads.proofs.Lists.{zip_more, zip_length}

-- the last sequence of a run is a number of 64 bits
run_ends : (first count : ℕ) → 1 ≤ count → first + count ≤ 2 ^ 64 → first + count - 1 ≡ min (first + (count - 1)) (2 ^ 64 - 1)
run_ends first count some within = omega arith

-- one more batch, with its run
pub kept_more : (client first : ℕ) (mine : List history.Entry) (how : WriteOptions) (records : List Record) (kept : List (AcceptedBatch Contents)) (k : AcceptedBatch Contents) → ShowsAccepted client kept mine
    → k.flag ≡ history.flag_of how → k.batch ≡ record { sequence = first; records = records } → 1 ≤ count_of records → first + count_of records ≤ 2 ^ 64
    → ShowsAccepted client (kept ++ k ∷ []) (mine ++ next_entry client mine how first records ∷ [])
kept_more client first mine how records kept k so_far flagged made some within =
    let same = zip_length ShowsEntry (entries_of client kept) mine so_far in
    let count = length-entries_of client kept in
    let nth : 1 + length mine ≡ length kept + 1 = omega (arith, same, count) in
    subst (λ (es : List (HistoryEntry Contents)). ShowsEntries es (mine ++ next_entry client mine how first records ∷ [])) (sym (entries_of-push client kept k))
    (zip_more ShowsEntry (entries_of client kept) mine (entry_of client (length kept + 1) k) (next_entry client mine how first records) so_far (record {
      client = refl;
      ordinal = nth;
      first = sym (ap (λ (b : Contents). b.sequence) made);
      last = run_ends first (count_of records) some within ∙ sym (ap (λ (b : Contents). last_in b) made);
      flag = sym flagged;
      batch = made;
    }))

-- a refused commit leaves the entries as they were
pub refused_entries : (settings : Settings) (v : Account) (records : List Record) (how : WriteOptions) (why : Refusal) (w : Account) → Refuses settings v records how why w → w.mine ≡ v.mine
refused_entries settings v records how why w refuses = by_check (early_refusal settings.families settings.batch_bytes (holds_stop v.asked) records how) refuses
  where
    by_check : (o : Option Refusal) → MatchOption o (IsRefusedLate v records how why w) (λ (early : Refusal). (why ≡ early) × Keeps v w) → w.mine ≡ v.mine
    by_check None (inl lacks) = lacks.1.mine
    by_check None (inr refused) = refused.mine
    by_check (Some early) at_once = at_once.1.mine
