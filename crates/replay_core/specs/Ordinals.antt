-- How many accepted batches each client has.
use Rattle.std.specs.Prelude.{◌≡◌, ◌==◌, ℕ, zero, suc, List, Option, Some, None, slice_get, count_by}
use Rattle.run_outcome.specs.declared.history_entry.HistoryEntry.{HistoryEntry}
use Rattle.replay_plans.specs.declared.plan.Lines.{Lines}

-- a client's count; the first count is client 1's
abbrev pub count_for : List ℕ → ℕ → Option ℕ
count_for counts zero = None
count_for counts (suc c) = slice_get counts c

-- a client that has a count has that many entries
abbrev pub AreCounts : List ℕ → List (HistoryEntry Lines) → Type 0
AreCounts counts entries = (c n : ℕ) → count_for counts c ≡ Some n
    → n ≡ count_by (λ (e : HistoryEntry Lines). e.client == c) entries
