-- The numbers of a summary are those of what the values show.
use Rattle.std.proofs.Common.{◌≡◌, ◌∙◌, ℕ, suc, ◌+◌, List, [], ◌∷◌, ◌++◌, length, take, Some, slice_get, refl, sym, ap}
use Rattle.std.proofs.lemmas.List.{append_assoc}
use Rattle.std.proofs.lemmas.List.Sums.{sum_by-cons, sum_by_more}
use Rattle.std.proofs.lemmas.Option.{slice_get_within, get_or_from_slice_get}
use Rattle.std.specs.Prelude.{sum_by, codes}
use Rattle.std.specs.List.{AllZip}
use Rattle.log_batch.specs.Contents.{Contents}
use Rattle.model_base.specs.Batch.{count_of}
use Rattle.model_base.specs.Calls as calls
use Rattle.model_base.specs.Generator.{number_line, summary_text}
use Rattle.model_base.specs.History as history
use Rattle.model_base.specs.History.{IsHistory, last_of}
use Rattle.model_base.specs.Map.{Pairs}
use Rattle.model_base.specs.Script.{value_of_digits}
use Rattle.run_outcome.specs.declared.history_entry.HistoryEntry.{HistoryEntry}
use Rattle.run_outcome.specs.declared.outcome.Outcome.{Outcome}
use Rattle.run_outcome.specs.Shows.{ShowsEntry, ShowsOutcome}

zip_length : {A B : Type 0} (P : A → B → Type 0) (xs : List A) (ys : List B) → AllZip P xs ys → length xs ≡ length ys
zip_length P [] [] all = refl
zip_length P [] (y ∷ ys) all = absurd all
zip_length P (x ∷ xs) [] all = absurd all
zip_length P (x ∷ xs) (y ∷ ys) all = ap suc (zip_length P xs ys all.1)

-- how many records of the entries' batches count
abbrev pub shown_count : List (HistoryEntry Contents) → ℕ
shown_count ss = sum_by (λ (s : HistoryEntry Contents). count_of s.batch.records) ss

-- with one more entry
pub count_more : (ss : List (HistoryEntry Contents)) (i : ℕ) (s : HistoryEntry Contents) → slice_get ss i ≡ Some s → shown_count (take (i + 1) ss) ≡ shown_count (take i ss) + count_of s.batch.records
count_more ss i s is =
    sum_by_more (λ (x : HistoryEntry Contents). count_of x.batch.records) ss i s (slice_get_within ss i s is)
    ∙ ap (λ (x : HistoryEntry Contents). shown_count (take i ss) + count_of x.batch.records) (get_or_from_slice_get ss i s s is)

count_shown : (start : ℕ) (ss : List (HistoryEntry Contents)) (es : List history.Entry) → IsHistory start es → AllZip ShowsEntry ss es
    → shown_count ss ≡ sum_by (λ (e : history.Entry). e.count) es
count_shown start [] [] legal all = refl
count_shown start [] (e ∷ es) legal all = absurd all
count_shown start (s ∷ ss) [] legal all = absurd all
count_shown start (s ∷ ss) (e ∷ es) legal all =
    let here : count_of s.batch.records ≡ e.count = ap (λ (b : Contents). count_of b.records) all.0.batch ∙ sym legal.0.counted in
    let rest = count_shown (last_of e) ss es legal.1 all.1 in
    sum_by-cons (λ (x : HistoryEntry Contents). count_of x.batch.records) s ss
    ∙ ap (λ n. n + shown_count ss) here
    ∙ ap (λ n. e.count + n) rest
    ∙ sym (sum_by-cons (λ (x : history.Entry). x.count) e es)

six_lines : (a b c d e f : List ℕ) → ((((a ++ b) ++ c) ++ d) ++ e) ++ f ≡ a ++ b ++ c ++ d ++ e ++ f
six_lines a b c d e f = simp (append_assoc)

-- the lines of the values
abbrev pub shown_summary : Outcome Pairs → ℕ → List ℕ
shown_summary v sum =
    ((((number_line (codes "clients") (length v.transcripts.items) ++ number_line (codes "batches") (length v.history))
    ++ number_line (codes "records") (shown_count v.history)) ++ number_line (codes "last") v.last)
    ++ number_line (codes "keys") (length v.state)) ++ number_line (codes "sum") sum

pub summary_shown : (v : Outcome Pairs) (o : calls.Outcome) (start sum : ℕ) → IsHistory start o.history → ShowsOutcome v o
    → sum ≡ sum_by (λ p. value_of_digits p.1) o.state → shown_summary v sum ≡ summary_text o
summary_shown v o start sum legal shows total =
    rw (zip_length _ _ _ shows.transcripts, zip_length _ _ _ shows.history, count_shown start _ _ legal shows.history, ← shows.last, ← shows.state, total)
    (six_lines (number_line (codes "clients") (length o.transcripts)) (number_line (codes "batches") (length o.history))
    (number_line (codes "records") (sum_by (λ (e : history.Entry). e.count) o.history)) (number_line (codes "last") o.last)
    (number_line (codes "keys") (length o.state)) (number_line (codes "sum") (sum_by (λ p. value_of_digits p.1) o.state)))
