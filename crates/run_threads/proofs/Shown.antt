-- Clients' batches that show a history.
use Rattle.std.proofs.Common.{◌≡◌, ℕ, suc, ◌+◌, ◌≤◌, ◌==◌, cond, Bool, true, false, Some, List, [], ◌∷◌, ◌++◌, length, slice_get, map, filter, take, fold, refl, ap, sym, ◌∙◌, arith}
use Rattle.std.specs.Prelude.{Result, Ok, Err, IfOk}
use Rattle.std.specs.List.{AllByRecursion}
use Rattle.std.specs.List.Sorted.{IsNonDecreasingBy}
use Rattle.std.proofs.lemmas.List.Sums.{fold_more}
use Rattle.std.proofs.lemmas.Option.{get_or_from_slice_get, slice_get_within}
use Rattle.model_base.specs.declared.memory.NoMemory.{NoMemory}
use Rattle.model_base.specs.Map.{Pairs, after_records}
use Rattle.model_base.specs.History as history
use Rattle.model_base.specs.Outcomes.{entries_of_client}
use Rattle.log_batch.specs.Contents.{Contents}
use Rattle.run_outcome.specs.declared.history_entry.HistoryEntry.{HistoryEntry}
use Rattle.run_batches.specs.declared.accepted.AcceptedBatch.{AcceptedBatch}
use Rattle.run_outcome.specs.Histories.{entries_of, entries_by, entries_of_all}
use Rattle.run_outcome.specs.Shows.{ShowsEntry}
use Rattle.run_threads.specs.Answers.{ShowsEntries}
use Rattle.run_threads.specs.Histories.{MakeUp}
use Rattle.run_threads.proofs.Fibres.{at, Climbs, SameFibres, climbs_lower, sorted_is}
use Rattle.run_threads.proofs.Owners.{own, owns, IsOneOf, owns_fibres}

-- the value that shows an entry
abbrev pub shown_of : history.Entry → HistoryEntry Contents
shown_of e = record {
  client = e.client;
  ordinal = e.ordinal;
  run = record { first = e.first; last = history.last_of e };
  flag = e.flag;
  batch = record { sequence = e.first; records = e.records };
}

abbrev first_of : HistoryEntry Contents → ℕ
first_of e = e.run.first

abbrev client_of : HistoryEntry Contents → ℕ
client_of e = e.client

-- no other value shows it
shown_is : (shown : HistoryEntry Contents) (e : history.Entry) → ShowsEntry shown e → shown ≡ shown_of e
shown_is shown e h = rw (h.last, ← h.batch, h.client, h.ordinal, h.first, h.flag) refl

zip_is : (shown : List (HistoryEntry Contents)) (entries : List history.Entry) → ShowsEntries shown entries → shown ≡ map shown_of entries
zip_is [] [] h = refl
zip_is [] (e ∷ es) h = absurd h
zip_is (x ∷ xs) [] h = absurd h
zip_is (x ∷ xs) (e ∷ es) h = let head = shown_is x e h.0 in let rest = zip_is xs es h.1 in cc (head, rest)

zip_from : (entries : List history.Entry) → ShowsEntries (map shown_of entries) entries
zip_from [] = tt
zip_from (e ∷ es) = (record { client = refl; ordinal = refl; first = refl; last = refl; flag = refl; batch = refl }, zip_from es)

-- one step of filtering what a function gives
at_mapped : {A B : Type 0} (f : A → B) (b : Bool) (x : A) (xs : List B) (ys : List A) → xs ≡ map f ys → cond b (f x ∷ xs) xs ≡ map f (cond b (x ∷ ys) ys)
at_mapped f true x xs ys h = ap (λ zs. f x ∷ zs) h
at_mapped f false x xs ys h = h

filter_mapped : {A B : Type 0} (f : A → B) (p : B → Bool) (xs : List A) → filter p (map f xs) ≡ map f (filter (λ x. p (f x)) xs)
filter_mapped f p [] = refl
filter_mapped f p (x ∷ xs) = at_mapped f (p (f x)) x _ _ (filter_mapped f p xs)

climbs : (start : ℕ) (entries : List history.Entry) → history.IsHistory start entries → Climbs first_of start (map shown_of entries)
climbs start [] is = tt
climbs start (e ∷ es) is =
    let here = is.0.first in
    let some = is.0.some in
    (omega arith, climbs_lower first_of e.first (history.last_of e) (map shown_of es) (omega arith) (climbs (history.last_of e) es is.1))

named : (n : ℕ) (entries : List history.Entry) → AllByRecursion (λ (e : history.Entry). (1 ≤ e.client) × (e.client ≤ n)) entries → AllByRecursion (IsOneOf client_of 0 n) (map shown_of entries)
named n [] all = tt
named n (e ∷ es) all = let here = all.0 in ((omega arith, omega arith), named n es all.1)

-- Where each client's batches are its own entries in a list, all clients' batches are that list, owner by owner, from
-- client m + 1 on.
by_owners : (m : ℕ) (lists : List (List (AcceptedBatch Contents))) (xs : List (HistoryEntry Contents))
    → ((i k : ℕ) (batches : List (AcceptedBatch Contents)) → k ≡ m + i + 1 → slice_get lists i ≡ Some batches → entries_of k batches ≡ own client_of k xs)
    → entries_by (m + 1) lists ≡ owns client_of m (length lists) xs
by_owners m [] xs each = refl
by_owners m (batches ∷ lists) xs each =
    let rest = by_owners (m + 1) lists xs (λ i k v is at. each (suc i) k v (omega (arith, is)) at) in
    let here = each 0 (m + 1) batches (omega arith) refl in
    ap (λ ys. ys ++ entries_by (m + 1 + 1) lists) here ∙ ap (λ ys. own client_of (m + 1) xs ++ ys) rest

-- all clients' batches, sorted, are the history
pub sorted_shows : (start : ℕ) (accepted : List (List (AcceptedBatch Contents))) (entries : List history.Entry) → MakeUp start accepted entries
    → (sorted : List (HistoryEntry Contents)) → IsNonDecreasingBy first_of sorted → SameFibres first_of sorted (entries_of_all accepted) → ShowsEntries sorted entries
sorted_shows start accepted entries make sorted rising kept =
    let ys = map shown_of entries in
    let up = climbs start entries make.is_history in
    let whole : entries_of_all accepted ≡ owns client_of 0 (length accepted) ys = by_owners 0 accepted ys
    (λ i k v is at. zip_is (entries_of k v) (entries_of_client k entries) (let here : k ≡ i + 1 = omega (arith, is) in rw here (make.each i v at)) ∙ sym (filter_mapped shown_of (λ (x : HistoryEntry Contents). client_of x == k) entries)) in
    let fibres : SameFibres first_of sorted ys = λ k. kept k ∙ (ap (at first_of k) whole ∙ owns_fibres client_of first_of start 0 (length accepted) ys up (named (length accepted) entries make.clients) k) in
    let is = sorted_is first_of start sorted ys rising up fibres in
    rw is (zip_from entries)

-- the map of batches is that of the entries that they show
pub fold_shown : (m : Pairs) (shown : List (HistoryEntry Contents)) (entries : List history.Entry) → ShowsEntries shown entries
    → fold (λ (m : Pairs) (e : HistoryEntry Contents). after_records m e.batch.records) m shown ≡ history.map_over m entries
fold_shown m [] [] h = refl
fold_shown m [] (e ∷ es) h = absurd h
fold_shown m (x ∷ xs) [] h = absurd h
fold_shown m (x ∷ xs) (e ∷ es) h =
    let same : x.batch.records ≡ e.records = ap (λ (b : Contents). b.records) h.0.batch in
    rw same (fold_shown (after_records m e.records) xs es h.1)

-- the map with one more batch
pub fold_next : (m : Pairs) (shown : List (HistoryEntry Contents)) (i : ℕ) (e : HistoryEntry Contents) → slice_get shown i ≡ Some e
    → fold (λ (m : Pairs) (e : HistoryEntry Contents). after_records m e.batch.records) m (take (i + 1) shown)
    ≡ after_records (fold (λ (m : Pairs) (e : HistoryEntry Contents). after_records m e.batch.records) m (take i shown)) e.batch.records
fold_next m shown i e there =
    let after = λ (m : Pairs) (e : HistoryEntry Contents). after_records m e.batch.records in
    fold_more after m shown i e (slice_get_within shown i e there) ∙ ap (after (fold after m (take i shown))) (get_or_from_slice_get shown i e e there)

-- all clients' batches, sorted, are the history, unless there was no memory to sort them
pub sorted_result_shows : (start : ℕ) (accepted : List (List (AcceptedBatch Contents))) (entries : List history.Entry) → MakeUp start accepted entries
    → (r : Result (List (HistoryEntry Contents)) NoMemory) → IfOk r (IsNonDecreasingBy first_of)
    → IfOk r (λ shown. SameFibres first_of shown (entries_of_all accepted)) → IfOk r (λ shown. ShowsEntries shown entries)
sorted_result_shows start accepted entries make (Ok sorted) rising kept = sorted_shows start accepted entries make sorted rising kept
sorted_result_shows start accepted entries make (Err none) rising kept = tt
