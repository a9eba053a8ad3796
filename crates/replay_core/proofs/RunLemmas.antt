-- Runs that are given to one writer after another.
use Rattle.std.proofs.Common.{◌≡◌, ℕ, zero, suc, ◌+◌, ◌-◌, ◌^◌, ◌<◌, ◌≤◌, Bool, true, false, ◌==◌, nat_le, cond, List, [], ◌∷◌, ◌++◌, length, take, drop, map, get_or, slice_set, Some, refl, sym, ap, ◌∙◌, subst, arith, append_assoc}
use Rattle.std.specs.Prelude.{if◌then◌else◌, filter, option_map, count_by, fold}
use Rattle.std.specs.List.{AllByRecursion, take-map}
use Rattle.std.proofs.lemmas.Bool.Decides.{nat_tests}
use Rattle.std.proofs.lemmas.List.{map-append, drop-drop, length-map, take_more}
use Rattle.std.proofs.lemmas.List.Elements.{filter_map-append}
use Rattle.std.proofs.lemmas.List.Sums.{length-filter}
use Rattle.model_base.specs.declared.write.Refusal.TheVariants as no
use Rattle.model_base.specs.Batch.{Record, count_of}
use Rattle.model_base.specs.Calls.{accepted, refused}
use Rattle.model_base.specs.History.{Entry, max_sequence, last_of, flag_of, last_sequence}
use Rattle.log_batch.specs.declared.run.Run.{Run}
use Rattle.model_core.specs.Core as core
use Rattle.replay_plans.specs.declared.plan.ClientPlan.{ClientPlan}
use Rattle.replay_core.specs.declared.writer.Writer.{Writer}
use Rattle.replay_core.specs.declared.writer.Answer.TheVariants.{Accepted, Refused}
use Rattle.replay_plans.specs.Plans.{records_of}
use Rattle.replay_core.specs.Shown.{CoreEntry, shown_writer, shown_entry}
use Rattle.replay_core.specs.Runs.{GotRuns, IsCounted}

last_more : (last : ℕ) (xs ys : List Entry) → last_sequence last (xs ++ ys) ≡ last_sequence (last_sequence last xs) ys
last_more last [] ys = refl
last_more last (x ∷ xs) ys = last_more (last_of x) xs ys

entries_more : (s : core.State) (xs ys : List core.Writer) → core.entries_of s (xs ++ ys) ≡ core.entries_of s xs ++ core.entries_of s ys
entries_more s xs ys = filter_map-append (λ (w : core.Writer). option_map (core.entry_of s w) (core.run_of w.answer)) xs ys

-- the sequence given last when these writers have got their runs
abbrev reached : core.State → ℕ → List core.Writer → ℕ
reached s last ws = last_sequence last (core.entries_of s (core.with_runs last ws))

run_end : (last n : ℕ) → last + 1 + n - 1 ≡ last + n
run_end last n = omega arith

abbrev pub accepted_writer : ℕ → core.Writer → core.Writer
accepted_writer last w = record w { answer = Some (accepted (last + 1) (last + count_of w.records) w.records) }

abbrev pub refused_writer : ℕ → core.Writer → core.Writer
refused_writer last w = record w { answer = Some (refused (no.SequenceFull last)) }

runs_more : (s : core.State) (last : ℕ) (xs ys : List core.Writer) → core.with_runs last (xs ++ ys) ≡ core.with_runs last xs ++ core.with_runs (reached s last xs) ys
runs_more s last [] ys = refl
runs_more s last (x ∷ xs) ys = by_fit (nat_le (last + count_of x.records) max_sequence) (runs_more s (last + count_of x.records) xs ys) (runs_more s last xs ys)
  where
    n : ℕ
    n = count_of x.records

    by_fit : (b : Bool)
        → core.with_runs (last + n) (xs ++ ys) ≡ core.with_runs (last + n) xs ++ core.with_runs (reached s (last + n) xs) ys
        → core.with_runs last (xs ++ ys) ≡ core.with_runs last xs ++ core.with_runs (reached s last xs) ys
        → (if b then accepted_writer last x ∷ core.with_runs (last + n) (xs ++ ys) else refused_writer last x ∷ core.with_runs last (xs ++ ys))
        ≡ (if b then accepted_writer last x ∷ core.with_runs (last + n) xs else refused_writer last x ∷ core.with_runs last xs)
        ++ core.with_runs (last_sequence last (core.entries_of s (if b then accepted_writer last x ∷ core.with_runs (last + n) xs else refused_writer last x ∷ core.with_runs last xs))) ys
    by_fit true h k =
        ap (λ ws. accepted_writer last x ∷ ws) h
        ∙ ap (λ k. accepted_writer last x ∷ (core.with_runs (last + n) xs ++ core.with_runs (last_sequence k (core.entries_of s (core.with_runs (last + n) xs))) ys)) (sym (run_end last n))
    by_fit false h k = ap (λ ws. refused_writer last x ∷ ws) k

pub append_none : {A : Type 0} (xs : List A) → xs ≡ xs ++ []
append_none [] = refl
append_none (x ∷ xs) = ap (λ ys. x ∷ ys) (append_none xs)

-- nobody has got a run yet
pub got_none : (plans : List ClientPlan) (s : core.State) (last : ℕ) (entries : List CoreEntry) → s.entries ≡ map (shown_entry plans) entries → GotRuns plans s s.entries last [] [] entries last
got_none plans s last entries e = record { runs = refl; listed = sym e ∙ append_none s.entries; reached = refl }

-- one more writer gets its run, or is refused
pub got_more : (plans : List ClientPlan) (s : core.State) (front : List Entry) (last : ℕ) (old new : List Writer) (entries : List CoreEntry) (given : ℕ) (w v : Writer) (entries2 : List CoreEntry) (given2 : ℕ)
    → GotRuns plans s front last old new entries given → GotRuns plans s (map (shown_entry plans) entries) given (w ∷ []) (v ∷ []) entries2 given2
    → GotRuns plans s front last (old ++ w ∷ []) (new ++ v ∷ []) entries2 given2
got_more plans s front last old new entries given w v entries2 given2 got one =
    let f : Writer → core.Writer = shown_writer plans in
    let shown : map f (new ++ v ∷ []) ≡ map f new ++ map f (v ∷ []) = map-append f new (v ∷ []) in
    let here : given ≡ reached s last (map f old) = got.reached ∙ ap (λ ws. last_sequence last (core.entries_of s ws)) got.runs in
    let all : core.entries_of s (map f new ++ map f (v ∷ [])) ≡ core.entries_of s (map f new) ++ core.entries_of s (map f (v ∷ [])) = entries_more s (map f new) (map f (v ∷ [])) in
    let all_shown : core.entries_of s (map f (new ++ v ∷ [])) ≡ core.entries_of s (map f new) ++ core.entries_of s (map f (v ∷ [])) = ap (core.entries_of s) shown ∙ all in
    record {
      runs = shown
          ∙ ap (λ ws. ws ++ map f (v ∷ [])) got.runs
          ∙ ap (λ ws. core.with_runs last (map f old) ++ ws) one.runs
          ∙ ap (λ k. core.with_runs last (map f old) ++ core.with_runs k (map f (w ∷ []))) here
          ∙ sym (runs_more s last (map f old) (map f (w ∷ [])))
          ∙ ap (core.with_runs last) (sym (map-append f old (w ∷ [])));
      listed = one.listed
          ∙ ap (λ es. es ++ core.entries_of s (map f (v ∷ []))) got.listed
          ∙ append_assoc front (core.entries_of s (map f new)) (core.entries_of s (map f (v ∷ [])))
          ∙ ap (λ es. front ++ es) (sym all_shown);
      reached = one.reached
          ∙ ap (λ k. last_sequence k (core.entries_of s (map f (v ∷ [])))) got.reached
          ∙ sym (last_more last (core.entries_of s (map f new)) (core.entries_of s (map f (v ∷ []))))
          ∙ ap (last_sequence last) (sym all_shown);
    }

-- One writer

counted_on : (plans : List ClientPlan) (c n : ℕ) (xs : List CoreEntry) → fold (λ n (x : Entry). n + cond (x.client == c) 1 0) n (map (shown_entry plans) xs) ≡ fold (λ n (e : CoreEntry). n + cond (e.client == c) 1 0) n xs
counted_on plans c n [] = refl
counted_on plans c n (x ∷ xs) = counted_on plans c (n + cond (x.client == c) 1 0) xs

accepted_is : (plans : List ClientPlan) (c : ℕ) (xs : List CoreEntry) → count_by (λ (x : Entry). x.client == c) (map (shown_entry plans) xs) ≡ count_by (λ (e : CoreEntry). e.client == c) xs
accepted_is plans c xs = counted_on plans c 0 xs

-- the ordinal of a client's next accepted batch: one more than its entries so far
pub ordinal_is : (plans : List ClientPlan) (s : core.State) (c n : ℕ) (xs : List CoreEntry) → s.entries ≡ map (shown_entry plans) xs → n ≡ count_by (λ (e : CoreEntry). e.client == c) xs → n + 1 ≡ core.ordinal_at s c
ordinal_is plans s c n xs e h =
    let all : length (filter (λ (x : Entry). x.client == c) s.entries) ≡ count_by (λ (e : CoreEntry). e.client == c) xs =
    ap (λ es. length (filter (λ (x : Entry). x.client == c) es)) e ∙ length-filter (λ (x : Entry). x.client == c) (map (shown_entry plans) xs) ∙ accepted_is plans c xs in
    omega (arith, all, h)

abbrev pub run_behind : ℕ → Writer → Run
run_behind last w = record { first = last + 1; last = last + w.count }

abbrev pub with_run : ℕ → Writer → Writer
with_run last w = record { client = w.client; options = w.options; batch = w.batch; count = w.count; since = w.since; answer = Some (Accepted (run_behind last w)) }

abbrev pub without_run : ℕ → Writer → Writer
without_run last w = record { client = w.client; options = w.options; batch = w.batch; count = w.count; since = w.since; answer = Some (Refused (no.SequenceFull last)) }

abbrev pub new_entry : ℕ → ℕ → Writer → CoreEntry
new_entry ordinal last w = record { client = w.client; ordinal = ordinal; run = run_behind last w; flag = flag_of w.options; batch = w.batch }

pub got_run : (plans : List ClientPlan) (s : core.State) (last ordinal : ℕ) (w : Writer) (entries : List CoreEntry) → IsCounted plans w → last + w.count ≤ 2 ^ 56 - 1 → ordinal ≡ core.ordinal_at s w.client
    → GotRuns plans s (map (shown_entry plans) entries) last (w ∷ []) (with_run last w ∷ []) (entries ++ new_entry ordinal last w ∷ []) (last + w.count)
got_run plans s last ordinal w entries counted fits nth =
    let records : List Record = records_of plans w.client w.batch in
    let fit : nat_le (last + count_of records) max_sequence ≡ true = grind (arith, nat_tests) in
    let v : core.Writer = shown_writer plans w in
    let long : last + w.count + 1 - (last + 1) ≡ count_of records = omega (arith, counted) in
    record {
      runs = ap (λ n. record v { answer = Some (accepted (last + 1) (last + n) records) } ∷ []) counted
          ∙ sym (ap (λ b. if b then accepted_writer last v ∷ [] else refused_writer last v ∷ []) fit);
      listed = map-append (shown_entry plans) entries (new_entry ordinal last w ∷ [])
          ∙ ap (λ n. map (shown_entry plans) entries ++ record { client = w.client; ordinal = n; first = last + 1; count = last + w.count + 1 - (last + 1); flag = flag_of w.options; records = records } ∷ []) nth
          ∙ ap (λ n. map (shown_entry plans) entries ++ record { client = w.client; ordinal = core.ordinal_at s w.client; first = last + 1; count = n; flag = flag_of w.options; records = records } ∷ []) long;
      reached = ap (λ n. last + n) counted ∙ sym (run_end last (count_of records));
    }

pub got_refusal : (plans : List ClientPlan) (s : core.State) (last : ℕ) (w : Writer) (entries : List CoreEntry) → IsCounted plans w → 2 ^ 56 - 1 < last + w.count
    → GotRuns plans s (map (shown_entry plans) entries) last (w ∷ []) (without_run last w ∷ []) entries last
got_refusal plans s last w entries counted full =
    let records : List Record = records_of plans w.client w.batch in
    let no_fit : nat_le (last + count_of records) max_sequence ≡ false = grind (arith, nat_tests) in
    let v : core.Writer = shown_writer plans w in
    record {
      runs = sym (ap (λ b. if b then accepted_writer last v ∷ [] else refused_writer last v ∷ []) no_fit);
      listed = append_none (map (shown_entry plans) entries);
      reached = refl;
    }

-- One place of a list is set

set_take : {A : Type 0} (xs : List A) (i : ℕ) (y : A) → i < length xs → take (suc i) (slice_set xs i y) ≡ take i xs ++ y ∷ []
set_take [] i y h = absurd (omega arith)
set_take (x ∷ xs) zero y h = refl
set_take (x ∷ xs) (suc i) y h = ap (λ zs. x ∷ zs) (set_take xs i y (omega arith))

set_drop : {A : Type 0} (xs : List A) (i : ℕ) (y : A) → drop (suc i) (slice_set xs i y) ≡ drop (suc i) xs
set_drop [] i y = refl
set_drop (x ∷ xs) zero y = refl
set_drop (x ∷ xs) (suc i) y = set_drop xs i y

pub set_alike : {A B : Type 0} (f : A → B) (xs : List A) (i : ℕ) (y d : A) → i < length xs → f y ≡ f (get_or xs i d) → map f (slice_set xs i y) ≡ map f xs
set_alike f [] i y d h e = absurd (omega arith)
set_alike f (x ∷ xs) zero y d h e = ap (λ z. z ∷ map f xs) e
set_alike f (x ∷ xs) (suc i) y d h e = ap (λ zs. f x ∷ zs) (set_alike f xs i y d (omega arith) e)

drop_at : {A : Type 0} (xs : List A) (i : ℕ) (d : A) → get_or (drop i xs) 0 d ≡ get_or xs i d
drop_at [] zero d = refl
drop_at [] (suc i) d = refl
drop_at (x ∷ xs) zero d = refl
drop_at (x ∷ xs) (suc i) d = drop_at xs i d

pub same_at : {A : Type 0} (xs ys : List A) (i : ℕ) (d : A) → drop i xs ≡ drop i ys → get_or xs i d ≡ get_or ys i d
same_at xs ys i d e = sym (drop_at xs i d) ∙ ap (λ zs. get_or zs 0 d) e ∙ drop_at ys i d

-- the items after the place that was set are as they were
pub rest_more : {A : Type 0} (xs ys : List A) (i : ℕ) (y : A) → drop i xs ≡ drop i ys → drop (i + 1) (slice_set xs i y) ≡ drop (i + 1) ys
rest_more xs ys i y e =
    let one : i + 1 ≡ suc i = omega arith in
    ap (λ n. drop n (slice_set xs i y)) one ∙ set_drop xs i y ∙ ap (λ n. drop n xs) (sym one) ∙ sym (drop_one xs i) ∙ ap (drop 1) e ∙ drop_one ys i
  where
    drop_one : {A : Type 0} (zs : List A) (i : ℕ) → drop 1 (drop i zs) ≡ drop (i + 1) zs
    drop_one zs i = drop-drop 1 i zs

pub counted_same : (plans : List ClientPlan) (v w : Writer) → v ≡ w → IsCounted plans w → IsCounted plans v
counted_same plans v w e h = let P : Writer → Type 0 = λ x. IsCounted plans x in subst P (sym e) h

pub counted_at : (plans : List ClientPlan) (ws : List Writer) (i : ℕ) (d : Writer) → AllByRecursion (IsCounted plans) ws → i < length ws → IsCounted plans (get_or ws i d)
counted_at plans [] i d all h = absurd (omega arith)
counted_at plans (w ∷ ws) zero d all h = all.0
counted_at plans (w ∷ ws) (suc i) d all h = counted_at plans ws i d all.1 (omega arith)

pub take_front : {A : Type 0} (xs ys : List A) → take (length xs) (xs ++ ys) ≡ xs
take_front [] ys = refl
take_front (x ∷ xs) ys = ap (λ zs. x ∷ zs) (take_front xs ys)

-- the entries before those of the group
pub entries_before : (plans : List ClientPlan) (s : core.State) (first entries : List CoreEntry) (more : List Entry) (n : ℕ) → s.entries ≡ map (shown_entry plans) first → n ≡ length first
    → map (shown_entry plans) entries ≡ s.entries ++ more → s.entries ≡ map (shown_entry plans) (take n entries)
entries_before plans s first entries more n e len listed =
    let long : length s.entries ≡ n = ap length e ∙ length-map first (shown_entry plans) ∙ sym len in
    sym (take_front s.entries more) ∙ ap (take (length s.entries)) (sym listed) ∙ ap (λ k. take k (map (shown_entry plans) entries)) long ∙ take-map (shown_entry plans) n entries

-- the next writer of the group gets its run, or is refused
pub next_got : (plans : List ClientPlan) (s : core.State) (last i : ℕ) (old now : List Writer) (entries : List CoreEntry) (given : ℕ) (w v d : Writer) (entries2 : List CoreEntry) (given2 : ℕ)
    → i < length old → i < length now → w ≡ get_or old i d
    → GotRuns plans s s.entries last (take i old) (take i now) entries given → GotRuns plans s (map (shown_entry plans) entries) given (w ∷ []) (v ∷ []) entries2 given2
    → GotRuns plans s s.entries last (take (i + 1) old) (take (i + 1) (slice_set now i v)) entries2 given2
next_got plans s last i old now entries given w v d entries2 given2 h k same got one =
    let P : List Writer → Type 0 = λ ws. GotRuns plans s s.entries last ws (take (i + 1) (slice_set now i v)) entries2 given2 in
    let Q : List Writer → Type 0 = λ ws. GotRuns plans s s.entries last (take i old ++ w ∷ []) ws entries2 given2 in
    let suc_is : i + 1 ≡ suc i = omega arith in
    let before : take i old ++ w ∷ [] ≡ take (i + 1) old = ap (λ x. take i old ++ x ∷ []) same ∙ sym (take_more old i d h) in
    let after : take i now ++ v ∷ [] ≡ take (i + 1) (slice_set now i v) = sym (set_take now i v k) ∙ ap (λ n. take n (slice_set now i v)) (sym suc_is) in
    subst P before (subst Q after (got_more plans s s.entries last (take i old) (take i now) entries given w v entries2 given2 got one))
