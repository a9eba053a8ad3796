-- The records that the core's groups make are those of the log's groups.
use Rattle.std.proofs.Common.{◌≡◌, ℕ, zero, suc, ◌+◌, ◌-◌, ◌<◌, ◌≤◌, nat_le, Bool, true, false, not, ◌&&◌, ◌==◌, List, [], ◌∷◌, ◌++◌, length, min, take, drop, map, filter, flat_map, fold, get_or, Option, Some, None, refl, ap, sym, ◌∙◌, subst, arith, append-nil, length-append}
use Rattle.std.specs.Prelude.{if◌then◌else◌}
use Rattle.std.specs.List.{AllByRecursion, sum_by}
use Rattle.std.proofs.lemmas.Bool.{lt-leb, le-leb}
use Rattle.std.proofs.lemmas.Bool.Decides.{nat_tests}
use Rattle.std.proofs.lemmas.List.{take_more, map-append}
use Rattle.std.proofs.lemmas.List.Elements.{filter-append}
use Rattle.std.proofs.lemmas.List.Sums.{fold-append, sum_by-cons}
use Rattle.std.proofs.lemmas.List.Concat.{flat_map-append}
use Rattle.model_base.specs.Batch as model
use Rattle.model_base.specs.Batch.{Record}
use Rattle.model_base.specs.History.{Entry, IsHistory, RunsFollow, last_of, last_sequence, is_logged}
use Rattle.model_base.specs.Since as log
use Rattle.model_core.specs.Core.{cut_by}
use Rattle.model_core_laws.proofs.Lists.{all_front, all_back}
use Rattle.model_core_laws.proofs.ReadLog.{since_append}
use Rattle.log_batch.specs.declared.run.Run.{Run}
use Rattle.replay_plans.specs.declared.plan.ClientPlan.{ClientPlan}
use Rattle.replay_plans.specs.Plans.{records_of}
use Rattle.replay_core.specs.Shown.{CoreEntry, shown_entry}
use Rattle.replay_core.specs.Within.{IsWithinPlans}
use Rattle.replay_schedules.specs.Records.{joined, logged_in, logged_shown, records_over, run_over}

-- One entry more

pub logged_more : (es : List CoreEntry) (i : ℕ) (e : CoreEntry) → i < length es → e ≡ get_or es i e → logged_in (take (i + 1) es) ≡ logged_in (take i es) ++ logged_in (e ∷ [])
logged_more es i e here is =
    ap logged_in (take_more es i e here ∙ ap (λ x. take i es ++ x ∷ []) (sym is)) ∙ filter-append (λ (e : CoreEntry). is_logged e.flag) (take i es) (e ∷ [])

pub logged_one : (e : CoreEntry) → is_logged e.flag ≡ true → logged_in (e ∷ []) ≡ e ∷ []
logged_one e logs = rw logs refl

pub logged_none : (e : CoreEntry) → is_logged e.flag ≡ false → logged_in (e ∷ []) ≡ []
logged_none e skips = rw skips refl

-- A group's end

pub logged_few : (es : List CoreEntry) (n : ℕ) → length (logged_in (take n es)) ≤ length (logged_in es)
logged_few es n =
    let whole : logged_in es ≡ logged_in (take n es) ++ logged_in (drop n es) = ap logged_in (sym (split es n)) ∙ filter-append (λ (e : CoreEntry). is_logged e.flag) (take n es) (drop n es) in
    omega (arith, ap length whole, length-append (logged_in (take n es)) (logged_in (drop n es)))
  where
    split : (es : List CoreEntry) (n : ℕ) → take n es ++ drop n es ≡ es
    split es zero = refl
    split [] (suc n) = refl
    split (e ∷ es) (suc n) = ap (λ xs. e ∷ xs) (split es n)

-- The first group of the entries, and the others
pub cut_off : (plans : List ClientPlan) (es group behind : List CoreEntry) (count : ℕ) → es ≡ group ++ behind → length (logged_in group) ≡ min count (length (logged_in es))
    → (take count (logged_shown plans es) ≡ logged_shown plans group) × (drop count (logged_shown plans es) ≡ logged_shown plans behind)
cut_off plans es group behind count whole counted =
    let f = shown_entry plans in
    let parts : logged_in es ≡ logged_in group ++ logged_in behind = ap logged_in whole ∙ filter-append (λ (e : CoreEntry). is_logged e.flag) group behind in
    let shown : logged_shown plans es ≡ logged_shown plans group ++ logged_shown plans behind = ap (map f) parts ∙ map-append f (logged_in group) (logged_in behind) in
    let total : length (logged_in es) ≡ length (logged_in group) + length (logged_in behind) = ap length parts ∙ length-append (logged_in group) (logged_in behind) in
    let cut = by_count (logged_in group) (logged_in behind) count (omega (arith, counted, total)) in
    (ap (take count) shown ∙ cut.0, ap (drop count) shown ∙ cut.1)
  where
    exact : (xs ys : List Entry) → (take (length xs) (xs ++ ys) ≡ xs) × (drop (length xs) (xs ++ ys) ≡ ys)
    exact [] ys = (refl, refl)
    exact (x ∷ xs) ys = let more = exact xs ys in (ap (λ zs. x ∷ zs) more.0, more.1)

    past : (xs : List Entry) (n : ℕ) → length xs ≤ n → (take n (xs ++ []) ≡ xs) × (drop n (xs ++ []) ≡ [])
    past [] zero h = (refl, refl)
    past [] (suc n) h = (refl, refl)
    past (x ∷ xs) zero h = absurd (omega arith)
    past (x ∷ xs) (suc n) h = let more = past xs n (omega arith) in (ap (λ zs. x ∷ zs) more.0, more.1)

    mapped : (xs : List CoreEntry) → length (map (shown_entry plans) xs) ≡ length xs
    mapped [] = refl
    mapped (x ∷ xs) = let more = mapped xs in omega (arith, more)

    by_count : (xs ys : List CoreEntry) (n : ℕ) → length xs ≡ min n (length xs + length ys)
        → (take n (map (shown_entry plans) xs ++ map (shown_entry plans) ys) ≡ map (shown_entry plans) xs) × (drop n (map (shown_entry plans) xs ++ map (shown_entry plans) ys) ≡ map (shown_entry plans) ys)
    by_count xs [] n e = past (map (shown_entry plans) xs) n (let len = mapped xs in omega (arith, e, len))
    by_count xs (y ∷ ys) n e =
        let same : n ≡ length (map (shown_entry plans) xs) = (let len = mapped xs in omega (arith, e, len)) in
        let at = exact (map (shown_entry plans) xs) (map (shown_entry plans) (y ∷ ys)) in
        (ap (λ k. take k (map (shown_entry plans) xs ++ map (shown_entry plans) (y ∷ ys))) same ∙ at.0, ap (λ k. drop k (map (shown_entry plans) xs ++ map (shown_entry plans) (y ∷ ys))) same ∙ at.1)

-- One group more

abbrev pub given : ℕ → ℕ → List (List Entry) → List (List ℕ)
given n at groups = log.since n at (log.records_in [] groups)

drop_at : {A : Type 0} (xs : List A) (i : ℕ) (d : A) → i < length xs → drop i xs ≡ get_or xs i d ∷ drop (i + 1) xs
drop_at [] i d h = absurd (omega arith)
drop_at (x ∷ xs) zero d h = refl
drop_at (x ∷ xs) (suc i) d h = let e : suc i + 1 ≡ suc (i + 1) = omega arith in drop_at xs i d (omega arith) ∙ ap (λ k. get_or xs i d ∷ drop k (x ∷ xs)) (sym e)

take_next : {A : Type 0} (xs : List A) (i : ℕ) (y : A) (ys : List A) → drop i xs ≡ y ∷ ys → (take (i + 1) xs ≡ take i xs ++ y ∷ []) × (drop (i + 1) xs ≡ ys)
take_next [] zero y ys e = absurd (cc e)
take_next [] (suc i) y ys e = absurd (cc e)
take_next (x ∷ xs) zero y ys e = (let first : x ≡ y = cc in ap (λ z. z ∷ []) first, cc)
take_next (x ∷ xs) (suc i) y ys e =
    let next : suc i + 1 ≡ suc (i + 1) = omega arith in let more = take_next xs i y ys e in
    (ap (λ k. take k (x ∷ xs)) next ∙ ap (λ zs. x ∷ zs) more.0, ap (λ k. drop k (x ∷ xs)) next ∙ more.1)

-- the entries of `rest` make the groups of `whole` from the place `i` on
pub record IsLeft (plans : List ClientPlan) (counts : List ℕ) (whole : List (List Entry)) (i : ℕ) (rest : List CoreEntry) : Type 0 where
  pub groups : cut_by (drop i counts) (logged_shown plans rest) ≡ drop i whole
  pub within : AllByRecursion (IsWithinPlans plans) rest

pub left_at_first : (plans : List ClientPlan) (counts : List ℕ) (whole : List (List Entry)) (es : List CoreEntry) (entries : List Entry) → map (shown_entry plans) es ≡ entries → cut_by counts (filter (λ (x : Entry). is_logged x.flag) entries) ≡ whole
    → AllByRecursion (IsWithinPlans plans) es → IsLeft plans counts whole 0 es
left_at_first plans counts whole es entries are cut within = record {
  groups = ap (cut_by counts) (logged_both es ∙ ap (filter (λ (x : Entry). is_logged x.flag)) are) ∙ cut;
  within = within;
}
  where
    logged_both : (es : List CoreEntry) → logged_shown plans es ≡ filter (λ (x : Entry). is_logged x.flag) (map (shown_entry plans) es)
    logged_both [] = refl
    logged_both (e ∷ es) = by (is_logged e.flag) (logged_both es)
      where
        by : (b : Bool) → logged_shown plans es ≡ filter (λ (x : Entry). is_logged x.flag) (map (shown_entry plans) es)
            → map (shown_entry plans) (if b then e ∷ logged_in es else logged_in es) ≡ (if b then shown_entry plans e ∷ filter (λ (x : Entry). is_logged x.flag) (map (shown_entry plans) es) else filter (λ (x : Entry). is_logged x.flag) (map (shown_entry plans) es))
        by true same = ap (λ xs. shown_entry plans e ∷ xs) same
        by false same = same

-- the next group, and what is left after it
pub record IsNext (plans : List ClientPlan) (counts : List ℕ) (whole : List (List Entry)) (i : ℕ) (group behind : List CoreEntry) : Type 0 where
  pub taken : take (i + 1) whole ≡ take i whole ++ logged_shown plans group ∷ []
  pub left : IsLeft plans counts whole (i + 1) behind
  pub within : AllByRecursion (IsWithinPlans plans) group
  pub runs : RunsFollow (logged_shown plans group)

pub next_group : (plans : List ClientPlan) (counts : List ℕ) (whole : List (List Entry)) (i : ℕ) (rest group behind : List CoreEntry) (count : ℕ) → AllByRecursion RunsFollow whole → i < length counts → count ≡ get_or counts i 0
    → IsLeft plans counts whole i rest → rest ≡ group ++ behind → length (logged_in group) ≡ min count (length (logged_in rest)) → IsNext plans counts whole i group behind
next_group plans counts whole i rest group behind count follow here at is parts counted =
    let cut = cut_off plans rest group behind count parts counted in
    let counts_at : drop i counts ≡ count ∷ drop (i + 1) counts = drop_at counts i 0 here ∙ ap (λ n. n ∷ drop (i + 1) counts) (sym at) in
    let groups_at : drop i whole ≡ logged_shown plans group ∷ cut_by (drop (i + 1) counts) (logged_shown plans behind) =
    sym is.groups ∙ ap (λ ns. cut_by ns (logged_shown plans rest)) counts_at
    ∙ ap (λ g. g ∷ cut_by (drop (i + 1) counts) (drop count (logged_shown plans rest))) cut.0 ∙ ap (λ xs. logged_shown plans group ∷ cut_by (drop (i + 1) counts) xs) cut.1 in
    let next = take_next whole i (logged_shown plans group) (cut_by (drop (i + 1) counts) (logged_shown plans behind)) groups_at in
    let within = subst (AllByRecursion (IsWithinPlans plans)) parts is.within in
    record {
      taken = next.0;
      left = record { groups = sym next.1; within = all_back (IsWithinPlans plans) group behind within };
      within = all_front (IsWithinPlans plans) group behind within;
      runs = (subst (AllByRecursion RunsFollow) groups_at (all_dropped RunsFollow whole i follow)).0;
    }
  where
    all_dropped : (P : List Entry → Type 0) (gs : List (List Entry)) (i : ℕ) → AllByRecursion P gs → AllByRecursion P (drop i gs)
    all_dropped P gs zero a = a
    all_dropped P [] (suc i) a = tt
    all_dropped P (g ∷ gs) (suc i) a = all_dropped P gs i a.1

pub records_more : (plans : List ClientPlan) (n at : ℕ) (whole : List (List Entry)) (i : ℕ) (group : List CoreEntry) (old new : List (List ℕ)) → take (i + 1) whole ≡ take i whole ++ logged_shown plans group ∷ []
    → old ≡ given n at (take i whole) → new ≡ old ++ given n at (logged_shown plans group ∷ []) → new ≡ given n at (take (i + 1) whole)
records_more plans n at whole i group old new taken so_far e =
    e ∙ ap (λ rs. rs ++ given n at (logged_shown plans group ∷ [])) so_far ∙ sym (ap (given n at) taken ∙ since_append n at (take i whole) (logged_shown plans group ∷ []))

-- after the last group nothing is left
pub records_all : (plans : List ClientPlan) (counts : List ℕ) (whole : List (List Entry)) (i : ℕ) (rest : List CoreEntry) → length counts ≤ i → IsLeft plans counts whole i rest → take i whole ≡ whole
records_all plans counts whole i rest past is = all_taken whole i (sym is.groups ∙ ap (λ ns. cut_by ns (logged_shown plans rest)) (none_left counts i past))
  where
    none_left : (ns : List ℕ) (i : ℕ) → length ns ≤ i → drop i ns ≡ []
    none_left [] zero h = refl
    none_left [] (suc i) h = refl
    none_left (n ∷ ns) zero h = absurd (omega arith)
    none_left (n ∷ ns) (suc i) h = none_left ns i (omega arith)

    all_taken : (gs : List (List Entry)) (i : ℕ) → drop i gs ≡ [] → take i gs ≡ gs
    all_taken [] zero e = refl
    all_taken [] (suc i) e = refl
    all_taken (g ∷ gs) zero e = absurd (cc e)
    all_taken (g ∷ gs) (suc i) e = ap (λ xs. g ∷ xs) (all_taken gs i e)

-- A group's run

abbrev step : Option Run → CoreEntry → Option Run
step before e = Some (joined before e.run)

pub run_more : (es : List CoreEntry) (i : ℕ) (e : CoreEntry) → i < length es → e ≡ get_or es i e → is_logged e.flag ≡ true → Some (joined (run_over (take i es)) e.run) ≡ run_over (take (i + 1) es)
run_more es i e here is logs =
    sym (ap (fold step None) (logged_more es i e here is ∙ ap (λ xs. logged_in (take i es) ++ xs) (logged_one e logs)) ∙ fold-append step None (logged_in (take i es)) (e ∷ []))

pub run_same : (es : List CoreEntry) (i : ℕ) (e : CoreEntry) → i < length es → e ≡ get_or es i e → is_logged e.flag ≡ false → run_over (take i es) ≡ run_over (take (i + 1) es)
run_same es i e here is skips =
    sym (ap (fold step None) (logged_more es i e here is ∙ ap (λ xs. logged_in (take i es) ++ xs) (logged_none e skips) ∙ append-nil (logged_in (take i es))))

-- the last sequence of entries whose runs follow one another
run_end : (first last : ℕ) → first ≤ last → first + (last + 1 - first) - 1 ≡ last
run_end first last some = omega (arith, some)

counts_end : (l : ℕ) (xs : List Entry) → IsHistory l xs → l + sum_by (λ (x : Entry). x.count) xs ≡ last_sequence l xs
counts_end l [] h = omega arith
counts_end l (x ∷ xs) h =
    let more = counts_end (last_of x) xs h.1 in
    omega (arith, more, h.0.first, h.0.some, sum_by-cons (λ (x : Entry). x.count) x xs)

ends_there : (plans : List ClientPlan) (before : Run) (es : List CoreEntry) → AllByRecursion (IsWithinPlans plans) es → fold step (Some before) es ≡ Some (record { first = before.first; last = last_sequence before.last (map (shown_entry plans) es) })
ends_there plans before [] within = refl
ends_there plans before (e ∷ es) within =
    ends_there plans (record { first = before.first; last = e.run.last }) es within.1
    ∙ ap (λ n. Some (record { first = before.first; last = last_sequence n (map (shown_entry plans) es) })) (sym (run_end e.run.first e.run.last within.0.some))

logged_within : (plans : List ClientPlan) (es : List CoreEntry) → AllByRecursion (IsWithinPlans plans) es → AllByRecursion (IsWithinPlans plans) (logged_in es)
logged_within plans [] within = tt
logged_within plans (e ∷ es) within = by (is_logged e.flag) (logged_within plans es within.1)
  where
    by : (b : Bool) → AllByRecursion (IsWithinPlans plans) (logged_in es) → AllByRecursion (IsWithinPlans plans) (if b then e ∷ logged_in es else logged_in es)
    by true more = (within.0, more)
    by false more = more

-- What the log gives of a group

-- a group without a logged entry has no record
pub none_given : (plans : List ClientPlan) (n at : ℕ) (group : List CoreEntry) → run_over group ≡ None → given n at (logged_shown plans group ∷ []) ≡ []
none_given plans n at group none = by (logged_in group) none
  where
    some_run : (before : Run) (es : List CoreEntry) → fold step (Some before) es ≡ None → ⊥
    some_run before [] e = cc
    some_run before (x ∷ es) e = some_run (joined (Some before) x.run) es e

    by : (es : List CoreEntry) → fold step None es ≡ None → given n at (map (shown_entry plans) es ∷ []) ≡ []
    by [] e = refl
    by (x ∷ es) e = absurd (some_run x.run es e)

-- the run of a group, by its record
record IsRunOf (run : Run) (from : ℕ) (xs : List Entry) : Type 0 where
  first : run.first ≡ from
  last : run.last ≡ log.last_of (log.record_of_group xs)
  counts : 0 < (log.record_of_group xs).count

run_is : (plans : List ClientPlan) (run : Run) (e : CoreEntry) (es : List CoreEntry) → AllByRecursion (IsWithinPlans plans) (e ∷ es) → RunsFollow (map (shown_entry plans) (e ∷ es)) → fold step None (e ∷ es) ≡ Some run
    → IsRunOf run e.run.first (map (shown_entry plans) (e ∷ es))
run_is plans run e es within follow is =
    let x : Entry = shown_entry plans e in
    let xs : List Entry = map (shown_entry plans) es in
    let there : Some run ≡ Some (record { first = e.run.first; last = last_sequence e.run.last xs }) = sym is ∙ ends_there plans e.run es within.1 in
    let same : run ≡ record { first = e.run.first; last = last_sequence e.run.last xs } = cc in
    let total = sum_by-cons (λ (x : Entry). x.count) x xs in
    let own : last_of x ≡ e.run.last = run_end e.run.first e.run.last within.0.some in
    let ends : last_sequence (last_of x) xs ≡ last_sequence e.run.last xs = ap (λ n. last_sequence n xs) own in
    let sums = counts_end (last_of x) xs follow in
    let some = within.0.some in
    record {
      first = ap (λ (r : Run). r.first) same;
      last = (let end : run.last ≡ last_sequence e.run.last xs = ap (λ (r : Run). r.last) same in omega (arith, end, ends, sums, own, total, some));
      counts = omega (arith, total, some);
    }

-- a record whose last sequence is before n or above `at` isn't given, and any other is
record_given : (n at : ℕ) (xs : List Entry) → given n at (xs ∷ []) ≡ (if log.is_since n at (log.record_of_group xs) then (log.record_of_group xs).bytes ∷ [] else [])
record_given n at xs = by (log.is_since n at (log.record_of_group xs))
  where
    by : (b : Bool) → map (λ (r : log.LogRecord). r.bytes) (if b then log.record_of_group xs ∷ [] else []) ≡ (if b then (log.record_of_group xs).bytes ∷ [] else [])
    by true = refl
    by false = refl

some_of : (k : ℕ) → 0 < k → (k == 0) ≡ false
some_of k h = grind (arith, nat_tests)

-- the bytes of a group's record
record_is : (plans : List ClientPlan) (e : CoreEntry) (es : List CoreEntry)
    → (log.record_of_group (map (shown_entry plans) (e ∷ es))).bytes ≡ model.batch e.run.first (flat_map (λ (e : CoreEntry). records_of plans e.client e.batch) (e ∷ es))
record_is plans e es = ap (model.batch e.run.first) (all_records (e ∷ es))
  where
    all_records : (es : List CoreEntry) → flat_map (λ (records : List Record). records) (map (λ (x : Entry). x.records) (map (shown_entry plans) es)) ≡ flat_map (λ (e : CoreEntry). records_of plans e.client e.batch) es
    all_records [] = refl
    all_records (x ∷ es) = ap (λ rs. records_of plans x.client x.batch ++ rs) (all_records es)

pub group_before : (plans : List ClientPlan) (n at : ℕ) (group : List CoreEntry) (run : Run) → AllByRecursion (IsWithinPlans plans) group → RunsFollow (logged_shown plans group) → run_over group ≡ Some run → run.last < n → given n at (logged_shown plans group ∷ []) ≡ []
group_before plans n at group run within follow is below = by (logged_in group) (logged_within plans group within) follow is
  where
    by : (es : List CoreEntry) → AllByRecursion (IsWithinPlans plans) es → RunsFollow (map (shown_entry plans) es) → fold step None es ≡ Some run → given n at (map (shown_entry plans) es ∷ []) ≡ []
    by [] within follow e = absurd (cc e)
    by (e ∷ es) within follow run_at =
        let xs : List Entry = map (shown_entry plans) (e ∷ es) in
        let run_of = run_is plans run e es within follow run_at in
        let no : nat_le n (log.last_of (log.record_of_group xs)) ≡ false = lt-leb n (log.last_of (log.record_of_group xs)) (let last = run_of.last in omega (arith, last, below)) in
        let none : log.is_since n at (log.record_of_group xs) ≡ false = ap (λ b. not b && nat_le n (log.last_of (log.record_of_group xs)) && nat_le (log.last_of (log.record_of_group xs)) at) (some_of (log.record_of_group xs).count run_of.counts)
        ∙ ap (λ b. b && nat_le (log.last_of (log.record_of_group xs)) at) no in
        record_given n at xs ∙ ap (λ b. if b then (log.record_of_group xs).bytes ∷ [] else []) none

pub group_past : (plans : List ClientPlan) (n at : ℕ) (group : List CoreEntry) (run : Run) → AllByRecursion (IsWithinPlans plans) group → RunsFollow (logged_shown plans group) → run_over group ≡ Some run → at < run.last → given n at (logged_shown plans group ∷ []) ≡ []
group_past plans n at group run within follow is above = by (logged_in group) (logged_within plans group within) follow is
  where
    both : (b c : Bool) → c ≡ false → (b && c) ≡ false
    both true c e = e
    both false c e = refl

    by : (es : List CoreEntry) → AllByRecursion (IsWithinPlans plans) es → RunsFollow (map (shown_entry plans) es) → fold step None es ≡ Some run → given n at (map (shown_entry plans) es ∷ []) ≡ []
    by [] within follow e = absurd (cc e)
    by (e ∷ es) within follow run_at =
        let xs : List Entry = map (shown_entry plans) (e ∷ es) in
        let run_of = run_is plans run e es within follow run_at in
        let no : nat_le (log.last_of (log.record_of_group xs)) at ≡ false = lt-leb (log.last_of (log.record_of_group xs)) at (let last = run_of.last in omega (arith, last, above)) in
        record_given n at xs ∙ ap (λ b. if b then (log.record_of_group xs).bytes ∷ [] else []) (both _ _ no)

pub group_given : (plans : List ClientPlan) (n at : ℕ) (group : List CoreEntry) (run : Run) (bytes : List ℕ) → AllByRecursion (IsWithinPlans plans) group → RunsFollow (logged_shown plans group) → run_over group ≡ Some run → n ≤ run.last → run.last ≤ at
    → bytes ≡ model.batch run.first (records_over plans group) → bytes ∷ [] ≡ given n at (logged_shown plans group ∷ [])
group_given plans n at group run bytes within follow is from to made = by (logged_in group) (logged_within plans group within) follow is made
  where
    by : (es : List CoreEntry) → AllByRecursion (IsWithinPlans plans) es → RunsFollow (map (shown_entry plans) es) → fold step None es ≡ Some run → bytes ≡ model.batch run.first (flat_map (λ (e : CoreEntry). records_of plans e.client e.batch) es)
        → bytes ∷ [] ≡ given n at (map (shown_entry plans) es ∷ [])
    by [] within follow e made = absurd (cc e)
    by (e ∷ es) within follow run_at made =
        let xs : List Entry = map (shown_entry plans) (e ∷ es) in
        let r = log.record_of_group xs in
        let run_of = run_is plans run e es within follow run_at in
        let last = run_of.last in
        let low : nat_le n (log.last_of r) ≡ true = le-leb n (log.last_of r) (omega (arith, last, from)) in
        let high : nat_le (log.last_of r) at ≡ true = le-leb (log.last_of r) at (omega (arith, last, to)) in
        let yes : log.is_since n at r ≡ true = ap (λ b. not b && nat_le n (log.last_of r) && nat_le (log.last_of r) at) (some_of r.count run_of.counts) ∙ ap (λ b. b && nat_le (log.last_of r) at) low ∙ high in
        let same : bytes ≡ r.bytes = made ∙ ap (λ k. model.batch k (flat_map (λ (e : CoreEntry). records_of plans e.client e.batch) (e ∷ es))) run_of.first ∙ sym (record_is plans e es) in
        ap (λ b. b ∷ []) same ∙ sym (record_given n at xs ∙ ap (λ b. if b then r.bytes ∷ [] else []) yes)

-- One entry's records more
pub over_more : (plans : List ClientPlan) (es : List CoreEntry) (i : ℕ) (e : CoreEntry) → i < length es → e ≡ get_or es i e → is_logged e.flag ≡ true → records_over plans (take i es) ++ records_of plans e.client e.batch ≡ records_over plans (take (i + 1) es)
over_more plans es i e here is logs =
    let f = λ (e : CoreEntry). records_of plans e.client e.batch in
    sym (ap (flat_map f) (logged_more es i e here is ∙ ap (λ xs. logged_in (take i es) ++ xs) (logged_one e logs)) ∙ flat_map-append f (logged_in (take i es)) (e ∷ [])
    ∙ ap (λ rs. records_over plans (take i es) ++ rs) (append-nil (f e)))

pub over_same : (plans : List ClientPlan) (es : List CoreEntry) (i : ℕ) (e : CoreEntry) → i < length es → e ≡ get_or es i e → is_logged e.flag ≡ false → records_over plans (take i es) ≡ records_over plans (take (i + 1) es)
over_same plans es i e here is skips =
    let f = λ (e : CoreEntry). records_of plans e.client e.batch in
    sym (ap (flat_map f) (logged_more es i e here is ∙ ap (λ xs. logged_in (take i es) ++ xs) (logged_none e skips) ∙ append-nil (logged_in (take i es))))
