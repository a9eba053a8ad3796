-- Logging a group keeps the core's law.
use Rattle.std.proofs.Common.{◌≡◌, ℕ, ◌<◌, ◌⊎◌, ◌==◌, ◌&&◌, not, Bool, true, false, if◌then◌else◌, List, [], ◌∷◌, ◌++◌, length, drop, map, Some, refl, ap, sym, ◌∙◌, subst, append_assoc, arith}
use Rattle.std.specs.List.{AllByRecursion, AllZip, filter, list_any, flat_map, Contains}
use Rattle.std.proofs.lemmas.List.{map-append, append-nil}
use Rattle.std.proofs.lemmas.List.Concat.{flat_map-append}
use Rattle.std.proofs.lemmas.List.Elements.{filter-append, Contains-append_left}
use Rattle.std.proofs.lemmas.List.Filters.{length-filter_both}
use Rattle.model_base.specs.History.{Entry, IsHistory, RunsFollow, last_sequence, logged_entries, is_logged}
use Rattle.model_core.specs.Core.{Options, Writer, LogPhase, free, led, built, stalled, in_log, marked, handed, TablePhase, still, launched, published, State, leads, has_run, is_alone, table_group, with_runs, entries_of}
use Rattle.model_core.specs.Step.{log_group, logged_group, with_group, is_unlogged}
use Rattle.model_core.specs.CoreLaw.{IsCore, IsTable, IsEntryOf, IsInsertedAhead, IsLoggedAsOne, AreParts, is_logged_group, unpublished_groups, in_order, waiting_clients, writers_in, unpublished_writers, HasInserted, HasWork, AreWrites, SameLogFlag}
use Rattle.model_core_laws.proofs.Groups.{are_writes}
use Rattle.model_core_laws.proofs.Histories.{history_more, last_sequence_append, runs_follow}
use Rattle.model_core_laws.proofs.KeptByLeaving.{client_of, order_parts, left_core}
use Rattle.model_core_laws.proofs.Lists.{all_append, all_front, all_back, all_of, all_weaker, zip_append, and_parts}
use Rattle.model_core_laws.proofs.Relined.{same_line, same_table, kept_order}
use Rattle.model_core_laws.proofs.Runs.{Counts, counts_of, work_of, same_clients, still_counted, still_writes, same_log_flag, runs_history, runs_entries, runs_some, all_as_first, logged_of}
use Rattle.model_core_laws.proofs.Tables.{AddsNobody, when_some}

-- the group joins the unpublished ones
ahead_more : (o : Options) (s : State) (us vs : List Writer) (xs : List Entry) → s.log ≡ built us → (table : TablePhase) → IsTable o s table → unpublished_writers o (with_group s vs xs) table ≡ unpublished_writers o s table ++ vs
ahead_more o s us vs xs log still is = rw log (rw (append-nil (writers_in s.second)) refl)
ahead_more o s us vs xs log (launched ins fin) is = rw log (rw (append-nil (writers_in s.second)) refl)
ahead_more o s us vs xs log published is = by_stage o.pipelined refl
  where
    by_stage : (b : Bool) → o.pipelined ≡ b → unpublished_writers o (with_group s vs xs) published ≡ unpublished_writers o s published ++ vs
    by_stage true two = rw (two, log) (by_second s.second)
      where
        by_second : (wss : List (List Writer)) → unpublished_writers (record o { pipelined = true }) (with_group (record s { second = wss }) vs xs) published ≡ unpublished_writers (record o { pipelined = true }) (record s { second = wss; log = built us }) published ++ vs
        by_second [] = refl
        by_second (w ∷ wss) = rw (append-nil (writers_in wss)) refl
    by_stage false one = absurd (let none : 0 < 0 = rw (one, log) at is in omega (arith, none))

-- if there is a group in the table, it stays the same
table_more : (o : Options) (s : State) (us vs : List Writer) (xs : List Entry) → s.log ≡ built us → (b : Bool) → o.pipelined ≡ b → (table : TablePhase) → IsTable o s table
    → IsTable o (with_group s vs xs) table
table_more o s us vs xs log b stage still is = tt
table_more o s us vs xs log true two published is = same_table o s (with_group s vs xs) published (rw two refl) is
table_more o s us vs xs log true two (launched ins fin) is = same_table o s (with_group s vs xs) (launched ins fin) (rw two refl) is
table_more o s us vs xs log false one published is = absurd (let none : 0 < 0 = rw (one, log) at is in omega (arith, none))
table_more o s us vs xs log false one (launched ins fin) is = absurd (let none : 0 < 0 = rw (one, log) at is.0 in omega (arith, none))

inserted_more : (o : Options) (s : State) (us vs : List Writer) (xs : List Entry) → s.log ≡ built us → (b : Bool) → o.pipelined ≡ b → (table : TablePhase) → IsTable o s table
    → AllByRecursion (HasInserted s.inserted table) (filter has_run (table_group o s)) → AllByRecursion (HasInserted s.inserted table) (filter has_run (table_group o (with_group s vs xs)))
inserted_more o s us vs xs log b stage still is have = all_of (HasInserted s.inserted still) (λ w. tt) (filter has_run (table_group o (with_group s vs xs)))
inserted_more o s us vs xs log b stage published is have = all_of (HasInserted s.inserted published) (λ w. tt) (filter has_run (table_group o (with_group s vs xs)))
inserted_more o s us vs xs log true two (launched ins fin) is have =
    let group : table_group o s ≡ table_group o (with_group s vs xs) = rw two refl in
    subst (λ ws. AllByRecursion (HasInserted s.inserted (launched ins fin)) (filter has_run ws)) group have
inserted_more o s us vs xs log false one (launched ins fin) is have = absurd (let none : 0 < 0 = rw (one, log) at is.0 in omega (arith, none))

-- the parts of the logged groups, after one more group that is logged or isn't
abbrev pub parts_with : Bool → List (List Entry) → List Entry → List (List Entry)
parts_with unlogged parts xs = if unlogged then parts else parts ++ xs ∷ []

pub parts_cut : (b : Bool) (entries xs : List Entry) (parts : List (List Entry)) → logged_entries entries ≡ flat_map (λ p. p) parts → logged_entries xs ≡ (if b then [] else xs)
    → logged_entries (entries ++ xs) ≡ flat_map (λ p. p) (parts_with b parts xs)
parts_cut true entries xs parts cut new = filter-append (λ (e : Entry). is_logged e.flag) entries xs ∙ rw (cut, new) (append-nil (flat_map (λ p. p) parts))
parts_cut false entries xs parts cut new = filter-append (λ (e : Entry). is_logged e.flag) entries xs ∙ rw (cut, new) (sym (flat_map-append (λ (p : List Entry). p) parts (xs ∷ []) ∙ ap (λ ys. flat_map (λ p. p) parts ++ ys) (append-nil xs)))

pub parts_sized : (b : Bool) (groups : List ℕ) (xs : List Entry) (parts : List (List Entry)) → groups ≡ map length parts
    → (if b then groups else groups ++ length xs ∷ []) ≡ map length (parts_with b parts xs)
parts_sized true groups xs parts e = e
parts_sized false groups xs parts e = rw e (sym (map-append length parts (xs ∷ [])))

parts_all : (P : List Entry → Type 0) (b : Bool) (xs : List Entry) (parts : List (List Entry)) → P xs → AllByRecursion P parts → AllByRecursion P (parts_with b parts xs)
parts_all P true xs parts p a = a
parts_all P false xs parts p a = all_append P parts (xs ∷ []) a (p, tt)

-- the group is one more of those that aren't published, and the last part, if it is logged
groups_more : (o : Options) (s : State) (us vs : List Writer) (xs : List Entry) → s.log ≡ built us → (table : TablePhase) → IsTable o s table → unpublished_groups o (with_group s vs xs) table ≡ unpublished_groups o s table ++ vs ∷ []
groups_more o s us vs xs log still is = rw log (rw (append-nil s.second) refl)
groups_more o s us vs xs log (launched ins fin) is = rw log (rw (append-nil s.second) refl)
groups_more o s us vs xs log published is = by_stage o.pipelined refl
  where
    by_stage : (b : Bool) → o.pipelined ≡ b → unpublished_groups o (with_group s vs xs) published ≡ unpublished_groups o s published ++ vs ∷ []
    by_stage true two = rw (two, log) (rw (append-nil (drop 1 s.second)) refl)
    by_stage false one = absurd (let none : 0 < 0 = rw (one, log) at is in omega (arith, none))

-- whether a group of entries is logged, by what is logged of it
logged_whole : (b : Bool) (xs : List Entry) → 0 < length xs → logged_entries xs ≡ (if b then [] else xs) → is_logged_group xs ≡ not b
logged_whole b [] some e = absurd (omega arith)
logged_whole b (x ∷ xs) some e = by b (is_logged x.flag) refl e
  where
    by : (b c : Bool) → is_logged x.flag ≡ c → logged_entries (x ∷ xs) ≡ (if b then [] else x ∷ xs) → is_logged x.flag ≡ not b
    by true true is e = absurd (let never : x ∷ logged_entries xs ≡ [] = rw is at e in cc)
    by true false is e = is
    by false true is e = is
    by false false is e = absurd (
        let fewer : logged_entries xs ≡ x ∷ xs = rw is at e in
        let parts = length-filter_both (λ (e : Entry). is_logged e.flag) (λ (e : Entry). not (is_logged e.flag)) (λ e. refl) xs in
        let more : length (logged_entries xs) ≡ length (x ∷ xs) = ap length fewer in
        omega (arith, parts, more))

parts_more : (o : Options) (s : State) (us vs : List Writer) (xs : List Entry) → s.log ≡ built us → (b : Bool) → logged_entries xs ≡ (if b then [] else xs) → 0 < length xs → AllZip IsEntryOf (filter has_run vs) xs → (core : IsCore o s)
    → AreParts o (with_group s vs xs) core.front (core.is_boundary.rest ++ xs) (parts_with b core.parts xs)
parts_more o s us vs xs log b whole some entries core =
    let is = core.at_boundary in
    let logged = logged_whole b xs some whole in record {
      before = is.before;
      cut = is.cut;
      ahead = is.ahead ++ xs ∷ [];
      each = rw (groups_more o s us vs xs log s.table core.is_table)
          (zip_append (λ (ws : List Writer) (ys : List Entry). AllZip IsEntryOf (filter has_run ws) ys) (unpublished_groups o s s.table) is.ahead (vs ∷ []) (xs ∷ []) is.each (entries, tt));
      all = ap (λ ys. ys ++ xs) is.all ∙ sym (flat_map-append (λ (p : List Entry). p) is.ahead (xs ∷ []) ∙ ap (λ ys. flat_map (λ p. p) is.ahead ++ ys) (append-nil xs));
      as_one = all_append IsLoggedAsOne is.ahead (xs ∷ []) is.as_one (as_one b whole logged, tt);
      split = by b logged;
    }
  where
    as_one : (b : Bool) → logged_entries xs ≡ (if b then [] else xs) → is_logged_group xs ≡ not b → IsLoggedAsOne xs
    as_one true whole logged = rw logged whole
    as_one false whole logged = rw logged whole

    by : (b : Bool) → is_logged_group xs ≡ not b → parts_with b core.parts xs ≡ core.at_boundary.before ++ filter is_logged_group (core.at_boundary.ahead ++ xs ∷ [])
    by true logged = core.at_boundary.split ∙ sym (ap (λ ps. core.at_boundary.before ++ ps) (filter-append is_logged_group core.at_boundary.ahead (xs ∷ []) ∙ rw logged (append-nil (filter is_logged_group core.at_boundary.ahead))))
    by false logged = ap (λ ps. ps ++ xs ∷ []) core.at_boundary.split ∙ (append_assoc core.at_boundary.before (filter is_logged_group core.at_boundary.ahead) (xs ∷ [])
        ∙ sym (ap (λ ps. core.at_boundary.before ++ ps) (filter-append is_logged_group core.at_boundary.ahead (xs ∷ []) ∙ rw logged refl)))

same_order : (s : State) (us vs : List Writer) (xs : List Entry) → s.log ≡ built us → map client_of us ≡ map client_of vs → in_order s ≡ in_order (with_group s vs xs)
same_order s us vs xs log e = order_parts s ∙ (rw (log, e) refl ∙ sym (order_parts (with_group s vs xs)))

grouped : (o : Options) (s : State) (us : List Writer) → s.log ≡ built us → AreWrites us → list_any has_run (with_runs s.assigned us) ≡ true → s.log_failed ≡ false → IsCore o s
    → IsCore o (with_group s (with_runs s.assigned us) (entries_of s (with_runs s.assigned us))) × AddsNobody s (with_group s (with_runs s.assigned us) (entries_of s (with_runs s.assigned us)))
grouped o s us log writes some alive core =
    let vs = with_runs s.assigned us in let xs = entries_of s vs in let t : State = with_group s vs xs in
    let order : in_order s ≡ in_order t = same_order s us vs xs log (same_clients s.assigned us) in
    let line = same_line (waiting_clients s) (waiting_clients t) (ap (λ line. line ++ map client_of s.leaving) order) in
    let work : AllByRecursion HasWork (us ++ s.queue) = rw log at core.counted in
    let counted : AllByRecursion Counts us = counts_of us writes (all_front HasWork us s.queue work) in
    let flag : SameLogFlag vs = same_log_flag s.assigned us (rw log at core.one_log_flag) in
    let new : IsHistory s.assigned xs = runs_history s s.assigned us counted in
    let length_is : 0 < length xs = runs_some s s.assigned us some in (
      record {
        once = λ c client is. line.counts (λ n. n == c) ∙ core.once c client is;
        clients = line.all _ core.clients;
        led_is_first = tt;
        single_stage = core.single_stage;
        unmarked = λ one. tt;
        counted = all_append HasWork vs s.queue (work_of vs (still_counted s.assigned us counted)) (all_back HasWork us s.queue work);
        alone = still_writes s.assigned us writes;
        one_log_flag = flag;
        is_history = history_more o.start s.entries xs core.is_history (subst (λ n. IsHistory n xs) core.assigned new);
        assigned = ap (λ n. last_sequence n xs) core.assigned ∙ sym (last_sequence_append o.start s.entries xs);
        front = core.front;
        is_boundary = record { rest = core.is_boundary.rest ++ xs; split = ap (λ es. es ++ xs) core.is_boundary.split ∙ append_assoc core.front core.is_boundary.rest xs; ends = core.is_boundary.ends };
        ahead = rw (ahead_more o s us vs xs log s.table core.is_table, filter-append has_run (unpublished_writers o s s.table) vs)
            (zip_append IsEntryOf (filter has_run (unpublished_writers o s s.table)) core.is_boundary.rest (filter has_run vs) xs core.ahead (runs_entries s s.assigned us));
        in_table = core.in_table;
        from_entries = all_weaker (λ x. Contains s.entries x × (Contains core.front x ⊎ IsInsertedAhead s.table x)) (λ x. Contains (s.entries ++ xs) x × (Contains core.front x ⊎ IsInsertedAhead s.table x))
            (λ x h. (Contains-append_left s.entries xs x h.0, h.1)) s.inserted core.from_entries;
        is_table = table_more o s us vs xs log o.pipelined refl s.table core.is_table;
        has_inserted = inserted_more o s us vs xs log o.pipelined refl s.table core.is_table core.has_inserted;
        parts = parts_with (is_unlogged vs) core.parts xs;
        cut = parts_cut (is_unlogged vs) s.entries xs core.parts core.cut (logged_of s (is_unlogged vs) vs (all_as_first vs flag));
        groups = parts_sized (is_unlogged vs) s.groups xs core.parts core.groups;
        none_empty = parts_all (λ p. 0 < length p) (is_unlogged vs) xs core.parts length_is core.none_empty;
        runs = parts_all RunsFollow (is_unlogged vs) xs core.parts (runs_follow s.assigned xs new) core.runs;
        at_boundary = parts_more o s us vs xs log (is_unlogged vs) (logged_of s (is_unlogged vs) vs (all_as_first vs flag)) length_is (runs_entries s s.assigned us) core;
      },
      kept_order s t order (λ log_failed. absurd (cc)),
    )

pub kept_by_log : (o : Options) (s t : State) (c : ℕ) → IsCore o s → log_group s c s.log ≡ Some t → IsCore o t × AddsNobody s t
kept_by_log o s t c core e = by_phase s.log refl e
  where
    by_runs : (ws : List Writer) (b : Bool) → s.log ≡ built ws → AreWrites ws → s.log_failed ≡ false → list_any has_run (with_runs s.assigned ws) ≡ b
        → IsCore o (logged_group s (with_runs s.assigned ws)) × AddsNobody s (logged_group s (with_runs s.assigned ws))
    by_runs ws true is writes alive some = rw some (grouped o s ws is writes some alive core)
    by_runs ws false is writes alive none = rw none (left_core o s ws (with_runs s.assigned ws) s.log_failed is (same_clients s.assigned ws) (λ was. was) core)

    not_failed : (b : Bool) → not b ≡ true → b ≡ false
    not_failed false e = refl
    not_failed true e = absurd (cc)

    by_phase : (phase : LogPhase) → s.log ≡ phase → log_group s c phase ≡ Some t → IsCore o t × AddsNobody s t
    by_phase (built ws) is e = let h = when_some (leads c ws && not (is_alone ws) && not s.log_failed) (logged_group s (with_runs s.assigned ws)) t e in
        let parts = and_parts (leads c ws && not (is_alone ws)) (not s.log_failed) h.0 in
        let writes = are_writes ws (rw is at core.alone) (and_parts (leads c ws) (not (is_alone ws)) parts.0).1 in
        subst (λ t. IsCore o t × AddsNobody s t) h.1 (by_runs ws (list_any has_run (with_runs s.assigned ws)) is writes (not_failed s.log_failed parts.1) refl)
    by_phase free is e = absurd (cc)
    by_phase (led d) is e = absurd (cc)
    by_phase (in_log ws) is e = absurd (cc)
    by_phase (stalled ws) is e = absurd (cc)
    by_phase (marked ws) is e = absurd (cc)
    by_phase (handed d) is e = absurd (cc)
