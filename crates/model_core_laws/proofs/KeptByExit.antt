-- The exit of a published group, and of who has read the log, keeps the core's law.
use Rattle.std.proofs.Common.{◌≡◌, ℕ, ◌<◌, Bool, true, false, List, [], ◌∷◌, ◌++◌, length, map, filter, if◌then◌else◌, Some, IsSome, inl, refl, ap, sym, ◌∙◌, subst, arith, append_assoc, le_of_eq}
use Rattle.std.specs.List.{AllByRecursion, AllZip}
use Rattle.std.proofs.lemmas.List.{map-append}
use Rattle.model_base.specs.History.{Entry}
use Rattle.model_core.specs.Core.{Options, Writer, Client, LogPhase, free, led, built, stalled, in_log, marked, handed, TablePhase, still, launched, published, State, client_at, leads, has_run, table_group}
use Rattle.model_core.specs.Step.{exit, exit_reader, has_read, leave, without_table_group}
use Rattle.model_core.specs.CoreLaw.{IsCore, HasInserted, IsEntryOf, IsSubsequence, writers_in, hand, waiting_clients, in_order}
use Rattle.model_core_laws.proofs.KeptByLeaving.{left_core, left_of}
use Rattle.model_core_laws.proofs.Lists.{all_back}
use Rattle.model_core_laws.proofs.Tables.{AddsNobody, when_some, all_fewer, subsequence_self, subsequence_after, keeps, with_table, times, there_append, waiting_parts, some_led, parts_same}

-- the state once the group has left
abbrev exited : Options → State → State
exited o s = record (leave (without_table_group o s) (table_group o s)) { table = still }

abbrev with_groups : State → List (List Writer) → LogPhase → TablePhase → State
with_groups s second log table = record s { second = second; log = log; table = table }

still_inserted : (inserted : List Entry) (ws : List Writer) → AllByRecursion (HasInserted inserted still) ws
still_inserted inserted [] = tt
still_inserted inserted (w ∷ ws) = (tt, still_inserted inserted ws)

-- where some are taken out of the middle, nobody overtakes another
left_out : (xs ys zs : List Writer) → IsSubsequence (map (λ (w : Writer). w.client) ((xs ++ []) ++ zs)) (map (λ (w : Writer). w.client) ((xs ++ ys) ++ zs))
left_out [] ys zs = subst (λ ns. IsSubsequence (map (λ (w : Writer). w.client) zs) ns) (sym (map-append (λ (w : Writer). w.client) ys zs))
    (subsequence_after (map (λ (w : Writer). w.client) ys) (map (λ (w : Writer). w.client) zs) (map (λ (w : Writer). w.client) zs) (subsequence_self (map (λ (w : Writer). w.client) zs)))
left_out (x ∷ xs) ys zs = inl (refl, left_out xs ys zs)

-- the first group of the second queue leaves
module _ (o : Options) (s : State) (ws : List Writer) (wss : List (List Writer)) (log : LogPhase) (core : IsCore (record o { pipelined = true }) (with_groups s (ws ∷ wss) log published)) where
  abbrev before : State
  before = with_groups s (ws ∷ wss) log published

  abbrev after : State
  after = record (with_groups s wss log still) { leaving = s.leaving ++ ws }

  as_often : (c : ℕ) → times c (waiting_clients after) ≡ times c (waiting_clients before)
  as_often c =
      let a = waiting_parts c after in
      let b = waiting_parts c before in
      let d = there_append c ws (writers_in wss) in
      let e = there_append c s.leaving ws in
      omega arith

  from_second : IsCore (record o { pipelined = true }) after
  from_second = record {
    once = λ (c : ℕ) (client : Client) is. as_often c ∙ core.once c client is;
    clients = all_fewer (λ c. IsSome (client_at s c)) (waiting_clients before) (waiting_clients after) (λ (c : ℕ). le_of_eq (as_often c)) core.clients;
    led_is_first = core.led_is_first;
    single_stage = λ e. absurd (cc);
    unmarked = λ e. absurd (cc);
    counted = core.counted;
    alone = core.alone;
    one_log_flag = core.one_log_flag;
    is_history = core.is_history;
    assigned = core.assigned;
    front = core.front;
    is_boundary = core.is_boundary;
    ahead = core.ahead;
    in_table = core.in_table;
    from_entries = core.from_entries;
    is_table = tt;
    has_inserted = still_inserted s.inserted (filter has_run (table_group (record o { pipelined = true }) after));
    parts = core.parts;
    cut = core.cut;
    groups = core.groups;
    none_empty = core.none_empty;
    runs = core.runs;
    at_boundary = parts_same (record o { pipelined = true }) before after core.front core.is_boundary.rest core.parts refl core.at_boundary;
  }

  order_of_second : AddsNobody before after
  order_of_second = keeps before after (
      let regroup : ((ws ++ writers_in wss) ++ hand log) ++ s.queue ≡ ws ++ ((writers_in wss ++ hand log) ++ s.queue) =
      ap (λ xs. xs ++ s.queue) (append_assoc ws (writers_in wss) (hand log)) ∙ append_assoc ws (writers_in wss ++ hand log) s.queue in
      subst (λ ns. IsSubsequence (in_order after) ns)
      (sym (ap (map (λ (w : Writer). w.client)) regroup ∙ map-append (λ (w : Writer). w.client) ws ((writers_in wss ++ hand log) ++ s.queue)))
      (subsequence_after (map (λ (w : Writer). w.client) ws) (in_order after) (in_order after) (subsequence_self (in_order after)))) refl refl

-- the group in the log leaves
module _ (o : Options) (s : State) (second : List (List Writer)) (ws : List Writer) (core : IsCore (record o { pipelined = false }) (with_groups s second (in_log ws) published)) where
  abbrev with_log : State
  with_log = with_groups s second (in_log ws) published

  abbrev with_free : State
  with_free = record (with_groups s second free still) { leaving = s.leaving ++ ws }

  as_often_single : (c : ℕ) → times c (waiting_clients with_free) ≡ times c (waiting_clients with_log)
  as_often_single c =
      let a = waiting_parts c with_free in
      let b = waiting_parts c with_log in
      let e = there_append c s.leaving ws in
      omega arith

  from_log : IsCore (record o { pipelined = false }) with_free
  from_log = record {
    once = λ (c : ℕ) (client : Client) is. as_often_single c ∙ core.once c client is;
    clients = all_fewer (λ c. IsSome (client_at s c)) (waiting_clients with_log) (waiting_clients with_free) (λ (c : ℕ). le_of_eq (as_often_single c)) core.clients;
    led_is_first = tt;
    single_stage = core.single_stage;
    unmarked = λ e. tt;
    counted = all_back _ ws s.queue core.counted;
    alone = tt;
    one_log_flag = tt;
    is_history = core.is_history;
    assigned = core.assigned;
    front = core.front;
    is_boundary = core.is_boundary;
    ahead = subst (λ wss. AllZip IsEntryOf (filter has_run (writers_in wss ++ [])) core.is_boundary.rest) (sym (core.single_stage refl)) core.ahead;
    in_table = core.in_table;
    from_entries = core.from_entries;
    is_table = tt;
    has_inserted = tt;
    parts = core.parts;
    cut = core.cut;
    groups = core.groups;
    none_empty = core.none_empty;
    runs = core.runs;
    at_boundary = parts_same (record o { pipelined = false }) with_log with_free core.front core.is_boundary.rest core.parts (sym (ap (λ wss. wss ++ []) (core.single_stage refl))) core.at_boundary;
  }

  order_of_log : AddsNobody with_log with_free
  order_of_log = keeps with_log with_free (left_out (writers_in second) ws s.queue) refl refl

exiting : (o : Options) (s : State) (pipelined : Bool) (second : List (List Writer)) (log : LogPhase)
    → 0 < length (table_group (record o { pipelined = pipelined }) (with_groups s second log published))
    → IsCore (record o { pipelined = pipelined }) (with_groups s second log published)
    → IsCore (record o { pipelined = pipelined }) (exited (record o { pipelined = pipelined }) (with_groups s second log published))
    × AddsNobody (with_groups s second log published) (exited (record o { pipelined = pipelined }) (with_groups s second log published))
exiting o s true [] log some core = absurd (omega arith)
exiting o s true (ws ∷ wss) log some core = (from_second o s ws wss log core, order_of_second o s ws wss log core)
exiting o s false second (in_log ws) some core = (from_log o s second ws core, order_of_log o s second ws core)
exiting o s false second free some core = absurd (omega arith)
exiting o s false second (led c) some core = absurd (omega arith)
exiting o s false second (built ws) some core = absurd (omega arith)
exiting o s false second (stalled ws) some core = absurd (omega arith)
exiting o s false second (marked ws) some core = absurd (omega arith)
exiting o s false second (handed c) some core = absurd (omega arith)

-- who has read the log leaves, as the only one of its group
reader_left : (o : Options) (s t : State) (c : ℕ) (phase : LogPhase) → s.log ≡ phase → IsCore o s → exit_reader s c phase ≡ Some t → IsCore o t × AddsNobody s t
reader_left o s t c (built (w ∷ [])) is core e =
    let h = when_some (has_read c w) (left_of s (w ∷ []) s.log_failed) t e in
    subst (λ t. IsCore o t × AddsNobody s t) h.1 (left_core o s (w ∷ []) (w ∷ []) s.log_failed is refl (λ was. was) core)
reader_left o s t c (built []) is core e = absurd (cc)
reader_left o s t c (built (w ∷ v ∷ ws)) is core e = absurd (cc)
reader_left o s t c free is core e = absurd (cc)
reader_left o s t c (led d) is core e = absurd (cc)
reader_left o s t c (stalled ws) is core e = absurd (cc)
reader_left o s t c (in_log ws) is core e = absurd (cc)
reader_left o s t c (marked ws) is core e = absurd (cc)
reader_left o s t c (handed d) is core e = absurd (cc)

-- the event at a state whose table is published
at_published : (o : Options) (s t : State) (c : ℕ) → IsCore o (with_table s published) → exit o (with_table s published) c published ≡ Some t → IsCore o t × AddsNobody (with_table s published) t
at_published o s t c core e =
    by_leader (leads c (table_group o s)) refl e
  where
    by_leader : (b : Bool) → leads c (table_group o s) ≡ b → (if b then Some (exited o (with_table s published)) else exit_reader (with_table s published) c s.log) ≡ Some t → IsCore o t × AddsNobody (with_table s published) t
    by_leader true is e = let after : exited o (with_table s published) ≡ t = cc in
        subst (λ (x : State). IsCore o x × AddsNobody (with_table s published) x) after (exiting o s o.pipelined s.second s.log (some_led c (table_group o s) is) core)
    by_leader false is e = reader_left o (with_table s published) t c s.log refl core e

pub kept_by_exit : (o : Options) (s t : State) (c : ℕ) → IsCore o s → exit o s c s.table ≡ Some t → IsCore o t × AddsNobody s t
kept_by_exit o s t c core e = by_phase s.table refl e
  where
    by_phase : (phase : TablePhase) → s.table ≡ phase → exit o s c phase ≡ Some t → IsCore o t × AddsNobody s t
    by_phase published is e = subst (λ (x : State). IsCore o x → exit o x c published ≡ Some t → IsCore o t × AddsNobody x t) (sym (ap (with_table s) is)) (at_published o s t c) core e
    by_phase still is e = reader_left o s t c s.log refl core e
    by_phase (launched ins fin) is e = reader_left o s t c s.log refl core e
