-- What the laws of the memtable's events share: lists, counts, and the groups that aren't published yet.
use Rattle.std.proofs.Common.{◌≡◌, ℕ, ◌+◌, ◌<◌, ◌≤◌, Bool, true, false, cond, ◌==◌, List, [], ◌∷◌, ◌++◌, length, map, filter, count_by, Option, Some, None, is_some, if◌then◌else◌, ◌⊎◌, inl, inr, refl, ap, sym, ◌∙◌, subst, arith, append_assoc, append-nil, zero-add}
use Rattle.std.specs.List.{AllByRecursion, AllZip}
use Rattle.std.proofs.lemmas.List.{map-append}
use Rattle.std.proofs.lemmas.List.Elements.{filter-append}
use Rattle.std.proofs.lemmas.List.Sums.{sum_by-append}
use Rattle.std.proofs.lemmas.List.Folds.{list_any-append}
use Rattle.std.proofs.lemmas.Bool.{or_cases, or_left, or_right, eqb-true, eq-eqb, cond-true, cond-false, cases_lt}
use Rattle.model_base.specs.History.{Entry}
use Rattle.model_core.specs.Core.{Options, Writer, Client, client_at, leads, LogPhase, free, led, built, stalled, in_log, marked, handed, TablePhase, launched, published, State, has_run, table_group, in_hand, among}
use Rattle.model_core.specs.CoreLaw.{IsCore, IsSubsequence, in_order, waiting_clients, writers_in, hand, hand_with_runs, unpublished_writers, group_with_runs, unpublished_groups, AreParts, IsEntryOf}
use Rattle.model_core.specs.Step.{when}
use Rattle.model_core_laws.proofs.Lists.{Parted, parted}

pub when_some : (b : Bool) (x y : State) → when b x ≡ Some y → (b ≡ true) × (x ≡ y)
when_some true x y e = (refl, cc)
when_some false x y e = absurd (cc)

-- Numbers of clients

pub among_push : (c d : ℕ) (cs : List ℕ) → among c cs ≡ true → among c (cs ++ d ∷ []) ≡ true
among_push c d cs h = list_any-append (λ n. n == c) cs (d ∷ []) ∙ or_left (among c cs) _ h

pub among_last : (c : ℕ) (cs : List ℕ) → among c (cs ++ c ∷ []) ≡ true
among_last c cs = list_any-append (λ n. n == c) cs (c ∷ []) ∙ or_right (among c cs) _ (or_left (c == c) false (eq-eqb c c refl))

pub among_cases : (c d : ℕ) (cs : List ℕ) → among c (cs ++ d ∷ []) ≡ true → (among c cs ≡ true) ⊎ (d ≡ c)
among_cases c d cs h = elim (or_cases (among c cs) _ (sym (list_any-append (λ n. n == c) cs (d ∷ [])) ∙ h)) as (λ _. (among c cs ≡ true) ⊎ (d ≡ c)) [
  | inl old ↦ inl old
  | inr new ↦ elim (or_cases (d == c) false new) as (λ _. (among c cs ≡ true) ⊎ (d ≡ c)) [ inl same ↦ inr (eqb-true d c same) | inr never ↦ absurd (cc) ]
]

-- how often a client is there
abbrev pub times : ℕ → List ℕ → ℕ
times c cs = count_by (λ n. n == c) cs

pub times_append : (c : ℕ) (xs ys : List ℕ) → times c (xs ++ ys) ≡ times c xs + times c ys
times_append c xs ys = sum_by-append (λ n. cond (n == c) 1 0) xs ys

pub times_cons : (c d : ℕ) (cs : List ℕ) → times c (d ∷ cs) ≡ cond (d == c) 1 0 + times c cs
times_cons c d cs = times_append c (d ∷ []) cs ∙ ap (λ n. n + times c cs) (zero-add _)

pub times_here : (c : ℕ) (cs : List ℕ) → times c (c ∷ cs) ≡ 1 + times c cs
times_here c cs = times_cons c c cs ∙ ap (λ b. cond b 1 0 + times c cs) (eq-eqb c c refl)

pub times_among : (c : ℕ) (cs : List ℕ) → among c cs ≡ true → 1 ≤ times c cs
times_among c [] h = absurd (cc)
times_among c (d ∷ cs) h = by (or_cases (d == c) (among c cs) h) (times_among c cs)
  where
    by : ((d == c) ≡ true) ⊎ (among c cs ≡ true) → (among c cs ≡ true → 1 ≤ times c cs) → 1 ≤ times c (d ∷ cs)
    by (inl here) later = let e = times_cons c d cs in let f : cond {A = ℕ} (d == c) 1 0 ≡ 1 = cond-true {A = ℕ} (d == c) 1 0 here in omega arith
    by (inr there) later = let e = times_cons c d cs in let f = later there in omega arith

pub among_from_all : (P : ℕ → Type 0) (c : ℕ) (cs : List ℕ) → AllByRecursion P cs → among c cs ≡ true → P c
among_from_all P c [] h is = absurd (cc)
among_from_all P c (d ∷ cs) h is = elim (or_cases (d == c) (among c cs) is) as (λ _. P c) [
  | inl here ↦ subst P (eqb-true d c here) h.0
  | inr later ↦ among_from_all P c cs h.1 later
]

pub among_from_times : (c : ℕ) (cs : List ℕ) → 1 ≤ times c cs → among c cs ≡ true
among_from_times c [] h = absurd (omega arith)
among_from_times c (d ∷ cs) h = by (d == c) refl (among_from_times c cs)
  where
    by : (b : Bool) → (d == c) ≡ b → (1 ≤ times c cs → among c cs ≡ true) → among c (d ∷ cs) ≡ true
    by true is later = or_left (d == c) (among c cs) is
    by false is later = or_right (d == c) (among c cs) (later (let e = times_cons c d cs in let f : cond {A = ℕ} (d == c) 1 0 ≡ 0 = cond-false {A = ℕ} (d == c) 1 0 is in omega arith))

-- what holds of all in a list holds of all in a second list that has nobody more often
pub all_fewer : (P : ℕ → Type 0) (xs ys : List ℕ) → ((c : ℕ) → times c ys ≤ times c xs) → AllByRecursion P xs → AllByRecursion P ys
all_fewer P xs ys fewer h = go ys (λ c is. is)
  where
    there : (c : ℕ) → among c ys ≡ true → P c
    there c is = among_from_all P c xs h (among_from_times c xs (let a = times_among c ys is in let b = fewer c in omega arith))

    go : (zs : List ℕ) → ((c : ℕ) → among c zs ≡ true → among c ys ≡ true) → AllByRecursion P zs
    go [] within = tt
    go (z ∷ zs) within = (there z (within z (or_left (z == z) (among z zs) (eq-eqb z z refl))), go zs (λ c is. within c (or_right (z == c) (among c zs) is)))

-- Nobody overtakes another

pub subsequence_self : (xs : List ℕ) → IsSubsequence xs xs
subsequence_self [] = tt
subsequence_self (x ∷ xs) = inl (refl, subsequence_self xs)

pub subsequence_after : (ws xs ys : List ℕ) → IsSubsequence xs ys → IsSubsequence xs (ws ++ ys)
subsequence_after [] xs ys h = h
subsequence_after (w ∷ ws) [] ys h = tt
subsequence_after (w ∷ ws) (x ∷ xs) ys h = inr (subsequence_after ws (x ∷ xs) ys h)

pub subsequence_both : (ws xs zs : List ℕ) → IsSubsequence xs zs → IsSubsequence (ws ++ xs) (ws ++ zs)
subsequence_both [] xs zs a = a
subsequence_both (w ∷ ws) xs zs a = inl (refl, subsequence_both ws xs zs a)

-- what is kept by an event that adds nobody to the line
pub record AddsNobody (old new : State) : Type 0 where
  pub order : IsSubsequence (in_order new) (in_order old)
  pub log_failed : old.log_failed ≡ true → (new.entries ≡ old.entries) × (new.log_failed ≡ true)

-- an event that gives no runs
pub keeps : (s t : State) → IsSubsequence (in_order t) (in_order s) → t.entries ≡ s.entries → t.log_failed ≡ s.log_failed → AddsNobody s t
keeps s t order entries log_failed = record { order = order; log_failed = λ was. (entries, log_failed ∙ was) }

-- The groups that aren't published yet

-- the state with another phase of the table
abbrev pub with_table : State → TablePhase → State
with_table s phase = record s { table = phase }

pub keeps_with_table : (s : State) (a b : TablePhase) (inserted : List Entry) (last : ℕ) → AddsNobody (with_table s a) (record (with_table s b) { inserted = inserted; last = last })
keeps_with_table s a b inserted last = keeps (with_table s a) (record (with_table s b) { inserted = inserted; last = last }) (subsequence_self (in_order s)) refl refl

-- the groups with runs are the group in the table, and after it those that wait for the table
pub split_groups : (o : Options) (s : State) (pipelined : Bool) (second : List (List Writer)) (log : LogPhase)
    → (pipelined ≡ false → second ≡ [])
    → 0 < length (table_group (record o { pipelined = pipelined }) (record s { second = second; log = log }))
    → writers_in second ++ hand_with_runs log
    ≡ table_group (record o { pipelined = pipelined }) (record s { second = second; log = log }) ++ unpublished_writers (record o { pipelined = pipelined }) (record s { second = second; log = log }) published
split_groups o s true [] log single some = refl
split_groups o s true (ws ∷ wss) log single some = append_assoc ws (writers_in wss) (hand_with_runs log)
split_groups o s false second log single some = ap (λ wss. writers_in wss ++ hand_with_runs log) (single refl) ∙ by log some
  where
    by : (log : LogPhase) → 0 < length (in_hand log) → hand_with_runs log ≡ in_hand log ++ []
    by (in_log ws) some = sym (append-nil ws)
    by free some = absurd (omega arith)
    by (led c) some = absurd (omega arith)
    by (built ws) some = absurd (omega arith)
    by (stalled ws) some = absurd (omega arith)
    by (marked ws) some = absurd (omega arith)
    by (handed c) some = absurd (omega arith)

pub groups_split : (o : Options) (s : State) → (o.pipelined ≡ false → s.second ≡ []) → 0 < length (table_group o s) → writers_in s.second ++ hand_with_runs s.log ≡ table_group o s ++ unpublished_writers o s published
groups_split o s single some = split_groups o s o.pipelined s.second s.log single some

-- the members of the group in the table that have runs
abbrev pub members : Options → State → List Writer
members o s = filter has_run (table_group o s)

-- Clients that wait

-- how often a client is among these members
abbrev pub there : ℕ → List Writer → ℕ
there c ws = times c (map (λ (w : Writer). w.client) ws)

pub there_append : (c : ℕ) (xs ys : List Writer) → there c (xs ++ ys) ≡ there c xs + there c ys
there_append c xs ys = ap (times c) (map-append (λ (w : Writer). w.client) xs ys) ∙ times_append c (map (λ (w : Writer). w.client) xs) (map (λ (w : Writer). w.client) ys)

pub there_filtered : (c : ℕ) (p : Writer → Bool) (ws : List Writer) → there c (filter p ws) ≤ there c ws
there_filtered c p [] = omega arith
there_filtered c p (w ∷ ws) = by (p w) (there_filtered c p ws)
  where
    by : (b : Bool) → there c (filter p ws) ≤ there c ws → there c (cond b (w ∷ filter p ws) (filter p ws)) ≤ there c (w ∷ ws)
    by true le =
        let e = times_cons c w.client (map (λ (w : Writer). w.client) ws) in
        let f = times_cons c w.client (map (λ (w : Writer). w.client) (filter p ws)) in
        omega arith
    by false le = let e = times_cons c w.client (map (λ (w : Writer). w.client) ws) in omega arith

-- how often a client is among all that wait, by the place where they wait
pub waiting_parts : (c : ℕ) (s : State) → times c (waiting_clients s) ≡ there c (writers_in s.second) + there c (hand s.log) + there c s.queue + there c s.leaving
waiting_parts c s =
    let a = times_append c (in_order s) (map (λ (w : Writer). w.client) s.leaving) in
    let b = there_append c (writers_in s.second ++ hand s.log) s.queue in
    let d = there_append c (writers_in s.second) (hand s.log) in
    omega arith

-- a client waits in one place at most, and once
pub waits_once : (o : Options) (s : State) (c : ℕ) → IsCore o s → times c (waiting_clients s) ≤ 1
waits_once o s c core = by (cases_lt 0 (times c (waiting_clients s)))
  where
    at : (client : Option Client) → client_at s c ≡ client → is_some client ≡ true → times c (waiting_clients s) ≤ 1
    at None is some = absurd (cc)
    at (Some client) is some = let e = core.once c client is in let f = at_most client.idle in omega arith
      where
        at_most : (b : Bool) → (if b then 0 else 1) ≤ 1
        at_most true = omega arith
        at_most false = omega arith

    by : (0 < times c (waiting_clients s)) ⊎ (times c (waiting_clients s) ≤ 0) → times c (waiting_clients s) ≤ 1
    by (inl some) = at (client_at s c) refl (among_from_all (λ d. is_some (client_at s d) ≡ true) c (waiting_clients s) core.clients (among_from_times c (waiting_clients s) some))
    by (inr none) = omega arith

-- a client is in the group in hand at least as often as in the group in hand with runs
pub in_hand_once : (c : ℕ) (log : LogPhase) → there c (hand_with_runs log) ≤ there c (hand log)
in_hand_once c free = omega arith
in_hand_once c (led d) = omega arith
in_hand_once c (built ws) = omega arith
in_hand_once c (stalled ws) = omega arith
in_hand_once c (in_log ws) = omega arith
in_hand_once c (marked ws) = omega arith
in_hand_once c (handed d) = omega arith

-- the entries above the published sequence: those of the launched group, and those after it
pub cut_ahead : (o : Options) (s : State) (ins fin : List ℕ) (core : IsCore o (with_table s (launched ins fin))) → Parted IsEntryOf (members o s) (filter has_run (unpublished_writers o s published)) core.is_boundary.rest
cut_ahead o s ins fin core =
    let split = groups_split o s core.single_stage core.is_table.0 in
    parted IsEntryOf (members o s) (filter has_run (unpublished_writers o s published)) core.is_boundary.rest
    (subst (λ ws. AllZip IsEntryOf ws core.is_boundary.rest) (ap (filter has_run) split ∙ filter-append has_run (table_group o s) (unpublished_writers o s published)) core.ahead)

-- the log's parts stay at the boundary where the same groups aren't published
pub parts_same : (o : Options) (s t : State) (front rest : List Entry) (parts : List (List Entry)) → unpublished_groups o s s.table ≡ unpublished_groups o t t.table → AreParts o s front rest parts → AreParts o t front rest parts
parts_same o s t front rest parts e is = record {
  before = is.before;
  cut = is.cut;
  ahead = is.ahead;
  each = subst (λ wss. AllZip (λ (ws : List Writer) (xs : List Entry). AllZip IsEntryOf (filter has_run ws) xs) wss is.ahead) e is.each;
  all = is.all;
  as_one = is.as_one;
  split = is.split;
}

-- the launched group is the first of those that aren't published
pub groups_cut : (o : Options) (s : State) → (o.pipelined ≡ false → s.second ≡ []) → 0 < length (table_group o s) → s.second ++ group_with_runs s.log ≡ table_group o s ∷ unpublished_groups o s published
groups_cut o s single some = by o.pipelined s.second s.log single some
  where
    by : (pipelined : Bool) (second : List (List Writer)) (log : LogPhase) → (pipelined ≡ false → second ≡ []) → 0 < length (table_group (record o { pipelined = pipelined }) (record s { second = second; log = log }))
        → second ++ group_with_runs log ≡ table_group (record o { pipelined = pipelined }) (record s { second = second; log = log }) ∷ unpublished_groups (record o { pipelined = pipelined }) (record s { second = second; log = log }) published
    by true [] log single some = absurd (omega arith)
    by true (ws ∷ wss) log single some = refl
    by false second (in_log ws) single some = rw (single refl) refl
    by false second free single some = absurd (omega arith)
    by false second (led c) single some = absurd (omega arith)
    by false second (built ws) single some = absurd (omega arith)
    by false second (stalled ws) single some = absurd (omega arith)
    by false second (marked ws) single some = absurd (omega arith)
    by false second (handed c) single some = absurd (omega arith)

-- a group that has a leader isn't empty
pub some_led : (c : ℕ) (ws : List Writer) → leads c ws ≡ true → 0 < length ws
some_led c [] first = absurd (cc)
some_led c (w ∷ ws) first = omega arith
