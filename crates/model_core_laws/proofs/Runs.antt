-- A group that gets its runs.
use Rattle.std.proofs.Common.{◌≡◌, ℕ, ◌+◌, ◌-◌, ◌<◌, ◌≤◌, Bool, true, false, if◌then◌else◌, List, [], ◌∷◌, length, map, Option, Some, None, nat_le, refl, ap, subst, arith}
use Rattle.std.specs.Option.{option_map}
use Rattle.std.specs.List.{cons_option, AllByRecursion, AllZip, filter, list_any}
use Rattle.std.proofs.lemmas.Bool.{leb-true, leb-false}
use Rattle.model_base.specs.Batch.{count_of}
use Rattle.model_base.specs.declared.history.Flag.{Flag}
use Rattle.model_base.specs.declared.write.WriteOptions.{WriteOptions}
use Rattle.model_base.specs.declared.write.Refusal.TheVariants as no
use Rattle.model_base.specs.History.{max_sequence, IsHistory, logged_entries, flag_of, is_logged}
use Rattle.model_base.specs.Calls.{accepted, refused}
use Rattle.model_core.specs.Core.{Writer, State, with_runs, has_run, run_of, entry_of, entries_of}
use Rattle.model_core.specs.Step.{is_unlogged}
use Rattle.model_core.specs.CoreLaw.{IsEntryOf, SameLogFlag, AreWrites, HasWork}

-- a member whose run fits, and one whose run doesn't
abbrev pub taken : ℕ → Writer → Writer
taken last w = record w { answer = Some (accepted (last + 1) (last + count_of w.records) w.records) }

abbrev pub passed_over : ℕ → Writer → Writer
passed_over last w = record w { answer = Some (refused (no.SequenceFull last)) }

-- what holds of a group and of the same group with runs, proved member by member
pub by_members : (Q : ℕ → List Writer → List Writer → Type 0) → ((last : ℕ) → Q last [] [])
    → ((last : ℕ) (w : Writer) (ws vs : List Writer) → last + count_of w.records ≤ max_sequence → Q (last + count_of w.records) ws vs → Q last (w ∷ ws) (taken last w ∷ vs))
    → ((last : ℕ) (w : Writer) (ws vs : List Writer) → max_sequence < last + count_of w.records → Q last ws vs → Q last (w ∷ ws) (passed_over last w ∷ vs))
    → (last : ℕ) (ws : List Writer) → Q last ws (with_runs last ws)
by_members Q none fits full last [] = none last
by_members Q none fits full last (w ∷ ws) =
    by_test (nat_le (last + count_of w.records) max_sequence) refl (by_members Q none fits full (last + count_of w.records) ws) (by_members Q none fits full last ws)
  where
    by_test : (b : Bool) → nat_le (last + count_of w.records) max_sequence ≡ b → Q (last + count_of w.records) ws (with_runs (last + count_of w.records) ws) → Q last ws (with_runs last ws)
        → Q last (w ∷ ws) (if b then taken last w ∷ with_runs (last + count_of w.records) ws else passed_over last w ∷ with_runs last ws)
    by_test true e more less = fits last w ws (with_runs (last + count_of w.records) ws) (leb-true (last + count_of w.records) max_sequence e) more
    by_test false e more less = full last w ws (with_runs last ws) (leb-false (last + count_of w.records) max_sequence e) less

pub same_clients : (last : ℕ) (ws : List Writer) → map (λ (w : Writer). w.client) ws ≡ map (λ (w : Writer). w.client) (with_runs last ws)
same_clients = by_members (λ last ws vs. map (λ (w : Writer). w.client) ws ≡ map (λ (w : Writer). w.client) vs) (λ last. refl)
    (λ last w ws vs fits e. ap (λ cs. w.client ∷ cs) e) (λ last w ws vs full e. ap (λ cs. w.client ∷ cs) e)

abbrev pub Counts : Writer → Type 0
Counts w = 0 < count_of w.records

pub still_counted : (last : ℕ) (ws : List Writer) → AllByRecursion Counts ws → AllByRecursion Counts (with_runs last ws)
still_counted = by_members (λ last ws vs. AllByRecursion Counts ws → AllByRecursion Counts vs) (λ last a. tt)
    (λ last w ws vs fits more a. (a.0, more a.1)) (λ last w ws vs full more a. (a.0, more a.1))

-- a group that writes still does
pub still_writes : (last : ℕ) (ws : List Writer) → AreWrites ws → AreWrites (with_runs last ws)
still_writes = by_members (λ last ws vs. AreWrites ws → AreWrites vs) (λ last a. tt)
    (λ last w ws vs fits more a. (a.0, more a.1)) (λ last w ws vs full more a. (a.0, more a.1))

-- and each of its members has something to write
pub counts_of : (ws : List Writer) → AreWrites ws → AllByRecursion HasWork ws → AllByRecursion Counts ws
counts_of [] writes a = tt
counts_of (w ∷ ws) writes a = (a.0 writes.0, counts_of ws writes.1 a.1)

pub work_of : (ws : List Writer) → AllByRecursion Counts ws → AllByRecursion HasWork ws
work_of [] a = tt
work_of (w ∷ ws) a = (λ writes. a.0, work_of ws a.1)

abbrev pub AllLogAs : Bool → List Writer → Type 0
AllLogAs b ws = AllByRecursion (λ (v : Writer). v.options.no_log ≡ b) ws

log_as : (b : Bool) (last : ℕ) (ws : List Writer) → AllLogAs b ws → AllLogAs b (with_runs last ws)
log_as b = by_members (λ last ws vs. AllLogAs b ws → AllLogAs b vs) (λ last a. tt)
    (λ last w ws vs fits more a. (a.0, more a.1)) (λ last w ws vs full more a. (a.0, more a.1))

-- all members are to be logged, if the first one is, and otherwise none is
pub all_as_first : (ws : List Writer) → SameLogFlag ws → AllLogAs (is_unlogged ws) ws
all_as_first [] a = tt
all_as_first (w ∷ ws) a = (refl, a)

first_as_all : (b : Bool) (ws : List Writer) → AllLogAs b ws → SameLogFlag ws
first_as_all b [] a = tt
first_as_all b (w ∷ ws) a = rw a.0 a.1

pub same_log_flag : (last : ℕ) (ws : List Writer) → SameLogFlag ws → SameLogFlag (with_runs last ws)
same_log_flag last ws a = first_as_all (is_unlogged ws) (with_runs last ws) (log_as (is_unlogged ws) last ws (all_as_first ws a))

-- the runs follow each other
pub runs_history : (s : State) (last : ℕ) (ws : List Writer) → AllByRecursion Counts ws → IsHistory last (entries_of s (with_runs last ws))
runs_history s = by_members (λ last ws vs. AllByRecursion Counts ws → IsHistory last (entries_of s vs)) (λ last a. tt)
    (λ last w ws vs fits more a. let end : last + count_of w.records ≡ last + 1 + count_of w.records - 1 = omega arith in
    (record { counted = refl; some = a.0; first = refl; fits = omega arith }, subst (λ n. IsHistory n (entries_of s vs)) end (more a.1)))
    (λ last w ws vs full more a. more a.1)

pub runs_entries : (s : State) (last : ℕ) (ws : List Writer) → AllZip IsEntryOf (filter has_run (with_runs last ws)) (entries_of s (with_runs last ws))
runs_entries s = by_members (λ last ws vs. AllZip IsEntryOf (filter has_run vs) (entries_of s vs)) (λ last. tt)
    (λ last w ws vs fits more. let end : last + count_of w.records ≡ last + 1 + count_of w.records - 1 = omega arith in
    (record { client = refl; flag = refl; run = ap (λ n. Some (accepted (last + 1) n w.records)) end }, more))
    (λ last w ws vs full more. more)

pub runs_some : (s : State) (last : ℕ) (ws : List Writer) → list_any has_run (with_runs last ws) ≡ true → 0 < length (entries_of s (with_runs last ws))
runs_some s = by_members (λ last ws vs. list_any has_run vs ≡ true → 0 < length (entries_of s vs)) (λ last e. absurd (cc))
    (λ last w ws vs fits more e. omega arith) (λ last w ws vs full more e. more e)

-- an unlogged group adds nothing to the logged entries, and a logged one adds all its entries
flag_is : (how : WriteOptions) (b : Bool) → how.no_log ≡ b → is_logged (flag_of how) ≡ (if b then false else true)
flag_is how true e = rw e refl
flag_is how false e = rw e (by_sync how.sync)
  where
    by_sync : (b : Bool) → is_logged (if b then Flag.Sync else Flag.Log) ≡ true
    by_sync true = refl
    by_sync false = refl

pub logged_of : (s : State) (b : Bool) (ws : List Writer) → AllLogAs b ws → logged_entries (entries_of s ws) ≡ (if b then [] else entries_of s ws)
logged_of s b [] a = by_flag b
  where
    by_flag : (b : Bool) → logged_entries (entries_of s []) ≡ (if b then [] else entries_of s [])
    by_flag true = refl
    by_flag false = refl
logged_of s true (w ∷ ws) a = by_answer (run_of w.answer) (logged_of s true ws a.1)
  where
    by_answer : (run : Option ℕ) → logged_entries (entries_of s ws) ≡ [] → logged_entries (cons_option (option_map (entry_of s w) run) (entries_of s ws)) ≡ []
    by_answer None e = e
    by_answer (Some first) e = rw (flag_is w.options true a.0) e
logged_of s false (w ∷ ws) a = by_answer (run_of w.answer) (logged_of s false ws a.1)
  where
    by_answer : (run : Option ℕ) → logged_entries (entries_of s ws) ≡ entries_of s ws → logged_entries (cons_option (option_map (entry_of s w) run) (entries_of s ws)) ≡ cons_option (option_map (entry_of s w) run) (entries_of s ws)
    by_answer None e = e
    by_answer (Some first) e = rw (flag_is w.options false a.0) (ap (λ xs. entry_of s w first ∷ xs) e)
