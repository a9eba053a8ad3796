-- What holds of the core after every event.
use Rattle.std.specs.Prelude.{◌≡◌, ◌⊎◌, ℕ, ◌<◌, Bool, true, false, IsTrue, List, [], ◌∷◌, ◌++◌, length, drop, map, filter, flat_map, count_by, Contains, ⊤, ◌==◌, if◌then◌else◌, Some, None, IsSome}
use Rattle.std.specs.List.{AllByRecursion, AllZip}
use Rattle.model_core.specs.declared.event.Event.{Event}
use Rattle.model_core.specs.declared.event.Event.TheVariants as e
use Rattle.model_base.specs.Batch.{count_of}
use Rattle.model_base.specs.History.{Entry, IsHistory, RunsFollow, IsUpTo, last_sequence, last_of, logged_entries, is_logged, flag_of}
use Rattle.model_base.specs.Calls.{accepted}
use Rattle.model_core.specs.Core.{Options, Writer, Client, LogPhase, free, led, built, stalled, in_log, marked, handed, TablePhase, still, launched, published, State, client_at, leads, has_run, table_group, among, runners}

-- the group in hand: it has left the log's queue, and isn't yet in the second queue or gone
abbrev pub hand : LogPhase → List Writer
hand (built ws) = ws
hand (stalled ws) = ws
hand (in_log ws) = ws
hand (marked ws) = ws
hand free = []
hand (led c) = []
hand (handed c) = []

abbrev pub writers_in : List (List Writer) → List Writer
writers_in wss = flat_map (λ ws. ws) wss

-- the clients whose writers are in line, the first linked of them first
abbrev pub in_order : State → List ℕ
in_order s = map (λ (w : Writer). w.client) (writers_in s.second ++ hand s.log ++ s.queue)

-- all clients that wait for an answer: those in line, and those whose writers have left with one
abbrev pub waiting_clients : State → List ℕ
waiting_clients s = in_order s ++ map (λ (w : Writer). w.client) s.leaving

-- a leader that hasn't yet built its group is first in the queue
abbrev pub LedIsFirst : LogPhase → List Writer → Type 0
LedIsFirst (led c) queue = IsTrue (leads c queue)
LedIsFirst free queue = ⊤
LedIsFirst (built ws) queue = ⊤
LedIsFirst (stalled ws) queue = ⊤
LedIsFirst (in_log ws) queue = ⊤
LedIsFirst (marked ws) queue = ⊤
LedIsFirst (handed c) queue = ⊤

-- no group is marked for the second queue
abbrev pub IsUnmarked : LogPhase → Type 0
IsUnmarked (marked ws) = ⊥
IsUnmarked free = ⊤
IsUnmarked (led c) = ⊤
IsUnmarked (built ws) = ⊤
IsUnmarked (stalled ws) = ⊤
IsUnmarked (in_log ws) = ⊤
IsUnmarked (handed c) = ⊤

-- the group in hand, if its members have got their runs, and otherwise no writers
abbrev pub hand_with_runs : LogPhase → List Writer
hand_with_runs (in_log ws) = ws
hand_with_runs (marked ws) = ws
hand_with_runs free = []
hand_with_runs (led c) = []
hand_with_runs (built ws) = []
hand_with_runs (stalled ws) = []
hand_with_runs (handed c) = []

-- the writers of the groups that have runs and aren't published, in order
abbrev pub unpublished_writers : Options → State → TablePhase → List Writer
unpublished_writers o s published = if o.pipelined then writers_in (tail_of s.second) ++ hand_with_runs s.log else []
  where
    tail_of : List (List Writer) → List (List Writer)
    tail_of [] = []
    tail_of (ws ∷ wss) = wss
unpublished_writers o s still = writers_in s.second ++ hand_with_runs s.log
unpublished_writers o s (launched ins fin) = writers_in s.second ++ hand_with_runs s.log

-- those groups
abbrev pub group_with_runs : LogPhase → List (List Writer)
group_with_runs (in_log ws) = ws ∷ []
group_with_runs (marked ws) = ws ∷ []
group_with_runs free = []
group_with_runs (led c) = []
group_with_runs (built ws) = []
group_with_runs (stalled ws) = []
group_with_runs (handed c) = []

abbrev pub unpublished_groups : Options → State → TablePhase → List (List Writer)
unpublished_groups o s published = if o.pipelined then drop 1 s.second ++ group_with_runs s.log else []
unpublished_groups o s still = s.second ++ group_with_runs s.log
unpublished_groups o s (launched ins fin) = s.second ++ group_with_runs s.log

-- the entry is that of a group's member that has a run
pub record IsEntryOf (w : Writer) (x : Entry) : Type 0 where
  pub client : x.client ≡ w.client
  pub flag : x.flag ≡ flag_of w.options
  pub run : w.answer ≡ Some (accepted x.first (last_of x) x.records)

-- entries of a group: whether the log has them, and that it has all of them or none
abbrev pub is_logged_group : List Entry → Bool
is_logged_group [] = false
is_logged_group (x ∷ xs) = is_logged x.flag

abbrev pub IsLoggedAsOne : List Entry → Type 0
IsLoggedAsOne xs = logged_entries xs ≡ (if is_logged_group xs then xs else [])

-- The log's groups (`parts`) are first some that have the logged ones of the entries up to the published sequence
-- (`front`), and then those of the groups that aren't published yet and are logged, whose entries are the others
-- (`rest`).
pub record AreParts (o : Options) (s : State) (front rest : List Entry) (parts : List (List Entry)) : Type 0 where
  pub before : List (List Entry)
  pub cut : logged_entries front ≡ flat_map (λ p. p) before
  pub ahead : List (List Entry)
  pub each : AllZip (λ (ws : List Writer) xs. AllZip IsEntryOf (filter has_run ws) xs)
      (unpublished_groups o s s.table) ahead
  pub all : rest ≡ flat_map (λ p. p) ahead
  pub as_one : AllByRecursion IsLoggedAsOne ahead
  pub split : parts ≡ before ++ filter is_logged_group ahead

-- A launched or published group has members. Each client that has inserted has a run in the launched group, and each
-- one that has finished has inserted.
abbrev pub IsTable : Options → State → TablePhase → Type 0
IsTable o s still = ⊤
IsTable o s published = 0 < length (table_group o s)
IsTable o s (launched ins fin) = (0 < length (table_group o s))
    × AllByRecursion (λ c. IsTrue (among c (runners (table_group o s)))) ins
    × AllByRecursion (λ c. IsTrue (among c ins)) fin

-- a member that has inserted has its entry in the table
abbrev pub HasInserted : List Entry → TablePhase → Writer → Type 0
HasInserted inserted (launched ins fin) w =
    IsTrue (among w.client ins) → (x : Entry) × IsEntryOf w x × Contains inserted x
HasInserted inserted still w = ⊤
HasInserted inserted published w = ⊤

-- an inserted entry above the published sequence belongs to a client that has inserted in the launched group
abbrev pub IsInsertedAhead : TablePhase → Entry → Type 0
IsInsertedAhead (launched ins fin) x = IsTrue (among x.client ins)
IsInsertedAhead still x = ⊥
IsInsertedAhead published x = ⊥

-- the members of a group are all to be logged, or none of them is
abbrev pub SameLogFlag : List Writer → Type 0
SameLogFlag [] = ⊤
SameLogFlag (w ∷ ws) = AllByRecursion (λ (v : Writer). v.options.no_log ≡ w.options.no_log) ws

-- none of these reads the log
abbrev pub AreWrites : List Writer → Type 0
AreWrites ws = AllByRecursion (λ (w : Writer). w.since ≡ None) ws

-- it has something to write, or reads the log
abbrev pub HasWork : Writer → Type 0
HasWork w = w.since ≡ None → 0 < count_of w.records

-- a writer that reads the log is in hand as the only one of its group, and its group is neither stalled nor in the log
abbrev pub ReadAlone : LogPhase → Type 0
ReadAlone (built ws) = (length ws ≡ 1) ⊎ AreWrites ws
ReadAlone (stalled ws) = AreWrites ws
ReadAlone (in_log ws) = AreWrites ws
ReadAlone (marked ws) = AreWrites ws
ReadAlone free = ⊤
ReadAlone (led c) = ⊤
ReadAlone (handed c) = ⊤

pub record IsCore (o : Options) (s : State) : Type 0 where
  -- each client is idle, or waits in just one place, once
  pub once : (c : ℕ) (client : Client) → client_at s c ≡ Some client
      → count_by (λ n. n == c) (waiting_clients s) ≡ (if client.idle then 0 else 1)
  pub clients : AllByRecursion (λ c. IsSome (client_at s c)) (waiting_clients s)
  pub led_is_first : LedIsFirst s.log s.queue
  pub single_stage : o.pipelined ≡ false → s.second ≡ []
  pub unmarked : o.pipelined ≡ false → IsUnmarked s.log
  -- the writers in hand and in the queue have something to write, or read the log, which they do alone; and a group in
  -- hand is logged as a whole or not at all
  pub counted : AllByRecursion HasWork (hand s.log ++ s.queue)
  pub alone : ReadAlone s.log
  pub one_log_flag : SameLogFlag (hand s.log)
  -- the entries that got runs are a history, up to the sequence that was given last
  pub is_history : IsHistory o.start s.entries
  pub assigned : s.assigned ≡ last_sequence o.start s.entries
  -- the published sequence is a boundary, and the entries above it are those of the groups that aren't published yet
  pub front : List Entry
  pub is_boundary : IsUpTo o.start s.entries s.last front
  pub ahead : AllZip IsEntryOf (filter has_run (unpublished_writers o s s.table)) is_boundary.rest
  -- the table has all entries up to it; what else it has belongs to the launched group
  pub in_table : AllByRecursion (λ x. Contains s.inserted x) front
  pub from_entries : AllByRecursion (λ x. Contains s.entries x × (Contains front x ⊎ IsInsertedAhead s.table x))
      s.inserted
  pub is_table : IsTable o s s.table
  pub has_inserted : AllByRecursion (HasInserted s.inserted s.table) (filter has_run (table_group o s))
  -- the logged groups are the logged entries, cut into parts
  pub parts : List (List Entry)
  pub cut : logged_entries s.entries ≡ flat_map (λ p. p) parts
  pub groups : s.groups ≡ map length parts
  pub none_empty : AllByRecursion (λ p. 0 < length p) parts
  pub runs : AllByRecursion RunsFollow parts
  pub at_boundary : AreParts o s front is_boundary.rest parts

-- What an event keeps

-- the first list is the second one, with none or some of its elements taken out
abbrev pub IsSubsequence : List ℕ → List ℕ → Type 0
IsSubsequence [] ys = ⊤
IsSubsequence (x ∷ xs) [] = ⊥
IsSubsequence (x ∷ xs) (y ∷ ys) = ((x ≡ y) × IsSubsequence xs ys) ⊎ IsSubsequence (x ∷ xs) ys

-- Nobody overtakes another. A link adds nobody, or adds its client at the end, if that wasn't waiting. Other events add
-- nobody.
abbrev pub KeepsOrder : Event → State → State → Type 0
KeepsOrder (e.Link c) old new =
    (in_order new ≡ in_order old) ⊎ ((in_order new ≡ in_order old ++ c ∷ []) × (among c (waiting_clients old) ≡ false))
KeepsOrder other old new = IsSubsequence (in_order new) (in_order old)

pub record Keeps (event : Event) (old new : State) : Type 0 where
  pub order : KeepsOrder event old new
  -- a log that has failed gives no more runs
  pub log_failed : old.log_failed ≡ true → (new.entries ≡ old.entries) × (new.log_failed ≡ true)
