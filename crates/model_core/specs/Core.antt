-- The write path as a state machine: a log queue, a group in hand, a memtable queue and a table
-- (RocksDB's db/write_thread.cc; RocksDB wiki, "Pipelined Write").
use Rattle.std.specs.Prelude.{ℕ, zero, suc, ◌+◌, ◌-◌, Bool, true, false, List, [], ◌∷◌, ◌++◌, length, take, drop, map, filter, filter_map, take_while, nat_le, ◌==◌, if◌then◌else◌, Option, Some, None, is_some, slice_get, slice_set, option_map}
use Rattle.std.specs.List.{list_any}
use Rattle.model_base.specs.declared.group.Item.{Item}
use Rattle.model_base.specs.declared.write.WriteOptions.{WriteOptions}
use Rattle.model_base.specs.declared.write.Refusal.{Refusal}
use Rattle.model_base.specs.declared.write.Refusal.TheVariants as no
use Rattle.model_base.specs.Batch.{Record, count_of, size_of_batch}
use Rattle.model_base.specs.Map.{Pairs, value_at, rows_within}
use Rattle.model_base.specs.History.{Entry, max_sequence, last_of, logged_entries, map_of, flag_of}
use Rattle.model_base.specs.Since.{records_in, since}
use Rattle.std.specs.Option.{option_map_or}
use Rattle.model_base.specs.declared.key.Key.{Key}
use Rattle.model_base.specs.Progress.{first_missing, early_refusal}
use Rattle.model_base.specs.Calls.{Command, add, clear, commit, get, many, scan, updates, Reply, quiet, accepted, refused, found, found_each, rows, updates_found, Call}

pub record Options : Type 0 where
  pub pipelined : Bool
  pub families : ℕ
  pub group_bytes : ℕ
  pub batch_bytes : ℕ
  pub start : ℕ

-- A batch on its way: its client, how it should be written, its records, and its answer, once it has one. Or a read of
-- the log from the sequence `since` on, with an empty batch.
pub record Writer : Type 0 where
  pub client : ℕ
  pub options : WriteOptions
  pub records : List Record
  pub since : Option ℕ
  pub answer : Option Reply

-- a client: its lines that are left, the records of its batch, its calls with their replies, and whether it is idle: an
-- idle client waits for no answer
pub record Client : Type 0 where
  pub left : List Command
  pub added : List Record
  pub calls : List Call
  pub idle : Bool

-- Who has the log: nobody, a leader, a leader with its group in hand (built, and perhaps stalled, while writes are held
-- up; then in the log; then marked for the second queue), or a leader that has handed its group over.
pub data LogPhase : Type 0 where
  free : LogPhase
  led : ℕ → LogPhase
  built : List Writer → LogPhase
  stalled : List Writer → LogPhase
  in_log : List Writer → LogPhase
  marked : List Writer → LogPhase
  handed : ℕ → LogPhase

-- How far the table's group is: not launched, or there is none; launched; or published. A launched group has a list of
-- the members that have inserted and one of those that have finished, each in the order in which they did.
pub data TablePhase : Type 0 where
  still : TablePhase
  launched : List ℕ → List ℕ → TablePhase
  published : TablePhase

pub record State : Type 0 where
  pub clients : List Client
  pub queue : List Writer
  pub log : LogPhase
  pub second : List (List Writer)
  pub table : TablePhase
  -- how many entries each logged group has
  pub groups : List ℕ
  -- the entries that got runs, and the sequence that was given last
  pub entries : List Entry
  pub assigned : ℕ
  pub log_failed : Bool
  pub inserted : List Entry
  pub last : ℕ
  -- writers that have left with their answers, where the clients don't have these yet
  pub leaving : List Writer

abbrev pub idle_client : List Command → Client
idle_client commands = record { left = commands; added = []; calls = []; idle = true }

abbrev pub opening_state : Options → List (List Command) → State
opening_state o plans = record {
  clients = map idle_client plans;
  queue = [];
  log = free;
  second = [];
  table = still;
  groups = [];
  entries = [];
  assigned = o.start;
  log_failed = false;
  inserted = [];
  last = o.start;
  leaving = [];
}

-- Clients

-- clients are numbered from 1
abbrev pub client_at : State → ℕ → Option Client
client_at s zero = None
client_at s (suc c) = slice_get s.clients c

abbrev pub with_client : State → ℕ → Client → State
with_client s c client = record s { clients = slice_set s.clients (c - 1) client }

-- commands that add to a client's batch or empty it are done on the way to its next call
pub record Ahead : Type 0 where
  pub call : Option Command
  pub client : Client

abbrev pub ahead : List Call → List Record → List Command → Client → Ahead
ahead calls added [] client =
    record { call = None; client = record client { left = []; added = added; calls = calls } }
ahead calls added (add r ∷ left) client =
    ahead (calls ++ record { command = add r; reply = quiet } ∷ []) (added ++ r ∷ []) left client
ahead calls added (clear ∷ left) client =
    ahead (calls ++ record { command = clear; reply = quiet } ∷ []) [] left client
ahead calls added (c ∷ left) client =
    record { call = Some c; client = record client { left = left; added = added; calls = calls } }

abbrev pub next_call : Client → Ahead
next_call client = ahead client.calls client.added client.left client

abbrev pub after_reply : Client → Command → Reply → Client
after_reply client command reply = record client {
  calls = client.calls ++ record { command = command; reply = reply } ∷ [];
  idle = true;
}

-- Batches

abbrev pub item_of : Writer → Item
item_of w = record { size = size_of_batch w.records; options = w.options; alone = is_some w.since }

-- a read of the log waits like a write that may wait
abbrev pub plain_options : WriteOptions
plain_options = record { sync = false; no_log = false; no_slowdown = false }

-- the client's line that made the writer
abbrev pub line_of : WriteOptions → Option ℕ → Command
line_of options None = commit options
line_of options (Some n) = updates n

abbrev pub command_of : Writer → Command
command_of w = line_of w.options w.since

-- the checks before a batch is linked; the core knows no write controller, so nobody holds a token
abbrev pub refusal_of : Options → WriteOptions → List Record → Option Refusal
refusal_of o how records = early_refusal o.families o.batch_bytes false records how

-- what a schedule's writers are answered that may not wait, where a leader stalls writes
abbrev pub stall_refusal : ℕ → ℕ → Refusal
stall_refusal stops delays = no.Incomplete stops delays 0

-- while a leader stalls writes, a batch that passed the checks is refused at once if it may not wait
abbrev pub refusal_in : LogPhase → WriteOptions → Option Refusal → Option Refusal
refusal_in log how (Some why) = Some why
refusal_in (stalled ws) how None = if how.no_slowdown then Some (stall_refusal 1 0) else None
refusal_in log how None = None

-- while a leader stalls writes, a batch that passed the checks and may wait isn't linked
abbrev pub may_link : LogPhase → Option Refusal → Bool
may_link log (Some why) = true
may_link (stalled ws) None = false
may_link log None = true

-- a group's leader is its first writer
abbrev pub leads : ℕ → List Writer → Bool
leads c [] = false
leads c (w ∷ ws) = w.client == c

-- a group of one writer that reads the log
abbrev pub is_alone : List Writer → Bool
is_alone [] = false
is_alone (w ∷ ws) = is_some w.since

-- Runs

-- Members get runs in order, after the sequence that was given last. A member whose run doesn't fit is refused, and
-- later ones whose runs fit are still accepted.
abbrev pub with_runs : ℕ → List Writer → List Writer
with_runs last [] = []
with_runs last (w ∷ ws) =
    if nat_le (last + count_of w.records) max_sequence
    then record w { answer = Some (accepted (last + 1) (last + count_of w.records) w.records) }
    ∷ with_runs (last + count_of w.records) ws
    else record w { answer = Some (refused (no.SequenceFull last)) } ∷ with_runs last ws

-- the first sequence of a member's run
abbrev pub run_of : Option Reply → Option ℕ
run_of (Some (accepted first last records)) = Some first
run_of o = None

abbrev pub has_run : Writer → Bool
has_run w = is_some (run_of w.answer)

abbrev pub all_answered : Reply → List Writer → List Writer
all_answered reply ws = map (λ (w : Writer). record w { answer = Some reply }) ws

-- the number (from 1) of a client's next batch among its accepted ones
abbrev pub ordinal_at : State → ℕ → ℕ
ordinal_at s c = 1 + length (filter (λ (x : Entry). x.client == c) s.entries)

abbrev pub entry_of : State → Writer → ℕ → Entry
entry_of s w first = record {
  client = w.client;
  ordinal = ordinal_at s w.client;
  first = first;
  count = count_of w.records;
  flag = flag_of w.options;
  records = w.records;
}

-- the entries of a group's members that have runs
abbrev pub entries_of : State → List Writer → List Entry
entries_of s ws = filter_map (λ w. option_map (entry_of s w) (run_of w.answer)) ws

-- The group in the table: the first one of the second queue, or the logged group in hand

abbrev pub in_hand : LogPhase → List Writer
in_hand (in_log ws) = ws
in_hand free = []
in_hand (led c) = []
in_hand (built ws) = []
in_hand (stalled ws) = []
in_hand (marked ws) = []
in_hand (handed c) = []

abbrev pub first_group : List (List Writer) → List Writer
first_group [] = []
first_group (ws ∷ wss) = ws

abbrev pub table_group : Options → State → List Writer
table_group o s = if o.pipelined then first_group s.second else in_hand s.log

abbrev pub among : ℕ → List ℕ → Bool
among c cs = list_any (λ n. n == c) cs

abbrev pub runners : List Writer → List ℕ
runners ws = map (λ w. w.client) (filter has_run ws)

-- Reads

-- the logged entries, cut into groups of these lengths
abbrev pub cut_by : List ℕ → List Entry → List (List Entry)
cut_by [] entries = []
cut_by (n ∷ lengths) entries = take n entries ∷ cut_by lengths (drop n entries)

abbrev pub log_groups : State → List (List Entry)
log_groups s = cut_by s.groups (logged_entries s.entries)

-- The answer to a read of the log has its sequence alone. The records up to there are looked up as the client gets its
-- reply: a group that is logged meanwhile has later sequences.
abbrev pub read_at : ℕ → Reply
read_at last = updates_found last []

abbrev pub reply_told : State → Option ℕ → Reply → Reply
reply_told s (Some n) (updates_found at records) = updates_found at (since n at (records_in [] (log_groups s)))
reply_told s other reply = reply

abbrev pub published_map : State → Pairs
published_map s = map_of (take_while (λ x. nat_le (last_of x) s.last) s.entries)

-- a read of keys in these families is refused where there isn't one of them
abbrev pub if_there : Options → List ℕ → Reply → Reply
if_there o named reply =
    option_map_or (λ family. refused (no.NoFamily family)) (first_missing o.families named) reply

abbrev pub read_reply : Options → State → Command → Option Reply
read_reply o s (get key) =
    Some (if_there o (key.family ∷ []) (found s.last (value_at (published_map s) key)))
read_reply o s (many keys) =
    Some (if_there o (map (λ (k : Key). k.family) keys) (found_each s.last (map (value_at (published_map s)) keys)))
read_reply o s (scan family lo hi) =
    Some (if_there o (family ∷ []) (rows s.last (rows_within family lo hi (published_map s))))
read_reply o s c = None
