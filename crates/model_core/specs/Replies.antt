-- The replies that the core's clients have got so far: those of a plain map, at points of the one history of batches.
use Rattle.std.specs.Prelude.{◌≡◌, ◌⊎◌, ℕ, zero, suc, ◌+◌, ◌<◌, ◌≤◌, Bool, true, false, List, [], ◌∷◌, ◌++◌, length, map, fold, max, Option, Some, None, IsSome, slice_get, MatchOption, ⊤}
use mathlib.Core.List.{IsPrefix}
use Rattle.std.specs.List.{AllByRecursion, list_any}
use Rattle.model_base.specs.declared.write.WriteOptions.{WriteOptions}
use Rattle.model_base.specs.declared.write.Refusal.{Refusal}
use Rattle.model_base.specs.declared.write.Refusal.TheVariants as no
use Rattle.model_base.specs.Batch.{Record, count_of}
use Rattle.model_base.specs.Map.{Pairs, value_at, rows_within}
use Rattle.model_base.specs.History.{Entry, IsHistory, IsUpTo, IsBoundary, map_of, max_sequence}
use Rattle.model_base.specs.declared.key.Key.{Key}
use Rattle.model_base.specs.Progress.{first_missing, early_refusal, next_entry, batch_after}
use Rattle.model_base.specs.LogContents.{AreGroupsOf}
use Rattle.model_base.specs.Since.{records_in, since}
use Rattle.model_base.specs.Runs.{commands_of}
use Rattle.model_base.specs.Outcomes.{entries_of_client}
use Rattle.model_base.specs.Calls.{Command, add, clear, commit, get, many, scan, updates, stop, unstop, slow, unslow, Reply, quiet, accepted, refused, found, found_each, rows, updates_found, Call}
use Rattle.model_core.specs.Core.{Options, Client, State, client_at, log_groups}

-- The greatest sequence that a client has seen published, by its reads and by its accepted commits
abbrev pub seen_with : ℕ → Reply → ℕ
seen_with seen (accepted first last records) = max seen last
seen_with seen (found at v) = max seen at
seen_with seen (found_each at vs) = max seen at
seen_with seen (rows at pairs) = max seen at
seen_with seen (updates_found at records) = max seen at
seen_with seen other = seen

abbrev pub seen_up_to : List Call → ℕ
seen_up_to calls = fold (λ seen c. seen_with seen c.reply) 0 calls

-- A client has learned, by a reply, that the log has failed
abbrev pub is_log_fault : Reply → Bool
is_log_fault (refused (no.LogFault count)) = true
is_log_fault other = false

abbrev pub knows_log_failed : List Call → Bool
knows_log_failed calls = list_any (λ (c : Call). is_log_fault c.reply) calls

-- The entries of a client's accepted commits, in order
abbrev pub entries_by : ℕ → List Entry → Command → Reply → List Entry
entries_by client mine (commit how) (accepted first last records) =
    mine ++ next_entry client mine how first records ∷ []
entries_by client mine command reply = mine

abbrev pub entries_told : ℕ → List Call → List Entry
entries_told client calls = fold (λ mine c. entries_by client mine c.command c.reply) [] calls

-- Each command: which reply may follow the calls before it

-- a read at a boundary of the history that isn't below what the client has seen, answered by the map there
pub record ReadsAt (o : Options) (s : State) (before : List Call) (at : ℕ) (answers : Pairs → Type 0) : Type 0 where
  pub front : List Entry
  pub is_front : IsUpTo o.start s.entries at front
  pub not_below : seen_up_to before ≤ at
  pub answer : answers (map_of front)

abbrev pub Gets : Options → State → List Call → Key → Reply → Type 0
Gets o s before key (found at v) = ReadsAt o s before at (λ m. v ≡ value_at m key)
Gets o s before key other = ⊥

abbrev pub GetsMany : Options → State → List Call → List Key → Reply → Type 0
GetsMany o s before keys (found_each at vs) = ReadsAt o s before at (λ m. vs ≡ map (value_at m) keys)
GetsMany o s before keys other = ⊥

abbrev pub Scans : Options → State → List Call → ℕ → List ℕ → List ℕ → Reply → Type 0
Scans o s before family lo hi (rows at pairs) = ReadsAt o s before at (λ m. pairs ≡ rows_within family lo hi m)
Scans o s before family lo hi other = ⊥

-- A read of the log, at such a boundary: its groups up to there have all logged entries up to there and no other, and
-- the records of those are given that begin or go on at the sequence n or a later one.
pub record ReadsLog (o : Options) (s : State) (before : List Call) (n at : ℕ) (records : List (List ℕ)) : Type 0 where
  pub reads : ReadsAt o s before at (λ m. ⊤)
  pub groups : List (List Entry)
  pub in_log : IsPrefix groups (log_groups s)
  pub up_to : AreGroupsOf reads.front groups
  pub answer : records ≡ since n at (records_in [] groups)

abbrev pub Updates : Options → State → List Call → ℕ → Reply → Type 0
Updates o s before n (updates_found at records) = ReadsLog o s before n at records
Updates o s before n other = ⊥

-- Why a commit that passed the early checks may be refused: the log has failed; or there was no room for its run after
-- a boundary, not below what its client has seen, and the client didn't know that the log has failed; or the commit may
-- not wait. Whether writes were held up isn't asked, since the core knows no write controller.
abbrev pub MayRefuse : Options → State → List Call → WriteOptions → Refusal → Type 0
MayRefuse o s before how (no.LogFault count) = (count ≡ 1) × (s.log_failed ≡ true)
MayRefuse o s before how (no.SequenceFull last) =
    (knows_log_failed before ≡ false) × (seen_up_to before ≤ last) × IsBoundary o.start s.entries last
    × (max_sequence < last + count_of (batch_after before))
MayRefuse o s before how (no.Incomplete stops delays wait) = how.no_slowdown ≡ true
MayRefuse o s before how no.Empty = ⊥
MayRefuse o s before how (no.TooLarge size) = ⊥
MayRefuse o s before how no.SyncWithoutLog = ⊥
MayRefuse o s before how no.SelfStop = ⊥
MayRefuse o s before how (no.NoFamily family) = ⊥
MayRefuse o s before how no.NoMemory = ⊥

-- An accepted batch is what was added since the last `ok` or `clear`, and its run has as many sequences as the batch
-- has records that count. Once a client knows that the log has failed, none of its batches is accepted.
pub record IsAccepted (before : List Call) (first last : ℕ) (records : List Record) : Type 0 where
  pub batch : records ≡ batch_after before
  pub run : last + 1 ≡ first + count_of records
  pub alive : knows_log_failed before ≡ false

-- a commit that passed the early checks
abbrev pub IsHandled : Options → State → List Call → WriteOptions → Reply → Type 0
IsHandled o s before how (accepted first last records) = IsAccepted before first last records
IsHandled o s before how (refused why) = MayRefuse o s before how why
IsHandled o s before how other = ⊥

abbrev pub Commits : Options → State → List Call → WriteOptions → Reply → Type 0
Commits o s before how reply =
    MatchOption (early_refusal o.families o.batch_bytes false (batch_after before) how)
    (IsHandled o s before how reply)
    (λ why. reply ≡ refused why)

-- a read of keys in these families: refused by the first one that there isn't, if there is such a one
abbrev pub IfThere : Options → List ℕ → Reply → Type 0 → Type 0
IfThere o named reply answered =
    MatchOption (first_missing o.families named) answered (λ family. reply ≡ refused (no.NoFamily family))

abbrev pub MayReply : Options → State → List Call → Command → Reply → Type 0
MayReply o s before (add r) reply = reply ≡ quiet
MayReply o s before clear reply = reply ≡ quiet
MayReply o s before (commit how) reply = Commits o s before how reply
MayReply o s before (get key) reply = IfThere o (key.family ∷ []) reply (Gets o s before key reply)
MayReply o s before (many keys) reply =
    IfThere o (map (λ (k : Key). k.family) keys) reply (GetsMany o s before keys reply)
MayReply o s before (scan family lo hi) reply =
    IfThere o (family ∷ []) reply (Scans o s before family lo hi reply)
MayReply o s before (updates n) reply = Updates o s before n reply
MayReply o s before stop reply = ⊥
MayReply o s before unstop reply = ⊥
MayReply o s before (slow rate) reply = ⊥
MayReply o s before unslow reply = ⊥

-- each call has a reply that may follow the calls before it
abbrev pub AreRight : Options → State → List Call → Type 0
AreRight o s calls = (before : List Call) (c : Call) (after : List Call) → calls ≡ before ++ c ∷ after
    → MayReply o s before c.command c.reply

-- the client waits: its next line is a commit whose batch already has its entry in the history, but the client hasn't
-- got the answer yet
pub record IsOnItsWay (s : State) (c : ℕ) (client : Client) (rest : List Command) : Type 0 where
  pub waits : client.idle ≡ false
  pub how : WriteOptions
  pub after : List Command
  pub next : rest ≡ commit how ∷ after
  pub first : ℕ
  pub entries : entries_of_client c s.entries ≡ entries_told c client.calls
      ++ next_entry c (entries_told c client.calls) how first (batch_after client.calls) ∷ []

-- A client's calls are its lines so far, each rightly answered, and it has seen nothing that isn't published. Its
-- entries in the history are its accepted commits, in order, and perhaps one more of a commit that is on its way.
pub record IsAnswered (o : Options) (s : State) (c : ℕ) (lines : List Command) (client : Client) : Type 0 where
  pub rest : List Command
  pub asked : lines ≡ commands_of client.calls ++ rest
  pub right : AreRight o s client.calls
  pub seen_published : seen_up_to client.calls ≤ s.last
  pub entries : (entries_of_client c s.entries ≡ entries_told c client.calls) ⊎ IsOnItsWay s c client rest

-- clients are numbered from 1
abbrev pub lines_at : List (List Command) → ℕ → Option (List Command)
lines_at plans zero = None
lines_at plans (suc c) = slice_get plans c

-- one history of whole batches, of these clients alone, and each client's calls are right in it
pub record AreRepliesOf (o : Options) (plans : List (List Command)) (s : State) : Type 0 where
  pub is_history : IsHistory o.start s.entries
  pub of_clients : AllByRecursion (λ (x : Entry). IsSome (client_at s x.client)) s.entries
  pub count : length s.clients ≡ length plans
  pub each : (c : ℕ) (lines : List Command) (client : Client) → lines_at plans c ≡ Some lines
      → client_at s c ≡ Some client → IsAnswered o s c lines client

-- If this is the reply to a read of the map, the read was at this sequence or a later one. A read of the log is
-- answered before its client gets the answer.
abbrev pub IsFrom : ℕ → Reply → Type 0
IsFrom last (found at v) = last ≤ at
IsFrom last (found_each at vs) = last ≤ at
IsFrom last (rows at pairs) = last ≤ at
IsFrom last other = ⊤

-- A state and a later one: the history is only added to, the published sequence doesn't fall, no reply is taken back,
-- and no client's later read is older than what was published before.
pub record IsLater (old new : State) : Type 0 where
  pub history : IsPrefix old.entries new.entries
  pub last : old.last ≤ new.last
  pub calls : (c : ℕ) (client : Client) → client_at old c ≡ Some client
      → (later : Client) × (client_at new c ≡ Some later)
      × (told : List Call) × (client.calls ++ told ≡ later.calls)
      × AllByRecursion (λ (c : Call). IsFrom old.last c.reply) told
