-- Which replies a client may get, and what its progress is after them.
use Rattle.std.specs.Prelude.{◌≡◌, ◌≢◌, ◌⊎◌, Bool, ℕ, ◌+◌, ◌<◌, ◌≤◌, true, false, List, [], ◌∷◌, ◌++◌, map, max, take, Option, Some, None, slice_get, IfSome, MatchOption, ⊤}
use Rattle.std.specs.List.{AllByRecursion}
use mathlib.Core.List.{IsPrefix}
use Rattle.model_base.specs.declared.write.WriteOptions.{WriteOptions}
use Rattle.model_base.specs.declared.write.Refusal.{Refusal}
use Rattle.model_base.specs.declared.write.Refusal.TheVariants as no
use Rattle.model_base.specs.Batch.{Record, count_of}
use Rattle.model_base.specs.Map.{Key, Pairs, value_at, rows_within}
use Rattle.model_base.specs.History.{Entry, IsUpTo, map_over, max_sequence, last_of}
use Rattle.model_base.specs.Controller as controller
use Rattle.model_base.specs.Controller.{ControllerCall, Action, Look, HoldUp, ShowTokens}
use Rattle.model_base.specs.Tokens.{holds_stop, holds_slow, shown_by_token, shown_by_tokens, said_in}
use Rattle.model_base.specs.Trace.{Trace, Settings}
use Rattle.model_base.specs.Attempts.{Attempt, WriteStatus, succeeded, slowed, faulted, full, Fate, fate_at, status_in, with_attempt, knows_log_failed}
use Rattle.model_base.specs.Progress.{Progress, next_entry, first_missing, early_refusal}
use Rattle.model_base.specs.Counts.{Rose}
use Rattle.model_base.specs.LogContents.{GroupCall, AreGroupsOf, IsLoggedBy}
use Rattle.model_base.specs.Since.{LogRead, records_in, since}
use Rattle.model_base.specs.Calls.{Command, add, clear, commit, get, many, scan, updates, stop, unstop, slow, unslow, Reply, quiet, accepted, refused, found, found_each, rows, updates_found, read_failed, done, held, not_held}

-- Refusals

-- this call is at this place of the controller's history, after all the calls that were known
pub record IsLater (controller_calls : List ControllerCall) (known place : ℕ) (call : ControllerCall) : Type 0 where
  pub later : known ≤ place
  pub there : slice_get controller_calls place ≡ Some call

-- Before this place of the controller's history the client `by` had asked for a delay, and learned that writes are held
-- up. Where its group may wait, it stalls writes then.
pub record WasHeldUp (controller_calls : List ControllerCall) (by place : ℕ) : Type 0 where
  pub at : ℕ
  pub now : ℕ
  pub bytes : ℕ
  pub told : Look
  pub there : slice_get controller_calls at
      ≡ Some (record { client = by; action = controller.delay now bytes; told = Some told })
  pub before : at < place
  pub holds_up : HoldUp told

-- What holds of a look at this place, made by `by`, that refuses a commit of this client because it met a stall:
-- another client, a leader, had learned before that writes are held up; that leader or the client itself made the look;
-- and its numbers show stop tokens or slow tokens. That the leader stalled writes isn't in the controller's history.
pub record MetStall (controller_calls : List ControllerCall) (client by place : ℕ) (numbers : Look) : Type 0 where
  pub leader : ℕ
  pub other : leader ≢ client
  pub stalled : WasHeldUp controller_calls leader place
  pub looked : (by ≡ client) ⊎ (by ≡ leader)
  pub shown : ShowTokens numbers

-- Why a look refuses a commit that is in no group. A client that holds a stop token has looked itself, and writes are
-- held up. Any other client's commit met a stall.
abbrev pub LooksAway : Bool → List ControllerCall → ℕ → ℕ → ℕ → Look → Type 0
LooksAway true controller_calls client by place numbers = (by ≡ client) × HoldUp numbers
LooksAway false controller_calls client by place numbers = MetStall controller_calls client by place numbers

-- The numbers are the answer of a look, or of the delay that was asked for the commit's group and says that writes are
-- held up. That call comes after all that the client knew before its commit, and the client knows of it once the commit
-- returns. `stopping` says that the client holds a stop token. Which group a delay was for isn't in the controller's
-- history: the groups of an outcome say so.
abbrev pub IsTold : List ControllerCall → Bool → ℕ → ℕ → ℕ → Look → Option Fate → Type 0
IsTold controller_calls stopping client knew knows numbers None = (by : ℕ) × (place : ℕ)
    × IsLater controller_calls knew place (record { client = by; action = controller.look; told = Some numbers })
    × (place < knows) × LooksAway stopping controller_calls client by place numbers
IsTold controller_calls stopping client knew knows numbers (Some fate) = (by : ℕ) × (now : ℕ) × (bytes : ℕ)
    × IsLater controller_calls knew fate.place
    (record { client = by; action = controller.delay now bytes; told = Some numbers })
    × (fate.place < knows) × HoldUp numbers × (fate.status ≡ slowed)

-- no accepted batch ends above this sequence
abbrev pub AreUpTo : List Entry → ℕ → Type 0
AreUpTo mine last = AllByRecursion (λ e. last_of e ≤ last) mine

-- if there was no room for this commit's run, the sequence that had been given last was below this one
abbrev pub IsFullBelow : ℕ → WriteStatus → Type 0
IsFullBelow sequence (full last) = last < sequence
IsFullBelow sequence succeeded = ⊤
IsFullBelow sequence slowed = ⊤
IsFullBelow sequence (faulted count) = ⊤

abbrev pub AreFullBelow : ℕ → List Attempt → Type 0
AreFullBelow sequence attempts = AllByRecursion (λ (h : Attempt). IsFullBelow sequence h.status) attempts

-- Why a commit of a client with this progress may be refused, after the early checks. `knows` is how much of the
-- controller's history the client knows afterwards, and `fate` how the commit ended in its group, if a leader took it
-- into one.
abbrev pub MayRefuse : List ControllerCall → ℕ → Progress → ℕ → WriteOptions → Refusal → Option Fate → Type 0
MayRefuse controller_calls client p knows how (no.Incomplete stops delays wait) fate =
    (how.no_slowdown ≡ true)
    × IsTold controller_calls (holds_stop p.asked) client p.known knows
    (record { stops = stops; delays = delays; wait = wait }) fate
MayRefuse controller_calls client p knows how (no.LogFault count) fate = status_in fate ≡ Some (faulted count)
MayRefuse controller_calls client p knows how (no.SequenceFull last) fate =
    (status_in fate ≡ Some (full last)) × (knows_log_failed p.attempts ≡ false) × (p.seen_up_to ≤ last)
    × AreUpTo p.mine last × AreFullBelow (last + 1) p.attempts × (max_sequence < last + count_of p.pending)
MayRefuse controller_calls client p knows how no.Empty fate = ⊥
MayRefuse controller_calls client p knows how (no.TooLarge size) fate = ⊥
MayRefuse controller_calls client p knows how no.SyncWithoutLog fate = ⊥
MayRefuse controller_calls client p knows how no.SelfStop fate = ⊥
MayRefuse controller_calls client p knows how (no.NoFamily family) fate = ⊥
MayRefuse controller_calls client p knows how no.NoMemory fate = ⊥

-- A commit of a client that holds a stop token is in no group. Another one is in no group only if it met a stall, and
-- then it is refused because of that (`IsTold`).
abbrev pub IsKeptOut : List Action → Option Fate → Type 0
IsKeptOut asked fate = holds_stop asked ≡ true → fate ≡ None

-- The delay of a commit's group is within the commit's call, and so is all by which its leader decided whether the
-- group goes on. The delay comes after all that the client knew before (`knew`). It is among the calls that the leader
-- had seen when it decided (`decided`), and once the commit returns the client knows of all of these (`knows`).
abbrev pub IsWithinCall : ℕ → ℕ → ℕ → ℕ → Type 0
IsWithinCall knew knows place decided = (knew ≤ place) × (place < decided) × (decided ≤ knows)

-- A commit went to a group, and this is how it ended there. The delay is within the commit's call. By the delay, calls
-- of the controller had said all that the client had been shown.
pub record WentToGroup (controller_calls : List ControllerCall) (knew knows seen_up_to : ℕ) (fate : Fate) : Type 0
  where
    pub asked : IsWithinCall knew knows fate.place fate.decided
    pub said : seen_up_to ≤ said_in (take (fate.place + 1) controller_calls)

-- Each command

-- nothing has changed, except perhaps what is known of the controller and of the log's calls
abbrev pub Stays : Progress → Progress → Type 0
Stays p q = q ≡ record p { known = q.known; logged = q.logged }

abbrev pub Adds : Progress → Record → Reply → Progress → Type 0
Adds p r quiet q = q ≡ record p { pending = p.pending ++ r ∷ []; known = q.known; logged = q.logged }
Adds p r other q = ⊥

abbrev pub Clears : Progress → Reply → Progress → Type 0
Clears p quiet q = q ≡ record p { pending = []; known = q.known; logged = q.logged }
Clears p other q = ⊥

-- The batch got the run that was replied, and is the client's next entry. The run is above all that the client was
-- shown, and above each sequence after which there was no room for an earlier batch of this client. The client doesn't
-- know of a fault of the log, and holds no stop token. The delay of its group is within the call, and so is the look
-- after which the group went on, if it waited for one. Nobody who took a token or gave one back before its leader
-- decided had been shown the batch. By the delay, calls of the controller had said all that the client had been shown.
-- A batch that goes into the log was written by a call of the log writer that had
-- returned when the client was answered.
pub record IsAccepted (controller_calls : List ControllerCall) (log_calls : List GroupCall) (client : ℕ) (p : Progress)
    (how : WriteOptions) (first last : ℕ) (records : List Record) (q : Progress) : Type 0 where
  pub batch : records ≡ p.pending
  pub run : last + 1 ≡ first + count_of p.pending
  pub above : p.seen_up_to < first
  pub behind : AreFullBelow first p.attempts
  pub alive : knows_log_failed p.attempts ≡ false
  pub free : holds_stop p.asked ≡ false
  pub place : ℕ
  pub decided : ℕ
  pub asked : IsWithinCall p.known q.known place decided
  pub unseen : shown_by_tokens (take decided controller_calls) < first
  pub said : p.seen_up_to ≤ said_in (take (place + 1) controller_calls)
  pub logged : how.no_log ≡ false → IsLoggedBy log_calls p.logged q.logged first p.pending how.sync
  pub after : q ≡ record p {
    pending = [];
    mine = p.mine ++ next_entry client p.mine how first p.pending ∷ [];
    attempts = with_attempt p.attempts p.pending how (fate_at place decided succeeded);
    seen_up_to = max p.seen_up_to last;
    known = q.known;
    logged = q.logged;
  }

-- a commit that passed the early checks
abbrev pub IsAttempted : Trace → ℕ → Progress → WriteOptions → Reply → Progress → Type 0
IsAttempted trace client p how (accepted first last records) q =
    IsAccepted trace.controller_calls trace.log_calls client p how first last records q
IsAttempted trace client p how (refused why) q =
    (fate : Option Fate) × MayRefuse trace.controller_calls client p q.known how why fate
    × (q ≡ record p { attempts = with_attempt p.attempts p.pending how fate; known = q.known; logged = q.logged })
    × IsKeptOut p.asked fate
    × IfSome fate (WentToGroup trace.controller_calls p.known q.known p.seen_up_to)
IsAttempted trace client p how other q = ⊥

abbrev pub Commits : Settings → Trace → ℕ → Progress → WriteOptions → Reply → Progress → Type 0
Commits settings trace client p how reply q =
    MatchOption (early_refusal settings.families settings.batch_bytes (holds_stop p.asked) p.pending how)
    (IsAttempted trace client p how reply q) (λ why. (reply ≡ refused why) × Stays p q)

-- a read at a boundary of the history that isn't below any sequence that the client was shown
pub record ReadsAt (trace : Trace) (p : Progress) (at : ℕ) (answers : Pairs → Type 0) (q : Progress) : Type 0 where
  pub front : List Entry
  pub is_front : IsUpTo trace.start trace.entries at front
  pub not_below : p.seen_up_to ≤ at
  pub answer : answers (map_over trace.opening front)
  pub after : q ≡ record p { seen_up_to = at; known = q.known; logged = q.logged }

-- a read of keys in these families: refused by the first one that there isn't, if there is such a one
abbrev pub IfThere : Settings → List ℕ → Progress → Reply → Progress → Type 0 → Type 0
IfThere settings named p reply q answered = MatchOption (first_missing settings.families named) answered
    (λ family. (reply ≡ refused (no.NoFamily family)) × Stays p q)

abbrev pub Gets : Trace → Progress → Key → Reply → Progress → Type 0
Gets trace p key (found at v) q = ReadsAt trace p at (λ m. v ≡ value_at m key) q
Gets trace p key other q = ⊥

abbrev pub GetsMany : Trace → Progress → List Key → Reply → Progress → Type 0
GetsMany trace p keys (found_each at vs) q = ReadsAt trace p at (λ m. vs ≡ map (value_at m) keys) q
GetsMany trace p keys other q = ⊥

abbrev pub Scans : Trace → Progress → ℕ → List ℕ → List ℕ → Reply → Progress → Type 0
Scans trace p family lo hi (rows at pairs) q = ReadsAt trace p at (λ m. pairs ≡ rows_within family lo hi m) q
Scans trace p family lo hi other q = ⊥

-- A read of the log was right. It was at a boundary, and the log's first groups have all logged entries up to there,
-- and no others. It gave those records up to there that begin at its sequence or a later one, or go on there. That is
-- said where it is known which batches the log had kept.
pub record IsLogRead (trace : Trace) (r : LogRead) : Type 0 where
  pub front : List Entry
  pub is_front : IsUpTo trace.start trace.entries r.at front
  pub groups : List (List Entry)
  pub in_log : IsPrefix groups trace.logged
  pub up_to : AreGroupsOf front groups
  pub answer : IfSome trace.kept (λ kept. r.records ≡ since r.since r.at (records_in kept groups))

-- a read of the log from the sequence s on, at a boundary that isn't below any sequence that the client was shown
pub record ReadsLog (trace : Trace) (p : Progress) (s at : ℕ) (records : List (List ℕ)) (q : Progress) : Type 0 where
  pub reads : ReadsAt trace p at (λ _. ⊤) q
  pub right : IsLogRead trace (record { since = s; at = at; records = records })

-- The log's records from a sequence on. Or the client holds a stop token; or the log's disk failed, so that its count
-- of faults rose (`IsLegalIn` says more of it).
abbrev pub Updates : Settings → Trace → Progress → ℕ → Reply → Progress → Type 0
Updates settings trace p s (updates_found at records) q = (holds_stop p.asked ≡ false)
    × ReadsLog trace p s at records q
Updates settings trace p s (refused why) q = (why ≡ no.SelfStop) × (holds_stop p.asked ≡ true) × Stays p q
Updates settings trace p s (read_failed count) q = (holds_stop p.asked ≡ false) × Rose settings.opened count × Stays p q
Updates settings trace p s other q = ⊥

-- A token is taken or given back: the controller's history has that call, after all that was known, and now the client
-- knows of it. The call's number is no less than what the client had been shown, and calls up to this one say all that
-- it had been shown. Then the client hears up to which sequence it is shown what is published from now on: that is no
-- less than what all calls up to the token call say (`AreHeard`).
pub record IsDone (trace : Trace) (client : ℕ) (p : Progress) (action : Action) (q : Progress) : Type 0 where
  pub place : ℕ
  pub is_later : IsLater trace.controller_calls p.known place (record { client = client; action = action; told = None })
  pub had : p.seen_up_to ≤ shown_by_token action
  pub said : p.seen_up_to ≤ said_in (take (place + 1) trace.controller_calls)
  pub heard_at : ℕ
  pub most : ℕ
  pub hears : IsLater trace.controller_calls (place + 1) heard_at
      (record { client = client; action = controller.hear most; told = None })
  pub known : heard_at < q.known
  pub after : q ≡ record p {
    asked = p.asked ++ action ∷ [];
    seen_up_to = max p.seen_up_to most;
    known = q.known;
    logged = q.logged;
  }

-- A token that the client holds at its end is given back by this call. The controller's history has the call, after all
-- that was known, and calls up to it say all that the client had been shown.
pub record IsGivenBack (controller_calls : List ControllerCall) (client known seen_up_to : ℕ) (action : Action) : Type 0
  where
    pub place : ℕ
    pub is_later : IsLater controller_calls known place (record { client = client; action = action; told = None })
    pub said : seen_up_to ≤ said_in (take (place + 1) controller_calls)

abbrev pub Stops : Trace → ℕ → Progress → Reply → Progress → Type 0
Stops trace client p done q = (holds_stop p.asked ≡ false) × (shown : ℕ)
    × IsDone trace client p (controller.stop shown) q
Stops trace client p held q = (holds_stop p.asked ≡ true) × Stays p q
Stops trace client p other q = ⊥

abbrev pub Unstops : Trace → ℕ → Progress → Reply → Progress → Type 0
Unstops trace client p done q = (holds_stop p.asked ≡ true) × (shown : ℕ)
    × IsDone trace client p (controller.unstop shown) q
Unstops trace client p not_held q = (holds_stop p.asked ≡ false) × Stays p q
Unstops trace client p other q = ⊥

abbrev pub Slows : Trace → ℕ → Progress → ℕ → Reply → Progress → Type 0
Slows trace client p rate done q = (holds_slow p.asked ≡ false) × (shown : ℕ)
    × IsDone trace client p (controller.slow rate shown) q
Slows trace client p rate held q = (holds_slow p.asked ≡ true) × Stays p q
Slows trace client p rate other q = ⊥

abbrev pub Unslows : Trace → ℕ → Progress → Reply → Progress → Type 0
Unslows trace client p done q = (holds_slow p.asked ≡ true) × (shown : ℕ)
    × IsDone trace client p (controller.unslow shown) q
Unslows trace client p not_held q = (holds_slow p.asked ≡ false) × Stays p q
Unslows trace client p other q = ⊥

-- a client with progress p may get this reply to this command, and then has progress q
abbrev pub Replies : Settings → Trace → ℕ → Progress → Command → Reply → Progress → Type 0
Replies settings trace client p (add r) reply q = Adds p r reply q
Replies settings trace client p clear reply q = Clears p reply q
Replies settings trace client p (commit how) reply q = Commits settings trace client p how reply q
Replies settings trace client p (get key) reply q =
    IfThere settings (key.family ∷ []) p reply q (Gets trace p key reply q)
Replies settings trace client p (many keys) reply q =
    IfThere settings (map (λ (k : Key). k.family) keys) p reply q (GetsMany trace p keys reply q)
Replies settings trace client p (scan family lo hi) reply q =
    IfThere settings (family ∷ []) p reply q (Scans trace p family lo hi reply q)
Replies settings trace client p (updates s) reply q = Updates settings trace p s reply q
Replies settings trace client p stop reply q = Stops trace client p reply q
Replies settings trace client p unstop reply q = Unstops trace client p reply q
Replies settings trace client p (slow rate) reply q = Slows trace client p rate reply q
Replies settings trace client p unslow reply q = Unslows trace client p reply q

-- the commands that may find no memory; a commit is one of them once it has passed the early checks
abbrev pub MayFindNoMemory : Settings → Progress → Command → Type 0
MayFindNoMemory settings p (add r) = Unit {0}
MayFindNoMemory settings p clear = ⊥
MayFindNoMemory settings p (commit how) =
    early_refusal settings.families settings.batch_bytes (holds_stop p.asked) p.pending how ≡ None
MayFindNoMemory settings p (get key) = first_missing settings.families (key.family ∷ []) ≡ None
MayFindNoMemory settings p (many keys) = first_missing settings.families (map (λ (k : Key). k.family) keys) ≡ None
MayFindNoMemory settings p (scan family lo hi) = first_missing settings.families (family ∷ []) ≡ None
MayFindNoMemory settings p (updates s) = holds_stop p.asked ≡ false
MayFindNoMemory settings p stop = ⊥
MayFindNoMemory settings p unstop = ⊥
MayFindNoMemory settings p (slow rate) = ⊥
MayFindNoMemory settings p unslow = ⊥
