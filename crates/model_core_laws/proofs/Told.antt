-- What stays true of the clients' calls while events come.
use Rattle.std.proofs.Common.{◌≡◌, ℕ, zero, suc, ◌+◌, ◌≤◌, true, false, List, [], ◌∷◌, ◌++◌, length, map, Option, Some, None, is_some, IsSome, slice_get, MatchOption, ◌==◌, refl, ap, sym, ◌∙◌, append_assoc, arith}
use mathlib.Core.List.{IsPrefix}
use Rattle.std.specs.List.{AllByRecursion}
use Rattle.std.proofs.lemmas.List.{append-nil}
use Rattle.std.proofs.lemmas.List.Elements.{filter-append}
use Rattle.model_base.specs.declared.key.Key.{Key}
use Rattle.model_base.specs.Map.{Pairs, value_at, rows_within}
use Rattle.model_base.specs.declared.write.WriteOptions.{WriteOptions}
use Rattle.model_base.specs.declared.write.Refusal.{Refusal}
use Rattle.model_base.specs.declared.write.Refusal.TheVariants as no
use Rattle.model_base.specs.Batch.{count_of}
use Rattle.model_base.specs.History.{Entry, IsUpTo}
use Rattle.model_base.specs.Progress.{first_missing, early_refusal, next_entry, batch_after}
use Rattle.model_base.specs.Runs.{commands_of}
use Rattle.model_base.specs.LogContents.{AreGroupsOf}
use Rattle.model_base.specs.Outcomes.{entries_of_client}
use Rattle.model_base.proofs.Prefixes.{prefix_trans}
use Rattle.model_base.specs.Calls.{Command, add, clear, commit, get, many, scan, updates, stop, unstop, slow, unslow, Reply, quiet, accepted, refused, found, found_each, rows, updates_found, read_failed, done, held, not_held, no_memory, Call}
use Rattle.model_core.specs.Core.{Options, Writer, Client, LogPhase, free, led, built, stalled, in_log, marked, handed, State, client_at, plain_options, command_of, log_groups}
use Rattle.model_core.specs.CoreLaw.{IsCore, hand, writers_in}
use Rattle.model_core.specs.Replies.{seen_up_to, knows_log_failed, entries_told, ReadsAt, Gets, GetsMany, Scans, Updates, IfThere, IsHandled, MayRefuse, MayReply, AreRight, lines_at}
use Rattle.model_core_laws.proofs.Groups.{SameSlowdown}
use Rattle.model_core_laws.proofs.Lists.{all_append, all_weaker}

-- all writers that wait, wherever they are
abbrev pub writers : State → List Writer
writers s = ((writers_in s.second ++ hand s.log) ++ s.queue) ++ s.leaving

-- the writers that have no answer yet
abbrev pub unanswered : LogPhase → List Writer → List Writer
unanswered (built ws) queue = ws ++ queue
unanswered (stalled ws) queue = ws ++ queue
unanswered free queue = queue
unanswered (led c) queue = queue
unanswered (in_log ws) queue = queue
unanswered (marked ws) queue = queue
unanswered (handed c) queue = queue

-- a writer that writes has no answer yet
abbrev pub HasNoAnswer : Writer → Type 0
HasNoAnswer w = w.since ≡ None → w.answer ≡ None

-- a built group may be slowed down as a whole, or not at all
abbrev pub IsOneKind : LogPhase → Type 0
IsOneKind (built ws) = SameSlowdown ws
IsOneKind (stalled ws) = SameSlowdown ws
IsOneKind free = Unit {0}
IsOneKind (led c) = Unit {0}
IsOneKind (in_log ws) = Unit {0}
IsOneKind (marked ws) = Unit {0}
IsOneKind (handed c) = Unit {0}

-- What the answer of a read of the log says: it was made at a sequence that was published, and the log has groups of its
-- own for the logged entries up to there.
pub record IsReadAnswer (o : Options) (s : State) (client : Client) (w : Writer) (at : ℕ) : Type 0 where
  pub from : ℕ
  pub reads : w.since ≡ Some from
  pub not_below : seen_up_to client.calls ≤ at
  pub published : at ≤ s.last
  pub front : List Entry
  pub is_front : IsUpTo o.start s.entries at front
  pub groups : List (List Entry)
  pub in_log : IsPrefix groups (log_groups s)
  pub up_to : AreGroupsOf front groups
  pub entries : entries_of_client w.client s.entries ≡ entries_told w.client client.calls

-- what a writer's answer says of its client's entries
abbrev pub IsAnswer : Options → State → Client → Writer → Option Reply → Type 0
IsAnswer o s client w None = entries_of_client w.client s.entries ≡ entries_told w.client client.calls
IsAnswer o s client w (Some (accepted first last records)) = (records ≡ w.records) × (last + 1 ≡ first + count_of w.records)
    × (entries_of_client w.client s.entries ≡ entries_told w.client client.calls ++ next_entry w.client (entries_told w.client client.calls) w.options first w.records ∷ [])
    × (knows_log_failed client.calls ≡ false) × (w.since ≡ None)
IsAnswer o s client w (Some (refused why)) = MayRefuse o s client.calls w.options why × (entries_of_client w.client s.entries ≡ entries_told w.client client.calls) × (w.since ≡ None)
IsAnswer o s client w (Some quiet) = ⊥
IsAnswer o s client w (Some (found at v)) = ⊥
IsAnswer o s client w (Some (found_each at vs)) = ⊥
IsAnswer o s client w (Some (rows at pairs)) = ⊥
IsAnswer o s client w (Some (updates_found at records)) = IsReadAnswer o s client w at
IsAnswer o s client w (Some (read_failed count)) = ⊥
IsAnswer o s client w (Some done) = ⊥
IsAnswer o s client w (Some held) = ⊥
IsAnswer o s client w (Some not_held) = ⊥
IsAnswer o s client w (Some no_memory) = ⊥

pub record Waits (o : Options) (plans : List (List Command)) (s : State) (w : Writer) : Type 0 where
  pub client : Client
  pub there : client_at s w.client ≡ Some client
  pub batch : w.since ≡ None → w.records ≡ batch_after client.calls
  pub passed : w.since ≡ None → early_refusal o.families o.batch_bytes false w.records w.options ≡ None
  -- a read of the log waits like a write that may wait
  pub plain : (n : ℕ) → w.since ≡ Some n → w.options ≡ plain_options
  pub asked : (lines : List Command) → lines_at plans w.client ≡ Some lines → lines ≡ commands_of client.calls ++ command_of w ∷ client.left
  pub answer : IsAnswer o s client w w.answer

-- a writer that may not be slowed down writes
pub slow_writes : (o : Options) (plans : List (List Command)) (s : State) (w : Writer) → Waits o plans s w → w.options.no_slowdown ≡ true → w.since ≡ None
slow_writes o plans s w is quick = by w.since refl
  where
    by : (since : Option ℕ) → w.since ≡ since → since ≡ None
    by None reads = refl
    by (Some n) reads = absurd (let plain : w.options.no_slowdown ≡ false = ap (λ (how : WriteOptions). how.no_slowdown) (is.plain n reads) in cc)

pub record IsToldSoFar (o : Options) (plans : List (List Command)) (s : State) (c : ℕ) (client : Client) : Type 0 where
  pub added : client.added ≡ batch_after client.calls
  pub right : AreRight o s client.calls
  pub seen_published : seen_up_to client.calls ≤ s.last
  pub log_failed : knows_log_failed client.calls ≡ true → s.log_failed ≡ true
  pub asked : client.idle ≡ true → (lines : List Command) → lines_at plans c ≡ Some lines → lines ≡ commands_of client.calls ++ client.left
  pub entries : client.idle ≡ true → entries_of_client c s.entries ≡ entries_told c client.calls

pub record Told (o : Options) (plans : List (List Command)) (s : State) : Type 0 where
  pub core : IsCore o s
  pub count : length s.clients ≡ length plans
  pub each : (c : ℕ) (client : Client) → client_at s c ≡ Some client → IsToldSoFar o plans s c client
  pub of_clients : AllByRecursion (λ (x : Entry). IsSome (client_at s x.client)) s.entries
  pub waits : AllByRecursion (Waits o plans s) (writers s)
  pub none : AllByRecursion HasNoAnswer (unanswered s.log s.queue)
  pub one_kind : IsOneKind s.log

-- Replies that were right stay right when the history grows and when the log fails.
pub up_to_more : (start : ℕ) (entries xs : List Entry) (at : ℕ) (front : List Entry) → IsUpTo start entries at front → IsUpTo start (entries ++ xs) at front
up_to_more start entries xs at front is = record { rest = is.rest ++ xs; split = ap (λ es. es ++ xs) is.split ∙ append_assoc front is.rest xs; ends = is.ends }

-- the history of s is a beginning of that of t
pub record Grows (s t : State) : Type 0 where
  pub new : List Entry
  pub entries : t.entries ≡ s.entries ++ new
  pub logged : IsPrefix (log_groups s) (log_groups t)
  pub log_failed : s.log_failed ≡ true → t.log_failed ≡ true
  pub last : s.last ≤ t.last

up_to_grown : (o : Options) (s t : State) → Grows s t → (at : ℕ) (front : List Entry) → IsUpTo o.start s.entries at front → IsUpTo o.start t.entries at front
up_to_grown o s t grows at front is = rw grows.entries (up_to_more o.start s.entries grows.new at front is)

pub refusal_more : (o : Options) (s t : State) → Grows s t → (before : List Call) (how : WriteOptions) (why : Refusal) → MayRefuse o s before how why → MayRefuse o t before how why
refusal_more o s t grows before how (no.LogFault count) m = (m.0, grows.log_failed m.1)
refusal_more o s t grows before how (no.SequenceFull last) m = (m.0, m.1, (m.2.0, up_to_grown o s t grows last m.2.0 m.2.1), m.3)
refusal_more o s t grows before how (no.Incomplete stops delays wait) m = m
refusal_more o s t grows before how no.Empty m = m
refusal_more o s t grows before how (no.TooLarge size) m = m
refusal_more o s t grows before how no.SyncWithoutLog m = m
refusal_more o s t grows before how no.SelfStop m = m
refusal_more o s t grows before how (no.NoFamily family) m = m
refusal_more o s t grows before how no.NoMemory m = m

reads_more : (o : Options) (s t : State) → Grows s t → (before : List Call) (at : ℕ) (answers : Pairs → Type 0) → ReadsAt o s before at answers → ReadsAt o t before at answers
reads_more o s t grows before at answers r = record { front = r.front; is_front = up_to_grown o s t grows at r.front r.is_front; not_below = r.not_below; answer = r.answer }

handled_more : (o : Options) (s t : State) → Grows s t → (before : List Call) (how : WriteOptions) (reply : Reply) → IsHandled o s before how reply → IsHandled o t before how reply
handled_more o s t grows before how (accepted first last records) m = m
handled_more o s t grows before how (refused why) m = refusal_more o s t grows before how why m
handled_more o s t grows before how quiet m = m
handled_more o s t grows before how (found at v) m = m
handled_more o s t grows before how (found_each at vs) m = m
handled_more o s t grows before how (rows at pairs) m = m
handled_more o s t grows before how (updates_found at records) m = m
handled_more o s t grows before how (read_failed count) m = m
handled_more o s t grows before how done m = m
handled_more o s t grows before how held m = m
handled_more o s t grows before how not_held m = m
handled_more o s t grows before how no_memory m = m

commits_more : (o : Options) (s t : State) → Grows s t → (before : List Call) (how : WriteOptions) (reply : Reply) (early : Option Refusal)
    → MatchOption early (IsHandled o s before how reply) (λ why. reply ≡ refused why) → MatchOption early (IsHandled o t before how reply) (λ why. reply ≡ refused why)
commits_more o s t grows before how reply None m = handled_more o s t grows before how reply m
commits_more o s t grows before how reply (Some why) m = m

gets_more : (o : Options) (s t : State) → Grows s t → (before : List Call) (key : Key) (reply : Reply) → Gets o s before key reply → Gets o t before key reply
gets_more o s t grows before key (found at v) m = reads_more o s t grows before at (λ m. v ≡ value_at m key) m
gets_more o s t grows before key (accepted first last records) m = m
gets_more o s t grows before key (refused why) m = m
gets_more o s t grows before key quiet m = m
gets_more o s t grows before key (found_each at vs) m = m
gets_more o s t grows before key (rows at pairs) m = m
gets_more o s t grows before key (updates_found at records) m = m
gets_more o s t grows before key (read_failed count) m = m
gets_more o s t grows before key done m = m
gets_more o s t grows before key held m = m
gets_more o s t grows before key not_held m = m
gets_more o s t grows before key no_memory m = m

many_more : (o : Options) (s t : State) → Grows s t → (before : List Call) (keys : List Key) (reply : Reply) → GetsMany o s before keys reply → GetsMany o t before keys reply
many_more o s t grows before keys (found_each at vs) m = reads_more o s t grows before at (λ m. vs ≡ map (value_at m) keys) m
many_more o s t grows before keys (accepted first last records) m = m
many_more o s t grows before keys (refused why) m = m
many_more o s t grows before keys quiet m = m
many_more o s t grows before keys (found at v) m = m
many_more o s t grows before keys (rows at pairs) m = m
many_more o s t grows before keys (updates_found at records) m = m
many_more o s t grows before keys (read_failed count) m = m
many_more o s t grows before keys done m = m
many_more o s t grows before keys held m = m
many_more o s t grows before keys not_held m = m
many_more o s t grows before keys no_memory m = m

scans_more : (o : Options) (s t : State) → Grows s t → (before : List Call) (family : ℕ) (lo hi : List ℕ) (reply : Reply) → Scans o s before family lo hi reply → Scans o t before family lo hi reply
scans_more o s t grows before family lo hi (rows at pairs) m = reads_more o s t grows before at (λ m. pairs ≡ rows_within family lo hi m) m
scans_more o s t grows before family lo hi (accepted first last records) m = m
scans_more o s t grows before family lo hi (refused why) m = m
scans_more o s t grows before family lo hi quiet m = m
scans_more o s t grows before family lo hi (found at v) m = m
scans_more o s t grows before family lo hi (found_each at vs) m = m
scans_more o s t grows before family lo hi (updates_found at records) m = m
scans_more o s t grows before family lo hi (read_failed count) m = m
scans_more o s t grows before family lo hi done m = m
scans_more o s t grows before family lo hi held m = m
scans_more o s t grows before family lo hi not_held m = m
scans_more o s t grows before family lo hi no_memory m = m

updates_more : (o : Options) (s t : State) → Grows s t → (before : List Call) (n : ℕ) (reply : Reply) → Updates o s before n reply → Updates o t before n reply
unfolding reads_more
updates_more o s t grows before n (updates_found at records) m = record {
  reads = reads_more o s t grows before at (λ m. Unit {0}) m.reads;
  groups = m.groups;
  in_log = prefix_trans m.groups (log_groups s) (log_groups t) m.in_log grows.logged;
  up_to = m.up_to;
  answer = m.answer;
}
updates_more o s t grows before n (accepted first last records) m = m
updates_more o s t grows before n (refused why) m = m
updates_more o s t grows before n quiet m = m
updates_more o s t grows before n (found at v) m = m
updates_more o s t grows before n (found_each at vs) m = m
updates_more o s t grows before n (rows at pairs) m = m
updates_more o s t grows before n (read_failed count) m = m
updates_more o s t grows before n done m = m
updates_more o s t grows before n held m = m
updates_more o s t grows before n not_held m = m
updates_more o s t grows before n no_memory m = m

there_more : (o : Options) (named : List ℕ) (reply : Reply) (X Y : Type 0) → (X → Y) → IfThere o named reply X → IfThere o named reply Y
there_more o named reply X Y more m = by (first_missing o.families named) m
  where
    by : (missing : Option ℕ) → MatchOption missing X (λ family. reply ≡ refused (no.NoFamily family)) → MatchOption missing Y (λ family. reply ≡ refused (no.NoFamily family))
    by None m = more m
    by (Some family) m = m

reply_more : (o : Options) (s t : State) → Grows s t → (before : List Call) (command : Command) (reply : Reply) → MayReply o s before command reply → MayReply o t before command reply
reply_more o s t grows before (add r) reply m = m
reply_more o s t grows before clear reply m = m
reply_more o s t grows before (commit how) reply m = commits_more o s t grows before how reply (early_refusal o.families o.batch_bytes false (batch_after before) how) m
reply_more o s t grows before (get key) reply m = there_more o (key.family ∷ []) reply _ _ (gets_more o s t grows before key reply) m
reply_more o s t grows before (many keys) reply m = there_more o (map (λ (k : Key). k.family) keys) reply _ _ (many_more o s t grows before keys reply) m
reply_more o s t grows before (scan family lo hi) reply m = there_more o (family ∷ []) reply _ _ (scans_more o s t grows before family lo hi reply) m
reply_more o s t grows before (updates n) reply m = updates_more o s t grows before n reply m
reply_more o s t grows before stop reply m = m
reply_more o s t grows before unstop reply m = m
reply_more o s t grows before (slow rate) reply m = m
reply_more o s t grows before unslow reply m = m

pub right_more : (o : Options) (s t : State) → Grows s t → (calls : List Call) → AreRight o s calls → AreRight o t calls
right_more o s t grows calls right before c after e = reply_more o s t grows before c.command c.reply (right before c after e)

-- A client whose entries stay as they are
pub own_same : (c : ℕ) (s t : State) (grows : Grows s t) → entries_of_client c grows.new ≡ [] → entries_of_client c t.entries ≡ entries_of_client c s.entries
own_same c s t grows none = ap (entries_of_client c) grows.entries ∙ (filter-append (λ (e : Entry). e.client == c) s.entries grows.new ∙ rw none (append-nil (entries_of_client c s.entries)))

pub answer_same : (o : Options) (s t : State) (client : Client) (w : Writer) (answer : Option Reply) (grows : Grows s t) → entries_of_client w.client grows.new ≡ [] → IsAnswer o s client w answer → IsAnswer o t client w answer
answer_same o s t client w None grows none is = own_same w.client s t grows none ∙ is
answer_same o s t client w (Some (accepted first last records)) grows none is = (is.0, is.1, own_same w.client s t grows none ∙ is.2, is.3, is.4)
answer_same o s t client w (Some (refused why)) grows none is = (refusal_more o s t grows client.calls w.options why is.0, own_same w.client s t grows none ∙ is.1, is.2)
answer_same o s t client w (Some quiet) grows none is = is
answer_same o s t client w (Some (found at v)) grows none is = is
answer_same o s t client w (Some (found_each at vs)) grows none is = is
answer_same o s t client w (Some (rows at pairs)) grows none is = is
answer_same o s t client w (Some (updates_found at records)) grows none is = record {
  from = is.from;
  reads = is.reads;
  not_below = is.not_below;
  published = omega (arith, is.published, grows.last);
  front = is.front;
  is_front = up_to_grown o s t grows at is.front is.is_front;
  groups = is.groups;
  in_log = prefix_trans is.groups (log_groups s) (log_groups t) is.in_log grows.logged;
  up_to = is.up_to;
  entries = own_same w.client s t grows none ∙ is.entries;
}
answer_same o s t client w (Some (read_failed count)) grows none is = is
answer_same o s t client w (Some done) grows none is = is
answer_same o s t client w (Some held) grows none is = is
answer_same o s t client w (Some not_held) grows none is = is
answer_same o s t client w (Some no_memory) grows none is = is

pub same_client : (s t : State) → t.clients ≡ s.clients → (c : ℕ) → client_at t c ≡ client_at s c
same_client s t e zero = refl
same_client s t e (suc c) = ap (λ cs. slice_get cs c) e

pub waits_same : (o : Options) (plans : List (List Command)) (s t : State) (w : Writer) (grows : Grows s t) → t.clients ≡ s.clients → entries_of_client w.client grows.new ≡ [] → Waits o plans s w → Waits o plans t w
waits_same o plans s t w grows e none is = record {
  client = is.client;
  there = same_client s t e w.client ∙ is.there;
  batch = is.batch;
  passed = is.passed;
  plain = is.plain;
  asked = is.asked;
  answer = answer_same o s t is.client w w.answer grows none is.answer;
}

-- an event that changes no client
pub told_without : (o : Options) (plans : List (List Command)) (s t : State) (grows : Grows s t) → t.clients ≡ s.clients
    → ((c : ℕ) (client : Client) → client_at s c ≡ Some client → client.idle ≡ true → entries_of_client c grows.new ≡ [])
    → AllByRecursion (λ (x : Entry). IsSome (client_at t x.client)) grows.new → AllByRecursion (Waits o plans t) (writers t) → AllByRecursion HasNoAnswer (unanswered t.log t.queue) → IsOneKind t.log
    → Told o plans s → IsCore o t → Told o plans t
told_without o plans s t grows e idle of_clients waits none kind told core = record {
  core = core;
  count = ap length e ∙ told.count;
  each = λ c client there. let before : client_at s c ≡ Some client = sym (same_client s t e c) ∙ there in let is = told.each c client before in record {
    added = is.added;
    right = right_more o s t grows client.calls is.right;
    seen_published = omega (arith, is.seen_published, grows.last);
    log_failed = λ knows. grows.log_failed (is.log_failed knows);
    asked = is.asked;
    entries = λ rests. own_same c s t grows (idle c client before rests) ∙ is.entries rests;
  };
  of_clients = rw grows.entries (all_append (λ (x : Entry). IsSome (client_at t x.client)) s.entries grows.new
      (all_weaker (λ (x : Entry). IsSome (client_at s x.client)) (λ (x : Entry). IsSome (client_at t x.client)) (λ x there. ap is_some (same_client s t e x.client) ∙ there) s.entries told.of_clients) of_clients);
  waits = waits;
  none = none;
  one_kind = kind;
}

-- an event that changes no client and gives no run
pub told_lines : (o : Options) (plans : List (List Command)) (s t : State) → t.clients ≡ s.clients → t.entries ≡ s.entries → t.groups ≡ s.groups → t.log_failed ≡ s.log_failed → s.last ≤ t.last
    → ((P : Writer → Type 0) → AllByRecursion P (writers s) → AllByRecursion P (writers t)) → AllByRecursion HasNoAnswer (unanswered t.log t.queue) → IsOneKind t.log
    → Told o plans s → IsCore o t → Told o plans t
told_lines o plans s t clients entries groups log_failed last same none kind told core =
    let logged : log_groups t ≡ log_groups s = rw (entries, groups) refl in
    let grows : Grows s t = record { new = []; entries = entries ∙ sym (append-nil s.entries); logged = ([], append-nil (log_groups s) ∙ sym logged); log_failed = λ was. log_failed ∙ was; last = last } in
    told_without o plans s t grows clients (λ c client there idle. refl) tt
    (all_weaker (Waits o plans s) (Waits o plans t) (λ w is. waits_same o plans s t w grows clients refl is) (writers t) (same (Waits o plans s) told.waits)) none kind told core
