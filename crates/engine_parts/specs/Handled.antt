-- Requests that were handled, as commits, and how a leader answers.
use Rattle.std.specs.Prelude.{◌≡◌, ◌≤◌, ℕ, ◌+◌, ◌-◌, Bool, true, false, length, IfSome, List, [], ◌∷◌, ◌++◌, map, flat_map, nat_le, if◌then◌else◌, Option, Some, None, Result, Ok, Err, ⊤}
use Rattle.std.specs.List.{AllByRecursion}
use mathlib.Core.List.{IsPrefix}
use Rattle.model_base.specs.declared.write.Refusal.{Refusal}
use Rattle.model_base.specs.declared.write.Refusal.TheVariants.{Empty, TooLarge, SyncWithoutLog, SelfStop, NoFamily, NoMemory, Incomplete, LogFault, SequenceFull}
use Rattle.model_base.specs.Batch.{Record, count_of}
use Rattle.model_base.specs.History.{max_sequence}
use Rattle.model_base.specs.LogContents.{GroupCall}
use Rattle.log_writer.specs.declared.group_log.GroupLog.{Ghosts}
use Rattle.engine_parts.specs.declared.log.OpenLog.{OpenLog}
use Rattle.engine_parts.specs.Logs.{Wrote}
use Rattle.engine_rule.specs.Entries.{entries_of}
use Rattle.engine_rule.specs.LogCalls.{WroteParts}
use Rattle.log_batch.specs.Contents.{Contents}
use Rattle.log_batch.specs.declared.run.Run.{Run}
use Rattle.line_rule.specs.declared.view.Handling.{Handling}
use Rattle.model_base.specs.Controller as calls
use Rattle.model_base.specs.Controller.{ControllerCall, Look, HoldUp, ShowTokens}
use Rattle.model_base.specs.Replies.{IsLater, WasHeldUp, MetStall}
use Rattle.model_base.specs.Tokens.{said_in}
use Rattle.std.specs.declared.snapshot.Snapshot.{Snapshot}
use Rattle.engine_controller.specs.declared.controller.Controller.{Controller}
use Rattle.engine_controller.specs.Noted.{Noted}
use Rattle.engine_controller.specs.Passes.{seen_by, seen_by_note, IsNoteOf}
use Rattle.engine_rule.specs.Commits.{Answer as CommitAnswer, accepted, held_up, failed, no_room, Heard, Commit, AreAnswered}
use Rattle.engine_rule.specs.LogSights.{LogSight, ShowTheLog, written_if}
use Rattle.engine_rule.specs.Plans.{CommitRequest, last_with}
use Rattle.engine_parts.specs.declared.requests.Request.{Request}
use Rattle.engine_parts.specs.declared.requests.Delay.{Delay}
use Rattle.engine_calls.specs.declared.answers.Receipt.{Receipt}
use Rattle.engine_calls.specs.declared.answers.Refused.{Refused}
use Rattle.engine_calls.specs.declared.answers.Since.{Since}
use Rattle.engine_calls.specs.declared.answers.SinceRefused.{SinceRefused}
use Rattle.engine_calls.specs.declared.answers.SinceRefused.TheVariants as unread
use Rattle.engine_rule.specs.Reading.{ReadAnswer, AnsweredRead, gave, broke, lacked}
use Rattle.engine_parts.specs.declared.requests.Answer.{Answer}

-- A refusal as the answer to a commit. A leader gives only the first three.
abbrev pub answer_of_refusal : Refusal → CommitAnswer
answer_of_refusal (LogFault count) = failed count
answer_of_refusal (SequenceFull last) = no_room last
answer_of_refusal (Incomplete stops delays wait) = held_up (record { stops = stops; delays = delays; wait = wait })
answer_of_refusal Empty = no_room 0
answer_of_refusal (TooLarge size) = no_room 0
answer_of_refusal SyncWithoutLog = no_room 0
answer_of_refusal SelfStop = no_room 0
answer_of_refusal (NoFamily family) = no_room 0
answer_of_refusal NoMemory = no_room 0

abbrev pub answer_in : Result Receipt Refused → CommitAnswer
answer_in (Ok receipt) = accepted receipt.run.first receipt.group_last
answer_in (Err refused) = answer_of_refusal refused.why

-- the controller's history up to the delay that was asked for the group
abbrev pub seen_at : Delay → List ControllerCall
seen_at delay = seen_by delay.pass.value

-- the history as the leader had seen it when it was decided whether the group goes on
abbrev pub went_at : Delay → List ControllerCall
went_at delay = seen_by delay.went.value

abbrev pub heard_at : Delay → Heard
heard_at delay = record { known = seen_at delay; went = went_at delay }

abbrev pub seen_for : Answer → List ControllerCall
seen_for p = seen_at p.delay.value

abbrev pub went_for : Answer → List ControllerCall
went_for p = went_at p.delay.value

abbrev pub commit_of : Handling Request Answer → Commit
commit_of h = record {
  client = h.by;
  records = h.asked.batch.records;
  options = h.asked.options;
  answer = answer_in h.reply.answer;
  heard = heard_at h.reply.delay.value;
}

-- a write is a commit, and a read of the log is none
abbrev pub commit_if : Option ℕ → Commit → List Commit
commit_if None c = c ∷ []
commit_if (Some since) c = []

-- what was handled, as commits
abbrev pub commits_in : List (Handling Request Answer) → List Commit
commits_in handled = flat_map (λ (h : Handling Request Answer). commit_if h.asked.since (commit_of h)) handled

-- What the answer to a commit shows of the log: how many of its calls had worked when the group was answered, and the
-- commit's batch, where that is accepted and may be logged.

abbrev pub has_run : CommitAnswer → Bool
has_run (accepted first group_last) = true
has_run (held_up numbers) = false
has_run (failed count) = false
has_run (no_room at) = false

abbrev pub first_of : CommitAnswer → ℕ
first_of (accepted first group_last) = first
first_of (held_up numbers) = 0
first_of (failed count) = 0
first_of (no_room at) = 0

abbrev pub sight_with : ℕ → Commit → LogSight
sight_with made c = record {
  client = c.client;
  made = made;
  batch = written_if c.options.no_log (has_run c.answer)
      (record { first = first_of c.answer; records = c.records; sync = c.options.sync });
}

abbrev pub sight_of : Handling Request Answer → LogSight
sight_of h = sight_with h.reply.delay.value.made (commit_of h)

-- a read of the log shows none here
abbrev pub sight_if : Option ℕ → LogSight → List LogSight
sight_if None s = s ∷ []
sight_if (Some since) s = []

abbrev pub sights_in : List (Handling Request Answer) → List LogSight
sights_in handled = flat_map (λ (h : Handling Request Answer). sight_if h.asked.since (sight_of h)) handled

-- the answer to a read of the log from this sequence on
abbrev pub read_answer : ℕ → Option (Result Since SinceRefused) → ReadAnswer
read_answer since None = lacked
read_answer since (Some (Ok r)) = gave (record { since = since; at = r.at; records = r.records })
read_answer since (Some (Err unread.SelfStop)) = lacked
read_answer since (Some (Err unread.NoMemory)) = lacked
read_answer since (Some (Err (unread.ReadFault count))) = broke count

abbrev pub answer_if : Option ℕ → Answer → List ReadAnswer
answer_if None p = []
answer_if (Some since) p = read_answer since p.read ∷ []

-- a client's read of the log with this answer
abbrev pub read_by : ℕ → ReadAnswer → AnsweredRead
read_by client answer = record { client = client; answer = answer }

-- the reads of the log among what was handled, with their clients
abbrev pub reads_of : Handling Request Answer → List AnsweredRead
reads_of h = map (read_by h.by) (answer_if h.asked.since h.reply)

abbrev pub reads_handled : List (Handling Request Answer) → List AnsweredRead
reads_handled handled = flat_map reads_of handled

-- what the request's note, if it has one, shows of the controller's history
abbrev pub noted_in : Option Noted → List ControllerCall
noted_in None = []
noted_in (Some note) = seen_by_note note

-- the request's note, if it has one, is this controller's
abbrev pub IsNoted : {Time : Type 0} → Controller Time → Request → Type 0
IsNoted controller q = IfSome q.note (IsNoteOf controller)

-- the refusals that a leader gives
abbrev pub IsLate : Refusal → Type 0
IsLate (LogFault count) = ⊤
IsLate (SequenceFull last) = ⊤
IsLate (Incomplete stops delays wait) = ⊤
IsLate Empty = ⊥
IsLate (TooLarge size) = ⊥
IsLate SyncWithoutLog = ⊥
IsLate SelfStop = ⊥
IsLate (NoFamily family) = ⊥
IsLate NoMemory = ⊥

-- an accepted batch comes back with its sequence set, and a refused one as it was
abbrev pub ComesBack : Contents → Result Receipt Refused → Type 0
ComesBack batch (Ok receipt) = (receipt.batch ≡ record batch { sequence = receipt.run.first })
    × (receipt.run.last + 1 ≡ receipt.run.first + count_of batch.records)
ComesBack batch (Err refused) = (refused.batch ≡ batch) × IsLate refused.why

abbrev pub HandsBack : Handling Request Answer → Type 0
HandsBack h = ComesBack h.asked.batch h.reply.answer

-- the last call that was seen is a delay with these numbers as its answer, and comes after all of `seen_by_note`
pub record IsDelayed (seen_by_note seen : List ControllerCall) (numbers : Look) : Type 0 where
  pub by : ℕ
  pub now : ℕ
  pub bytes : ℕ
  pub is_later : IsLater seen (length seen_by_note) (length seen - 1)
      (record { client = by; action = calls.delay now bytes; told = Some numbers })

-- the reply has a note of the controller, which shows all of this history
abbrev pub NotesAll : {Time : Type 0} → Controller Time → List ControllerCall → Answer → Type 0
NotesAll controller seen p = (note : Noted) × (p.note ≡ Some note) × IsNoteOf controller note
    × IsPrefix seen (seen_by_note note)

-- The reply to a write has a note of the controller, which shows all that the leader had seen when it was decided
-- whether the group goes on, and so the group's delay. That delay comes after all that the request's own note shows,
-- and after a call that says no less than what the client had been shown. A client that is refused because writes are
-- held up may not wait, and its answer has the numbers of that delay, which say that writes are held up.
pub record ShowsDelay {Time : Type 0} (controller : Controller Time) (h : Handling Request Answer) : Type 0 where
  pub noted : h.asked.since ≡ None → NotesAll controller (went_for h.reply) h.reply
  pub begins : h.asked.since ≡ None → IsPrefix (seen_for h.reply) (went_for h.reply)
  pub delayed : h.asked.since ≡ None
      → (numbers : Look) × IsDelayed (noted_in h.asked.note) (seen_for h.reply) numbers
  pub said : h.asked.since ≡ None → h.asked.shown ≤ said_in (seen_for h.reply)
  pub held_up : (numbers : Look) → answer_in h.reply.answer ≡ held_up numbers
      → (h.asked.options.no_slowdown ≡ true) × HoldUp numbers
      × IsDelayed (noted_in h.asked.note) (seen_for h.reply) numbers

-- Calls have written a log from the opened one, and the first of them (`worked`) wrote the history of these commits,
-- whose answers show these calls.
pub record HasWritten {Log : Type 0} {ghosts : Ghosts Log} (opened : OpenLog Log ghosts)
    (commits : List Commit) (sights : List LogSight) : Type 0
  where
    pub calls : List GroupCall
    pub log : OpenLog Log ghosts
    pub wrote : Wrote opened calls log
    pub worked : List GroupCall
    pub lost : List GroupCall
    pub both : calls ≡ worked ++ lost
    pub parts : WroteParts (entries_of commits) worked
    pub shown : ShowTheLog worked sights

-- What holds of all that was handled, wherever the log is. The answers are right, and hand the batches back. Those to
-- writes show the delays of their groups, and what the leaders had seen since. The log has what was accepted and should
-- be logged.
pub record AreHandled {Time Log : Type 0} {ghosts : Ghosts Log} (controller : Controller Time)
    (opened : OpenLog Log ghosts)
    (start : ℕ) (handled : List (Handling Request Answer)) : Type 0 where
  pub answered : AreAnswered start None (commits_in handled)
  pub handed_back : AllByRecursion HandsBack handled
  pub shown : AllByRecursion (ShowsDelay controller) handled
  pub written : HasWritten opened (commits_in handled) (sights_in handled)

-- A leader's requests and replies, with the clients' numbers

abbrev pub commit_request_of : ℕ × Request → CommitRequest
commit_request_of x = record { client = x.0; records = x.1.batch.records; options = x.1.options }

abbrev pub commit_requests_of : List (ℕ × Request) → List CommitRequest
commit_requests_of requests = map commit_request_of requests

-- the snapshot of a value
abbrev pub snapshot_of : {X : Type 0} → X → Snapshot X
snapshot_of x = record { marker = record {}; value = x }

-- the reply to a batch with this answer in a group of this delay, without a note
abbrev pub reply_with : Delay → Result Receipt Refused → Answer
reply_with delay answer = record { answer = answer; delay = snapshot_of delay; note = None; read = None }

-- the run of a batch where `last` was given last
abbrev pub run_after : ℕ → List Record → Run
run_after last records = record { first = last + 1; last = last + count_of records }

abbrev pub accepted_reply : Delay → ℕ → ℕ → Request → Answer
accepted_reply delay last group_last q = reply_with delay (Ok (record {
  run = run_after last q.batch.records;
  group_last = group_last;
  batch = record q.batch { sequence = last + 1 };
}))

abbrev pub refused_reply : Delay → Refusal → Request → Answer
refused_reply delay why q = reply_with delay (Err (record { batch = q.batch; why = why }))

-- the reply where `last` was given last, in a group that ends with `group_last`
abbrev pub reply_at : Delay → ℕ → ℕ → Request → Answer
reply_at delay last group_last q = if nat_le (last + count_of q.batch.records) max_sequence then
    accepted_reply delay last group_last q
    else refused_reply delay (SequenceFull last) q

abbrev pub replies_of : Delay → ℕ → ℕ → List (ℕ × Request) → List (ℕ × Answer)
replies_of delay last group_last [] = []
replies_of delay last group_last (x ∷ requests) = (x.0, reply_at delay last group_last x.1)
    ∷ replies_of delay (last_with last x.1.batch.records) group_last requests

abbrev pub failures : Delay → ℕ → List (ℕ × Request) → List (ℕ × Answer)
failures delay count [] = []
failures delay count (x ∷ requests) = (x.0, refused_reply delay (LogFault count) x.1) ∷ failures delay count requests

abbrev pub IsNotHeldUp : CommitAnswer → Type 0
IsNotHeldUp (accepted first group_last) = ⊤
IsNotHeldUp (held_up numbers) = ⊥
IsNotHeldUp (failed count) = ⊤
IsNotHeldUp (no_room at) = ⊤

-- a reply in a group of this delay, without a note; it isn't that writes are held up
abbrev pub IsReplyOf : Delay → ℕ × Answer → Type 0
IsReplyOf delay y = (y.1.delay.value ≡ delay) × (y.1.note ≡ None) × IsNotHeldUp (answer_in y.1.answer)

abbrev pub held_up_with : Look → Contents → Refused
held_up_with numbers batch =
    record { batch = batch; why = Incomplete numbers.stops numbers.delays numbers.wait }

-- the request is refused because writes are held up, by a reply without a note
abbrev pub IsHeldUp : Delay → Look → ℕ × Request → ℕ × Answer → Type 0
IsHeldUp delay numbers x y = (y.0 ≡ x.0)
    × (y.1.answer ≡ Err (held_up_with numbers x.1.batch))
    × (y.1.delay.value ≡ delay)
    × (y.1.note ≡ None)

-- the reply, and a note of this controller's history in it
abbrev pub IsNotedAs : {Time : Type 0} → Controller Time → List ControllerCall → ℕ × Answer → ℕ × Answer → Type 0
IsNotedAs controller seen y z = (z.0 ≡ y.0) × (note : Noted) × (z.1 ≡ record y.1 { note = Some note })
    × IsNoteOf controller note × (seen_by_note note ≡ seen)

-- requests with their replies, which are in the same order
abbrev pub handled_with : List (ℕ × Request) → List (ℕ × Answer) → List (Handling Request Answer)
handled_with [] replies = []
handled_with (x ∷ requests) [] = []
handled_with (x ∷ requests) (y ∷ replies) = record { by = x.0; asked = x.1; reply = y.1 } ∷ handled_with requests
    replies

-- each client's reply is at the place of its request
abbrev pub InOrder : List (ℕ × Request) → List (ℕ × Answer) → Type 0
InOrder [] [] = ⊤
InOrder [] (y ∷ replies) = ⊥
InOrder (x ∷ requests) [] = ⊥
InOrder (x ∷ requests) (y ∷ replies) = (y.0 ≡ x.0) × InOrder requests replies

-- `known` is the controller's history up to the delay of the reply's group
abbrev pub IsReplyAt : List ControllerCall → ℕ × Answer → Type 0
IsReplyAt known y = seen_for y.1 ≡ known

-- At a stall

-- the last call of this history is a delay of this client's, with these numbers as its answer
abbrev pub EndsInDelay : ℕ → Look → List ControllerCall → Type 0
EndsInDelay client numbers seen = (before : List ControllerCall) × (now bytes : ℕ)
    × (seen ≡ before ++ record { client = client; action = calls.delay now bytes; told = Some numbers } ∷ [])

-- a leader that had learned that writes are held up looked after all of `known`, and its look has these numbers
pub record LookedInStall (known seen : List ControllerCall) (numbers : Look) : Type 0 where
  pub by : ℕ
  pub place : ℕ
  pub is_later : IsLater seen (length known) place
      (record { client = by; action = calls.look; told = Some numbers })
  pub stalled : WasHeldUp seen by place

-- the client looked after all of `known`, and its look showed no tokens
pub record SawNoTokens (client : ℕ) (known seen : List ControllerCall) : Type 0 where
  pub place : ℕ
  pub numbers : Look
  pub is_later : IsLater seen (length known) place
      (record { client = client; action = calls.look; told = Some numbers })
  pub none : ShowTokens numbers → ⊥

-- A request left the queue at a stall. It may not wait. Its answer hands the batch back, and has the numbers of a look
-- of the leader, which show tokens. The note of the answer shows that look, after all that the request's own note
-- shows.
pub record IsDropped {Time : Type 0} (controller : Controller Time) (q : Request) (p : Answer) : Type 0 where
  pub may_not_wait : q.options.no_slowdown ≡ true
  pub numbers : Look
  pub answer : p.answer ≡ Err (held_up_with numbers q.batch)
  pub shown : ShowTokens numbers
  pub note : Noted
  pub noted : p.note ≡ Some note
  pub own : IsNoteOf controller note
  pub looked : LookedInStall (noted_in q.note) (seen_by_note note) numbers

-- A request that met a stall was in no list. Its answer hands the batch back, and has the numbers of a look of the
-- client itself, which had seen `known` before the call and has seen `seen` since.
pub record IsTurnedAway (client : ℕ) (known seen : List ControllerCall) (q : Request) (p : Answer) : Type 0 where
  pub may_not_wait : q.options.no_slowdown ≡ true
  pub numbers : Look
  pub answer : p.answer ≡ Err (held_up_with numbers q.batch)
  pub no_note : p.note ≡ None
  pub place : ℕ
  pub is_later : IsLater seen (length known) place
      (record { client = client; action = calls.look; told = Some numbers })
  pub met : MetStall seen client client place numbers
