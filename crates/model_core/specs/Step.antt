-- Each event of the core: when it may come, and what it does.
use Rattle.std.specs.Prelude.{ℕ, ◌+◌, Bool, true, false, not, ◌&&◌, List, [], ◌∷◌, ◌++◌, length, take, drop, map, fold, filter, nat_lt, ◌==◌, if◌then◌else◌, Option, Some, None, is_some, find}
use Rattle.std.specs.List.{list_any, list_all}
use Rattle.model_core.specs.declared.event.Event.{Event}
use Rattle.model_core.specs.declared.event.Event.TheVariants as e
use Rattle.model_base.specs.declared.write.WriteOptions.{WriteOptions}
use Rattle.model_base.specs.declared.write.Refusal.{Refusal}
use Rattle.model_base.specs.declared.write.Refusal.TheVariants as no
use Rattle.model_base.specs.Batch.{Record}
use Rattle.model_base.specs.History.{Entry, last_sequence}
use Rattle.model_base.specs.Grouping.{group_len}
use Rattle.model_base.specs.Calls.{Command, commit, updates, Reply, accepted, refused}
use Rattle.model_core.specs.Core.{Options, Writer, Client, LogPhase, free, led, built, stalled, in_log, marked, handed, TablePhase, still, launched, published, State, opening_state, client_at, with_client, next_call, after_reply, item_of, refusal_of, refusal_in, may_link, stall_refusal, plain_options, command_of, read_at, reply_told, is_alone, leads, with_runs, has_run, all_answered, entries_of, table_group, among, runners, read_reply}

-- an event may come only if this is true
abbrev pub when : Bool → State → Option State
when true s = Some s
when false s = None

-- link c: c is idle and its next call is a commit or a read of the log. A commit is refused at once, or its writer goes
-- to the end of the queue, as that of a read does. While a leader stalls writes no writer comes
abbrev pub link_with : Options → State → ℕ → Client → WriteOptions → Option Refusal → State
link_with o s c client how (Some why) = with_client s c (after_reply client (commit how) (refused why))
link_with o s c client how None = record (with_client s c (record client { idle = false })) {
  queue = s.queue ++ record { client = c; options = how; records = client.added; since = None; answer = None } ∷ [];
}

abbrev pub link_read : State → ℕ → Client → ℕ → State
link_read s c client n = record (with_client s c (record client { idle = false })) {
  queue = s.queue
      ++ record { client = c; options = plain_options; records = []; since = Some n; answer = None } ∷ [];
}

abbrev pub link_or_refuse : Options → State → ℕ → Client → WriteOptions → Option Refusal → Option State
link_or_refuse o s c client how why = when (may_link s.log why) (link_with o s c client how why)

abbrev pub link_call : Options → State → ℕ → Client → Option Command → Option State
link_call o s c client (Some (commit how)) =
    link_or_refuse o s c client how (refusal_in s.log how (refusal_of o how client.added))
link_call o s c client (Some (updates n)) = when (may_link s.log None) (link_read s c client n)
link_call o s c client other = None

abbrev pub link : Options → State → ℕ → Option Client → Option State
link o s c None = None
link o s c (Some client) =
    if client.idle then link_call o s c (next_call client).client (next_call client).call else None

-- elect c: the log is free, and c is first in the queue
abbrev pub elect : State → ℕ → LogPhase → Option State
elect s c free = when (leads c s.queue) (record s { log = led c })
elect s c other = None

-- build c: c leads the log. Its group leaves the queue
abbrev pub group_size : Options → State → ℕ
group_size o s = group_len o.group_bytes (map item_of s.queue)

abbrev pub build : Options → State → ℕ → LogPhase → Option State
build o s c (led d) = when (c == d) (record s {
  log = built (take (group_size o s) s.queue);
  queue = drop (group_size o s) s.queue;
})
build o s c other = None

-- log c: c leads the group that was built, which writes, and the log hasn't failed. The members get runs; if no run
-- fits, all of them leave
abbrev pub is_unlogged : List Writer → Bool
is_unlogged [] = false
is_unlogged (w ∷ ws) = w.options.no_log

abbrev pub with_group : State → List Writer → List Entry → State
with_group s ws entries = record s {
  log = in_log ws;
  entries = s.entries ++ entries;
  assigned = last_sequence s.assigned entries;
  groups = if is_unlogged ws then s.groups else s.groups ++ length entries ∷ [];
}

abbrev pub leave : State → List Writer → State
leave s ws = record s { leaving = s.leaving ++ ws }

abbrev pub logged_group : State → List Writer → State
logged_group s ws =
    if list_any has_run ws then with_group s ws (entries_of s ws) else record (leave s ws) { log = free }

abbrev pub log_group : State → ℕ → LogPhase → Option State
log_group s c (built ws) =
    when (leads c ws && not (is_alone ws) && not s.log_failed) (logged_group s (with_runs s.assigned ws))
log_group s c other = None

-- fault c: c leads the group that was built, which writes. All its members leave, and the log has failed
abbrev pub fault : State → ℕ → LogPhase → Option State
fault s c (built ws) =
    when (leads c ws && not (is_alone ws))
    (record (leave s (all_answered (refused (no.LogFault 1)) ws)) { log = free; log_failed = true })
fault s c other = None

-- refuse c: c leads the group that was built, and the group may not be slowed down. All its members leave
abbrev pub is_no_slowdown : List Writer → Bool
is_no_slowdown [] = false
is_no_slowdown (w ∷ ws) = w.options.no_slowdown

abbrev pub refuse : State → ℕ → Refusal → LogPhase → Option State
refuse s c why (built ws) =
    when (leads c ws && is_no_slowdown ws) (record (leave s (all_answered (refused why) ws)) { log = free })
refuse s c why other = None

-- stall c: c leads the group that was built, which writes and may be slowed down. Until `unstall c` no log is written
abbrev pub stall : State → ℕ → LogPhase → Option State
stall s c (built ws) =
    when (leads c ws && not (is_alone ws) && not (is_no_slowdown ws)) (record s { log = stalled ws })
stall s c other = None

abbrev pub unstall : State → ℕ → LogPhase → Option State
unstall s c (stalled ws) = when (leads c ws) (record s { log = built ws })
unstall s c other = None

-- leave m: writes are stalled, and m, which is in the queue, may not be slowed down. It leaves the queue
abbrev pub left_queue : State → ℕ → Refusal → Writer → State
left_queue s m why w = record s {
  queue = filter (λ (x : Writer). not (x.client == m)) s.queue;
  leaving = s.leaving ++ record w { answer = Some (refused why) } ∷ [];
}

abbrev pub leave_with : State → ℕ → Refusal → Option Writer → Option State
leave_with s m why None = None
leave_with s m why (Some w) = when w.options.no_slowdown (left_queue s m why w)

abbrev pub leave_queue : State → ℕ → Refusal → LogPhase → Option State
leave_queue s m why (stalled ws) = leave_with s m why (find (λ (w : Writer). w.client == m) s.queue)
leave_queue s m why other = None

-- boundary c, second c, next c: the group goes to the second queue, and only then may another leader be elected
abbrev pub boundary : Options → State → ℕ → LogPhase → Option State
boundary o s c (in_log ws) = when (o.pipelined && leads c ws) (record s { log = marked ws })
boundary o s c other = None

abbrev pub to_second : State → ℕ → LogPhase → Option State
to_second s c (marked ws) = when (leads c ws) (record s { log = handed c; second = s.second ++ ws ∷ [] })
to_second s c other = None

abbrev pub next : State → ℕ → LogPhase → Option State
next s c (handed d) = when (c == d) (record s { log = free })
next s c other = None

-- launch c: no group is launched or published, and c leads the group that is next for the table
abbrev pub launch : Options → State → ℕ → TablePhase → Option State
launch o s c still = when (leads c (table_group o s)) (record s { table = launched [] [] })
launch o s c other = None

-- insert m: m has a run in the launched group and hasn't inserted
abbrev pub entry_ahead : State → ℕ → List Entry
entry_ahead s m = filter (λ (x : Entry). (x.client == m) && nat_lt s.last x.first) s.entries

abbrev pub insert : Options → State → ℕ → TablePhase → Option State
insert o s m (launched ins fin) = when (among m (runners (table_group o s)) && not (among m ins))
    (record s { table = launched (ins ++ m ∷ []) fin; inserted = s.inserted ++ entry_ahead s m })
insert o s m other = None

-- finish m: m has inserted and hasn't finished
abbrev pub finish : State → ℕ → TablePhase → Option State
finish s m (launched ins fin) =
    when (among m ins && not (among m fin)) (record s { table = launched ins (fin ++ m ∷ []) })
finish s m other = None

-- publish m: all members that have runs have finished, and m was the last to finish
abbrev pub is_last : ℕ → List ℕ → Bool
is_last m [] = false
is_last m (c ∷ []) = c == m
is_last m (c ∷ d ∷ cs) = is_last m (d ∷ cs)

abbrev pub last_of_answer : ℕ → Option Reply → ℕ
last_of_answer last (Some (accepted a b records)) = b
last_of_answer last other = last

-- the last sequence of a group by its members' answers; `last` if no member has a run
abbrev pub group_last : ℕ → List Writer → ℕ
group_last last ws = fold (λ n (w : Writer). last_of_answer n w.answer) last ws

abbrev pub publish : Options → State → ℕ → TablePhase → Option State
publish o s m (launched ins fin) = when (is_last m fin && list_all (λ c. among c fin) (runners (table_group o s)))
    (record s { table = published; last = group_last s.last (table_group o s) })
publish o s m other = None

-- since c: c leads the group that was built, alone, and reads the log. It is answered at the published sequence
abbrev pub answer_read : State → Writer → Option ℕ → Option Reply → Option State
answer_read s w (Some n) None = Some (record s { log = built (record w { answer = Some (read_at s.last) } ∷ []) })
answer_read s w other answer = None

abbrev pub read_log : State → ℕ → LogPhase → Option State
read_log s c (built (w ∷ [])) = if w.client == c then answer_read s w w.since w.answer else None
read_log s c other = None

-- exit c: the table's group is published, and c leads it. Its members leave. Or c has read the log, and leaves
abbrev pub has_read : ℕ → Writer → Bool
has_read c w = (w.client == c) && is_some w.since && is_some w.answer

abbrev pub exit_reader : State → ℕ → LogPhase → Option State
exit_reader s c (built (w ∷ [])) = when (has_read c w) (record (leave s (w ∷ [])) { log = free })
exit_reader s c other = None

abbrev pub without_table_group : Options → State → State
without_table_group o s = if o.pipelined then record s { second = drop 1 s.second } else record s { log = free }

abbrev pub exit : Options → State → ℕ → TablePhase → Option State
exit o s c published = if leads c (table_group o s)
    then Some (record (leave (without_table_group o s) (table_group o s)) { table = still })
    else exit_reader s c s.log
exit o s c other = exit_reader s c s.log

-- complete m: m has left with its answer. After `ok` its batch is new and empty, after a refusal it is as it was
abbrev pub added_after : Reply → List Record → List Record
added_after (accepted a b records) added = []
added_after other added = added

abbrev pub after_completion : Client → Writer → Reply → Client
after_completion client w reply = record (after_reply client (command_of w) reply) {
  added = added_after reply client.added;
}

abbrev pub complete_with : State → ℕ → Option Client → Writer → Option Reply → Option State
complete_with s m (Some client) w (Some reply) = Some (record (with_client s m
    (after_completion client w (reply_told s w.since reply))) {
      leaving = filter (λ (x : Writer). not (x.client == m)) s.leaving;
    })
complete_with s m other w reply = None

abbrev pub complete : State → ℕ → Option Writer → Option State
complete s m None = None
complete s m (Some w) = complete_with s m (client_at s m) w w.answer

-- read c: c is idle, and its next call is a read. It is answered at the published sequence, or refused
abbrev pub read_with : State → ℕ → Client → Command → Option Reply → Option State
read_with s c client command None = None
read_with s c client command (Some reply) = Some (with_client s c (after_reply client command reply))

abbrev pub read_call : Options → State → ℕ → Client → Option Command → Option State
read_call o s c client None = None
read_call o s c client (Some command) = read_with s c client command (read_reply o s command)

abbrev pub read : Options → State → ℕ → Option Client → Option State
read o s c None = None
read o s c (Some client) =
    if client.idle then read_call o s c (next_call client).client (next_call client).call else None

-- The state after an event, if the event may come.
abbrev pub step : Options → State → Event → Option State
step o s (e.Link c) = link o s c (client_at s c)
step o s (e.Elect c) = elect s c s.log
step o s (e.Build c) = build o s c s.log
step o s (e.Log c) = log_group s c s.log
step o s (e.Fault c) = fault s c s.log
step o s (e.Refuse c stops delays wait) = refuse s c (no.Incomplete stops delays wait) s.log
step o s (e.Stall c) = stall s c s.log
step o s (e.Leave m stops delays) = leave_queue s m (stall_refusal stops delays) s.log
step o s (e.Unstall c) = unstall s c s.log
step o s (e.Boundary c) = boundary o s c s.log
step o s (e.Second c) = to_second s c s.log
step o s (e.Next c) = next s c s.log
step o s (e.Launch c) = launch o s c s.table
step o s (e.Insert m) = insert o s m s.table
step o s (e.Finish m) = finish s m s.table
step o s (e.Publish m) = publish o s m s.table
step o s (e.Since c) = read_log s c s.log
step o s (e.Exit c) = exit o s c s.table
step o s (e.Complete m) = complete s m (find (λ (w : Writer). w.client == m) s.leaving)
step o s (e.Read c) = read o s c (client_at s c)

-- the state after a list of events, where those that may not come are skipped; how many were taken, and how many were
-- skipped
pub record Replayed : Type 0 where
  pub state : State
  pub taken : ℕ
  pub skipped : ℕ

abbrev pub after_event : Replayed → Option State → Replayed
after_event r None = record r { skipped = r.skipped + 1 }
after_event r (Some s) = record r { state = s; taken = r.taken + 1 }

abbrev pub replay : Options → State → List Event → Replayed
replay o s events =
    fold (λ r event. after_event r (step o r.state event)) (record { state = s; taken = 0; skipped = 0 }) events

-- the state after a list of events, from the opening state on
abbrev pub state_after : Options → List (List Command) → List Event → State
state_after o plans events = (replay o (opening_state o plans) events).state
