-- What the examples are made of: a client that writes and reads, and four that write where a leader stalls writes.
use Rattle.std.specs.Prelude.{◌≡◌, ℕ, true, false, List, [], ◌∷◌, ◌++◌, map, Some, None, codes}
use Rattle.model_base.specs.declared.write.Refusal.{Refusal}
use Rattle.model_base.specs.declared.write.WriteOptions.{WriteOptions}
use Rattle.model_base.specs.declared.history.Flag.{Flag}
use Rattle.model_base.specs.declared.history.Flag.TheVariants.{Log, NoLog}
use Rattle.model_base.specs.declared.key.Key.{Key}
use Rattle.model_base.specs.Batch.{Record, value}
use Rattle.model_base.specs.Map.{key_in}
use Rattle.model_base.specs.History.{Entry}
use Rattle.model_base.specs.Runs.{commands_of}
use Rattle.model_base.specs.Calls.{Command, add, commit, get, Reply, quiet, accepted, refused, found, Call}
use Rattle.model_core.specs.declared.event.Event.{Event}
use Rattle.model_core.specs.declared.event.Event.TheVariants as e
use Rattle.model_core.specs.Core.{Options, Writer, Client, State, opening_state, stall_refusal, published_map}
use Rattle.model_core.specs.Step.{Replayed, replay, state_after}
use Rattle.model_core.specs.Replies.{AreRepliesOf}

-- the default column family alone, groups of up to 1 MiB, batches of up to 4 KiB, and no batch before
abbrev pub single_stage : Options
single_stage = record { pipelined = false; families = 1; group_bytes = 1048576; batch_bytes = 4096; start = 0 }

abbrev pub pipelined : Options
pipelined = record { pipelined = true; families = 1; group_bytes = 1048576; batch_bytes = 4096; start = 0 }

abbrev pub plain : WriteOptions
plain = record { sync = false; no_log = false; no_slowdown = false }

abbrev pub key_a : Key
key_a = key_in None (codes "a")

abbrev pub put_a1 : Record
put_a1 = value None (codes "a") (codes "1")

abbrev pub put_a2 : Record
put_a2 = value None (codes "a") (codes "2")

-- a batch of one record at the first sequence
abbrev pub first_entry : Record → Entry
first_entry r = record { client = 1; ordinal = 1; first = 1; count = 1; flag = Log; records = r ∷ [] }

-- a client's batch of one record at this sequence, in the log or not
abbrev pub entry_at : ℕ → ℕ → Flag → Entry
entry_at client sequence flag = record {
  client = client;
  ordinal = 1;
  first = sequence;
  count = 1;
  flag = flag;
  records = put_a1 ∷ [];
}

-- batches of two clients, both of them logged; and of three, the middle one of which isn't
abbrev pub one_logged : List Entry
one_logged = entry_at 1 1 Log ∷ []

abbrev pub two_logged : List Entry
two_logged = entry_at 1 1 Log ∷ entry_at 2 2 Log ∷ []

abbrev pub gap_in_the_log : List Entry
gap_in_the_log = entry_at 1 1 Log ∷ entry_at 2 2 NoLog ∷ entry_at 3 3 Log ∷ []

-- a write of put_a1, and then a read
abbrev pub script : List (List Command)
script = (add put_a1 ∷ commit plain ∷ get key_a ∷ []) ∷ []

abbrev pub wrote : Record → List Call
wrote r = record { command = add put_a1; reply = quiet }
    ∷ record { command = commit plain; reply = accepted 1 1 (r ∷ []) } ∷ []

abbrev pub refused_for : Refusal → List Call
refused_for why = record { command = add put_a1; reply = quiet }
    ∷ record { command = commit plain; reply = refused why } ∷ []

abbrev pub reading : Reply → List Call
reading reply = record { command = get key_a; reply = reply } ∷ []

abbrev pub written_and_read : List Call
written_and_read = wrote put_a1 ++ reading (found 1 (Some (codes "1")))

-- the clients' calls after these events
abbrev pub calls_after : Options → List Event → List (List Call)
calls_after o events = map (λ (client : Client). client.calls) (state_after o script events).clients

-- all events of a write, in each of the two ways of writing, and then a read
abbrev pub way_through_the_log : List Event
way_through_the_log = e.Link 1 ∷ e.Elect 1 ∷ e.Build 1 ∷ e.Log 1 ∷ []

abbrev pub way_between : List Event
way_between = e.Boundary 1 ∷ e.Second 1 ∷ e.Next 1 ∷ []

abbrev pub way_through_the_table : List Event
way_through_the_table = e.Launch 1 ∷ e.Insert 1 ∷ e.Finish 1 ∷ e.Publish 1 ∷ e.Exit 1 ∷ e.Complete 1 ∷ e.Read 1 ∷ []

-- a state with one idle client that made these calls, where the history has these entries and `last` is published
abbrev pub told_in : List Entry → ℕ → List Call → State
told_in entries last calls = record (opening_state single_stage []) {
  clients = record { left = []; added = []; calls = calls; idle = true } ∷ [];
  entries = entries;
  assigned = last;
  last = last;
}

abbrev pub AreRightIn : List Entry → ℕ → List Call → Type 0
AreRightIn entries last calls = AreRepliesOf single_stage (commands_of calls ∷ []) (told_in entries last calls)

-- Four clients, each of which adds a record and commits it. The second and the third may not be slowed down.
abbrev pub hasty : WriteOptions
hasty = record { sync = false; no_log = false; no_slowdown = true }

abbrev pub put_b2 : Record
put_b2 = value None (codes "b") (codes "2")

abbrev pub put_c3 : Record
put_c3 = value None (codes "c") (codes "3")

abbrev pub put_d4 : Record
put_d4 = value None (codes "d") (codes "4")

abbrev pub four_writers : List (List Command)
four_writers = (add put_a1 ∷ commit plain ∷ []) ∷ (add put_b2 ∷ commit hasty ∷ [])
    ∷ (add put_c3 ∷ commit hasty ∷ []) ∷ (add put_d4 ∷ commit plain ∷ []) ∷ []

-- Client 1 stalls writes. Client 2 leaves the queue, client 3 is refused at once, and client 4 comes after the stall.
abbrev pub way_of_a_stall : List Event
way_of_a_stall = e.Link 1 ∷ e.Elect 1 ∷ e.Build 1 ∷ e.Link 2 ∷ e.Stall 1
    ∷ e.Leave 2 1 0 ∷ e.Link 3 ∷ e.Link 4 ∷ e.Complete 2 ∷ e.Unstall 1 ∷ e.Link 4
    ∷ e.Log 1 ∷ []

abbrev pub way_to_the_end : List Event
way_to_the_end = e.Launch 1 ∷ e.Insert 1 ∷ e.Finish 1 ∷ e.Publish 1 ∷ e.Exit 1 ∷ e.Complete 1 ∷ []

-- a client's calls, where its commit was refused since writes are held up
abbrev pub held_up : Record → List Call
held_up r = record { command = add r; reply = quiet }
    ∷ record { command = commit hasty; reply = refused (stall_refusal 1 0) } ∷ []

abbrev pub calls_of_four : List (List Call)
calls_of_four = wrote put_a1 ∷ held_up put_b2 ∷ held_up put_c3
    ∷ (record { command = add put_d4; reply = quiet } ∷ []) ∷ []

abbrev pub replayed : Options → List Event → Replayed
replayed o events = replay o (opening_state o four_writers) events

-- how many of the events came and how many were skipped; the clients' calls; who is in the queue; the logged groups;
-- and what is published: the sequence, and the map
abbrev pub IsStalledRun : Replayed → ℕ → Type 0
IsStalledRun run taken = (run.taken ≡ taken) × (run.skipped ≡ 1)
    × (map (λ (client : Client). client.calls) run.state.clients ≡ calls_of_four)
    × (map (λ (w : Writer). w.client) run.state.queue ≡ 4 ∷ []) × (run.state.groups ≡ 1 ∷ [])
    × (run.state.last ≡ 1) × (published_map run.state ≡ (key_a, codes "1") ∷ [])
