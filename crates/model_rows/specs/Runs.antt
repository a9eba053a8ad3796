-- Runs of one client, or of two: what they asked, and the outcome.
use Rattle.std.specs.Prelude.{ℕ, codes, List, [], ◌∷◌, Option, Some, None}
use Rattle.model_base.specs.declared.limits.TheConstants.{MAX_SIZE}
use Rattle.model_base.specs.declared.history.Flag.TheVariants.{Log}
use Rattle.model_base.specs.declared.write.Refusal.TheVariants as no
use Rattle.model_base.specs.declared.key.Key.{Key}
use Rattle.model_base.specs.Batch.{Record, value}
use Rattle.model_base.specs.Calls.{Command, add, clear, commit, get, many, scan, stop, unstop, Reply, quiet, accepted, refused, found, found_each, rows, done, Call, Outcome}
use Rattle.model_base.specs.Controller as controller
use Rattle.model_base.specs.Controller.{ControllerCall}
use Rattle.model_base.specs.History.{Entry}
use Rattle.model_base.specs.Trace.{Settings}
use Rattle.model_rows.specs.Examples.{put_a1, put_a2, put_b2, put_1a2, plain, noslow, default_key, key_a, key_b, key_1a}

-- one client, a fresh store, the default column family, and the limits of RocksDB's groups and of a batch
abbrev pub one_client : Settings
one_client = record {
  start = 0;
  opening = [];
  kept = None;
  clients = 1;
  families = 1;
  group_bytes = 1048576;
  batch_bytes = MAX_SIZE;
  opened = 0;
}

abbrev pub two_clients : Settings
two_clients = record one_client { clients = 2 }

-- one client, and two sequences left
abbrev pub nearly_full : Settings
nearly_full = record one_client { start = 72057594037927933 }

-- one client, and no sequences left
abbrev pub used_up : Settings
used_up = record one_client { start = 72057594037927935 }

-- one client, over one batch that was recovered: `a 1` at the sequence 1
abbrev pub begun_before : Settings
begun_before = record one_client { start = 1; opening = (key_a, codes "1") ∷ [] }

-- an entry of client 1: its batch with this number, at this sequence, of one record
abbrev pub entry_at : ℕ → ℕ → Record → Entry
entry_at ordinal first r = record {
  client = 1;
  ordinal = ordinal;
  first = first;
  count = 1;
  flag = Log;
  records = r ∷ [];
}

-- a run that wrote two records in one batch
abbrev pub two_records : Outcome
two_records = record {
  transcripts = [] ∷ [];
  history = record (entry_at 1 1 put_a1) {
    count = 2;
    records = put_a1 ∷ value None (codes "b") (codes "22") ∷ [];
  } ∷ [];
  last = 2;
  state = (key_a, codes "1") ∷ (key_b, codes "22") ∷ [];
  log_lens = 0 ∷ [];
  fault = None;
}

-- calls: a record is added; a commit is accepted; a commit is answered the log's fault; a commit finds no sequences
-- left after the last one; a read
abbrev pub adds : Record → Call
adds r = record { command = add r; reply = quiet }

abbrev pub commits : ℕ → Record → Call
commits at r = record { command = commit plain; reply = accepted at at (r ∷ []) }

abbrev pub fails : ℕ → Call
fails count = record { command = commit plain; reply = refused (no.LogFault count) }

abbrev pub finds_full : ℕ → Call
finds_full last = record { command = commit plain; reply = refused (no.SequenceFull last) }

abbrev pub reads : Key → ℕ → Option (List ℕ) → Call
reads key at v = record { command = get key; reply = found at v }

-- `put a 1`, `commit`, `get a`
abbrev pub one_script : List (List Command)
one_script = (add put_a1 ∷ commit plain ∷ get key_a ∷ []) ∷ []

-- The commit is accepted.
abbrev pub one_calls : List Call
one_calls = adds put_a1 ∷ commits 1 put_a1 ∷ reads key_a 1 (Some (codes "1")) ∷ []

abbrev pub one_commit : Outcome
one_commit = record {
  transcripts = one_calls ∷ [];
  history = entry_at 1 1 put_a1 ∷ [];
  last = 1;
  state = (key_a, codes "1") ∷ [];
  log_lens = 24 ∷ [];
  fault = None;
}

-- The commit is refused.
abbrev pub refused_calls : List Call
refused_calls = adds put_a1 ∷ fails 1 ∷ reads key_a 0 None ∷ []

abbrev pub refused_commit : Outcome
refused_commit = record {
  transcripts = refused_calls ∷ [];
  history = [];
  last = 0;
  state = [];
  log_lens = 0 ∷ [];
  fault = Some 1;
}

-- `put a 1`, `commit`, `put b 2`, `commit`, `commit`, `get b`, `get a`
abbrev pub failing_script : List (List Command)
failing_script =
    (add put_a1 ∷ commit plain ∷ add put_b2 ∷ commit plain ∷ commit plain ∷ get key_b ∷ get key_a ∷ []) ∷ []

-- The first commit is accepted, and the second one meets a fault.
abbrev pub failing_calls : List Call
failing_calls =
    adds put_a1 ∷ commits 1 put_a1 ∷ adds put_b2 ∷ fails 1 ∷ fails 1 ∷ reads key_b 1 None
    ∷ reads key_a 1 (Some (codes "1")) ∷ []

abbrev pub failed_write : Outcome
failed_write = record {
  transcripts = failing_calls ∷ [];
  history = entry_at 1 1 put_a1 ∷ [];
  last = 1;
  state = (key_a, codes "1") ∷ [];
  log_lens = 24 ∷ [];
  fault = Some 1;
}

-- `put a 1`, `commit`, `put a 2`, `commit`, `get a`
abbrev pub stale_script : List (List Command)
stale_script = (add put_a1 ∷ commit plain ∷ add put_a2 ∷ commit plain ∷ get key_a ∷ []) ∷ []

-- Both commits are accepted, and the read answers the first value.
abbrev pub stale_calls : List Call
stale_calls = adds put_a1 ∷ commits 1 put_a1 ∷ adds put_a2 ∷ commits 2 put_a2 ∷ reads key_a 1 (Some (codes "1"))
    ∷ []

abbrev pub stale_read : Outcome
stale_read = record {
  transcripts = stale_calls ∷ [];
  history = entry_at 1 1 put_a1 ∷ entry_at 2 2 put_a2 ∷ [];
  last = 2;
  state = (key_a, codes "2") ∷ [];
  log_lens = 48 ∷ [];
  fault = None;
}

-- `get a`, `put a 1`, `commit`
abbrev pub early_script : List (List Command)
early_script = (get key_a ∷ add put_a1 ∷ commit plain ∷ []) ∷ []

-- The read answers the value that is committed after it.
abbrev pub early_calls : List Call
early_calls = reads key_a 1 (Some (codes "1")) ∷ adds put_a1 ∷ commits 1 put_a1 ∷ []

abbrev pub read_ahead : Outcome
read_ahead = record one_commit { transcripts = early_calls ∷ [] }

-- `get a`, `put b 2`, `commit`
abbrev pub going_on_script : List (List Command)
going_on_script = (get key_a ∷ add put_b2 ∷ commit plain ∷ []) ∷ []

-- The read answers what was there before the run, and the commit is accepted after that.
abbrev pub going_on_calls : List Call
going_on_calls = reads key_a 1 (Some (codes "1")) ∷ adds put_b2 ∷ commits 2 put_b2 ∷ []

abbrev pub went_on : Outcome
went_on = record {
  transcripts = going_on_calls ∷ [];
  history = entry_at 1 2 put_b2 ∷ [];
  last = 2;
  state = (key_a, codes "1") ∷ (key_b, codes "2") ∷ [];
  log_lens = 48 ∷ [];
  fault = None;
}

-- client 1: `get b`, `put a 1`, `commit`; client 2: `put b 2`, `commit`
abbrev pub crossing_script : List (List Command)
crossing_script =
    (get key_b ∷ add put_a1 ∷ commit plain ∷ []) ∷ (add put_b2 ∷ commit plain ∷ []) ∷ []

-- Client 1 reads client 2's batch at 2, and then its own batch is accepted at 1.
abbrev pub crossing_calls : List Call
crossing_calls = reads key_b 2 (Some (codes "2")) ∷ adds put_a1 ∷ commits 1 put_a1 ∷ []

abbrev pub run_below_what_was_read : Outcome
run_below_what_was_read = record {
  transcripts = crossing_calls ∷ (adds put_b2 ∷ commits 2 put_b2 ∷ []) ∷ [];
  history = entry_at 1 1 put_a1 ∷ record (entry_at 1 2 put_b2) { client = 2 } ∷ [];
  last = 2;
  state = (key_a, codes "1") ∷ (key_b, codes "2") ∷ [];
  log_lens = 48 ∷ [];
  fault = None;
}

-- `put a 1`, `commit noslow`, `stop`
abbrev pub later_stop_script : List (List Command)
later_stop_script = (add put_a1 ∷ commit noslow ∷ stop ∷ []) ∷ []

-- The commit is refused because of one stop, and the only stop comes after it.
abbrev pub later_stop_calls : List Call
later_stop_calls =
    adds put_a1 ∷ record { command = commit noslow; reply = refused (no.Incomplete 1 0 0) }
    ∷ record { command = stop; reply = done } ∷ []

abbrev pub refused_by_a_later_stop : Outcome
refused_by_a_later_stop = record refused_commit { transcripts = later_stop_calls ∷ []; fault = None }

-- `stop`, `put a 1`, `commit noslow`, `unstop`
abbrev pub own_stop_script : List (List Command)
own_stop_script = (stop ∷ add put_a1 ∷ commit noslow ∷ unstop ∷ []) ∷ []

-- The client takes a stop token, its commit gets this reply, and it gives the token back.
abbrev pub own_stop_calls : Reply → List Call
own_stop_calls reply =
    record { command = stop; reply = done } ∷ adds put_a1 ∷ record { command = commit noslow; reply = reply }
    ∷ record { command = unstop; reply = done } ∷ []

-- The commit is refused because of the client's own stop.
abbrev pub refused_in_its_own_stop : Outcome
refused_in_its_own_stop = record refused_commit {
  transcripts = own_stop_calls (refused (no.Incomplete 1 0 0)) ∷ [];
  fault = None;
}

-- The commit is accepted all the same.
abbrev pub accepted_in_its_own_stop : Outcome
accepted_in_its_own_stop = record one_commit { transcripts = own_stop_calls (accepted 1 1 (put_a1 ∷ [])) ∷ [] }

-- It meets a fault of the log.
abbrev pub failed_in_its_own_stop : Outcome
failed_in_its_own_stop = record refused_commit { transcripts = own_stop_calls (refused (no.LogFault 1)) ∷ [] }

-- It finds no sequences left.
abbrev pub full_in_its_own_stop : Outcome
full_in_its_own_stop = record refused_in_its_own_stop {
  transcripts = own_stop_calls (refused (no.SequenceFull 72057594037927935)) ∷ [];
  last = 72057594037927935;
}

-- `put a 1`, `put b 2`, `commit`, `clear`, `put a 1`, `commit`
abbrev pub filling_script : List (List Command)
filling_script =
    (add put_a1 ∷ add put_b2 ∷ commit plain ∷ clear ∷ add put_a1 ∷ commit plain ∷ []) ∷ []

-- The first batch finds no room after the sequence at which the second one is then accepted.
abbrev pub filling_calls : List Call
filling_calls =
    adds put_a1 ∷ adds put_b2 ∷ finds_full 72057594037927934 ∷ record { command = clear; reply = quiet } ∷ adds put_a1
    ∷ commits 72057594037927934 put_a1 ∷ []

abbrev pub lower_than_full : Outcome
lower_than_full = record one_commit {
  transcripts = filling_calls ∷ [];
  history = entry_at 1 72057594037927934 put_a1 ∷ [];
  last = 72057594037927934;
}

-- client 1: `put a 1`, `commit`; client 2: `stop`, `unstop`
abbrev pub waiting_script : List (List Command)
waiting_script = (add put_a1 ∷ commit plain ∷ []) ∷ (stop ∷ unstop ∷ []) ∷ []

-- The commit is accepted.
abbrev pub waiting_calls : List Call
waiting_calls = adds put_a1 ∷ commits 1 put_a1 ∷ []

abbrev pub stopping_calls : List Call
stopping_calls = record { command = stop; reply = done } ∷ record { command = unstop; reply = done } ∷ []

abbrev pub waited_out : Outcome
waited_out = record one_commit { transcripts = waiting_calls ∷ stopping_calls ∷ [] }

-- Client 2's stop, the delay of client 1's group, which reports that stop, and the stop given back. Client 2 is shown
-- nothing.
abbrev pub told_of_a_stop : List ControllerCall
told_of_a_stop =
    record { client = 2; action = controller.stop 0; told = None }
    ∷ record { client = 2; action = controller.hear 0; told = None }
    ∷ record {
      client = 1;
      action = controller.delay 0 17;
      told = Some (record { stops = 1; delays = 0; wait = 0 });
    }
    ∷ record { client = 2; action = controller.unstop 0; told = None }
    ∷ record { client = 2; action = controller.hear 0; told = None } ∷ []

abbrev pub put_c3 : Record
put_c3 = value None (codes "c") (codes "3")

-- `put a 1`, `commit`, `put b 2`, `commit`, `put c 3`, `commit`: all are accepted. The first is in a log of its own,
-- and the others are in the next one.
abbrev pub three_calls : List Call
three_calls = adds put_a1 ∷ commits 1 put_a1 ∷ adds put_b2 ∷ commits 2 put_b2 ∷ adds put_c3 ∷ commits 3 put_c3 ∷ []

abbrev pub in_two_logs : Outcome
in_two_logs = record {
  transcripts = three_calls ∷ [];
  history = entry_at 1 1 put_a1 ∷ entry_at 2 2 put_b2 ∷ entry_at 3 3 put_c3 ∷ [];
  last = 3;
  state = (key_a, codes "1") ∷ (key_b, codes "2") ∷ (default_key (codes "c"), codes "3") ∷ [];
  log_lens = 24 ∷ 48 ∷ [];
  fault = None;
}

-- two families
abbrev pub two_families : Settings
two_families = record one_client { families = 2 }

-- a batch of a record of each family
abbrev pub both_families : List Record
both_families = put_a1 ∷ put_1a2 ∷ []

-- `fput 2 a 3`
abbrev pub put_2a3 : Record
put_2a3 = value (Some 2) (codes "a") (codes "3")

-- `put a 1`, `fput 1 a 2`, `commit`, `fget 1 a`, `get a`, `fscan 1 a b`, `fput 2 a 3`, `commit`
abbrev pub families_script : List (List Command)
families_script =
    (add put_a1 ∷ add put_1a2 ∷ commit plain ∷ get key_1a ∷ get key_a
    ∷ scan 1 (codes "a") (codes "b") ∷ add put_2a3 ∷ commit plain ∷ []) ∷ []

abbrev pub commits_both : Call
commits_both = record { command = commit plain; reply = accepted 1 2 both_families }

-- The batch is accepted and read in both families. There is no family 2.
abbrev pub families_calls : List Call
families_calls = adds put_a1 ∷ adds put_1a2 ∷ commits_both
    ∷ reads key_1a 2 (Some (codes "2")) ∷ reads key_a 2 (Some (codes "1"))
    ∷ record {
      command = scan 1 (codes "a") (codes "b");
      reply = rows 2 ((codes "a", codes "2") ∷ []);
    }
    ∷ adds put_2a3 ∷ record { command = commit plain; reply = refused (no.NoFamily 2) } ∷ []

abbrev pub in_both_families : Outcome
in_both_families = record {
  transcripts = families_calls ∷ [];
  history = record (entry_at 1 1 put_a1) { count = 2; records = both_families } ∷ [];
  last = 2;
  state = (key_a, codes "1") ∷ (key_1a, codes "2") ∷ [];
  log_lens = 30 ∷ [];
  fault = None;
}

-- `put a 1`, `fput 1 a 2`, `commit`, `fmany 0 a 1 a`
abbrev pub torn_script : List (List Command)
torn_script = (add put_a1 ∷ add put_1a2 ∷ commit plain
    ∷ many (key_a ∷ key_1a ∷ []) ∷ []) ∷ []

-- The read sees the batch in one family and not in the other.
abbrev pub torn_calls : List Call
torn_calls = adds put_a1 ∷ adds put_1a2 ∷ commits_both
    ∷ record {
      command = many (key_a ∷ key_1a ∷ []);
      reply = found_each 2 (Some (codes "1") ∷ None ∷ []);
    } ∷ []

abbrev pub torn_read : Outcome
torn_read = record in_both_families { transcripts = torn_calls ∷ [] }
