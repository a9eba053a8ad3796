-- Three commits, of which the log has the first and the third, and what reads of that log may give.
use Rattle.std.specs.Prelude.{ℕ, codes, List, [], ◌∷◌, Some, None}
use Rattle.model_base.specs.declared.history.Flag.TheVariants.{NoLog}
use Rattle.model_base.specs.Batch.{Record, value, log_data}
use Rattle.model_base.specs.History.{Entry}
use Rattle.model_base.specs.Recovery.{Logged}
use Rattle.model_base.specs.Since.{LogRead, LogRecord, records_in}
use Rattle.model_base.specs.Trace.{Trace}
use Rattle.model_rows.specs.Examples.{put_a1, put_b2}
use Rattle.model_rows.specs.Runs.{entry_at}

-- `put c 3`
abbrev pub put_c3 : Record
put_c3 = value None (codes "c") (codes "3")

-- `put a 1`, `put b 2` without the log, and `put c 3`, each in a commit of its own
abbrev pub entry_a : Entry
entry_a = entry_at 1 1 put_a1

abbrev pub entry_b : Entry
entry_b = record (entry_at 2 2 put_b2) { flag = NoLog }

abbrev pub entry_c : Entry
entry_c = entry_at 3 3 put_c3

abbrev pub three_commits : List Entry
three_commits = entry_a ∷ entry_b ∷ entry_c ∷ []

-- the groups of those that are logged, and the log's records of them
abbrev pub two_groups : List (List Entry)
two_groups = (entry_a ∷ []) ∷ (entry_c ∷ []) ∷ []

abbrev pub both_records : List LogRecord
both_records = records_in [] two_groups

-- each commit's batch as a record of its own, in hexadecimal digits
abbrev pub hex_a : List ℕ
hex_a = codes "0100000000000000010000000101610131"

abbrev pub hex_b : List ℕ
hex_b = codes "0200000000000000010000000101620132"

abbrev pub hex_c : List ℕ
hex_c = codes "0300000000000000010000000101630133"

-- a run over a new log that wrote the three commits
abbrev pub over_new_log : Trace
over_new_log = record {
  start = 0;
  opening = [];
  kept = Some [];
  entries = three_commits;
  logged = two_groups;
  controller_calls = [];
  log_calls = [];
}

-- a read of the log from the sequence s on, and one from the beginning on
abbrev pub read_from : ℕ → ℕ → List (List ℕ) → LogRead
read_from s at records = record { since = s; at = at; records = records }

abbrev pub read_up_to : ℕ → List (List ℕ) → LogRead
read_up_to at records = read_from 0 at records

-- a batch that the log kept: a note alone, which takes no sequence
abbrev pub note_alone : Logged
note_alone = record { first = 1; records = log_data (codes "x") ∷ [] }

-- a batch that the log kept: `put a 1`
abbrev pub kept_a : Logged
kept_a = record { first = 1; records = put_a1 ∷ [] }
