-- Runs in which a token isn't heeded, or a batch is acknowledged that the log hasn't.
use Rattle.std.specs.Prelude.{ℕ, codes, false, List, [], ◌∷◌, Some, None}
use Rattle.model_base.specs.Batch.{Record}
use Rattle.model_base.specs.declared.write.Refusal.TheVariants as no
use Rattle.model_base.specs.Calls.{Command, add, commit, get, stop, unstop, slow, unslow, accepted, refused, done, Call, Outcome}
use Rattle.model_base.specs.LogContents.{GroupCall}
use Rattle.model_base.specs.Trace.{Settings}
use Rattle.model_rows.specs.Examples.{put_a1, put_a2, put_b2, plain, noslow, key_a, key_b}
use Rattle.model_rows.specs.Runs.{two_clients, entry_at, adds, commits, finds_full, reads, one_commit, stale_read}

abbrev pub says_done : Command → Call
says_done c = record { command = c; reply = done }

-- a commit that may not wait is accepted
abbrev pub commits_at_once : ℕ → Record → Call
commits_at_once at r = record { command = commit noslow; reply = accepted at at (r ∷ []) }

-- `slow 1`, `put a 1`, `commit noslow`: the client slows writes to a byte a second, and its own commit, which may not
-- wait, is accepted.
abbrev pub slow_commands : List Command
slow_commands = slow 1 ∷ add put_a1 ∷ commit noslow ∷ []

abbrev pub slow_calls : List Call
slow_calls = says_done (slow 1) ∷ adds put_a1 ∷ commits_at_once 1 put_a1 ∷ []

-- then `unslow`
abbrev pub slow_script : List (List Command)
slow_script = (slow 1 ∷ add put_a1 ∷ commit noslow ∷ unslow ∷ []) ∷ []

abbrev pub slow_ignored : Outcome
slow_ignored = record one_commit {
  transcripts = (says_done (slow 1) ∷ adds put_a1 ∷ commits_at_once 1 put_a1 ∷ says_done unslow ∷ []) ∷ [];
}

-- or the token is given back at the client's end
abbrev pub kept_slow_ignored : Outcome
kept_slow_ignored = record one_commit { transcripts = slow_calls ∷ [] }

-- a commit that may not wait is refused, since there are this many stop tokens
abbrev pub meets_stops : ℕ → Call
meets_stops stops = record { command = commit noslow; reply = refused (no.Incomplete stops 0 0) }

-- client 1: `put a 1`, `commit noslow`, `commit`, `stop`, `put b 2`, `commit noslow`; client 2: `stop`
abbrev pub stopped_script : List (List Command)
stopped_script =
    (add put_a1 ∷ commit noslow ∷ commit plain ∷ stop ∷ add put_b2 ∷ commit noslow ∷ []) ∷ (stop ∷ []) ∷ []

-- Client 1 learns of a stop, then its commit that may wait is accepted, and in a stop of its own it learns of two.
abbrev pub stopped_calls : List Call
stopped_calls = adds put_a1 ∷ meets_stops 1 ∷ commits 1 put_a1 ∷ says_done stop ∷ adds put_b2 ∷ meets_stops 2 ∷ []

abbrev pub others_stop_ignored : Outcome
others_stop_ignored = record one_commit { transcripts = stopped_calls ∷ (says_done stop ∷ []) ∷ [] }

-- client 1: `put a 1`, `commit noslow`, `commit`; client 2: `get a`, `stop`
abbrev pub foreseen_script : List (List Command)
foreseen_script = (add put_a1 ∷ commit noslow ∷ commit plain ∷ []) ∷ (get key_a ∷ stop ∷ []) ∷ []

-- Client 1's batch is refused because of one stop, and is accepted then.
abbrev pub refused_first_calls : List Call
refused_first_calls = adds put_a1 ∷ meets_stops 1 ∷ commits 1 put_a1 ∷ []

-- Client 2 reads that batch before it takes the only stop.
abbrev pub foreseeing_calls : List Call
foreseeing_calls = reads key_a 1 (Some (codes "1")) ∷ says_done stop ∷ []

abbrev pub read_before_it_was_written : Outcome
read_before_it_was_written = record one_commit { transcripts = refused_first_calls ∷ foreseeing_calls ∷ [] }

-- `put a 1`, `commit`, `put b 2`, `commit`: both are accepted
abbrev pub two_script : List (List Command)
two_script = (add put_a1 ∷ commit plain ∷ add put_b2 ∷ commit plain ∷ []) ∷ []

abbrev pub two_calls : List Call
two_calls = adds put_a1 ∷ commits 1 put_a1 ∷ adds put_b2 ∷ commits 2 put_b2 ∷ []

abbrev pub two_commits : Outcome
two_commits = record one_commit {
  transcripts = two_calls ∷ [];
  history = entry_at 1 1 put_a1 ∷ entry_at 2 2 put_b2 ∷ [];
  last = 2;
  state = (key_a, codes "1") ∷ (key_b, codes "2") ∷ [];
  log_lens = 48 ∷ [];
}

-- one call of the log writer wrote both batches
abbrev pub written_at_once : List GroupCall
written_at_once =
    record { first = 1; batches = (put_a1 ∷ []) ∷ (put_b2 ∷ []) ∷ []; sync = false; failed = None } ∷ []

-- client 1: `put a 1`, `commit`, `put a 2`, `commit`; client 2: `stop`, `get a`, `get a`, `unstop`
abbrev pub through_commands : List Command
through_commands = add put_a1 ∷ commit plain ∷ add put_a2 ∷ commit plain ∷ []

abbrev pub through_script : List (List Command)
through_script = through_commands ∷ (stop ∷ get key_a ∷ get key_a ∷ unstop ∷ []) ∷ []

-- Both commits are accepted.
abbrev pub through_calls : List Call
through_calls = adds put_a1 ∷ commits 1 put_a1 ∷ adds put_a2 ∷ commits 2 put_a2 ∷ []

-- While client 2 stops writes, it reads what was there before both, and then what the second one wrote.
abbrev pub watching_calls : List Call
watching_calls = says_done stop ∷ reads key_a 0 None ∷ reads key_a 2 (Some (codes "2")) ∷ []

abbrev pub written_through_a_stop : Outcome
written_through_a_stop = record stale_read {
  transcripts = through_calls ∷ (says_done stop ∷ reads key_a 0 None ∷ reads key_a 2 (Some (codes "2"))
      ∷ says_done unstop ∷ []) ∷ [];
}

-- or the token is given back at the client's end
abbrev pub kept_script : List (List Command)
kept_script = through_commands ∷ (stop ∷ get key_a ∷ get key_a ∷ []) ∷ []

abbrev pub written_through_a_kept_stop : Outcome
written_through_a_kept_stop = record stale_read { transcripts = through_calls ∷ watching_calls ∷ [] }

-- client 1: `put a 1`, `commit`, `put b 2`, `commit`, `put a 2`, `commit noslow`; client 2: `stop`, `get a`
abbrev pub blind_script : List (List Command)
blind_script =
    (add put_a1 ∷ commit plain ∷ add put_b2 ∷ commit plain ∷ add put_a2 ∷ commit noslow ∷ []) ∷ (stop ∷ get key_a ∷ [])
    ∷ []

-- Two commits are accepted, and the third one is refused because of one stop.
abbrev pub stopped_at_last_calls : List Call
stopped_at_last_calls =
    adds put_a1 ∷ commits 1 put_a1 ∷ adds put_b2 ∷ commits 2 put_b2 ∷ adds put_a2 ∷ meets_stops 1 ∷ []

-- While client 2 stops writes, it doesn't read the first batch.
abbrev pub blind_calls : List Call
blind_calls = says_done stop ∷ reads key_a 0 None ∷ []

abbrev pub blind_in_its_own_stop : Outcome
blind_in_its_own_stop = record two_commits { transcripts = stopped_at_last_calls ∷ blind_calls ∷ [] }

-- two clients, and one sequence left
abbrev pub one_left : Settings
one_left = record two_clients { start = 72057594037927934 }

-- client 1: `put a 1`, `commit`, `put b 2`, `commit`, `commit noslow`; client 2: `stop`, `get a`, `get a`
abbrev pub full_script : List (List Command)
full_script =
    (add put_a1 ∷ commit plain ∷ add put_b2 ∷ commit plain ∷ commit noslow ∷ [])
    ∷ (stop ∷ get key_a ∷ get key_a ∷ []) ∷ []

-- The first batch has the last sequence, so the second one finds no sequences left, and then it is refused because of
-- one stop.
abbrev pub full_then_stopped_calls : List Call
full_then_stopped_calls =
    adds put_a1 ∷ commits 72057594037927935 put_a1 ∷ adds put_b2 ∷ finds_full 72057594037927935 ∷ meets_stops 1 ∷ []

-- While client 2 stops writes, it doesn't read the first batch, and then it does.
abbrev pub blind_then_seeing_calls : List Call
blind_then_seeing_calls =
    says_done stop ∷ reads key_a 72057594037927934 None ∷ reads key_a 72057594037927935 (Some (codes "1")) ∷ []

abbrev pub blind_once_full : Outcome
blind_once_full = record one_commit {
  transcripts = full_then_stopped_calls ∷ blind_then_seeing_calls ∷ [];
  history = entry_at 1 72057594037927935 put_a1 ∷ [];
  last = 72057594037927935;
}
