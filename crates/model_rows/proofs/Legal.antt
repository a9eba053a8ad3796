-- The legal outcomes.
use Rattle.std.proofs.Common.{ℕ, ◌+◌, List, [], ◌∷◌, refl, Some, None}
use Rattle.std.proofs.Math.Dec.{lit≤}
use Rattle.model_base.specs.Batch.{Record}
use Rattle.model_base.specs.Varint.{varint_within}
use Rattle.model_base.specs.Trace.{Trace}
use Rattle.model_base.specs.Attempts.{Attempt, WriteStatus, succeeded, faulted, fate_at}
use Rattle.model_base.specs.Groups.{Group}
use Rattle.model_base.specs.Progress.{Progress, fresh}
use Rattle.model_base.specs.Runs.{whole, commands_of}
use Rattle.model_base.specs.Outcomes.{IsLegal, IsLegalTranscript}
use Rattle.model_base.proofs.Shown.{heard_without_tokens}
use Rattle.model_base.proofs.Runs.{not_kept_out}
use Rattle.model_rows.specs.Examples.{put_a1, put_b2, plain}
use Rattle.model_rows.specs.Runs.{entry_at, one_client, one_script, one_calls, one_commit, refused_calls, refused_commit, failing_script, failing_calls, failed_write}
use Rattle.model_rows.proofs.Alone.{each_one, steps, writes, logged_alone, added, took, fell, shown}
use Rattle.model_rows.proofs.OwnGroups.{delays_of, groups_of, one_alone, three_delays, three_groups, three_alone}

-- a plain commit of one record, whose group's delay is at this place and let it go on
abbrev attempt_of : Record → WriteStatus → ℕ → Attempt
attempt_of r status place = record { records = r ∷ []; options = plain; status = status; place = place; decided = place + 1 }

abbrev pub first_attempt : Attempt
first_attempt = attempt_of put_a1 succeeded 0

abbrev lost_attempt : Attempt
lost_attempt = attempt_of put_a1 (faulted 1) 0

abbrev next_attempt : Attempt
next_attempt = attempt_of put_b2 (faulted 1) 2

abbrev last_attempt : Attempt
last_attempt = attempt_of put_b2 (faulted 1) 3

-- The traces of one batch, of a failed one, and of one batch and two failed ones. After the batch the client says that
-- it was shown it.
abbrev one_batch : Trace
one_batch = record { start = 0; opening = []; kept = None; entries = entry_at 1 1 put_a1 ∷ []; logged = (entry_at 1 1 put_a1 ∷ []) ∷ []; controller_calls = delays_of first_attempt; log_calls = writes 1 (put_a1 ∷ []) ∷ [] }

abbrev no_batch : Trace
no_batch = record { start = 0; opening = []; kept = None; entries = []; logged = []; controller_calls = delays_of lost_attempt; log_calls = [] }

abbrev one_of_three : Trace
one_of_three = record { start = 0; opening = []; kept = None; entries = entry_at 1 1 put_a1 ∷ []; logged = (entry_at 1 1 put_a1 ∷ []) ∷ []; controller_calls = three_delays 1 first_attempt next_attempt last_attempt; log_calls = writes 1 (put_a1 ∷ []) ∷ [] }

abbrev three_own_groups : List Group
three_own_groups = three_groups first_attempt next_attempt last_attempt

-- The client's progress after each call

abbrev begun : Progress
begun = added put_a1 fresh

abbrev taken_once : Progress
taken_once = took 1 1 0 begun

abbrev seen_once : Progress
seen_once = shown 1 taken_once

-- a batch is accepted and then read
accepted_transcript : IsLegalTranscript one_client one_batch None 1 (commands_of one_calls) one_calls seen_once.attempts
unfolding varint_within
accepted_transcript = record {
  end = seen_once;
  is_transcript = whole refl (
    begun,
    steps one_client one_batch fresh _ _ begun refl (lit≤ tt) (lit≤ tt) refl (lit≤ tt) (lit≤ tt),
    (
      taken_once,
      steps one_client one_batch begun _ _ taken_once (record { batch = refl; run = refl; above = lit≤ tt; behind = tt; alive = refl; free = refl; place = 0; decided = 1; asked = (lit≤ tt, lit≤ tt, lit≤ tt); unseen = lit≤ tt; said = lit≤ tt; logged = λ to_log. logged_alone _ 0 0 1 (put_a1 ∷ []) refl (lit≤ tt); after = refl }) (lit≤ tt) (lit≤ tt) refl (lit≤ tt) (lit≤ tt),
      (
        seen_once,
        steps one_client one_batch taken_once _ _ seen_once (record { front = entry_at 1 1 put_a1 ∷ []; is_front = record { rest = []; split = refl; ends = refl }; not_below = lit≤ tt; answer = refl; after = refl }) (lit≤ tt) (lit≤ tt) refl (lit≤ tt) (lit≤ tt),
        refl,
      ),
    ),
  );
  accepted = refl;
  shown = 1;
  had = lit≤ tt;
  said = tt;
  tokens = refl;
  commits = refl;
  statuses = (tt, tt);
}

-- so its outcome is legal
pub one_commit-legal : IsLegal one_client 0 one_script one_commit
one_commit-legal = record {
  trace = one_batch;
  attempts = seen_once.attempts ∷ [];
  legal = record {
    is_trace = record {
      start = refl;
      opening = refl;
      kept = refl;
      entries = (record { counted = refl; some = lit≤ tt; first = refl; fits = lit≤ tt }, tt);
      logged = record { cut = refl; none_empty = (lit≤ tt, tt); runs = (tt, tt) };
      controller_calls = (refl, tt);
      heard = heard_without_tokens _ (refl, tt);
      clients = ((lit≤ tt, lit≤ tt), tt);
      tokens = ((λ is. cc), tt);
    };
    history = refl;
    clients = refl;
    count = refl;
    count_attempts = refl;
    groups = groups_of first_attempt;
    are_groups = one_alone first_attempt refl refl refl;
    each = each_one one_client one_batch None _ one_calls seen_once.attempts accepted_transcript;
    last = refl;
    state = refl;
    fault = tt;
    read_faults = tt;
    counted = λ no_fault none. refl;
  };
}

abbrev fell_first : Progress
fell_first = fell (faulted 1) 0 begun

-- the first write fails
refused_transcript : IsLegalTranscript one_client no_batch (Some 1) 1 (commands_of refused_calls) refused_calls fell_first.attempts
unfolding varint_within
refused_transcript = record {
  end = fell_first;
  is_transcript = whole refl (
    begun,
    steps one_client no_batch fresh _ _ begun refl (lit≤ tt) (lit≤ tt) refl (lit≤ tt) (lit≤ tt),
    (
      fell_first,
      steps one_client no_batch begun _ _ fell_first (fate_at 0 1 (faulted 1), refl, refl, not_kept_out [] _ refl, record { asked = (lit≤ tt, lit≤ tt, lit≤ tt); said = lit≤ tt }) (lit≤ tt) (lit≤ tt) refl (lit≤ tt) (lit≤ tt),
      (
        fell_first,
        steps one_client no_batch fell_first _ _ fell_first (record { front = []; is_front = record { rest = []; split = refl; ends = refl }; not_below = lit≤ tt; answer = refl; after = refl }) (lit≤ tt) (lit≤ tt) refl (lit≤ tt) (lit≤ tt),
        refl,
      ),
    ),
  );
  accepted = refl;
  shown = 0;
  had = lit≤ tt;
  said = tt;
  tokens = refl;
  commits = refl;
  statuses = (refl, tt);
}

-- this outcome is legal if the log's disk had a fault
pub refused_commit-legal : IsLegal one_client 1 one_script refused_commit
refused_commit-legal = record {
  trace = no_batch;
  attempts = fell_first.attempts ∷ [];
  legal = record {
    is_trace = record {
      start = refl;
      opening = refl;
      kept = refl;
      entries = tt;
      logged = record { cut = refl; none_empty = tt; runs = tt };
      controller_calls = (refl, tt);
      heard = heard_without_tokens _ (refl, tt);
      clients = tt;
      tokens = ((λ is. cc), tt);
    };
    history = refl;
    clients = refl;
    count = refl;
    count_attempts = refl;
    groups = groups_of lost_attempt;
    are_groups = one_alone lost_attempt refl refl refl;
    each = each_one one_client no_batch (Some 1) _ refused_calls fell_first.attempts refused_transcript;
    last = refl;
    state = refl;
    fault = (lit≤ tt, lit≤ tt);
    read_faults = tt;
    counted = λ no_fault none. absurd (cc no_fault);
  };
}

abbrev begun_again : Progress
begun_again = added put_b2 taken_once

abbrev fell_once : Progress
fell_once = fell (faulted 1) 2 begun_again

abbrev fell_twice : Progress
fell_twice = fell (faulted 1) 3 fell_once

abbrev seen_at_last : Progress
seen_at_last = shown 1 fell_twice

-- the second write fails
failing_transcript : IsLegalTranscript one_client one_of_three (Some 1) 1 (commands_of failing_calls) failing_calls seen_at_last.attempts
unfolding varint_within
failing_transcript = record {
  end = seen_at_last;
  is_transcript = whole refl (
    begun,
    steps one_client one_of_three fresh _ _ begun refl (lit≤ tt) (lit≤ tt) refl (lit≤ tt) (lit≤ tt),
    (
      taken_once,
      steps one_client one_of_three begun _ _ taken_once (record { batch = refl; run = refl; above = lit≤ tt; behind = tt; alive = refl; free = refl; place = 0; decided = 1; asked = (lit≤ tt, lit≤ tt, lit≤ tt); unseen = lit≤ tt; said = lit≤ tt; logged = λ to_log. logged_alone _ 0 0 1 (put_a1 ∷ []) refl (lit≤ tt); after = refl }) (lit≤ tt) (lit≤ tt) refl (lit≤ tt) (lit≤ tt),
      (
        begun_again,
        steps one_client one_of_three taken_once _ _ begun_again refl (lit≤ tt) (lit≤ tt) refl (lit≤ tt) (lit≤ tt),
        (
          fell_once,
          steps one_client one_of_three begun_again _ _ fell_once (fate_at 2 3 (faulted 1), refl, refl, not_kept_out [] _ refl, record { asked = (lit≤ tt, lit≤ tt, lit≤ tt); said = lit≤ tt }) (lit≤ tt) (lit≤ tt) refl (lit≤ tt) (lit≤ tt),
          (
            fell_twice,
            steps one_client one_of_three fell_once _ _ fell_twice (fate_at 3 4 (faulted 1), refl, refl, not_kept_out [] _ refl, record { asked = (lit≤ tt, lit≤ tt, lit≤ tt); said = lit≤ tt }) (lit≤ tt) (lit≤ tt) refl (lit≤ tt) (lit≤ tt),
            (
              seen_at_last,
              steps one_client one_of_three fell_twice _ _ seen_at_last (record { front = entry_at 1 1 put_a1 ∷ []; is_front = record { rest = []; split = refl; ends = refl }; not_below = lit≤ tt; answer = refl; after = refl }) (lit≤ tt) (lit≤ tt) refl (lit≤ tt) (lit≤ tt),
              (
                seen_at_last,
                steps one_client one_of_three seen_at_last _ _ seen_at_last (record { front = entry_at 1 1 put_a1 ∷ []; is_front = record { rest = []; split = refl; ends = refl }; not_below = lit≤ tt; answer = refl; after = refl }) (lit≤ tt) (lit≤ tt) refl (lit≤ tt) (lit≤ tt),
                refl,
              ),
            ),
          ),
        ),
      ),
    ),
  );
  accepted = refl;
  shown = 1;
  had = lit≤ tt;
  said = tt;
  tokens = refl;
  commits = refl;
  statuses = (tt, (refl, (refl, tt)));
}

-- this outcome is legal too
pub failed_write-legal : IsLegal one_client 1 failing_script failed_write
failed_write-legal = record {
  trace = one_of_three;
  attempts = seen_at_last.attempts ∷ [];
  legal = record {
    is_trace = record {
      start = refl;
      opening = refl;
      kept = refl;
      entries = (record { counted = refl; some = lit≤ tt; first = refl; fits = lit≤ tt }, tt);
      logged = record { cut = refl; none_empty = (lit≤ tt, tt); runs = (tt, tt) };
      controller_calls = (refl, (refl, (refl, (refl, tt))));
      heard = heard_without_tokens _ (refl, (refl, (refl, (refl, tt))));
      clients = ((lit≤ tt, lit≤ tt), tt);
      tokens = ((λ is. cc), ((λ is. cc), ((λ is. cc), ((λ is. cc), tt))));
    };
    history = refl;
    clients = refl;
    count = refl;
    count_attempts = refl;
    groups = three_own_groups;
    are_groups = three_alone 1 first_attempt next_attempt last_attempt (refl, (refl, (refl, tt))) (refl, (refl, (refl, tt))) refl refl refl;
    each = each_one one_client one_of_three (Some 1) _ failing_calls seen_at_last.attempts failing_transcript;
    last = refl;
    state = refl;
    fault = (lit≤ tt, lit≤ tt);
    read_faults = tt;
    counted = λ no_fault none. absurd (cc no_fault);
  };
}
