-- A commit that waited for another client's stop to be given back.
use Rattle.std.proofs.Common.{◌≡◌, ℕ, zero, suc, ◌+◌, None, Some, List, [], ◌∷◌, ◌++◌, slice_get, refl, subst, arith, inr}
use Rattle.std.proofs.Math.Dec.{lit≤}
use Rattle.model_base.specs.Varint.{varint_within}
use Rattle.model_base.specs.Controller as controller
use Rattle.model_base.specs.Controller.{ControllerCall, Look}
use Rattle.model_base.specs.Trace.{Trace}
use Rattle.model_base.specs.Attempts.{Attempt}
use Rattle.model_base.specs.Groups.{Group, Holds, AreGroups}
use Rattle.model_base.specs.Progress.{Progress, fresh}
use Rattle.model_base.specs.Calls.{Command, Call}
use Rattle.model_base.specs.Runs.{whole, commands_of}
use Rattle.model_base.specs.Outcomes.{IsLegal, IsLegalTranscript}
use Rattle.model_base.proofs.Shown.{heard_if_quiet}
use Rattle.model_rows.specs.Examples.{put_a1}
use Rattle.model_rows.specs.Runs.{entry_at, two_clients, waiting_script, waiting_calls, stopping_calls, waited_out, told_of_a_stop}
use Rattle.model_rows.proofs.Alone.{some_same, writes, logged_alone, added, took_by}
use Rattle.model_rows.proofs.OwnGroups.{calm, own, asked_for, has_place, holds, is_commit, stands_together, none_else_by}
use Rattle.model_rows.proofs.Legal.{first_attempt}

abbrev one_stop : Look
one_stop = record { stops = 1; delays = 0; wait = 0 }

-- after that client 1 looked again, and there was no stop
abbrev waited_trace : Trace
waited_trace = record {
  start = 0;
  opening = [];
  kept = None;
  entries = entry_at 1 1 put_a1 ∷ [];
  logged = (entry_at 1 1 put_a1 ∷ []) ∷ [];
  controller_calls = told_of_a_stop ++ record { client = 1; action = controller.look; told = Some calm } ∷ [];
  log_calls = writes 1 (put_a1 ∷ []) ∷ [];
}

-- the commit, whose group's delay comes after the stop, and whose leader decided after the look
abbrev the_attempt : Attempt
the_attempt = record first_attempt { place = 2; decided = 6 }

abbrev its_group : List Group
its_group = own 2 0 the_attempt ∷ []

held : (call : ℕ) (h : Attempt) → slice_get (the_attempt ∷ []) call ≡ Some h → Holds its_group h.place 1 call
held zero h there = subst (λ (x : Attempt). Holds its_group x.place 1 0) (some_same there) (holds waited_trace.controller_calls its_group 2 0 the_attempt 0 refl)
held (suc call) h there = absurd (cc)

-- its group has one delay, and goes on after the look
group_goes_on : AreGroups 1048576 waited_trace.controller_calls its_group ((the_attempt ∷ []) ∷ [] ∷ [])
unfolding varint_within
group_goes_on = record {
  each = (asked_for waited_trace.controller_calls its_group 2 0 the_attempt 1048576 one_stop refl, tt);
  all = ((λ is. cc), ((λ is. cc), ((λ is. has_place waited_trace.controller_calls its_group 2 0 the_attempt 0 refl), ((λ is. cc), ((λ is. cc), ((λ is. cc), tt))))));
  places = (tt, tt);
  commits = (is_commit waited_trace.controller_calls its_group 2 0 the_attempt (the_attempt ∷ []) ([] ∷ []) refl, tt);
  apart = (tt, tt);
  none_else = none_else_by its_group (the_attempt ∷ []) ([] ∷ []) (refl, tt) held;
  together = (
    stands_together waited_trace.controller_calls its_group 2 0 the_attempt (the_attempt ∷ []) ([] ∷ []) refl one_stop refl refl refl
        (inr (record { at = 5; numbers = calm; there = refl; behind = lit≤ tt; before = ((λ behind. absurd (omega arith)), tt); among = lit≤ tt; free = refl })),
    tt,
  );
}

abbrev begun : Progress
begun = added put_a1 fresh

waiting_transcript : IsLegalTranscript two_clients waited_trace None 1 (commands_of waiting_calls) waiting_calls (the_attempt ∷ [])
unfolding varint_within
waiting_transcript = record {
  end = took_by 1 1 2 6 begun;
  is_transcript = whole refl (
    begun,
    record { replies = refl; rises = lit≤ tt; within = lit≤ tt; tokens = refl; logs_rise = lit≤ tt; logs_within = lit≤ tt },
    (
      took_by 1 1 2 6 begun,
      record { replies = record { batch = refl; run = refl; above = lit≤ tt; behind = tt; alive = refl; free = refl; place = 2; decided = 6; asked = (lit≤ tt, lit≤ tt, lit≤ tt); unseen = lit≤ tt; said = lit≤ tt; logged = λ to_log. logged_alone _ 0 0 1 (put_a1 ∷ []) refl (lit≤ tt); after = refl }; rises = lit≤ tt; within = lit≤ tt; tokens = refl; logs_rise = lit≤ tt; logs_within = lit≤ tt },
      refl,
    ),
  );
  accepted = refl;
  shown = 1;
  had = lit≤ tt;
  said = tt;
  tokens = refl;
  commits = refl;
  statuses = (tt, tt);
}

-- what the other client knows after each of its calls
abbrev stopped : Progress
stopped = record fresh { asked = controller.stop 0 ∷ []; known = 2 }

abbrev free_again : Progress
free_again = record fresh { asked = controller.stop 0 ∷ controller.unstop 0 ∷ []; known = 5 }

stopping_transcript : IsLegalTranscript two_clients waited_trace None 2 (commands_of stopping_calls) stopping_calls []
stopping_transcript = record {
  end = free_again;
  is_transcript = whole refl (
    stopped,
    record { replies = (refl, 0, record { place = 0; is_later = record { later = lit≤ tt; there = refl }; had = lit≤ tt; said = lit≤ tt; heard_at = 1; most = 0; hears = record { later = lit≤ tt; there = refl }; known = lit≤ tt; after = refl }); rises = lit≤ tt; within = lit≤ tt; tokens = refl; logs_rise = lit≤ tt; logs_within = lit≤ tt },
    (
      free_again,
      record { replies = (refl, 0, record { place = 3; is_later = record { later = lit≤ tt; there = refl }; had = lit≤ tt; said = lit≤ tt; heard_at = 4; most = 0; hears = record { later = lit≤ tt; there = refl }; known = lit≤ tt; after = refl }); rises = lit≤ tt; within = lit≤ tt; tokens = refl; logs_rise = lit≤ tt; logs_within = lit≤ tt },
      refl,
    ),
  );
  accepted = refl;
  shown = 0;
  had = lit≤ tt;
  said = tt;
  tokens = refl;
  commits = refl;
  statuses = tt;
}

-- both transcripts are legal
each_two : (i : ℕ) (commands : List Command) (calls : List Call) → slice_get waiting_script i ≡ Some commands → slice_get waited_out.transcripts i ≡ Some calls
    → (h : List Attempt) × (slice_get ((the_attempt ∷ []) ∷ [] ∷ []) i ≡ Some h) × IsLegalTranscript two_clients waited_trace None (i + 1) commands calls h
each_two zero commands calls a b = (the_attempt ∷ [], refl, rw (← some_same a, ← some_same b) waiting_transcript)
each_two (suc zero) commands calls a b = ([], refl, rw (← some_same a, ← some_same b) stopping_transcript)
each_two (suc (suc i)) commands calls a b = absurd (cc)

-- and so is the outcome
pub waited_out-legal : IsLegal two_clients 0 waiting_script waited_out
waited_out-legal = record {
  trace = waited_trace;
  attempts = (the_attempt ∷ []) ∷ [] ∷ [];
  legal = record {
    is_trace = record {
      start = refl;
      opening = refl;
      kept = refl;
      entries = (record { counted = refl; some = lit≤ tt; first = refl; fits = lit≤ tt }, tt);
      logged = record { cut = refl; none_empty = (lit≤ tt, tt); runs = (tt, tt) };
      controller_calls = (refl, (refl, (refl, (refl, (refl, (refl, tt))))));
      heard = heard_if_quiet waited_trace.controller_calls (refl, (refl, (refl, (refl, (refl, (refl, tt))))));
      clients = ((lit≤ tt, lit≤ tt), tt);
      tokens = ((λ is. (lit≤ tt, lit≤ tt)), ((λ is. cc), ((λ is. cc), ((λ is. (lit≤ tt, lit≤ tt)), ((λ is. cc), ((λ is. cc), tt))))));
    };
    history = refl;
    clients = refl;
    count = refl;
    count_attempts = refl;
    groups = its_group;
    are_groups = group_goes_on;
    each = each_two;
    last = refl;
    state = refl;
    fault = tt;
    read_faults = tt;
    counted = λ no_fault none. refl;
  };
}
