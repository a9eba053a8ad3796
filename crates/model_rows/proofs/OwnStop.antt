-- A commit of a client that holds a stop token.
use Rattle.std.proofs.Common.{◌≡◌, ℕ, true, false, Option, None, Some, List, [], ◌∷◌, ◌++◌, refl, ap, ◌∙◌, inl}
use Rattle.std.proofs.Math.Dec.{lit≤}
use Rattle.model_base.specs.Varint.{varint_within}
use Rattle.model_base.specs.declared.write.Refusal.TheVariants as no
use Rattle.model_base.specs.declared.write.Refusal.{Refusal}
use Rattle.model_base.specs.Batch.{Record}
use Rattle.model_base.specs.Calls.{Call, Reply, accepted, refused}
use Rattle.model_base.specs.Controller as controller
use Rattle.model_base.specs.Controller.{Look}
use Rattle.model_base.specs.Tokens.{holds_stop}
use Rattle.model_base.specs.Attempts.{WriteStatus, faulted, full, Fate, status_in}
use Rattle.model_base.specs.Trace.{Trace, Settings}
use Rattle.model_base.specs.Groups.{AreGroups}
use Rattle.model_base.specs.Progress.{Progress, fresh, early_refusal}
use Rattle.model_base.specs.Replies.{MayRefuse}
use Rattle.model_base.specs.Runs.{Run, whole, commands_of}
use Rattle.model_base.specs.Outcomes.{IsLegal, IsLegalTranscript}
use Rattle.model_base.proofs.Shown.{heard_if_quiet}
use Rattle.model_rows.specs.Examples.{put_a1, noslow}
use Rattle.model_rows.specs.Runs.{one_client, used_up, own_stop_script, own_stop_calls, refused_in_its_own_stop, accepted_in_its_own_stop, failed_in_its_own_stop, full_in_its_own_stop}
use Rattle.model_rows.proofs.Alone.{each_one, added}
use Rattle.model_rows.proofs.OwnGroups.{none_else_by}
use Rattle.model_rows.proofs.Steps.{run_of, is_accepted, is_attempted}

-- The commit is refused

abbrev one_stop : Look
one_stop = record { stops = 1; delays = 0; wait = 0 }

-- the stop, the look by which the commit was refused, and the stop given back
abbrev looked_trace : Trace
looked_trace = record {
  start = 0;
  opening = [];
  kept = None;
  entries = [];
  logged = [];
  controller_calls =
      record { client = 1; action = controller.stop 0; told = None }
      ∷ record { client = 1; action = controller.hear 0; told = None }
      ∷ record { client = 1; action = controller.look; told = Some one_stop }
      ∷ record { client = 1; action = controller.unstop 0; told = None }
      ∷ record { client = 1; action = controller.hear 0; told = None } ∷ [];
  log_calls = [];
}

abbrev refused_calls : List Call
refused_calls = own_stop_calls (refused (no.Incomplete 1 0 0))

-- the client's progress after each call
abbrev stopped : Progress
stopped = record fresh { asked = controller.stop 0 ∷ []; known = 2 }

abbrev begun : Progress
begun = added put_a1 stopped

abbrev looked : Progress
looked = record begun { known = 3 }

abbrev freed : Progress
freed = record looked { asked = controller.stop 0 ∷ controller.unstop 0 ∷ []; known = 5 }

refused_transcript : IsLegalTranscript one_client looked_trace None 1 (commands_of refused_calls) refused_calls []
unfolding varint_within
refused_transcript = record {
  end = freed;
  is_transcript = whole refl (
    stopped,
    record { replies = (refl, 0, record { place = 0; is_later = record { later = lit≤ tt; there = refl }; had = lit≤ tt; said = lit≤ tt; heard_at = 1; most = 0; hears = record { later = lit≤ tt; there = refl }; known = lit≤ tt; after = refl }); rises = lit≤ tt; within = lit≤ tt; tokens = refl; logs_rise = lit≤ tt; logs_within = lit≤ tt },
    (
      begun,
      record { replies = refl; rises = lit≤ tt; within = lit≤ tt; tokens = refl; logs_rise = lit≤ tt; logs_within = lit≤ tt },
      (
        looked,
        record {
          replies = (None, (refl, (1, 2, record { later = lit≤ tt; there = refl }, lit≤ tt, (refl, inl (lit≤ tt)))), refl, (λ stopping. refl), tt);
          rises = lit≤ tt;
          within = lit≤ tt;
          tokens = refl;
          logs_rise = lit≤ tt;
          logs_within = lit≤ tt;
        },
        (
          freed,
          record { replies = (refl, 0, record { place = 3; is_later = record { later = lit≤ tt; there = refl }; had = lit≤ tt; said = lit≤ tt; heard_at = 4; most = 0; hears = record { later = lit≤ tt; there = refl }; known = lit≤ tt; after = refl }); rises = lit≤ tt; within = lit≤ tt; tokens = refl; logs_rise = lit≤ tt; logs_within = lit≤ tt },
          refl,
        ),
      ),
    ),
  );
  accepted = refl;
  shown = 0;
  had = lit≤ tt;
  said = tt;
  tokens = refl;
  commits = refl;
  statuses = tt;
}

-- no group was asked for
no_groups : AreGroups 1048576 looked_trace.controller_calls [] ([] ∷ [])
no_groups = record {
  each = tt;
  all = ((λ is. cc), ((λ is. cc), ((λ is. cc), ((λ is. cc), ((λ is. cc), tt)))));
  places = tt;
  commits = tt;
  apart = tt;
  none_else = none_else_by [] [] [] tt (λ call h there. absurd (cc there));
  together = tt;
}

pub refused-legal : IsLegal one_client 0 own_stop_script refused_in_its_own_stop
refused-legal = record {
  trace = looked_trace;
  attempts = [] ∷ [];
  legal = record {
    is_trace = record {
      start = refl;
      opening = refl;
      kept = refl;
      entries = tt;
      logged = record { cut = refl; none_empty = tt; runs = tt };
      controller_calls = (refl, (refl, (refl, (refl, (refl, tt)))));
      heard = heard_if_quiet looked_trace.controller_calls (refl, (refl, (refl, (refl, (refl, tt)))));
      clients = tt;
      tokens = ((λ is. (lit≤ tt, lit≤ tt)), ((λ is. cc), ((λ is. cc), ((λ is. (lit≤ tt, lit≤ tt)), ((λ is. cc), tt)))));
    };
    history = refl;
    clients = refl;
    count = refl;
    count_attempts = refl;
    groups = [];
    are_groups = no_groups;
    each = each_one one_client looked_trace None _ refused_calls [] refused_transcript;
    last = refl;
    state = refl;
    fault = tt;
    read_faults = tt;
    counted = λ no_fault none. refl;
  };
}

-- The commit is accepted, or ends in a group in another way

-- in no trace do these calls run, since the client holds a stop token where it commits
module _ (settings : Settings) (trace : Trace) (end : Progress) where
  holds_when : (reply : Reply) (run : Run settings trace 1 fresh (own_stop_calls reply) end) → (run.2.0.asked ≡ controller.stop run.1.replies.1 ∷ []) × (run.2.0.pending ≡ put_a1 ∷ [])
  holds_when reply run =
      let stopping = run.1.replies.2.after in let adding = run.2.1.replies in (
        ap (λ (x : Progress). x.asked) adding ∙ ap (λ (x : Progress). x.asked) stopping,
        ap (λ (x : Progress). x.pending) adding ∙ ap (λ (x : Progress). x.pending ++ put_a1 ∷ []) stopping,
      )

  no_run : (first last : ℕ) (records : List Record) → Run settings trace 1 fresh (own_stop_calls (accepted first last records)) end → ⊥
  no_run first last records run =
      let holds : holds_stop run.2.0.asked ≡ true = ap holds_stop (holds_when (accepted first last records) run).0 in
      let free : holds_stop run.2.0.asked ≡ false = (is_accepted settings trace 1 run.2.0 noslow first last records run.2.2.0 run.2.2.1.replies).free in
      absurd (cc (holds, free))

  no_run_in_a_group : (why : Refusal) (status : WriteStatus) → early_refusal settings.families settings.batch_bytes true (put_a1 ∷ []) noslow ≡ None
      → ((p : Progress) (knows : ℕ) (got : Option Fate) → MayRefuse trace.controller_calls 1 p knows noslow why got → status_in got ≡ Some status)
      → Run settings trace 1 fresh (own_stop_calls (refused why)) end → ⊥
  no_run_in_a_group why status passes in_a_group run =
      let at = holds_when (refused why) run in
      let refusal = is_attempted settings trace 1 run.2.0 noslow (refused why) run.2.2.0 (rw (at.0, at.1) passes) run.2.2.1.replies in
      let some = in_a_group run.2.0 run.2.2.0.known refusal.0 refusal.1 in
      let none = refusal.3 (ap holds_stop at.0) in
      absurd (cc (some, ap status_in none))

-- the commit passes the checks
passes : early_refusal 1 16777216 true (put_a1 ∷ []) noslow ≡ None
unfolding varint_within
passes = refl

-- so no trace has the outcome
pub not_accepted : (ended : ℕ) → IsLegal one_client ended own_stop_script accepted_in_its_own_stop → ⊥
not_accepted ended legal =
    let one = legal.legal.each 0 _ _ refl refl in
    no_run one_client legal.trace one.2.end 1 1 (put_a1 ∷ []) (run_of one_client legal.trace 1 _ (own_stop_calls (accepted 1 1 (put_a1 ∷ []))) one.2.end (λ e. cc) one.2.is_transcript)

pub not_failed : (ended : ℕ) → IsLegal one_client ended own_stop_script failed_in_its_own_stop → ⊥
not_failed ended legal =
    let one = legal.legal.each 0 _ _ refl refl in
    no_run_in_a_group one_client legal.trace one.2.end (no.LogFault 1) (faulted 1) passes (λ p knows got may. may)
    (run_of one_client legal.trace 1 _ (own_stop_calls (refused (no.LogFault 1))) one.2.end (λ e. cc) one.2.is_transcript)

pub not_full : (ended : ℕ) → IsLegal used_up ended own_stop_script full_in_its_own_stop → ⊥
not_full ended legal =
    let one = legal.legal.each 0 _ _ refl refl in
    no_run_in_a_group used_up legal.trace one.2.end (no.SequenceFull 72057594037927935) (full 72057594037927935) passes (λ p knows got may. may.0)
    (run_of used_up legal.trace 1 _ (own_stop_calls (refused (no.SequenceFull 72057594037927935))) one.2.end (λ e. cc) one.2.is_transcript)
