-- A run over two families.
use Rattle.std.proofs.Common.{◌≡◌, ℕ, codes, None, Some, List, [], ◌∷◌, ◌++◌, map, refl, ap, sym, ◌∙◌}
use Rattle.std.proofs.Math.Dec.{lit≤}
use Rattle.model_base.specs.Varint.{varint_within}
use Rattle.model_base.specs.Map.{Pairs, value_at}
use Rattle.model_base.specs.History.{Entry, map_over}
use Rattle.model_base.specs.Trace.{Trace}
use Rattle.model_base.specs.Attempts.{Attempt, succeeded}
use Rattle.model_base.specs.Progress.{Progress, fresh}
use Rattle.model_base.specs.Runs.{whole, commands_of}
use Rattle.model_base.specs.Outcomes.{IsLegal, IsLegalTranscript}
use Rattle.model_base.proofs.Shown.{heard_without_tokens}
use Rattle.model_rows.specs.Examples.{put_a1, put_1a2, plain, key_a, key_1a}
use Rattle.model_rows.specs.Runs.{entry_at, two_families, both_families, put_2a3, families_script, families_calls, in_both_families, torn_script, torn_calls, torn_read}
use Rattle.model_rows.proofs.Alone.{each_one, steps, writes, logged_alone, added, took, shown}
use Rattle.model_rows.proofs.OwnGroups.{delays_of, groups_of, one_alone}
use Rattle.model_rows.proofs.Steps.{run_of}

abbrev the_attempt : Attempt
the_attempt = record { records = both_families; options = plain; status = succeeded; place = 0; decided = 1 }

abbrev the_entry : Entry
the_entry = record (entry_at 1 1 put_a1) { count = 2; records = both_families }

-- the trace of the one batch
abbrev one_batch : Trace
one_batch = record { start = 0; opening = []; kept = None; entries = the_entry ∷ []; logged = (the_entry ∷ []) ∷ []; controller_calls = delays_of the_attempt; log_calls = writes 1 both_families ∷ [] }

-- The client's progress after each call

abbrev begun : Progress
begun = added put_1a2 (added put_a1 fresh)

abbrev taken : Progress
taken = took 1 2 0 begun

abbrev seen : Progress
seen = shown 2 taken

abbrev more : Progress
more = added put_2a3 seen

transcript : IsLegalTranscript two_families one_batch None 1 (commands_of families_calls) families_calls more.attempts
unfolding varint_within
transcript = record {
  end = more;
  is_transcript = whole refl (
    added put_a1 fresh,
    steps two_families one_batch fresh _ _ (added put_a1 fresh) refl (lit≤ tt) (lit≤ tt) refl (lit≤ tt) (lit≤ tt),
    (
      begun,
      steps two_families one_batch (added put_a1 fresh) _ _ begun refl (lit≤ tt) (lit≤ tt) refl (lit≤ tt) (lit≤ tt),
      (
        taken,
        steps two_families one_batch begun _ _ taken (record { batch = refl; run = refl; above = lit≤ tt; behind = tt; alive = refl; free = refl; place = 0; decided = 1; asked = (lit≤ tt, lit≤ tt, lit≤ tt); unseen = lit≤ tt; said = lit≤ tt; logged = λ to_log. logged_alone _ 0 0 1 both_families refl (lit≤ tt); after = refl }) (lit≤ tt) (lit≤ tt) refl (lit≤ tt) (lit≤ tt),
        (
          seen,
          steps two_families one_batch taken _ _ seen (record { front = the_entry ∷ []; is_front = record { rest = []; split = refl; ends = refl }; not_below = lit≤ tt; answer = refl; after = refl }) (lit≤ tt) (lit≤ tt) refl (lit≤ tt) (lit≤ tt),
          (
            seen,
            steps two_families one_batch seen _ _ seen (record { front = the_entry ∷ []; is_front = record { rest = []; split = refl; ends = refl }; not_below = lit≤ tt; answer = refl; after = refl }) (lit≤ tt) (lit≤ tt) refl (lit≤ tt) (lit≤ tt),
            (
              seen,
              steps two_families one_batch seen _ _ seen (record { front = the_entry ∷ []; is_front = record { rest = []; split = refl; ends = refl }; not_below = lit≤ tt; answer = refl; after = refl }) (lit≤ tt) (lit≤ tt) refl (lit≤ tt) (lit≤ tt),
              (
                more,
                steps two_families one_batch seen _ _ more refl (lit≤ tt) (lit≤ tt) refl (lit≤ tt) (lit≤ tt),
                (more, steps two_families one_batch more _ _ more (refl, refl) (lit≤ tt) (lit≤ tt) refl (lit≤ tt) (lit≤ tt), refl),
              ),
            ),
          ),
        ),
      ),
    ),
  );
  accepted = refl;
  shown = 2;
  had = lit≤ tt;
  said = tt;
  tokens = refl;
  commits = refl;
  statuses = (tt, tt);
}

pub in_both_families-legal : IsLegal two_families 0 families_script in_both_families
in_both_families-legal = record {
  trace = one_batch;
  attempts = more.attempts ∷ [];
  legal = record {
    is_trace = record {
      start = refl;
      opening = refl;
      kept = refl;
      entries = (record { counted = refl; some = lit≤ tt; first = refl; fits = lit≤ tt }, tt);
      logged = record { cut = refl; none_empty = (lit≤ tt, tt); runs = (tt, tt) };
      controller_calls = (refl, tt);
      heard = heard_without_tokens _ (refl, tt);
      clients = ((lit≤ tt, lit≤ tt), tt);
      tokens = ((λ is. cc), tt);
    };
    history = refl;
    clients = refl;
    count = refl;
    count_attempts = refl;
    groups = groups_of the_attempt;
    are_groups = one_alone the_attempt refl refl refl;
    each = each_one two_families one_batch None _ families_calls more.attempts transcript;
    last = refl;
    state = refl;
    fault = tt;
    read_faults = tt;
    counted = λ no_fault none. refl;
  };
}

-- a front of the history has the whole batch or nothing of it
not_half : (m : Pairs) (front rest : List Entry) → m ≡ [] → the_entry ∷ [] ≡ front ++ rest
    → Some (codes "1") ∷ None ∷ [] ≡ map (value_at (map_over m front)) (key_a ∷ key_1a ∷ []) → ⊥
not_half m [] rest none split answer =
    cc (answer ∙ ap (λ (x : Pairs). map (value_at x) (key_a ∷ key_1a ∷ [])) none)
not_half m (e ∷ []) rest none split answer =
    let first : the_entry ≡ e = cc in
    cc (answer ∙ ap (λ (x : Pairs). map (value_at (map_over x (e ∷ []))) (key_a ∷ key_1a ∷ [])) none
    ∙ ap (λ (x : Entry). map (value_at (map_over [] (x ∷ []))) (key_a ∷ key_1a ∷ [])) (sym first))
not_half m (e ∷ f ∷ front) rest none split answer = cc

pub not_torn : (ended : ℕ) → IsLegal two_families ended torn_script torn_read → ⊥
not_torn ended legal =
    let one = legal.legal.each 0 _ _ refl refl in
    let read = (run_of two_families legal.trace 1 _ torn_calls one.2.end (λ e. cc) one.2.is_transcript).2.2.2.1.replies in
    not_half legal.trace.opening read.front read.is_front.rest legal.legal.is_trace.opening (legal.legal.history ∙ read.is_front.split) read.answer
