-- A run over a map that was recovered.
use Rattle.std.proofs.Common.{◌≡◌, ℕ, codes, None, Some, List, [], ◌∷◌, ◌++◌, refl, ap, ◌∙◌, arith}
use Rattle.std.proofs.Math.Dec.{lit≤}
use Rattle.model_base.specs.Varint.{varint_within}
use Rattle.model_base.specs.Map.{Pairs, value_at}
use Rattle.model_base.specs.History.{Entry, last_of, last_sequence, map_over}
use Rattle.model_base.specs.Trace.{Trace}
use Rattle.model_base.specs.Attempts.{Attempt, succeeded}
use Rattle.model_base.specs.Progress.{Progress, fresh}
use Rattle.model_base.specs.Runs.{whole, commands_of}
use Rattle.model_base.specs.Outcomes.{IsLegal, IsLegalTranscript}
use Rattle.model_base.proofs.Shown.{heard_without_tokens}
use Rattle.model_rows.specs.Examples.{put_b2, plain, key_a}
use Rattle.model_rows.specs.Runs.{entry_at, begun_before, going_on_script, going_on_calls, went_on}
use Rattle.model_rows.proofs.Alone.{each_one, steps, writes, logged_alone, added, took, shown}
use Rattle.model_rows.proofs.OwnGroups.{own, said_delays_of, said_alone}
use Rattle.model_rows.proofs.Steps.{run_of}

abbrev attempt : Attempt
attempt = record { records = put_b2 ∷ []; options = plain; status = succeeded; place = 1; decided = 2 }

-- the trace of the one batch after what was recovered
abbrev behind : Trace
behind = record { start = 1; opening = begun_before.opening; kept = None; entries = entry_at 1 2 put_b2 ∷ []; logged = (entry_at 1 2 put_b2 ∷ []) ∷ []; controller_calls = said_delays_of 1 attempt; log_calls = writes 2 (put_b2 ∷ []) ∷ [] }

-- The client's progress after each call

abbrev seen_before : Progress
seen_before = shown 1 fresh

abbrev begun : Progress
begun = added put_b2 seen_before

abbrev taken : Progress
taken = took 2 2 1 begun

transcript : IsLegalTranscript begun_before behind None 1 (commands_of going_on_calls) going_on_calls taken.attempts
unfolding varint_within
transcript = record {
  end = taken;
  is_transcript = whole refl (
    seen_before,
    steps begun_before behind fresh _ _ seen_before (record { front = []; is_front = record { rest = entry_at 1 2 put_b2 ∷ []; split = refl; ends = refl }; not_below = lit≤ tt; answer = refl; after = refl }) (lit≤ tt) (lit≤ tt) refl (lit≤ tt) (lit≤ tt),
    (
      begun,
      steps begun_before behind seen_before _ _ begun refl (lit≤ tt) (lit≤ tt) refl (lit≤ tt) (lit≤ tt),
      (
        taken,
        steps begun_before behind begun _ _ taken (record { batch = refl; run = refl; above = lit≤ tt; behind = tt; alive = refl; free = refl; place = 1; decided = 2; asked = (lit≤ tt, lit≤ tt, lit≤ tt); unseen = lit≤ tt; said = lit≤ tt; logged = λ to_log. logged_alone _ 0 0 2 (put_b2 ∷ []) refl (lit≤ tt); after = refl }) (lit≤ tt) (lit≤ tt) refl (lit≤ tt) (lit≤ tt),
        refl,
      ),
    ),
  );
  accepted = refl;
  shown = 2;
  had = lit≤ tt;
  said = tt;
  tokens = refl;
  commits = refl;
  statuses = (tt, tt);
}

pub went_on-legal : IsLegal begun_before 0 going_on_script went_on
went_on-legal = record {
  trace = behind;
  attempts = taken.attempts ∷ [];
  legal = record {
    is_trace = record {
      start = refl;
      opening = refl;
      kept = refl;
      entries = (record { counted = refl; some = lit≤ tt; first = refl; fits = lit≤ tt }, tt);
      logged = record { cut = refl; none_empty = (lit≤ tt, tt); runs = (tt, tt) };
      controller_calls = (refl, (refl, tt));
      heard = heard_without_tokens _ (refl, (refl, tt));
      clients = ((lit≤ tt, lit≤ tt), tt);
      tokens = ((λ is. cc), ((λ is. cc), tt));
    };
    history = refl;
    clients = refl;
    count = refl;
    count_attempts = refl;
    groups = own 1 0 attempt ∷ [];
    are_groups = said_alone 1 attempt refl refl refl;
    each = each_one begun_before behind None _ going_on_calls taken.attempts transcript;
    last = refl;
    state = refl;
    fault = tt;
    read_faults = tt;
    counted = λ no_fault none. refl;
  };
}

-- over an empty map the map at the sequence 1 is empty, so the read finds no value
no_value : (m : Pairs) (start : ℕ) (entries front rest : List Entry) → m ≡ [] → entry_at 1 2 put_b2 ∷ [] ≡ entries → entries ≡ front ++ rest
    → 1 ≡ last_sequence start front → Some (codes "1") ≡ value_at (map_over m front) key_a → ⊥
no_value m start entries [] rest none is split ends answer = cc (answer ∙ ap (λ (x : Pairs). value_at x key_a) none)
no_value m start entries (e ∷ []) rest none is split ends answer = let first : entry_at 1 2 put_b2 ≡ e = cc (is, split) in absurd (omega (arith, ends, ap last_of first))
no_value m start entries (e ∷ f ∷ front) rest none is split ends answer = cc (is, split)

pub not_over_nothing : (ended : ℕ) → IsLegal (record begun_before { opening = [] }) ended going_on_script went_on → ⊥
not_over_nothing ended legal =
    let one = legal.legal.each 0 _ _ refl refl in
    let read = (run_of (record begun_before { opening = [] }) legal.trace 1 _ going_on_calls one.2.end (λ e. cc) one.2.is_transcript).1.replies in
    no_value legal.trace.opening legal.trace.start legal.trace.entries read.front read.is_front.rest legal.legal.is_trace.opening legal.legal.history read.is_front.split read.is_front.ends read.answer
