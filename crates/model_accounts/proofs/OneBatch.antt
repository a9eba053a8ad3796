-- A client that commits one batch, and what can be seen of it.
use Rattle.std.proofs.Common.{◌≡◌, inl, inr, ℕ, zero, suc, ◌+◌, List, [], ◌∷◌, ◌++◌, length, Some, None, slice_get, codes, refl, ap, sym, ◌∙◌, subst, arith, append_assoc}
use Rattle.std.proofs.Math.Dec.{lit≤}
use Rattle.model_base.specs.Varint.{varint_within}
use Rattle.model_base.specs.Batch.{value, size_of_batch}
use Rattle.model_base.specs.History.{Entry}
use Rattle.model_base.specs.Attempts.{Attempt, succeeded, item_of}
use Rattle.model_base.specs.Groups.{IsCommit, Holds, AreGroups}
use Rattle.model_base.specs.Calls.{Command, add, commit, Call, quiet, accepted}
use Rattle.model_base.proofs.Shown.{heard_without_tokens}
use Rattle.table_rule.specs.Histories.{made_by}
use Rattle.model_accounts.specs.Versions.{versions_of_entry}
use Rattle.model_accounts.specs.Sights.{WasLogged, Saw}
use Rattle.model_accounts.specs.Accounts.{Account, Wrote, GivesBack}
use Rattle.model_accounts.specs.Closing.{IsAccountOf, IsClosing}
use Rattle.model_accounts.specs.ClientRuns.{HasRun, HaveRun}
use Rattle.model_accounts.specs.Examples.{settings, two_records, plain, one_entry, one_delay, one_batch, one_write, one_logged, one_attempt, one_group, first_version, second_version, sight_of, before, after, commands, calls}
use Rattle.model_accounts.proofs.Seeing.{sees_self}
use Rattle.model_accounts.proofs.Goings.{goes_add, goes_accepted}
use Rattle.model_accounts.proofs.Passing.{went_none, went_more, has_run}

-- What can be seen

in_log : WasLogged (one_write ∷ []) one_logged
in_log = record { place = 0; call = one_write; there = refl; later = lit≤ tt; known = lit≤ tt; wrote = record { before = []; after = []; among = refl; run = refl; synced = λ sync. cc; ok = refl } }

pub whole : Saw (sight_of (first_version ∷ second_version ∷ [])) one_batch
whole = record { start = refl; opening = refl; entries = one_entry ∷ []; begins = ([], refl); groups = (one_entry ∷ [], [], refl, refl, refl); controller_calls = ([], refl); log_reads = tt; logged = lit≤ tt; batches = (in_log, tt) }

-- the first entries of a history of one entry make all of its versions, or none
not_half : (first rest : List Entry) → first ++ rest ≡ one_entry ∷ [] → made_by versions_of_entry first ≡ first_version ∷ [] → ⊥
not_half [] rest all made = absurd (cc made)
not_half (e ∷ []) rest all made =
    let is : e ≡ one_entry = cc all in
    let both : made_by versions_of_entry (one_entry ∷ []) ≡ first_version ∷ [] = subst (λ (x : Entry). made_by versions_of_entry (x ∷ []) ≡ first_version ∷ []) is made in
    let two : 2 ≡ 1 = ap length both in
    absurd (cc two)
not_half (e ∷ d ∷ first) rest all made = let more : length (e ∷ d ∷ (first ++ rest)) ≡ 1 = ap length all in absurd (omega (arith, more))

pub half : Saw (sight_of (first_version ∷ [])) one_batch → ⊥
half saw =
    let g = saw.groups in
    let all : (g.0 ++ g.1) ++ saw.begins.0 ≡ one_entry ∷ [] = ap (λ es. es ++ saw.begins.0) (sym g.2) ∙ saw.begins.1 in
    not_half g.0 (g.1 ++ saw.begins.0) (sym (append_assoc g.0 g.1 saw.begins.0) ∙ all) (g.3)

-- The client

pub wrote : Wrote settings before two_records plain 1 2 after
unfolding varint_within
wrote = record {
  number = refl;
  mine = refl;
  ends = refl;
  asked = refl;
  attempts = refl;
  read_faults = refl;
  seen = record { start = refl; opening = refl; published = (after.seen.published, refl); controller_calls = (after.seen.controller_calls, refl); log_reads = ([], refl); logged = lit≤ tt; batches = (after.seen.batches, refl) };
  place = 0;
  decided = 1;
  within_call = (lit≤ tt, lit≤ tt, lit≤ tt);
  unseen = lit≤ tt;
  said = lit≤ tt;
  logged = λ to_log. refl;
  tokens = refl;
  some = lit≤ tt;
  passed = refl;
  free = refl;
  above = lit≤ tt;
  behind = tt;
  alive = refl;
  within = lit≤ tt;
  reached = lit≤ tt;
}

gives_back : GivesBack after after
gives_back = record { number = refl; mine = refl; ends = refl; shown = 2; had = lit≤ tt; has = lit≤ tt; said = tt; asked = refl; attempts = refl; read_faults = refl; seen = sees_self after.seen; tokens = refl }

has_run_once : HasRun settings 1 commands calls after
has_run_once =
    let first = went_more settings [] before [] (add (value None (codes "a") (codes "1"))) quiet before _ (went_none settings 0 [] 1) (goes_add settings before [] (value None (codes "a") (codes "1")) refl) in
    let second = went_more settings _ before _ (add (value None (codes "b") (codes "2"))) quiet before two_records first (goes_add settings before _ (value None (codes "b") (codes "2")) refl) in
    let third = went_more settings _ before two_records (commit plain) (accepted 1 2 two_records) after [] second (goes_accepted settings before two_records plain 1 2 2 after refl wrote) in
    has_run settings calls after [] after third gives_back

pub run : HaveRun settings (commands ∷ []) (calls ∷ []) (after ∷ [])
run = record { clients = refl; transcripts_of = refl; each = each }
  where
    each : (i : ℕ) (cs : List Command) (made : List Call) (a : Account) → slice_get (commands ∷ []) i ≡ Some cs → slice_get (calls ∷ []) i ≡ Some made → slice_get (after ∷ []) i ≡ Some a
        → HasRun settings (i + 1) cs made a
    each zero cs made a in_script in_transcripts in_accounts =
        let is_script : commands ≡ cs = cc in_script in
        let is_calls : calls ≡ made = cc in_transcripts in
        let is_account : after ≡ a = cc in_accounts in
        subst (λ (x : Account). HasRun settings 1 cs made x) is_account (subst (λ (x : List Call). HasRun settings 1 cs x after) is_calls (subst (λ (x : List Command). HasRun settings 1 x calls after) is_script has_run_once))
    each (suc i) cs made a in_script in_transcripts in_accounts = absurd (cc in_script)

-- The commit's group

one_commit : IsCommit ((one_attempt ∷ []) ∷ []) (record { client = 1; call = 0; item = item_of one_attempt })
one_commit = record { number = 0; commits = one_attempt ∷ []; attempt = one_attempt; client = refl; of_client = refl; there = refl; item = refl }

are_groups : AreGroups settings.group_bytes (one_delay ∷ []) (one_group ∷ []) ((one_attempt ∷ []) ∷ [])
unfolding varint_within one_commit
are_groups = record {
  each = (record { by = 1; now = 0; told = one_delay.told; there = refl; is_group = record { some = lit≤ tt; whole = refl; of_others = (tt, tt) } }, tt);
  all = ((λ delay. record { at = 0; group = one_group; there = refl; is = refl }), tt);
  places = (tt, tt);
  commits = (one_commit, tt);
  apart = (tt, tt);
  none_else = none_else;
  together = (
    record {
      decided = 1;
      statuses = succeeded ∷ [];
      are = ((one_commit, refl, refl, refl), tt);
      together = inr ((refl, tt), record { by = 1; now = 0; bytes = size_of_batch two_records; numbers = record { stops = 0; delays = 0; wait = 0 }; there = refl; each = (inl refl, tt) });
    },
    tt,
  );
}
  where
    none_else : (number : ℕ) (commits : List Attempt) (call : ℕ) (attempt : Attempt) → slice_get ((one_attempt ∷ []) ∷ []) number ≡ Some commits → slice_get commits call ≡ Some attempt
        → Holds (one_group ∷ []) attempt.place (number + 1) call
    none_else zero commits zero attempt of_client there =
        let is : one_attempt ∷ [] ≡ commits = cc of_client in
        let same : Some one_attempt ≡ Some attempt = subst (λ xs. slice_get xs 0 ≡ Some attempt) (sym is) there in
        let own : one_attempt ≡ attempt = cc same in
        record { at = 0; group = one_group; of_place = refl; place_is = ap (λ (h : Attempt). h.place) own; among = 0; member = record { client = 1; call = 0; item = item_of one_attempt }; there = refl; client_is = refl; call_is = refl }
    none_else zero commits (suc call) attempt of_client there =
        let is : one_attempt ∷ [] ≡ commits = cc of_client in
        let none : slice_get (one_attempt ∷ []) (suc call) ≡ Some attempt = subst (λ xs. slice_get xs (suc call) ≡ Some attempt) (sym is) there in
        absurd (cc none)
    none_else (suc number) commits call attempt of_client there = absurd (cc of_client)

-- The closing

pub closing : IsClosing settings 0 one_batch (one_group ∷ []) (after ∷ []) 2 None
closing = record {
  is_trace = record {
    start = refl;
    opening = refl;
    kept = refl;
    entries = (record { counted = refl; some = lit≤ tt; first = refl; fits = lit≤ tt }, tt);
    logged = record { cut = refl; none_empty = (lit≤ tt, tt); runs = (tt, tt) };
    controller_calls = (refl, tt);
    heard = heard_without_tokens _ (refl, tt);
    clients = ((lit≤ tt, lit≤ tt), tt);
    tokens = ((λ token. absurd (cc token)), tt);
  };
  are_groups = are_groups;
  parts = (one_entry ∷ []) ∷ [];
  are_parts = record { cut = refl; made = (refl, tt) };
  each = each;
  last_is = refl;
  fault_is = tt;
  read_faults = tt;
  counted = λ no_fault none. refl;
}
  where
    of_client : IsAccountOf one_batch ((one_entry ∷ []) ∷ []) None after
    of_client = record { accepted = refl; ends = refl; tokens = refl; statuses = (tt, tt); seen = whole }

    each : (i : ℕ) (a : Account) → slice_get (after ∷ []) i ≡ Some a → IsAccountOf one_batch ((one_entry ∷ []) ∷ []) None a
    each zero a there = let is : after ≡ a = cc there in subst (λ (x : Account). IsAccountOf one_batch ((one_entry ∷ []) ∷ []) None x) is of_client
    each (suc i) a there = absurd (cc there)
