-- Two clients in one group, and what each of them learns of its end.
use Rattle.std.proofs.Common.{◌≡◌, inl, inr, ℕ, zero, suc, ◌+◌, ◌<◌, List, [], ◌∷◌, length, flat_map, map, Some, None, slice_get, refl, ap, sym, ◌∙◌, subst, arith, append-nil}
use Rattle.std.specs.List.{AllByRecursion, AllZip}
use Rattle.std.proofs.Math.Dec.{lit≤}
use Rattle.std.proofs.lemmas.Option.{slice_get_within}
use Rattle.model_base.specs.Varint.{varint_within}
use Rattle.model_base.specs.Batch.{size_of_batch}
use Rattle.model_base.specs.History.{Entry}
use Rattle.model_base.specs.Attempts.{Attempt, succeeded, item_of}
use Rattle.model_base.specs.Groups.{Group, HaveOwnPlaces, Holds, IsAskedFor, IsCommit, AreGroups}
use Rattle.model_base.proofs.Shown.{heard_without_tokens}
use Rattle.model_accounts.specs.Sights.{Saw}
use Rattle.model_accounts.specs.Accounts.{Account}
use Rattle.model_runs.specs.Parts.{name_of, names_made}
use Rattle.model_accounts.specs.Parts.{ends_in}
use Rattle.model_accounts.specs.Closing.{IsAccountOf, IsClosing}
use Rattle.model_accounts.specs.Examples.{pair_settings, first_records, second_records, entry_with, attempt_with, pair_delay, pair_write, pair_trace, pair_group, pair_sight, account_with, pair_accounts}

abbrev attempts : List (List Attempt)
attempts = (attempt_with first_records ∷ []) ∷ (attempt_with second_records ∷ []) ∷ []

-- The group

first_commit : IsCommit attempts (record { client = 1; call = 0; item = item_of (attempt_with first_records) })
first_commit = record { number = 0; commits = attempt_with first_records ∷ []; attempt = attempt_with first_records; client = refl; of_client = refl; there = refl; item = refl }

second_commit : IsCommit attempts (record { client = 2; call = 0; item = item_of (attempt_with second_records) })
second_commit = record { number = 1; commits = attempt_with second_records ∷ []; attempt = attempt_with second_records; client = refl; of_client = refl; there = refl; item = refl }

are_groups : AreGroups pair_settings.group_bytes (pair_delay ∷ []) (pair_group ∷ []) attempts
unfolding varint_within first_commit second_commit
are_groups = record {
  each = (record { by = 1; now = 0; told = pair_delay.told; there = refl; is_group = record { some = lit≤ tt; whole = refl; of_others = (((λ e. absurd (cc e)), tt), (tt, tt)) } }, tt);
  all = ((λ delay. record { at = 0; group = pair_group; there = refl; is = refl }), tt);
  places = (tt, tt);
  commits = (first_commit, (second_commit, tt));
  apart = (((λ e. absurd (cc e)), tt), (tt, tt));
  none_else = none_else;
  together = (
    record {
      decided = 1;
      statuses = succeeded ∷ succeeded ∷ [];
      are = ((first_commit, refl, refl, refl), ((second_commit, refl, refl, refl), tt));
      together = inr (
        (refl, (refl, tt)),
        record {
          by = 1;
          now = 0;
          bytes = size_of_batch first_records + size_of_batch second_records;
          numbers = record { stops = 0; delays = 0; wait = 0 };
          there = refl;
          each = (inl refl, (inl refl, tt));
        },
      );
    },
    tt,
  );
}
  where
    none_else : (number : ℕ) (commits : List Attempt) (call : ℕ) (attempt : Attempt) → slice_get attempts number ≡ Some commits → slice_get commits call ≡ Some attempt
        → Holds (pair_group ∷ []) attempt.place (number + 1) call
    none_else zero commits zero attempt of_client there =
        let is : attempt_with first_records ∷ [] ≡ commits = cc of_client in
        let same : Some (attempt_with first_records) ≡ Some attempt = subst (λ xs. slice_get xs 0 ≡ Some attempt) (sym is) there in
        let own : attempt_with first_records ≡ attempt = cc same in
        record { at = 0; group = pair_group; of_place = refl; place_is = ap (λ (h : Attempt). h.place) own; among = 0; member = record { client = 1; call = 0; item = item_of (attempt_with first_records) }; there = refl; client_is = refl; call_is = refl }
    none_else zero commits (suc call) attempt of_client there =
        let is : attempt_with first_records ∷ [] ≡ commits = cc of_client in
        let none : slice_get (attempt_with first_records ∷ []) (suc call) ≡ Some attempt = subst (λ xs. slice_get xs (suc call) ≡ Some attempt) (sym is) there in
        absurd (cc none)
    none_else (suc zero) commits zero attempt of_client there =
        let is : attempt_with second_records ∷ [] ≡ commits = cc of_client in
        let same : Some (attempt_with second_records) ≡ Some attempt = subst (λ xs. slice_get xs 0 ≡ Some attempt) (sym is) there in
        let own : attempt_with second_records ≡ attempt = cc same in
        record { at = 0; group = pair_group; of_place = refl; place_is = ap (λ (h : Attempt). h.place) own; among = 1; member = record { client = 2; call = 0; item = item_of (attempt_with second_records) }; there = refl; client_is = refl; call_is = refl }
    none_else (suc zero) commits (suc call) attempt of_client there =
        let is : attempt_with second_records ∷ [] ≡ commits = cc of_client in
        let none : slice_get (attempt_with second_records ∷ []) (suc call) ≡ Some attempt = subst (λ xs. slice_get xs (suc call) ≡ Some attempt) (sym is) there in
        absurd (cc none)
    none_else (suc (suc number)) commits call attempt of_client there = absurd (cc of_client)

-- The closing

-- the call wrote the first batch, and the second one after it
first_seen : Saw (pair_sight first_records 1) pair_trace
unfolding varint_within
first_seen = record {
  start = refl;
  opening = refl;
  entries = pair_trace.entries;
  begins = ([], refl);
  groups = (pair_trace.entries, [], refl, refl, refl);
  controller_calls = ([], refl);
  log_reads = tt;
  logged = lit≤ tt;
  batches = (record { place = 0; call = pair_write; there = refl; later = lit≤ tt; known = lit≤ tt; wrote = record { before = []; after = second_records ∷ []; among = refl; run = refl; synced = λ sync. cc; ok = refl } }, tt);
}

second_seen : Saw (pair_sight second_records 2) pair_trace
unfolding varint_within
second_seen = record {
  start = refl;
  opening = refl;
  entries = pair_trace.entries;
  begins = ([], refl);
  groups = (pair_trace.entries, [], refl, refl, refl);
  controller_calls = ([], refl);
  log_reads = tt;
  logged = lit≤ tt;
  batches = (record { place = 0; call = pair_write; there = refl; later = lit≤ tt; known = lit≤ tt; wrote = record { before = first_records ∷ []; after = []; among = refl; run = refl; synced = λ sync. cc; ok = refl } }, tt);
}

abbrev OfTrace : Account → Type 0
OfTrace a = IsAccountOf pair_trace (pair_trace.entries ∷ []) None a

pub closing : IsClosing pair_settings 0 pair_trace (pair_group ∷ []) (pair_accounts 2) 2 None
closing = record {
  is_trace = record {
    start = refl;
    opening = refl;
    kept = refl;
    entries = (record { counted = refl; some = lit≤ tt; first = refl; fits = lit≤ tt }, (record { counted = refl; some = lit≤ tt; first = refl; fits = lit≤ tt }, tt));
    logged = record { cut = refl; none_empty = (lit≤ tt, tt); runs = ((record { counted = refl; some = lit≤ tt; first = refl; fits = lit≤ tt }, tt), tt) };
    controller_calls = (refl, tt);
    heard = heard_without_tokens _ (refl, tt);
    clients = ((lit≤ tt, lit≤ tt), ((lit≤ tt, lit≤ tt), tt));
    tokens = ((λ token. absurd (cc token)), tt);
  };
  are_groups = are_groups;
  parts = pair_trace.entries ∷ [];
  are_parts = record { cut = refl; made = (refl, tt) };
  each = each;
  last_is = refl;
  fault_is = tt;
  read_faults = tt;
  counted = λ no_fault none. refl;
}
  where
    first : OfTrace (account_with first_records (entry_with 1 1 first_records) 2)
    first = record { accepted = refl; ends = refl; tokens = refl; statuses = (tt, tt); seen = first_seen }

    second : OfTrace (account_with second_records (entry_with 2 2 second_records) 2)
    second = record { accepted = refl; ends = refl; tokens = refl; statuses = (tt, tt); seen = second_seen }

    each : (i : ℕ) (a : Account) → slice_get (pair_accounts 2) i ≡ Some a → OfTrace a
    each zero a there = let is : account_with first_records (entry_with 1 1 first_records) 2 ≡ a = cc there in subst OfTrace is first
    each (suc zero) a there = let is : account_with second_records (entry_with 2 2 second_records) 2 ≡ a = cc there in subst OfTrace is second
    each (suc (suc i)) a there = absurd (cc there)

-- Only one delay was asked for, so all commits are in one group, whose part is the whole history

first_place : (g : Group) → IsAskedFor pair_settings.group_bytes (pair_delay ∷ []) g → g.place ≡ 0
first_place g asked =
    let within : g.place < length (pair_delay ∷ []) = slice_get_within (pair_delay ∷ []) g.place _ asked.there in
    let one : length (pair_delay ∷ []) ≡ 1 = refl in
    omega (arith, within, one)

same_told : (m n : ℕ) → m ∷ [] ≡ n ∷ [] → m ≡ n
same_told m n e = cc e

not_own : (groups : List Group) (parts : List (List Entry)) → AllByRecursion (IsAskedFor pair_settings.group_bytes (pair_delay ∷ [])) groups → HaveOwnPlaces groups
    → AllZip (λ (g : Group) (part : List Entry). map name_of part ≡ names_made attempts g) groups parts → flat_map (λ part. part) parts ≡ pair_trace.entries → 1 ∷ [] ≡ ends_in 1 parts → ⊥
not_own [] [] asked own made cut ends = absurd (cc)
not_own [] (part ∷ parts) asked own made cut ends = absurd made
not_own (g ∷ []) [] asked own made cut ends = absurd made
not_own (g ∷ []) (part ∷ []) asked own made cut ends =
    let whole : part ≡ pair_trace.entries = sym (append-nil part) ∙ cut in
    let told = same_told 1 2 (subst (λ (p : List Entry). 1 ∷ [] ≡ ends_in 1 (p ∷ [])) whole ends) in
    absurd (omega (arith, told))
not_own (g ∷ []) (part ∷ more ∷ parts) asked own made cut ends = absurd (made.1)
not_own (g ∷ h ∷ groups) parts asked own made cut ends = absurd (own.0.0 (first_place g asked.0 ∙ sym (first_place h asked.1.0)))

pub own_end : (groups : List Group) → IsClosing pair_settings 0 pair_trace groups (pair_accounts 1) 2 None → ⊥
own_end groups c = not_own groups c.parts c.are_groups.each c.are_groups.places c.are_parts.made c.are_parts.cut (c.each 0 _ refl).ends
