-- At the end the commits make one trace of all clients, and the log's calls wrote its history.
use Rattle.std.proofs.Common.{◌≡◌, ◌≢◌, inl, inr, ℕ, suc, ◌+◌, ◌-◌, ◌<◌, ◌≤◌, Bool, true, false, cond, nat_le, ◌==◌, map, get_or, slice_get, List, [], ◌∷◌, ◌++◌, Option, Some, None, length, refl, ap, sym, ◌∙◌, subst, ⊎_elim, arith, append_assoc}
use Rattle.std.specs.Option.{option_map}
use Rattle.std.specs.List.{AllByRecursion, AllZip}
use Rattle.std.specs.Bool.{IsTrue}
use Rattle.std.proofs.lemmas.Option.{slice_get-map, slice_get_cases}
use mathlib.Core.List.{IsPrefix}
use Rattle.std.proofs.lemmas.Grind.{flat_map-append}
use Rattle.std.proofs.lemmas.List.Elements.{filter-append}
use Rattle.model_base.specs.Batch.{count_of}
use Rattle.model_base.specs.History.{Entry, IsHistory, max_sequence, last_sequence, IsBoundary}
use Rattle.model_base.specs.Attempts.{Attempt}
use Rattle.model_base.specs.Controller.{ControllerCall, IsLegal}
use Rattle.model_base.specs.Tokens.{is_token, tokens_of, AreHeard}
use Rattle.model_base.specs.Recovery.{Logged}
use Rattle.model_base.specs.Trace.{Trace, Settings}
use Rattle.model_base.specs.Groups.{Member, AreOfOthers, AreStatuses, IsStatus, items_of}
use Rattle.model_base.specs.Outcomes.{entries_of_client, AreOwnFaults}
use Rattle.model_base.specs.Grouping.{group_len}
use Rattle.model_base.specs.LogContents.{GroupCall, AreGroupsOf}
use Rattle.table_rule.specs.declared.content.MemberVersions.{MemberVersions}
use Rattle.model_runs.specs.Lost.{batches_that_fit, IsLost}
use Rattle.model_accounts.specs.Sights.{Saw}
use Rattle.model_accounts.specs.Accounts.{Account}
use Rattle.model_accounts.specs.Closing.{HasOneTrace, IsAccountOf, RoseInRun, all_attempts, all_read_faults}
use Rattle.model_accounts.specs.Led.{AreLed, Led, all_taken, groups_of}
use Rattle.model_accounts.specs.Parts.{ends_in}
use Rattle.model_runs.specs.Groups.{IsOfFirstLost, StaysDead, statuses_in}
use Rattle.model_runs.specs.Parts.{AreParts}
use Rattle.model_runs.specs.Written.{AreLost, IsLostCall, WritesLog}
use Rattle.engine_rule.specs.Commits.{Answer, AreAnswered, AreOfClients, Commit, Heard, IsAnswer, accepted, held_up, commits_of, failed, fault_after, fault_after_all, last_after, last_after_all, no_room}
use Rattle.engine_rule.specs.Consistent.{AreConsistent}
use Rattle.engine_rule.specs.Asked.{HasAsked, LedGroup, commits_in, heard_by}
use Rattle.engine_rule.specs.Entries.{AreCallsOf, HasPart, trace_of, attempt_of, ends_of, entries_after, entries_of, entry_after, entry_with, status_of}
use Rattle.engine_rule.specs.LogCalls.{AreLostWrites, IsLostWrite, led_of, parts_after}
use Rattle.engine_rule.specs.LogSights.{LogSight, sights_of, logged_by, batches_of, ShowTheLog}
use Rattle.engine_rule.proofs.LogSights.{batches_logged, logged_within}
use Rattle.engine_rule.proofs.Own.{all_filter}
use Rattle.model_base.proofs.Runs.{logged_in}
use Rattle.model_base.proofs.Prefixes.{prefix_length}
use Rattle.model_accounts.specs.Sights.{LoggedBatch, WasLogged}
use Rattle.engine_rule.specs.Reading.{AnsweredRead, AreRight, IsRight, answers_in, answers_of, faults_in, reads_in, reads_with}
use Rattle.engine_rule.specs.Plans.{AreLogged, CommitRequest, HaveOwnClients, all_failed, commit_of_request, batches_from, item_of_request}
use Rattle.engine_rule.proofs.Chains.{entries_clients, entries_history, entries_own, images_entries}
use Rattle.engine_rule.proofs.DeadLog.{AreOfGroups, ended, of_first_lost, statuses_are, stays_dead}
use Rattle.engine_rule.proofs.GroupParts.{ends_are, parts_cut, parts_named}
use Rattle.engine_rule.proofs.Leaders.{are_led, by_leaders, rising}
use Rattle.engine_rule.proofs.OwnFaults.{all_of_client, by_client, faults_of_accounts, no_faults, own_by_client}
use Rattle.engine_rule.proofs.ReadsEnd.{records_written, right_reads}
use Rattle.model_accounts.proofs.Leading.{groups_from_led, led_in_turn}
use Rattle.model_accounts.proofs.Logs.{parts_are_groups}
use Rattle.model_accounts.proofs.Parts.{commits_led, parts_made}
use Rattle.model_accounts.proofs.Seeing.{saw_published}
use Rattle.engine_controller.specs.Delays.{delays_of}
use Rattle.engine_controller.proofs.Account.{goes_begins, goes_tokens}
use Rattle.engine_controller.proofs.Places.{goes_delays}

-- Statuses

-- the commit's status is right
abbrev HasStatus : Trace → Option ℕ → Commit → Type 0
HasStatus trace fault c = IsStatus trace fault (status_of c.answer)

-- the status that one right answer gives, where these entries come before it
status_by : (trace : Trace) (fault : Option ℕ) (last : ℕ) (dead : Option ℕ) (c : Commit) (v : Answer) → IsAnswer last dead (count_of c.records) v → ((n : ℕ) → fault_after dead v ≡ Some n → fault ≡ Some n)
    → IsBoundary trace.start trace.entries last → IsStatus trace fault (status_of v)
status_by trace fault last dead c (accepted first end) h to_fault b = tt
status_by trace fault last dead c (held_up numbers) h to_fault b = tt
status_by trace fault last dead c (failed n) h to_fault b = to_fault n refl
status_by trace fault last dead c (no_room l) h to_fault b = subst (IsBoundary trace.start trace.entries) (sym h.1) b

-- once the log has a fault, it stays the same
dead_step : (last n : ℕ) (c : Commit) (cs : List Commit) (v : Answer) → ((k : ℕ) → AreAnswered last (Some k) cs → fault_after_all (Some k) cs ≡ Some k) → IsAnswer last (Some n) (count_of c.records) v → AreAnswered (last_after last (count_of c.records) v) (fault_after (Some n) v) cs → fault_after_all (fault_after (Some n) v) cs ≡ Some n
dead_step last n c cs (accepted first end) more a b = absurd (let bad = a.0 in cc)
dead_step last n c cs (held_up numbers) more a b = more n b
dead_step last n c cs (failed m) more a b = subst (λ k. fault_after_all (Some k) cs ≡ Some n) (sym a) (more n (subst (λ k. AreAnswered last (Some k) cs) a b))
dead_step last n c cs (no_room l) more a b = absurd (let bad = a.0 in cc)

dead_stays : (last n : ℕ) (cs : List Commit) → AreAnswered last (Some n) cs → fault_after_all (Some n) cs ≡ Some n
dead_stays last n [] h = refl
dead_stays last n (c ∷ cs) h = dead_step last n c cs c.answer (λ k. dead_stays last k cs) h.0 h.1

last_sequence_append : (start : ℕ) (xs ys : List Entry) → last_sequence start (xs ++ ys) ≡ last_sequence (last_sequence start xs) ys
last_sequence_append start [] ys = refl
last_sequence_append start (x ∷ xs) ys = last_sequence_append (x.first + x.count - 1) xs ys

last_with : (last : ℕ) (dead : Option ℕ) (mine : List Entry) (c : Commit) (v : Answer) → IsAnswer last dead (count_of c.records) v → last_sequence last (entry_with c.client mine c v) ≡ last_after last (count_of c.records) v
last_with last dead mine c (accepted first end) h = let a = h.2 in let b = h.1 in omega (arith, a, b)
last_with last dead mine c (held_up numbers) h = refl
last_with last dead mine c (failed n) h = refl
last_with last dead mine c (no_room l) h = refl

all_statuses : (trace : Trace) (fault : Option ℕ) (last : ℕ) (dead : Option ℕ) (front : List Entry) (cs : List Commit) → AreAnswered last dead cs → fault ≡ fault_after_all dead cs → trace.entries ≡ front ++ entries_after front cs → last ≡ last_sequence trace.start front → AllByRecursion (HasStatus trace fault) cs
all_statuses trace fault last dead front [] h is split ends = tt
all_statuses trace fault last dead front (c ∷ cs) h is split ends =
    let e : List Entry = entry_after front c in (
      status_by trace fault last dead c c.answer h.0
          (λ n now. is ∙ (ap (λ d. fault_after_all d cs) now ∙ dead_stays (last_after last (count_of c.records) c.answer) n cs (subst (λ d. AreAnswered (last_after last (count_of c.records) c.answer) d cs) now h.1)))
          (front, record { rest = e ++ entries_after (front ++ e) cs; split = split; ends = ends }),
      all_statuses trace fault (last_after last (count_of c.records) c.answer) (fault_after dead c.answer) (front ++ e) cs h.1 is (split ∙ sym (append_assoc front e (entries_after (front ++ e) cs)))
          (sym (last_sequence_append trace.start front e ∙ (ap (λ n. last_sequence n e) (sym ends) ∙ last_with last dead (entries_of_client c.client front) c c.answer h.0))),
    )

-- the statuses of one client's commits are right
own_statuses : (trace : Trace) (fault : Option ℕ) (cs : List Commit) → AllByRecursion (HasStatus trace fault) cs → AreStatuses trace fault (map attempt_of cs)
own_statuses trace fault [] h = tt
own_statuses trace fault (c ∷ cs) h = (h.0, own_statuses trace fault cs h.1)

-- The members of the group whose write failed

commits_append : (k : ℕ) (xs ys : List Commit) → commits_of k (xs ++ ys) ≡ commits_of k xs ++ commits_of k ys
commits_append k xs ys = filter-append (λ (c : Commit). c.client == k) xs ys

itself : (n : ℕ) → (n == n) ≡ true
itself n = grind arith

handled_at : (before : List Commit) (c : Commit) (after : List Commit) → slice_get (map attempt_of (commits_of c.client (before ++ c ∷ after))) (length (commits_of c.client before)) ≡ Some (attempt_of c)
handled_at [] c after = rw (itself c.client) refl
handled_at (u ∷ before) c after = by (u.client == c.client) refl (handled_at before c after)
  where
    by : (b : Bool) → (u.client == c.client) ≡ b → slice_get (map attempt_of (commits_of c.client (before ++ c ∷ after))) (length (commits_of c.client before)) ≡ Some (attempt_of c)
        → slice_get (map attempt_of (commits_of c.client (u ∷ (before ++ c ∷ after)))) (length (commits_of c.client (u ∷ before))) ≡ Some (attempt_of c)
    by true e h = rw e h
    by false e h = rw e h

members_behind : Heard → List Commit → ℕ → List CommitRequest → List Member
members_behind heard before n [] = []
members_behind heard before n (a ∷ requests) = record { client = a.client; call = length (commits_of a.client before); item = item_of_request a } ∷ members_behind heard (before ++ commit_of_request heard a (failed n) ∷ []) n requests

items_behind : (heard : Heard) (before : List Commit) (n : ℕ) (requests : List CommitRequest) → items_of (members_behind heard before n requests) ≡ map item_of_request requests
unfolding members_behind
items_behind heard before n [] = refl
items_behind heard before n (a ∷ requests) = ap (λ is. item_of_request a ∷ is) (items_behind heard (before ++ commit_of_request heard a (failed n) ∷ []) n requests)

length_behind : (heard : Heard) (before : List Commit) (n : ℕ) (requests : List CommitRequest) → length (members_behind heard before n requests) ≡ length requests
unfolding members_behind
length_behind heard before n [] = refl
length_behind heard before n (a ∷ requests) = ap suc (length_behind heard (before ++ commit_of_request heard a (failed n) ∷ []) n requests)

unlike_behind : (heard : Heard) (client : ℕ) (before : List Commit) (n : ℕ) (requests : List CommitRequest) → AllByRecursion (λ (b : CommitRequest). client ≢ b.client) requests → AllByRecursion (λ (m : Member). client ≢ m.client) (members_behind heard before n requests)
unfolding members_behind
unlike_behind heard client before n [] h = tt
unlike_behind heard client before n (a ∷ requests) h = (h.0, unlike_behind heard client (before ++ commit_of_request heard a (failed n) ∷ []) n requests h.1)

others_behind : (heard : Heard) (before : List Commit) (n : ℕ) (requests : List CommitRequest) → HaveOwnClients requests → AreOfOthers (members_behind heard before n requests)
unfolding members_behind
others_behind heard before n [] h = tt
others_behind heard before n (a ∷ requests) h = (unlike_behind heard a.client (before ++ commit_of_request heard a (failed n) ∷ []) n requests h.0, others_behind heard (before ++ commit_of_request heard a (failed n) ∷ []) n requests h.1)

fitting_is : (last : ℕ) (requests : List CommitRequest) → batches_that_fit last (map (λ (a : CommitRequest). a.records) requests) ≡ batches_from last requests
fitting_is last [] = refl
fitting_is last (a ∷ requests) = by (nat_le (last + count_of a.records) max_sequence) refl (λ m. fitting_is m requests)
  where
    by : (b : Bool) → nat_le (last + count_of a.records) max_sequence ≡ b → ((m : ℕ) → batches_that_fit m (map (λ (a : CommitRequest). a.records) requests) ≡ batches_from m requests)
        → cond b (a.records ∷ batches_that_fit (last + count_of a.records) (map (λ (a : CommitRequest). a.records) requests)) (batches_that_fit last (map (λ (a : CommitRequest). a.records) requests)) ≡ cond b (a.records ∷ []) [] ++ batches_from (cond b (last + count_of a.records) last) requests
    by true e more = ap (λ l. a.records ∷ l) (more (last + count_of a.records))
    by false e more = more last

module _ (cs : List Commit) (accounts : List Account) (clients : ℕ) (all : length accounts ≡ clients) (are : (i : ℕ) (a : Account) → slice_get accounts i ≡ Some a → a.attempts ≡ map attempt_of (commits_of (i + 1) cs)) where
  lost_members : (heard : Heard) (n : ℕ) (before : List Commit) (requests : List CommitRequest) (after : List Commit) → cs ≡ before ++ (all_failed heard n requests ++ after) → AreLogged requests → AreOfClients clients (all_failed heard n requests)
      → AllZip (IsLost (all_attempts accounts) n) (members_behind heard before n requests) (map (λ (a : CommitRequest). a.records) requests)
  unfolding members_behind
  lost_members heard n before [] after split h named = tt
  lost_members heard n before (a ∷ requests) after split h named =
      let c : Commit = commit_of_request heard a (failed n) in (
        elim (slice_get_cases accounts (a.client - 1)).1 [
          | inl there ↦ (
              let number : a.client ≡ (a.client - 1) + 1 = (let low = named.0.0 in omega arith) in
              let of_client : slice_get (all_attempts accounts) (a.client - 1) ≡ Some there.0.attempts = slice_get-map (λ (x : Account). x.attempts) accounts (a.client - 1) ∙ ap (option_map (λ (x : Account). x.attempts)) there.2 in
              let is : there.0.attempts ≡ map attempt_of (commits_of a.client cs) = are (a.client - 1) there.0 there.2 ∙ ap (λ k. map attempt_of (commits_of k cs)) (sym number) in
              record {
                stands = record {
                  number = a.client - 1;
                  commits = there.0.attempts;
                  attempt = attempt_of c;
                  client = number;
                  of_client = of_client;
                  there = ap (λ hs. slice_get hs (length (commits_of a.client before))) is ∙ (ap (λ l. slice_get (map attempt_of (commits_of a.client l)) (length (commits_of a.client before))) split ∙ handled_at before c (all_failed heard n requests ++ after));
                  item = refl;
                };
                records_are = refl;
                to_log = h.0;
                status = refl;
              })
          | inr gone ↦ (let low = named.0.0 in let high = named.0.1 in let none = gone.0 in absurd (omega arith))
        ],
        lost_members heard n (before ++ c ∷ []) requests after (split ∙ sym (append_assoc before (c ∷ []) (all_failed heard n requests ++ after))) h.1 named.1,
      )

all_front : {X : Type 0} (P : X → Type 0) (xs ys : List X) → AllByRecursion P (xs ++ ys) → AllByRecursion P xs
all_front P [] ys a = tt
all_front P (x ∷ xs) ys a = (a.0, all_front P xs ys a.1)

all_back : {X : Type 0} (P : X → Type 0) (xs ys : List X) → AllByRecursion P (xs ++ ys) → AllByRecursion P ys
all_back P [] ys a = a
all_back P (x ∷ xs) ys a = all_back P xs ys a.1

some_length : {A B : Type 0} (f : A → B) (xs : List A) (n : ℕ) → length xs ≡ n → length (map f xs) ≡ n
some_length f [] n e = e
some_length f (x ∷ xs) n e = ap suc (some_length f xs (length xs) refl) ∙ e

module _ (settings : Settings) (cs : List Commit) (last : ℕ) (fault : Option ℕ) (published : List (List MemberVersions)) (calls : List GroupCall) (asked history : List ControllerCall)
    (k : AreConsistent settings.start settings.clients settings.group_bytes asked cs last fault published calls)
    (sights : List LogSight) (show : ShowTheLog k.written.worked sights)
    (accounts : List Account) (all : length accounts ≡ settings.clients) (reads : List AnsweredRead) (are : (i : ℕ) (a : Account) → slice_get accounts i ≡ Some a → HasPart settings.start settings.opening cs sights reads published history i a) (kept : Option (List Logged)) where
  abbrev trace : Trace
  trace = trace_of settings.start settings.opening kept cs k.written.parts.parts history calls

  is_history : IsHistory settings.start (entries_of cs) × (last_sequence settings.start (entries_of cs) ≡ last_after_all settings.start cs)
  is_history = entries_history settings.start None [] cs k.answered

  last_is : last ≡ last_sequence settings.start (entries_of cs)
  last_is = k.last_is ∙ sym is_history.1

  attempts_are : (i : ℕ) (a : Account) → slice_get accounts i ≡ Some a → a.attempts ≡ map attempt_of (commits_of (i + 1) cs)
  attempts_are i a there = ap (λ b. b.attempts) (are i a there).is

  attempts_at : (i : ℕ) (a : Account) → slice_get accounts i ≡ Some a → slice_get (all_attempts accounts) i ≡ Some (map attempt_of (commits_of (i + 1) cs))
  attempts_at i a there = slice_get-map (λ (x : Account). x.attempts) accounts i ∙ (ap (option_map (λ (x : Account). x.attempts)) there ∙ ap Some (attempts_are i a there))

  own_is : (i : ℕ) (own : List Attempt) → slice_get (all_attempts accounts) i ≡ Some own → own ≡ map attempt_of (commits_of (i + 1) cs)
  own_is i own e = ⊎_elim
      (λ (p : (x : Account) × (i < length accounts) × (slice_get accounts i ≡ Some x) × (get_or accounts i x ≡ x)).
      let is : Some own ≡ Some (map attempt_of (commits_of (i + 1) cs)) = sym e ∙ attempts_at i p.0 p.2 in cc (is))
      (λ (p : (length accounts ≤ i) × (slice_get accounts i ≡ None)).
      let is : Some own ≡ None = sym e ∙ (slice_get-map (λ (x : Account). x.attempts) accounts i ∙ ap (option_map (λ (x : Account). x.attempts)) p.1) in absurd (cc))
      (slice_get_cases accounts i).1

  -- a client has a commit for each of its delays in the history
  have_asked : (client : ℕ) → 1 ≤ client → client ≤ settings.clients → (known : List ControllerCall) × (delays_of client history ≡ delays_of client known) × HasAsked client (commits_of client cs) known
  have_asked client low high = ⊎_elim
      (λ (p : (x : Account) × (client - 1 < length accounts) × (slice_get accounts (client - 1) ≡ Some x) × (get_or accounts (client - 1) x ≡ x)).
      let number : client - 1 + 1 ≡ client = omega (arith, low) in
      let h = are (client - 1) p.0 p.2 in
      subst (λ n. (known : List ControllerCall) × (delays_of n history ≡ delays_of n known) × HasAsked n (commits_of n cs) known) number (h.known, goes_delays (client - 1 + 1) h.known history h.goes_on, h.has_asked))
      (λ (p : (length accounts ≤ client - 1) × (slice_get accounts (client - 1) ≡ None)). let none = p.0 in absurd (omega (arith, none, low, high, all)))
      (slice_get_cases accounts (client - 1)).1

  are_groups : AreGroupsOf (entries_of cs) k.written.parts.parts
  are_groups = parts_are_groups (entries_of cs) k.written.parts.parts k.written.worked k.written.parts.cut k.written.parts.runs k.written.parts.each

  lost_call : (n : ℕ) (c : GroupCall) → IsLostWrite settings.group_bytes k.in_groups.groups n last c → IsLostCall settings.group_bytes (all_attempts accounts) n (last_sequence settings.start (entries_of cs)) c
  lost_call n c g =
      let whole = g.is_group in
      let heard = heard_by g.group in
      let front = commits_in g.before in
      let rest = commits_in g.after in
      let split : cs ≡ front ++ (all_failed heard n g.requests ++ rest) = sym k.in_groups.cut ∙ (ap commits_in g.among ∙ (flat_map-append (λ (h : LedGroup). h.commits) g.before (g.group ∷ g.after) ∙ ap (λ l. front ++ (l ++ rest)) g.answers)) in
      let named : AreOfClients settings.clients (all_failed heard n g.requests) = all_front (λ (c : Commit). (1 ≤ c.client) × (c.client ≤ settings.clients)) (all_failed heard n g.requests) rest (all_back (λ (c : Commit). (1 ≤ c.client) × (c.client ≤ settings.clients)) front (all_failed heard n g.requests ++ rest) (subst (AreOfClients settings.clients) split k.of_clients)) in
      record {
        failed = g.failed;
        first = g.writes.first ∙ ap (λ m. m + 1) last_is;
        batches = record {
          members = members_behind heard front n g.requests;
          is_group = record {
            some = (let l = length_behind heard front n g.requests in let s = whole.some in omega (arith, l, s));
            whole = ap (λ is. group_len settings.group_bytes is) (items_behind heard front n g.requests) ∙ (whole.whole ∙ sym (length_behind heard front n g.requests));
            of_others = others_behind heard front n g.requests whole.of_others;
          };
          all = map (λ (a : CommitRequest). a.records) g.requests;
          each = lost_members cs accounts settings.clients all (λ i a there. ap (λ b. b.attempts) (are i a there).is) heard n front g.requests rest split g.writes.to_log named;
          batches_are = g.writes.batches ∙ (sym (fitting_is last g.requests) ∙ ap (λ m. batches_that_fit m (map (λ (a : CommitRequest). a.records) g.requests)) last_is);
          some = g.writes.some;
        };
      }

  are_lost : (lost : List GroupCall) (f : Option ℕ) → AreLostWrites settings.group_bytes k.in_groups.groups f last lost → AreLost settings.group_bytes (all_attempts accounts) f (last_sequence settings.start (entries_of cs)) lost
  are_lost lost None h = h
  are_lost lost (Some n) h = (h.0, h.1, lost_call n h.0 h.2)

  module _ (legal : IsLegal history) (heard : AreHeard history) (calls_of : AreCallsOf settings.clients history) (within : IsPrefix asked history) (right : AreRight (λ (batches : List Logged). kept ≡ Some batches) last calls (reads_in (answers_in reads))) where
    abbrev led : List Led
    led = map led_of k.in_groups.groups

    is_led : AreLed settings.group_bytes history led (all_attempts accounts)
    is_led = are_led settings.start settings.group_bytes asked history cs k.in_groups within settings.clients (all_attempts accounts) (some_length (λ (x : Account). x.attempts) accounts settings.clients all) k.of_clients calls_of have_asked own_is

    statuses : AllByRecursion (HasStatus trace fault) cs
    statuses = all_statuses trace fault settings.start None [] cs k.answered k.fault_is refl refl

    abbrev parts : List (List Entry)
    parts = parts_after [] k.in_groups.groups

    are_parts : AreParts (all_attempts accounts) (groups_of led) (entries_of cs) parts
    are_parts = record {
      cut = parts_cut [] k.in_groups.groups ∙ ap entries_of k.in_groups.cut;
      made = parts_made (all_attempts accounts) (all_taken led) is_led.of_client [] led parts refl is_led.clients (parts_named [] k.in_groups.groups);
    }

    ends_told : (client : ℕ) → ends_in client parts ≡ ends_of (commits_of client cs)
    ends_told client =
        ends_are client settings.start None [] k.in_groups.groups (subst (AreAnswered settings.start None) (sym k.in_groups.cut) k.answered) k.in_groups.name_ends ∙ ap (λ ds. ends_of (commits_of client ds)) k.in_groups.cut

    -- the calls that worked are the first ones of all
    calls_of_worked : IsPrefix k.written.worked calls
    calls_of_worked = (k.written.lost, sym k.written.both)

    part_of : (i : ℕ) (a : Account) → slice_get accounts i ≡ Some a → IsAccountOf trace parts fault a
    part_of i a there =
        let h = are i a there in
        let number : a.number ≡ i + 1 = ap (λ b. b.number) h.is in
        record {
          accepted = ap (λ n. entries_of_client n (entries_of cs)) number ∙ (entries_own (i + 1) [] [] cs refl ∙ sym (ap (λ b. b.mine) h.is));
          ends = ap (λ b. b.ends) h.is ∙ (sym (ends_told (i + 1)) ∙ ap (λ n. ends_in n parts) (sym number));
          tokens = ap (λ n. tokens_of n history) number ∙ (goes_tokens (i + 1) h.known history h.goes_on ∙ sym (ap (λ b. b.asked) h.is));
          statuses = subst (AreStatuses trace fault) (sym (attempts_are i a there)) (own_statuses trace fault (commits_of (i + 1) cs) (all_filter (HasStatus trace fault) (λ (c : Commit). c.client == i + 1) cs statuses));
          seen = subst (λ (b : Account). Saw b.seen trace) (sym h.is)
              (saw_published trace published (images_entries [] cs published k.images) (record { start = settings.start; opening = settings.opening; published = h.seen; controller_calls = h.known; log_reads = reads_in (answers_of (i + 1) reads); logged = logged_by (sights_of (i + 1) sights); batches = batches_of 0 (sights_of (i + 1) sights) }) refl refl h.begins (goes_begins (i + 1) h.known history h.goes_on)
              (right_reads trace is_history.0 cs published k.named k.cuts are_groups last calls (records_written settings.start settings.group_bytes k.in_groups.groups cs fault last calls k.written is_history.0) h.seen h.begins (reads_in (answers_of (i + 1) reads)) h.at_ends (all_of_client (IsRight (λ (batches : List Logged). kept ≡ Some batches) last calls) reads_with (i + 1) reads right))
              (let low = logged_within k.written.worked sights show (i + 1) in let long = prefix_length k.written.worked calls calls_of_worked in omega (arith, low, long))
              (all_calls (batches_of 0 (sights_of (i + 1) sights)) (batches_logged k.written.worked sights show (i + 1))));
        }
      where
        all_calls : (batches : List LoggedBatch) → AllByRecursion (WasLogged k.written.worked) batches → AllByRecursion (WasLogged calls) batches
        all_calls [] each = tt
        all_calls (b ∷ batches) each = (logged_in k.written.worked calls calls_of_worked b.knew b.knows b.first b.records b.sync each.0, all_calls batches each.1)

    of_tokens : (n : ℕ) (ts : List ControllerCall) → AreCallsOf n ts → AllByRecursion (λ (t : ControllerCall). IsTrue (is_token t.action) → (1 ≤ t.client) × (t.client ≤ n)) ts
    of_tokens n [] h = tt
    of_tokens n (t ∷ ts) h = ((λ is. h.0), of_tokens n ts h.1)

    faults_are : (client : ℕ) (a : Account) (i : ℕ) → client ≡ i + 1 → slice_get accounts i ≡ Some a → a.read_faults ≡ faults_in (answers_of client reads)
    faults_are client a i number there = ap (λ b. b.read_faults) (are i a there).is ∙ ap (λ n. faults_in (answers_of n reads)) (sym number)

    all_faults : all_read_faults accounts ≡ by_client 1 settings.clients reads
    all_faults = faults_of_accounts 1 accounts reads (λ i a there. faults_are (1 + i) a i (next i) there) ∙ ap (λ n. by_client 1 n reads) all
      where
        next : (i : ℕ) → 1 + i ≡ i + 1
        next i = omega arith

    -- the commits of each group of the outcome, as its leader took them
    of_groups : AreOfGroups (all_attempts accounts) (groups_of led) k.in_groups.groups
    of_groups = commits_led (all_attempts accounts) (all_taken led) is_led.of_client [] led refl is_led.clients

    of_first : (lost : List GroupCall) (f : Option ℕ) → AreLostWrites settings.group_bytes k.in_groups.groups f last lost → AllByRecursion (IsOfFirstLost (all_attempts accounts) (groups_of led) (last_sequence settings.start (entries_of cs))) lost
    of_first lost None none = subst (AllByRecursion (IsOfFirstLost (all_attempts accounts) (groups_of led) (last_sequence settings.start (entries_of cs)))) (sym none) tt
    of_first lost (Some n) h =
        subst (AllByRecursion (IsOfFirstLost (all_attempts accounts) (groups_of led) (last_sequence settings.start (entries_of cs)))) (sym h.1)
        (subst (λ m. IsOfFirstLost (all_attempts accounts) (groups_of led) m h.0) last_is (of_first_lost (all_attempts accounts) settings.group_bytes n last k.in_groups.groups h.0 of_groups (fitting_is last) h.2), tt)

    dead : StaysDead false (map (statuses_in (all_attempts accounts)) (groups_of led))
    dead =
        subst (StaysDead false) (sym (statuses_are (all_attempts accounts) (groups_of led) k.in_groups.groups of_groups))
        (stays_dead settings.group_bytes settings.start None k.in_groups.groups k.in_groups.each (subst (AreAnswered settings.start None) (sym k.in_groups.cut) k.answered))

    writes_log : WritesLog settings.group_bytes (λ (made : List GroupCall). made ≡ calls) trace (all_attempts accounts) (groups_of led) fault
    writes_log =
        let w = k.written in record {
          parts = w.parts.parts;
          calls = w.worked;
          lost = w.lost;
          cut = w.parts.cut;
          runs = w.parts.runs;
          each = w.parts.each;
          logged = refl;
          none_else = are_lost w.lost fault w.are_lost;
          by = sym w.both;
          log = sym w.both;
          rise = rising settings.start settings.group_bytes asked history cs k.in_groups within;
          in_turn = led_in_turn led;
          by_leaders = by_leaders settings.start settings.group_bytes asked history cs k.in_groups within;
          made = parts;
          are_made = are_parts;
          by_groups = w.by_groups;
          of_first = of_first w.lost fault w.are_lost;
          dead = dead;
        }

    pub closing : (ended : ℕ) → RoseInRun settings ended fault → AllByRecursion (λ (r : AnsweredRead). (1 ≤ r.client) × (r.client ≤ settings.clients)) reads → AreOwnFaults ended fault (faults_in (answers_in reads)) → (fault ≡ None → faults_in (answers_in reads) ≡ [] → ended ≡ settings.opened)
        → HasOneTrace settings kept ended accounts last fault (λ (made : List GroupCall). made ≡ calls)
    closing ended rose of_clients own counted = (
      trace,
      groups_of led,
      record {
        is_trace = record { start = refl; opening = refl; kept = refl; entries = is_history.0; logged = are_groups; controller_calls = legal; heard = heard; clients = entries_clients settings.clients [] cs k.of_clients; tokens = of_tokens settings.clients history calls_of };
        are_groups = groups_from_led settings.group_bytes history led (all_attempts accounts) is_led;
        parts = parts;
        are_parts = are_parts;
        each = part_of;
        last_is = last_is;
        fault_is = rose;
        read_faults = subst (AreOwnFaults ended fault) (sym all_faults) (own_by_client ended fault settings.clients reads of_clients own);
        counted = λ worked none. counted worked (no_faults settings.clients reads of_clients (sym all_faults ∙ none));
      },
      writes_log,
    )
