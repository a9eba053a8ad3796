-- The completion of a write keeps what holds of the clients' replies.
use Rattle.std.proofs.Common.{◌≡◌, ℕ, ◌+◌, ◌-◌, ◌≤◌, ◌==◌, Bool, true, false, not, cond, ◌⊎◌, inl, inr, List, [], ◌∷◌, ◌++◌, find, filter, Option, Some, None, refl, ap, sym, ◌∙◌, subst, arith}
use Rattle.std.specs.List.{AllByRecursion, Contains}
use Rattle.std.proofs.lemmas.Bool.{eqb-true}
use Rattle.std.proofs.lemmas.List.Elements.{Contains-push, Contains-append_cases}
use Rattle.model_base.specs.declared.write.Refusal.{Refusal}
use Rattle.model_base.specs.declared.write.Refusal.TheVariants as no
use Rattle.model_base.specs.declared.write.WriteOptions.{WriteOptions}
use Rattle.model_base.specs.Batch.{count_of}
use Rattle.model_base.specs.History.{Entry, IsHistory, last_of}
use Rattle.model_base.specs.Progress.{early_refusal, next_entry, batch_after}
use Rattle.model_base.specs.Runs.{commands_of}
use Rattle.model_base.specs.Since as log
use Rattle.model_base.specs.Outcomes.{entries_of_client}
use Rattle.model_base.specs.Calls.{Command, commit, updates, Reply, quiet, accepted, refused, found, found_each, rows, updates_found, read_failed, done, held, not_held, no_memory, Call}
use Rattle.model_core.specs.Core.{Options, Writer, Client, State, TablePhase, still, launched, published, client_at, with_client, has_run, line_of, command_of, reply_told, log_groups}
use Rattle.model_core.specs.Step.{complete, complete_with, after_completion, added_after}
use Rattle.model_core.specs.CoreLaw.{IsCore, IsEntryOf, hand, hand_with_runs, writers_in, unpublished_writers}
use Rattle.model_core.specs.Replies.{is_log_fault, MayRefuse, entries_told, lines_at}
use Rattle.model_core_laws.proofs.Given.{absent}
use Rattle.model_core_laws.proofs.Histories.{history_front, history_up_to}
use Rattle.model_core_laws.proofs.KeptByComplete.{without, found_there, none_without}
use Rattle.model_core_laws.proofs.KeptByPublish.{member_there}
use Rattle.model_core_laws.proofs.Lists.{zip_left, contains_cases, contains_head, contains_tail, all_filtered, all_weaker}
use Rattle.model_core_laws.proofs.ReadLog.{read_is_right}
use Rattle.model_core_laws.proofs.Ready.{IsReady, ready_push, asked_push, commit_handled}
use Rattle.model_core_laws.proofs.Tables.{there, there_append, there_filtered, waiting_parts, waits_once, in_hand_once}
use Rattle.model_core_laws.proofs.Told.{Told, Waits, IsAnswer, IsToldSoFar}
use Rattle.model_core_laws.proofs.ToldByClients.{GoesOn, told_with, others_wait}
use Rattle.model_core_laws.proofs.ToldByLines.{apart, together, becomes}

pub found_is : (m : ℕ) (ws : List Writer) (w : Writer) → find (λ (x : Writer). x.client == m) ws ≡ Some w → (w.client ≡ m) × ((P : Writer → Type 0) → AllByRecursion P ws → P w)
found_is m [] w is = absurd (cc)
found_is m (v ∷ ws) w is = by (v.client == m) refl is (found_is m ws w)
  where
    by : (b : Bool) → (v.client == m) ≡ b → cond b (Some v) (find (λ (x : Writer). x.client == m) ws) ≡ Some w
        → (find (λ (x : Writer). x.client == m) ws ≡ Some w → (w.client ≡ m) × ((P : Writer → Type 0) → AllByRecursion P ws → P w)) → (w.client ≡ m) × ((P : Writer → Type 0) → AllByRecursion P (v ∷ ws) → P w)
    by true here e later = let same : v ≡ w = cc in (subst (λ (x : Writer). x.client ≡ m) same (eqb-true v.client m here), λ P a. subst P same a.0)
    by false here e later = let h = later e in (h.0, λ P a. h.1 P a.1)

-- The entry of a writer that has left is published

contains_own : (c : ℕ) (xs : List Entry) (x : Entry) → Contains (entries_of_client c xs) x → Contains xs x
contains_own c [] x (k, l, e) = absurd (omega arith)
contains_own c (y ∷ xs) x is = by (y.client == c) is (contains_own c xs x)
  where
    by : (b : Bool) → Contains (cond b (y ∷ entries_of_client c xs) (entries_of_client c xs)) x → (Contains (entries_of_client c xs) x → Contains xs x) → Contains (y ∷ xs) x
    by true at later = elim (contains_cases y (entries_of_client c xs) x at) as (λ _. Contains (y ∷ xs) x) [
      | inl here ↦ subst (λ z. Contains (y ∷ xs) z) here (contains_head y xs)
      | inr behind ↦ contains_tail y xs x (later behind)
    ]
    by false at later = contains_tail y xs x (later at)

-- the writers that have runs and aren't published are in the second queue or in hand
on_the_way : (o : Options) (s : State) (table : TablePhase) (c : ℕ) → there c (unpublished_writers o s table) ≤ there c (writers_in s.second) + there c (hand s.log)
on_the_way o s still c = let a = there_append c (writers_in s.second) (hand_with_runs s.log) in let b = in_hand_once c s.log in omega arith
on_the_way o s (launched ins fin) c = let a = there_append c (writers_in s.second) (hand_with_runs s.log) in let b = in_hand_once c s.log in omega arith
on_the_way o s published c = by o.pipelined s.second
  where
    by : (pipelined : Bool) (second : List (List Writer)) → there c (unpublished_writers (record o { pipelined = pipelined }) (record s { second = second }) published) ≤ there c (writers_in second) + there c (hand s.log)
    by true [] = let b = in_hand_once c s.log in omega arith
    by true (ws ∷ wss) = let a = there_append c (writers_in wss) (hand_with_runs s.log) in let b = in_hand_once c s.log in let d = there_append c ws (writers_in wss) in omega arith
    by false second = omega arith

left_is_published : (o : Options) (s : State) (m : ℕ) (w : Writer) (x : Entry) → IsCore o s → find (λ (x : Writer). x.client == m) s.leaving ≡ Some w → x.client ≡ m → Contains s.entries x → last_of x ≤ s.last
left_is_published o s m w x core left client is = by (Contains-append_cases core.front core.is_boundary.rest x (subst (λ es. Contains es x) core.is_boundary.split is))
  where
    by : Contains core.front x ⊎ Contains core.is_boundary.rest x → last_of x ≤ s.last
    by (inl at) = let a = history_up_to o.start core.front x (history_front o.start core.front core.is_boundary.rest (subst (IsHistory o.start) core.is_boundary.split core.is_history)) at in
        let b = core.is_boundary.ends in omega arith
    by (inr at) =
        let z = zip_left IsEntryOf (filter has_run (unpublished_writers o s s.table)) core.is_boundary.rest x core.ahead at in
        let same : z.0.client ≡ m = sym z.1.client ∙ client in
        let a : 1 ≤ there m (filter has_run (unpublished_writers o s s.table)) = subst (λ c. 1 ≤ there c (filter has_run (unpublished_writers o s s.table))) same (member_there (filter has_run (unpublished_writers o s s.table)) z.0 z.2) in
        let b = there_filtered m has_run (unpublished_writers o s s.table) in let d = on_the_way o s s.table m in
        let e = found_there m s.leaving w left in let f = waiting_parts m s in let g = waits_once o s m core in absurd (omega arith)

-- if a commit may be answered the log's fault, the log has failed
fault_is : (o : Options) (s : State) (before : List Call) (how : WriteOptions) (why : Refusal) → MayRefuse o s before how why → is_log_fault (refused why) ≡ true → s.log_failed ≡ true
fault_is o s before how (no.LogFault count) m e = m.1
fault_is o s before how (no.SequenceFull last) m e = absurd (cc)
fault_is o s before how (no.Incomplete stops delays wait) m e = absurd (cc)
fault_is o s before how no.Empty m e = absurd m
fault_is o s before how (no.TooLarge size) m e = absurd m
fault_is o s before how no.SyncWithoutLog m e = absurd m
fault_is o s before how no.SelfStop m e = absurd m
fault_is o s before how (no.NoFamily family) m e = absurd m
fault_is o s before how no.NoMemory m e = absurd m

-- The writer's answer becomes the client's reply
abbrev IsCompleted : Options → State → ℕ → Writer → Client → Option ℕ → Reply → Type 0
IsCompleted o s m w client since reply = IsReady o s m (client.calls ++ record { command = line_of w.options since; reply = reply_told s since reply } ∷ []) (added_after (reply_told s since reply) client.added)

completes : (o : Options) (plans : List (List Command)) (s : State) (m : ℕ) (w : Writer) (client : Client) (answer : Option Reply) (reply : Reply) → answer ≡ Some reply → find (λ (x : Writer). x.client == m) s.leaving ≡ Some w → w.client ≡ m
    → (w.since ≡ None → w.records ≡ batch_after client.calls) → (w.since ≡ None → early_refusal o.families o.batch_bytes false w.records w.options ≡ None) → IsToldSoFar o plans s m client → IsAnswer o s client w answer → IsCore o s
    → IsCompleted o s m w client w.since reply
completes o plans s m w client None reply e left same batch passed so_far answer core = absurd (cc)
completes o plans s m w client (Some (accepted first last records)) reply e left same batch passed so_far answer core =
    let own_is : entries_of_client m s.entries ≡ entries_told m client.calls ++ next_entry m (entries_told m client.calls) w.options first w.records ∷ [] =
    subst (λ m. entries_of_client m s.entries ≡ entries_told m client.calls ++ next_entry m (entries_told m client.calls) w.options first w.records ∷ []) same answer.2 in
    let x = next_entry m (entries_told m client.calls) w.options first w.records in
    let there_x : Contains s.entries x = contains_own m s.entries x (subst (λ es. Contains es x) (sym own_is) (Contains-push (entries_told m client.calls) x)) in
    let published_x : first + count_of w.records - 1 ≤ s.last = left_is_published o s m w x core left refl there_x in
    let is : accepted first last records ≡ reply = cc in
    let up_to : last ≤ s.last = let a = answer.1 in omega arith in
    let writes = answer.4 in
    subst (IsCompleted o s m w client w.since) is (subst (λ since. IsCompleted o s m w client since (accepted first last records)) (sym writes)
    (ready_push o s m client.calls (record { command = commit w.options; reply = accepted first last records }) [] so_far.right
    (commit_handled o s client.calls w.records w.options (accepted first last records) (batch writes) (passed writes) (record { batch = answer.0 ∙ batch writes; run = answer.1 ∙ ap (λ records. first + count_of records) (sym answer.0); alive = answer.3 })) refl (let a = so_far.seen_published in omega arith) so_far.log_failed (λ told. absurd (cc))
    (own_is ∙ ap (λ records. entries_told m client.calls ++ next_entry m (entries_told m client.calls) w.options first records ∷ []) (sym answer.0))))
completes o plans s m w client (Some (refused why)) reply e left same batch passed so_far answer core =
    let is : refused why ≡ reply = cc in
    let writes = answer.2 in
    subst (IsCompleted o s m w client w.since) is (subst (λ since. IsCompleted o s m w client since (refused why)) (sym writes)
    (ready_push o s m client.calls (record { command = commit w.options; reply = refused why }) client.added so_far.right
    (commit_handled o s client.calls w.records w.options (refused why) (batch writes) (passed writes) answer.0) so_far.added so_far.seen_published so_far.log_failed (fault_is o s client.calls w.options why answer.0)
    (subst (λ m. entries_of_client m s.entries ≡ entries_told m client.calls) same answer.1)))
completes o plans s m w client (Some quiet) reply e left same batch passed so_far answer core = absurd answer
completes o plans s m w client (Some (found at v)) reply e left same batch passed so_far answer core = absurd answer
completes o plans s m w client (Some (found_each at vs)) reply e left same batch passed so_far answer core = absurd answer
completes o plans s m w client (Some (rows at pairs)) reply e left same batch passed so_far answer core = absurd answer
completes o plans s m w client (Some (updates_found at records)) reply e left same batch passed so_far answer core =
    let is : updates_found at records ≡ reply = cc in
    let given = log.since answer.from at (log.records_in [] (log_groups s)) in
    subst (IsCompleted o s m w client w.since) is (subst (λ since. IsCompleted o s m w client since (updates_found at records)) (sym answer.reads)
    (ready_push o s m client.calls (record { command = updates answer.from; reply = updates_found at given }) client.added so_far.right (read_is_right o s client w at core answer)
    so_far.added (let a = so_far.seen_published in let b = answer.published in omega (arith, a, b)) so_far.log_failed (λ told. absurd (cc))
    (subst (λ m. entries_of_client m s.entries ≡ entries_told m client.calls) same answer.entries)))
completes o plans s m w client (Some (read_failed count)) reply e left same batch passed so_far answer core = absurd answer
completes o plans s m w client (Some done) reply e left same batch passed so_far answer core = absurd answer
completes o plans s m w client (Some held) reply e left same batch passed so_far answer core = absurd answer
completes o plans s m w client (Some not_held) reply e left same batch passed so_far answer core = absurd answer
completes o plans s m w client (Some no_memory) reply e left same batch passed so_far answer core = absurd answer

completed_told : (o : Options) (plans : List (List Command)) (s : State) (m : ℕ) (w : Writer) (old : Client) (reply : Reply) → client_at s m ≡ Some old → find (λ (x : Writer). x.client == m) s.leaving ≡ Some w → w.answer ≡ Some reply
    → Told o plans s → IsCore o (record (with_client s m (after_completion old w (reply_told s w.since reply))) { leaving = without m s.leaving }) → Told o plans (record (with_client s m (after_completion old w (reply_told s w.since reply))) { leaving = without m s.leaving })
completed_told o plans s m w old reply is left answer so_far =
    let new = after_completion old w (reply_told s w.since reply) in let t : State = record (with_client s m new) { leaving = without m s.leaving } in
    let on : GoesOn s t m old new = record { there = is; clients = refl; entries = refl; logged = refl; log_failed = refl; last = refl } in
    let place = found_is m s.leaving w left in let parts = apart (Waits o plans s) (writers_in s.second) (hand s.log) s.queue s.leaving so_far.waits in
    let waits = place.1 (Waits o plans s) parts.at_leaving in
    let same : waits.client ≡ old = (let e : client_at s m ≡ Some waits.client = subst (λ c. client_at s c ≡ Some waits.client) place.0 waits.there in cc) in
    let ready = completes o plans s m w old w.answer reply answer left place.0 (λ writes. waits.batch writes ∙ ap (λ (c : Client). batch_after c.calls) same) waits.passed (so_far.each m old is)
    (subst (λ (c : Client). IsAnswer o s c w w.answer) same waits.answer) so_far.core in
    let a = waiting_parts m s in let b = waits_once o s m so_far.core in let d = found_there m s.leaving w left in
    told_with o plans s t m old new on
    (record {
      added = ready.batch;
      right = ready.right;
      seen_published = ready.seen_published;
      log_failed = ready.log_failed;
      asked = λ idle lines at. subst (λ (c : Client). lines ≡ commands_of c.calls ++ command_of w ∷ c.left) same (waits.asked lines (subst (λ c. lines_at plans c ≡ Some lines) (sym place.0) at))
          ∙ asked_push old.calls (record { command = command_of w; reply = reply_told s w.since reply }) old.left;
      entries = λ idle. ready.entries;
    })
    (together (Waits o plans t) (writers_in s.second) (hand s.log) s.queue (without m s.leaving) (record {
      at_second = others_wait o plans s t m old new on (writers_in s.second) (absent m (writers_in s.second) (omega arith)) parts.at_second;
      at_hand = others_wait o plans s t m old new on (hand s.log) (absent m (hand s.log) (omega arith)) parts.at_hand;
      at_queue = others_wait o plans s t m old new on s.queue (absent m s.queue (omega arith)) parts.at_queue;
      at_leaving = others_wait o plans s t m old new on (without m s.leaving) (absent m (without m s.leaving) (none_without m s.leaving))
          (all_filtered (Waits o plans s) (λ (x : Writer). not (x.client == m)) s.leaving (all_weaker (Waits o plans s) (λ (x : Writer). not (x.client == m) ≡ true → Waits o plans s x) (λ x is passes. is) s.leaving parts.at_leaving));
    }))
    refl so_far.none so_far

pub told_by_complete : (o : Options) (plans : List (List Command)) (s t : State) (m : ℕ) → Told o plans s → complete s m (find (λ (w : Writer). w.client == m) s.leaving) ≡ Some t → IsCore o t → Told o plans t
told_by_complete o plans s t m so_far e core = by_writer (find (λ (w : Writer). w.client == m) s.leaving) refl e
  where
    by_client : (w : Writer) → find (λ (x : Writer). x.client == m) s.leaving ≡ Some w → (client : Option Client) → client_at s m ≡ client → (reply : Option Reply) → w.answer ≡ reply → complete_with s m client w reply ≡ Some t → Told o plans t
    by_client w left (Some client) is (Some reply) answer e =
        becomes o plans (record (with_client s m (after_completion client w (reply_told s w.since reply))) { leaving = without m s.leaving }) t (cc) core (completed_told o plans s m w client reply is left answer so_far)
    by_client w left (Some client) is None answer e = absurd (cc)
    by_client w left None is reply answer e = absurd (cc)

    by_writer : (w : Option Writer) → find (λ (x : Writer). x.client == m) s.leaving ≡ w → complete s m w ≡ Some t → Told o plans t
    by_writer None left e = absurd (cc)
    by_writer (Some w) left e = by_client w left (client_at s m) refl w.answer refl e
