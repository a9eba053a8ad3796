-- A reply that was given stays as it is, and later reads aren't older than what was published before.
use Rattle.std.proofs.Common.{◌≡◌, ℕ, ◌≤◌, ◌==◌, ◌&&◌, not, Bool, true, false, if◌then◌else◌, ◌⊎◌, inl, inr, List, [], ◌∷◌, ◌++◌, fold, map, filter, take, drop, find, Option, Some, None, refl, ap, sym, ◌∙◌, subst, append_assoc, append-nil, arith}
use mathlib.Core.List.{IsPrefix}
use Rattle.std.specs.List.{AllByRecursion, list_any, list_all}
use Rattle.std.specs.Option.{option_map_or}
use Rattle.std.proofs.lemmas.Bool.{cases_eq}
use Rattle.model_core.specs.declared.event.Event.{Event}
use Rattle.model_core.specs.declared.event.Event.TheVariants as e
use Rattle.model_base.specs.declared.write.Refusal.{Refusal}
use Rattle.model_base.specs.declared.write.Refusal.TheVariants as no
use Rattle.model_base.specs.declared.write.WriteOptions.{WriteOptions}
use Rattle.model_base.specs.Batch.{Record}
use Rattle.model_base.specs.declared.key.Key.{Key}
use Rattle.model_base.specs.Map.{value_at, rows_within}
use Rattle.model_base.specs.Progress.{first_missing}
use Rattle.model_base.specs.Calls.{Command, add, clear, commit, get, many, scan, updates, stop, unstop, slow, unslow, Reply, quiet, accepted, refused, found, found_each, rows, updates_found, read_failed, done, held, not_held, no_memory, Call}
use Rattle.model_core.specs.Core.{Options, Writer, Client, LogPhase, free, led, built, stalled, in_log, marked, handed, TablePhase, still, launched, published, State, opening_state, client_at, with_client, is_alone, read_at, command_of, reply_told, next_call, ahead, after_reply, refusal_of, refusal_in, may_link, stall_refusal, published_map, if_there, read_reply, leads, has_run, with_runs, entries_of, table_group, runners, among, all_answered}
use Rattle.model_core.specs.Step.{read_log, answer_read, exit_reader, has_read, link_read, step, replay, after_event, Replayed, link, link_call, link_with, elect, build, group_size, log_group, logged_group, fault, refuse, is_no_slowdown, stall, unstall, leave_queue, leave_with, left_queue, boundary, to_second, next, launch, insert, entry_ahead, finish, publish, is_last, group_last, exit, leave, without_table_group, complete, complete_with, after_completion, read, read_call, read_with, when}
use Rattle.model_core.specs.CoreLaw.{IsCore, hand, writers_in}
use Rattle.model_core.specs.Replies.{IsFrom, IsLater}
use Rattle.model_core_laws.proofs.Lists.{all_append, all_weaker, all_back}
use Rattle.model_core_laws.proofs.Kept.{kept, by_events}
use Rattle.model_core_laws.proofs.Answered.{told_by_each, told_after}
use Rattle.model_core_laws.proofs.Tables.{when_some, with_table}
use Rattle.model_core_laws.proofs.Clients.{replaced, unchanged}
use Rattle.model_core_laws.proofs.Told.{Told, Waits, IsAnswer, same_client}
use Rattle.model_core_laws.proofs.ToldByLines.{published_rises}
use Rattle.model_core_laws.proofs.ToldByComplete.{found_is}

later_self : (s : State) → IsLater s s
later_self s = record { history = ([], append-nil s.entries); last = omega arith; calls = λ c client is. (client, is, [], append-nil client.calls, tt) }

-- a read that is at or above a sequence is at or above each lower one
from_less : (m n : ℕ) → m ≤ n → (reply : Reply) → IsFrom n reply → IsFrom m reply
from_less m n less (found at v) is = omega arith
from_less m n less (found_each at vs) is = omega arith
from_less m n less (rows at pairs) is = omega arith
from_less m n less quiet is = tt
from_less m n less (accepted a b records) is = tt
from_less m n less (refused why) is = tt
from_less m n less (updates_found at records) is = tt
from_less m n less (read_failed count) is = tt
from_less m n less done is = tt
from_less m n less held is = tt
from_less m n less not_held is = tt
from_less m n less no_memory is = tt

later_trans : (r s t : State) → IsLater r s → IsLater s t → IsLater r t
later_trans r s t a b = record {
  history = (a.history.0 ++ b.history.0, sym (append_assoc r.entries a.history.0 b.history.0) ∙ (ap (λ es. es ++ b.history.0) a.history.1 ∙ b.history.1));
  last = let f = a.last in let g = b.last in omega arith;
  calls = λ c client is. (
      let f = a.calls c client is in let g = b.calls c f.0 f.1 in (
        g.0,
        g.1,
        f.2 ++ g.2,
        sym (append_assoc client.calls f.2 g.2) ∙ (ap (λ calls. calls ++ g.2) f.3 ∙ g.3),
        all_append (λ (x : Call). IsFrom r.last x.reply) f.2 g.2 f.4 (all_weaker (λ (x : Call). IsFrom s.last x.reply) (λ (x : Call). IsFrom r.last x.reply) (λ x is. from_less r.last s.last a.last x.reply is) g.2 g.4),
      ));
}

-- an event that changes no client
later_lines : (s t : State) → t.clients ≡ s.clients → IsPrefix s.entries t.entries → s.last ≤ t.last → IsLater s t
later_lines s t clients entries last = record { history = entries; last = last; calls = λ c client is. (client, same_client s t clients c ∙ is, [], append-nil client.calls, tt) }

later_when : (s x t : State) (b : Bool) → when b x ≡ Some t → IsLater s x → IsLater s t
later_when s x t b e later = let h = when_some b x t e in subst (IsLater s) h.1 later

same_history : (s : State) → IsPrefix s.entries s.entries
same_history s = ([], append-nil s.entries)

by_elect : (s t : State) (c : ℕ) (phase : LogPhase) → elect s c phase ≡ Some t → IsLater s t
by_elect s t c free e = later_when s (record s { log = led c }) t (leads c s.queue) e (later_lines s (record s { log = led c }) refl (same_history s) (omega arith))
by_elect s t c (led d) e = absurd (cc)
by_elect s t c (built ws) e = absurd (cc)
by_elect s t c (in_log ws) e = absurd (cc)
by_elect s t c (stalled ws) e = absurd (cc)
by_elect s t c (marked ws) e = absurd (cc)
by_elect s t c (handed d) e = absurd (cc)

by_build : (o : Options) (s t : State) (c : ℕ) (phase : LogPhase) → build o s c phase ≡ Some t → IsLater s t
by_build o s t c (led d) e = let u : State = record s { log = built (take (group_size o s) s.queue); queue = drop (group_size o s) s.queue } in
    later_when s u t (c == d) e (later_lines s u refl (same_history s) (omega arith))
by_build o s t c free e = absurd (cc)
by_build o s t c (built ws) e = absurd (cc)
by_build o s t c (in_log ws) e = absurd (cc)
by_build o s t c (stalled ws) e = absurd (cc)
by_build o s t c (marked ws) e = absurd (cc)
by_build o s t c (handed d) e = absurd (cc)

later_logged : (s : State) (ws : List Writer) (b : Bool) → list_any has_run ws ≡ b → IsLater s (logged_group s ws)
later_logged s ws true is = rw is (later_lines s _ refl (entries_of s ws, refl) (omega arith))
later_logged s ws false is = rw is (later_lines s _ refl (same_history s) (omega arith))

by_log : (s t : State) (c : ℕ) (phase : LogPhase) → log_group s c phase ≡ Some t → IsLater s t
by_log s t c (built ws) e = later_when s (logged_group s (with_runs s.assigned ws)) t (leads c ws && not (is_alone ws) && not s.log_failed) e (later_logged s (with_runs s.assigned ws) (list_any has_run (with_runs s.assigned ws)) refl)
by_log s t c free e = absurd (cc)
by_log s t c (led d) e = absurd (cc)
by_log s t c (in_log ws) e = absurd (cc)
by_log s t c (stalled ws) e = absurd (cc)
by_log s t c (marked ws) e = absurd (cc)
by_log s t c (handed d) e = absurd (cc)

by_fault : (s t : State) (c : ℕ) (phase : LogPhase) → fault s c phase ≡ Some t → IsLater s t
by_fault s t c (built ws) e = let u : State = record (leave s (all_answered (refused (no.LogFault 1)) ws)) { log = free; log_failed = true } in
    later_when s u t (leads c ws && not (is_alone ws)) e (later_lines s u refl (same_history s) (omega arith))
by_fault s t c free e = absurd (cc)
by_fault s t c (led d) e = absurd (cc)
by_fault s t c (in_log ws) e = absurd (cc)
by_fault s t c (stalled ws) e = absurd (cc)
by_fault s t c (marked ws) e = absurd (cc)
by_fault s t c (handed d) e = absurd (cc)

by_refuse : (s t : State) (c : ℕ) (why : Refusal) (phase : LogPhase) → refuse s c why phase ≡ Some t → IsLater s t
by_refuse s t c why (built ws) e = let u : State = record (leave s (all_answered (refused why) ws)) { log = free } in
    later_when s u t (leads c ws && is_no_slowdown ws) e (later_lines s u refl (same_history s) (omega arith))
by_refuse s t c why free e = absurd (cc)
by_refuse s t c why (led d) e = absurd (cc)
by_refuse s t c why (in_log ws) e = absurd (cc)
by_refuse s t c why (stalled ws) e = absurd (cc)
by_refuse s t c why (marked ws) e = absurd (cc)
by_refuse s t c why (handed d) e = absurd (cc)

by_stall : (s t : State) (c : ℕ) (phase : LogPhase) → stall s c phase ≡ Some t → IsLater s t
by_stall s t c (built ws) e = later_when s (record s { log = stalled ws }) t (leads c ws && not (is_alone ws) && not (is_no_slowdown ws)) e (later_lines s (record s { log = stalled ws }) refl (same_history s) (omega arith))
by_stall s t c free e = absurd (cc)
by_stall s t c (led d) e = absurd (cc)
by_stall s t c (stalled ws) e = absurd (cc)
by_stall s t c (in_log ws) e = absurd (cc)
by_stall s t c (marked ws) e = absurd (cc)
by_stall s t c (handed d) e = absurd (cc)

by_unstall : (s t : State) (c : ℕ) (phase : LogPhase) → unstall s c phase ≡ Some t → IsLater s t
by_unstall s t c (stalled ws) e = later_when s (record s { log = built ws }) t (leads c ws) e (later_lines s (record s { log = built ws }) refl (same_history s) (omega arith))
by_unstall s t c free e = absurd (cc)
by_unstall s t c (led d) e = absurd (cc)
by_unstall s t c (built ws) e = absurd (cc)
by_unstall s t c (in_log ws) e = absurd (cc)
by_unstall s t c (marked ws) e = absurd (cc)
by_unstall s t c (handed d) e = absurd (cc)

by_leave : (s t : State) (m : ℕ) (why : Refusal) (phase : LogPhase) → leave_queue s m why phase ≡ Some t → IsLater s t
by_leave s t m why (stalled ws) e = by_writer (find (λ (x : Writer). x.client == m) s.queue) e
  where
    by_writer : (w : Option Writer) → leave_with s m why w ≡ Some t → IsLater s t
    by_writer None e = absurd (cc)
    by_writer (Some w) e = later_when s (left_queue s m why w) t w.options.no_slowdown e (later_lines s (left_queue s m why w) refl (same_history s) (omega arith))
by_leave s t m why free e = absurd (cc)
by_leave s t m why (led d) e = absurd (cc)
by_leave s t m why (built ws) e = absurd (cc)
by_leave s t m why (in_log ws) e = absurd (cc)
by_leave s t m why (marked ws) e = absurd (cc)
by_leave s t m why (handed d) e = absurd (cc)

by_boundary : (o : Options) (s t : State) (c : ℕ) (phase : LogPhase) → boundary o s c phase ≡ Some t → IsLater s t
by_boundary o s t c (in_log ws) e = later_when s (record s { log = marked ws }) t (o.pipelined && leads c ws) e (later_lines s (record s { log = marked ws }) refl (same_history s) (omega arith))
by_boundary o s t c free e = absurd (cc)
by_boundary o s t c (led d) e = absurd (cc)
by_boundary o s t c (built ws) e = absurd (cc)
by_boundary o s t c (stalled ws) e = absurd (cc)
by_boundary o s t c (marked ws) e = absurd (cc)
by_boundary o s t c (handed d) e = absurd (cc)

by_second : (s t : State) (c : ℕ) (phase : LogPhase) → to_second s c phase ≡ Some t → IsLater s t
by_second s t c (marked ws) e = let u : State = record s { log = handed c; second = s.second ++ ws ∷ [] } in later_when s u t (leads c ws) e (later_lines s u refl (same_history s) (omega arith))
by_second s t c free e = absurd (cc)
by_second s t c (led d) e = absurd (cc)
by_second s t c (built ws) e = absurd (cc)
by_second s t c (in_log ws) e = absurd (cc)
by_second s t c (stalled ws) e = absurd (cc)
by_second s t c (handed d) e = absurd (cc)

by_next : (s t : State) (c : ℕ) (phase : LogPhase) → next s c phase ≡ Some t → IsLater s t
by_next s t c (handed d) e = later_when s (record s { log = free }) t (c == d) e (later_lines s (record s { log = free }) refl (same_history s) (omega arith))
by_next s t c free e = absurd (cc)
by_next s t c (led d) e = absurd (cc)
by_next s t c (built ws) e = absurd (cc)
by_next s t c (in_log ws) e = absurd (cc)
by_next s t c (stalled ws) e = absurd (cc)
by_next s t c (marked ws) e = absurd (cc)

by_launch : (o : Options) (s t : State) (c : ℕ) (phase : TablePhase) → launch o s c phase ≡ Some t → IsLater s t
by_launch o s t c still e = later_when s (record s { table = launched [] [] }) t (leads c (table_group o s)) e (later_lines s (record s { table = launched [] [] }) refl (same_history s) (omega arith))
by_launch o s t c (launched ins fin) e = absurd (cc)
by_launch o s t c published e = absurd (cc)

by_insert : (o : Options) (s t : State) (m : ℕ) (phase : TablePhase) → insert o s m phase ≡ Some t → IsLater s t
by_insert o s t m (launched ins fin) e = let u : State = record s { table = launched (ins ++ m ∷ []) fin; inserted = s.inserted ++ entry_ahead s m } in
    later_when s u t (among m (runners (table_group o s)) && not (among m ins)) e (later_lines s u refl (same_history s) (omega arith))
by_insert o s t m still e = absurd (cc)
by_insert o s t m published e = absurd (cc)

by_finish : (s t : State) (m : ℕ) (phase : TablePhase) → finish s m phase ≡ Some t → IsLater s t
by_finish s t m (launched ins fin) e = let u : State = record s { table = launched ins (fin ++ m ∷ []) } in later_when s u t (among m ins && not (among m fin)) e (later_lines s u refl (same_history s) (omega arith))
by_finish s t m still e = absurd (cc)
by_finish s t m published e = absurd (cc)

by_publish : (o : Options) (s t : State) (m : ℕ) (phase : TablePhase) → s.table ≡ phase → IsCore o s → publish o s m phase ≡ Some t → IsLater s t
by_publish o s t m (launched ins fin) is core e = let u : State = record s { table = published; last = group_last s.last (table_group o s) } in
    let before : IsCore o (with_table s (launched ins fin)) = subst (λ phase. IsCore o (with_table s phase)) is core in
    later_when s u t (is_last m fin && list_all (λ c. among c fin) (runners (table_group o s))) e (later_lines s u refl (same_history s) (published_rises o s ins fin before))
by_publish o s t m still is core e = absurd (cc)
by_publish o s t m published is core e = absurd (cc)

later_exited : (s : State) (pipelined : Bool) (ws : List Writer) → IsLater s (record (leave (if pipelined then record s { second = drop 1 s.second } else record s { log = free }) ws) { table = still })
later_exited s true ws = later_lines s _ refl (same_history s) (omega arith)
later_exited s false ws = later_lines s _ refl (same_history s) (omega arith)

-- a read of the log
by_since : (s t : State) (c : ℕ) (phase : LogPhase) → read_log s c phase ≡ Some t → IsLater s t
by_since s t c (built (w ∷ [])) e = by_client (w.client == c) e
  where
    by_answer : (since : Option ℕ) (answer : Option Reply) → answer_read s w since answer ≡ Some t → IsLater s t
    by_answer (Some n) None e =
        let u : State = record s { log = built (record w { answer = Some (read_at s.last) } ∷ []) } in let after : u ≡ t = cc in
        subst (IsLater s) after (later_lines s u refl (same_history s) (omega arith))
    by_answer (Some n) (Some reply) e = absurd (cc)
    by_answer None answer e = absurd (cc)

    by_client : (b : Bool) → (if b then answer_read s w w.since w.answer else None) ≡ Some t → IsLater s t
    by_client true e = by_answer w.since w.answer e
    by_client false e = absurd (cc)
by_since s t c (built []) e = absurd (cc)
by_since s t c (built (w ∷ v ∷ ws)) e = absurd (cc)
by_since s t c free e = absurd (cc)
by_since s t c (led d) e = absurd (cc)
by_since s t c (stalled ws) e = absurd (cc)
by_since s t c (in_log ws) e = absurd (cc)
by_since s t c (marked ws) e = absurd (cc)
by_since s t c (handed d) e = absurd (cc)

by_reader : (s t : State) (c : ℕ) (phase : LogPhase) → exit_reader s c phase ≡ Some t → IsLater s t
by_reader s t c (built (w ∷ [])) e = let u : State = record (leave s (w ∷ [])) { log = free } in
    later_when s u t (has_read c w) e (later_lines s u refl (same_history s) (omega arith))
by_reader s t c (built []) e = absurd (cc)
by_reader s t c (built (w ∷ v ∷ ws)) e = absurd (cc)
by_reader s t c free e = absurd (cc)
by_reader s t c (led d) e = absurd (cc)
by_reader s t c (stalled ws) e = absurd (cc)
by_reader s t c (in_log ws) e = absurd (cc)
by_reader s t c (marked ws) e = absurd (cc)
by_reader s t c (handed d) e = absurd (cc)

by_exit : (o : Options) (s t : State) (c : ℕ) (phase : TablePhase) → exit o s c phase ≡ Some t → IsLater s t
by_exit o s t c published e = by_leader (leads c (table_group o s)) e
  where
    by_leader : (b : Bool) → (if b then Some (record (leave (without_table_group o s) (table_group o s)) { table = still }) else exit_reader s c s.log) ≡ Some t → IsLater s t
    by_leader true e = let after : record (leave (without_table_group o s) (table_group o s)) { table = still } ≡ t = cc in subst (IsLater s) after (later_exited s o.pipelined (table_group o s))
    by_leader false e = by_reader s t c s.log e
by_exit o s t c still e = by_reader s t c s.log e
by_exit o s t c (launched ins fin) e = by_reader s t c s.log e

-- The events of one client

abbrev ToldSince : ℕ → List Call → List Call → Type 0
ToldSince last before after = (told : List Call) × (before ++ told ≡ after) × AllByRecursion (λ (x : Call). IsFrom last x.reply) told

told_one_more : (last : ℕ) (before after : List Call) (call : Call) → IsFrom last call.reply → ToldSince last before after → ToldSince last before (after ++ call ∷ [])
told_one_more last before after call from since = (since.0 ++ call ∷ [], sym (append_assoc before since.0 (call ∷ [])) ∙ ap (λ calls. calls ++ call ∷ []) since.1, all_append (λ (x : Call). IsFrom last x.reply) since.0 (call ∷ []) since.2 (from, tt))

told_ahead : (last : ℕ) (first calls : List Call) (added : List Record) (left : List Command) (client : Client) → ToldSince last first calls → ToldSince last first (ahead calls added left client).client.calls
told_ahead last first calls added [] client since = since
told_ahead last first calls added (add r ∷ left) client since = told_ahead last first (calls ++ record { command = add r; reply = quiet } ∷ []) (added ++ r ∷ []) left client (told_one_more last first calls (record { command = add r; reply = quiet }) tt since)
told_ahead last first calls added (clear ∷ left) client since = told_ahead last first (calls ++ record { command = clear; reply = quiet } ∷ []) [] left client (told_one_more last first calls (record { command = clear; reply = quiet }) tt since)
told_ahead last first calls added (commit how ∷ left) client since = since
told_ahead last first calls added (get key ∷ left) client since = since
told_ahead last first calls added (many keys ∷ left) client since = since
told_ahead last first calls added (scan family lo hi ∷ left) client since = since
told_ahead last first calls added (updates n ∷ left) client since = since
told_ahead last first calls added (stop ∷ left) client since = since
told_ahead last first calls added (unstop ∷ left) client since = since
told_ahead last first calls added (slow rate ∷ left) client since = since
told_ahead last first calls added (unslow ∷ left) client since = since

next_told : (last : ℕ) (client : Client) → ToldSince last client.calls (next_call client).client.calls
next_told last client = told_ahead last client.calls client.calls client.added client.left client ([], append-nil client.calls, tt)

later_client : (s t : State) (c : ℕ) (old new : Client) → client_at s c ≡ Some old → t.clients ≡ (with_client s c new).clients → t.entries ≡ s.entries → t.last ≡ s.last → ToldSince s.last old.calls new.calls → IsLater s t
later_client s t c old new is clients entries last since = record {
  history = ([], append-nil s.entries ∙ sym entries);
  last = omega arith;
  calls = λ n client at. by n client at (cases_eq c n);
}
  where
    by : (n : ℕ) (client : Client) → client_at s n ≡ Some client → (c ≡ n) ⊎ (c ≡ n → ⊥)
        → (later : Client) × (client_at t n ≡ Some later) × (told : List Call) × (client.calls ++ told ≡ later.calls) × AllByRecursion (λ (x : Call). IsFrom s.last x.reply) told
    by n client at (inl e) =
        let f : client_at t n ≡ Some new = same_client (with_client s c new) t clients n ∙ subst (λ m. client_at (with_client s c new) m ≡ Some new) e (replaced s c old new is) in
        let g : client_at s n ≡ Some old = subst (λ m. client_at s m ≡ Some old) e is in let same : old ≡ client = cc in
        (new, f, since.0, ap (λ (x : Client). x.calls ++ since.0) (sym same) ∙ since.1, since.2)
    by n client at (inr other) = (client, same_client (with_client s c new) t clients n ∙ (unchanged s c n old new is other ∙ at), [], append-nil client.calls, tt)

by_link : (o : Options) (s t : State) (c : ℕ) → link o s c (client_at s c) ≡ Some t → IsLater s t
by_link o s t c e = by_client (client_at s c) refl e
  where
    by_refusal : (old : Client) → client_at s c ≡ Some old → (how : WriteOptions) (why : Option Refusal) → link_with o s c (next_call old).client how why ≡ t → IsLater s t
    by_refusal old is how (Some why) e = subst (IsLater s) e (later_client s (link_with o s c (next_call old).client how (Some why)) c old (after_reply (next_call old).client (commit how) (refused why)) is refl refl refl
        (told_one_more s.last old.calls (next_call old).client.calls (record { command = commit how; reply = refused why }) tt (next_told s.last old)))
    by_refusal old is how None e = subst (IsLater s) e (later_client s (link_with o s c (next_call old).client how None) c old (record (next_call old).client { idle = false }) is refl refl refl (next_told s.last old))

    by_call : (old : Client) → client_at s c ≡ Some old → (call : Option Command) → link_call o s c (next_call old).client call ≡ Some t → IsLater s t
    by_call old is (Some (commit how)) e =
        let why = refusal_in s.log how (refusal_of o how (next_call old).client.added) in
        by_refusal old is how why (when_some (may_link s.log why) (link_with o s c (next_call old).client how why) t e).1
    by_call old is (Some (updates n)) e = subst (IsLater s) (when_some (may_link s.log None) (link_read s c (next_call old).client n) t e).1
        (later_client s (link_read s c (next_call old).client n) c old (record (next_call old).client { idle = false }) is refl refl refl (next_told s.last old))
    by_call old is (Some other) e = absurd (cc)
    by_call old is None e = absurd (cc)

    by_idle : (client : Client) → client_at s c ≡ Some client → (b : Bool) → (if b then link_call o s c (next_call client).client (next_call client).call else None) ≡ Some t → IsLater s t
    by_idle client is true e = by_call client is (next_call client).call e
    by_idle client is false e = absurd (cc)

    by_client : (client : Option Client) → client_at s c ≡ client → link o s c client ≡ Some t → IsLater s t
    by_client None is e = absurd (cc)
    by_client (Some client) is e = by_idle client is client.idle e

-- a read is answered at the published sequence
same_reply : {a b : Reply} → Some a ≡ Some b → a ≡ b
same_reply e = cc

-- so is one that is refused: a refusal is from every sequence on
from_if_there : (o : Options) (named : List ℕ) (last : ℕ) (answer : Reply) → IsFrom last answer → IsFrom last (if_there o named answer)
from_if_there o named last answer from = by (first_missing o.families named)
  where
    by : (missing : Option ℕ) → IsFrom last (option_map_or (λ family. refused (no.NoFamily family)) missing answer)
    by None = from
    by (Some family) = tt

read_from : (o : Options) (s : State) (command : Command) (reply : Reply) → read_reply o s command ≡ Some reply → IsFrom s.last reply
read_from o s (get key) reply e = subst (IsFrom s.last) (same_reply e) (from_if_there o (key.family ∷ []) s.last (found s.last (value_at (published_map s) key)) (omega arith))
read_from o s (many keys) reply e = subst (IsFrom s.last) (same_reply e)
    (from_if_there o (map (λ (k : Key). k.family) keys) s.last (found_each s.last (map (value_at (published_map s)) keys)) (omega arith))
read_from o s (scan family lo hi) reply e = subst (IsFrom s.last) (same_reply e) (from_if_there o (family ∷ []) s.last (rows s.last (rows_within family lo hi (published_map s))) (omega arith))
read_from o s (add r) reply e = absurd (cc)
read_from o s clear reply e = absurd (cc)
read_from o s (commit how) reply e = absurd (cc)
read_from o s (updates n) reply e = absurd (cc)
read_from o s stop reply e = absurd (cc)
read_from o s unstop reply e = absurd (cc)
read_from o s (slow rate) reply e = absurd (cc)
read_from o s unslow reply e = absurd (cc)

by_read : (o : Options) (s t : State) (c : ℕ) → read o s c (client_at s c) ≡ Some t → IsLater s t
by_read o s t c e = by_client (client_at s c) refl e
  where
    by_reply : (old : Client) → client_at s c ≡ Some old → (command : Command) (reply : Option Reply) → read_reply o s command ≡ reply → read_with s c (next_call old).client command reply ≡ Some t → IsLater s t
    by_reply old is command None none e = absurd (cc)
    by_reply old is command (Some reply) some e =
        let new = after_reply (next_call old).client command reply in let after : with_client s c new ≡ t = cc in
        subst (IsLater s) after (later_client s (with_client s c new) c old new is refl refl refl
        (told_one_more s.last old.calls (next_call old).client.calls (record { command = command; reply = reply }) (read_from o s command reply some) (next_told s.last old)))

    by_call : (old : Client) → client_at s c ≡ Some old → (call : Option Command) → read_call o s c (next_call old).client call ≡ Some t → IsLater s t
    by_call old is None e = absurd (cc)
    by_call old is (Some command) e = by_reply old is command (read_reply o s command) refl e

    by_idle : (client : Client) → client_at s c ≡ Some client → (b : Bool) → (if b then read_call o s c (next_call client).client (next_call client).call else None) ≡ Some t → IsLater s t
    by_idle client is true e = by_call client is (next_call client).call e
    by_idle client is false e = absurd (cc)

    by_client : (client : Option Client) → client_at s c ≡ client → read o s c client ≡ Some t → IsLater s t
    by_client None is e = absurd (cc)
    by_client (Some client) is e = by_idle client is client.idle e

-- a writer's answer isn't that of a read
answer_from : (o : Options) (s : State) (client : Client) (w : Writer) (answer : Option Reply) (reply : Reply) → answer ≡ Some reply → IsAnswer o s client w answer → IsFrom s.last reply
answer_from o s client w None reply e is = absurd (cc)
answer_from o s client w (Some (accepted first last records)) reply e is = let f : accepted first last records ≡ reply = cc in subst (IsFrom s.last) f tt
answer_from o s client w (Some (refused why)) reply e is = let f : refused why ≡ reply = cc in subst (IsFrom s.last) f tt
answer_from o s client w (Some quiet) reply e is = absurd is
answer_from o s client w (Some (found at v)) reply e is = absurd is
answer_from o s client w (Some (found_each at vs)) reply e is = absurd is
answer_from o s client w (Some (rows at pairs)) reply e is = absurd is
answer_from o s client w (Some (updates_found at records)) reply e is = let f : updates_found at records ≡ reply = cc in subst (IsFrom s.last) f tt
answer_from o s client w (Some (read_failed count)) reply e is = absurd is
answer_from o s client w (Some done) reply e is = absurd is
answer_from o s client w (Some held) reply e is = absurd is
answer_from o s client w (Some not_held) reply e is = absurd is
answer_from o s client w (Some no_memory) reply e is = absurd is

-- and it is told with its records
told_from : (s : State) (since : Option ℕ) (reply : Reply) → IsFrom s.last reply → IsFrom s.last (reply_told s since reply)
told_from s None reply is = is
told_from s (Some n) (updates_found at records) is = tt
told_from s (Some n) (accepted first last records) is = is
told_from s (Some n) (refused why) is = is
told_from s (Some n) quiet is = is
told_from s (Some n) (found at v) is = is
told_from s (Some n) (found_each at vs) is = is
told_from s (Some n) (rows at pairs) is = is
told_from s (Some n) (read_failed count) is = is
told_from s (Some n) done is = is
told_from s (Some n) held is = is
told_from s (Some n) not_held is = is
told_from s (Some n) no_memory is = is

by_complete : (o : Options) (plans : List (List Command)) (s t : State) (m : ℕ) → Told o plans s → complete s m (find (λ (w : Writer). w.client == m) s.leaving) ≡ Some t → IsLater s t
by_complete o plans s t m so_far e = by_writer (find (λ (w : Writer). w.client == m) s.leaving) refl e
  where
    by_client : (w : Writer) → find (λ (x : Writer). x.client == m) s.leaving ≡ Some w → (client : Option Client) → client_at s m ≡ client → (reply : Option Reply) → w.answer ≡ reply → complete_with s m client w reply ≡ Some t → IsLater s t
    by_client w left (Some client) is (Some reply) answer e =
        let waits = (found_is m s.leaving w left).1 (Waits o plans s) (all_back (Waits o plans s) ((writers_in s.second ++ hand s.log) ++ s.queue) s.leaving so_far.waits) in
        let from = answer_from o s waits.client w w.answer reply answer waits.answer in
        let u : State = record (with_client s m (after_completion client w (reply_told s w.since reply))) { leaving = filter (λ (x : Writer). not (x.client == m)) s.leaving } in let after : u ≡ t = cc in
        subst (IsLater s) after (later_client s u m client (after_completion client w (reply_told s w.since reply)) is refl refl refl
        (told_one_more s.last client.calls client.calls (record { command = command_of w; reply = reply_told s w.since reply }) (told_from s w.since reply from) ([], append-nil client.calls, tt)))
    by_client w left (Some client) is None answer e = absurd (cc)
    by_client w left None is reply answer e = absurd (cc)

    by_writer : (w : Option Writer) → find (λ (x : Writer). x.client == m) s.leaving ≡ w → complete s m w ≡ Some t → IsLater s t
    by_writer None left e = absurd (cc)
    by_writer (Some w) left e = by_client w left (client_at s m) refl w.answer refl e

pub later_each : (o : Options) (plans : List (List Command)) (s t : State) (event : Event) → Told o plans s → step o s event ≡ Some t → IsLater s t
later_each o plans s t (e.Link c) so_far is = by_link o s t c is
later_each o plans s t (e.Elect c) so_far is = by_elect s t c s.log is
later_each o plans s t (e.Build c) so_far is = by_build o s t c s.log is
later_each o plans s t (e.Log c) so_far is = by_log s t c s.log is
later_each o plans s t (e.Fault c) so_far is = by_fault s t c s.log is
later_each o plans s t (e.Refuse c stops delays wait) so_far is = by_refuse s t c (no.Incomplete stops delays wait) s.log is
later_each o plans s t (e.Stall c) so_far is = by_stall s t c s.log is
later_each o plans s t (e.Leave m stops delays) so_far is = by_leave s t m (stall_refusal stops delays) s.log is
later_each o plans s t (e.Unstall c) so_far is = by_unstall s t c s.log is
later_each o plans s t (e.Boundary c) so_far is = by_boundary o s t c s.log is
later_each o plans s t (e.Second c) so_far is = by_second s t c s.log is
later_each o plans s t (e.Next c) so_far is = by_next s t c s.log is
later_each o plans s t (e.Launch c) so_far is = by_launch o s t c s.table is
later_each o plans s t (e.Insert m) so_far is = by_insert o s t m s.table is
later_each o plans s t (e.Finish m) so_far is = by_finish s t m s.table is
later_each o plans s t (e.Publish m) so_far is = by_publish o s t m s.table refl so_far.core is
later_each o plans s t (e.Since c) so_far is = by_since s t c s.log is
later_each o plans s t (e.Exit c) so_far is = by_exit o s t c s.table is
later_each o plans s t (e.Complete m) so_far is = by_complete o plans s t m so_far is
later_each o plans s t (e.Read c) so_far is = by_read o s t c is

fold_append : {A B : Type 0} (f : B → A → B) (b : B) (xs ys : List A) → fold f b (xs ++ ys) ≡ fold f (fold f b xs) ys
fold_append f b [] ys = refl
fold_append f b (x ∷ xs) ys = fold_append f (f b x) xs ys

pub later : (o : Options) (plans : List (List Command)) (events more : List Event) → IsLater (replay o (opening_state o plans) events).state (replay o (opening_state o plans) (events ++ more)).state
later o plans events more =
    let f : Replayed → Event → Replayed = λ r event. after_event r (step o r.state event) in
    let start : Replayed = record { state = opening_state o plans; taken = 0; skipped = 0 } in
    let s = (fold f start events).state in
    let after = by_events (λ t. Told o plans t × IsLater s t) o
    (λ t u event both is. (told_by_each o plans t u event both.0 is (kept o t u event both.0.core is).0, later_trans s t u both.1 (later_each o plans t u event both.0 is)))
    more (fold f start events) (told_after o plans events, later_self s) in
    subst (λ (r : Replayed). IsLater s r.state) (sym (fold_append f start events more)) after.1
