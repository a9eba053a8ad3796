-- Which half of a state each event leaves alone, and how the memtable's events change the memtable's half.
use Rattle.std.proofs.Common.{◌≡◌, ℕ, ◌==◌, Bool, true, false, not, List, [], ◌∷◌, ◌++◌, take, drop, find, filter, Option, Some, None, is_some, ◌≢◌, ◌&&◌, if◌then◌else◌, inl, inr, refl, ap, sym, ◌∙◌, subst}
use Rattle.std.proofs.lemmas.Bool.{eqb-true}
use Rattle.std.specs.List.{list_any}
use Rattle.model_core.specs.declared.event.Event.{Event}
use Rattle.model_core.specs.declared.event.Event.TheVariants as e
use Rattle.model_base.specs.declared.write.WriteOptions.{WriteOptions}
use Rattle.model_base.specs.declared.write.Refusal.{Refusal}
use Rattle.model_base.specs.declared.write.Refusal.TheVariants as no
use Rattle.model_base.specs.Calls.{Command, commit, updates, Reply, refused}
use Rattle.model_core.specs.Core.{Options, Writer, Client, LogPhase, free, led, built, stalled, in_log, marked, handed, TablePhase, still, launched, published, State, client_at, with_client, next_call, after_reply, refusal_of, refusal_in, may_link, stall_refusal, plain_options, read_at, reply_told, leads, with_runs, has_run, all_answered, table_group, read_reply}
use Rattle.model_core.specs.Step.{when, step, link, link_call, link_with, link_read, read_log, answer_read, exit_reader, has_read, elect, build, group_size, log_group, logged_group, leave, fault, refuse, stall, unstall, leave_queue, leave_with, left_queue, boundary, to_second, next, launch, insert, entry_ahead, finish, publish, group_last, exit, without_table_group, complete, complete_with, after_completion, read, read_call, read_with}
use Rattle.model_core.specs.Halves.{list_half_of, table_half_of, moves_list, moves_table, TableStep, ListStep, logged_with}
use Rattle.model_core_laws.proofs.Tables.{when_some}
use Rattle.model_core_laws.proofs.Lists.{and_parts}

-- what holds of each state that a client's event may lead to holds of the one that it leads to

by_link : (P : State → Type 0) (o : Options) (s t : State) (c : ℕ) → ((client : Client) (how : WriteOptions) (why : Option Refusal) → P (link_with o s c client how why))
    → ((client : Client) (n : ℕ) → P (link_read s c client n)) → link o s c (client_at s c) ≡ Some t → P t
by_link P o s t c holds reads came = by_client (client_at s c) came
  where
    by_call : (client : Client) (call : Option Command) → link_call o s c client call ≡ Some t → P t
    by_call client (Some (commit how)) came = let why = refusal_in s.log how (refusal_of o how client.added) in subst P (when_some (may_link s.log why) (link_with o s c client how why) t came).1 (holds client how why)
    by_call client (Some (updates n)) came = subst P (when_some (may_link s.log None) (link_read s c client n) t came).1 (reads client n)
    by_call client (Some other) came = absurd (cc)
    by_call client None came = absurd (cc)

    by_idle : (client : Client) (b : Bool) → (if b then link_call o s c (next_call client).client (next_call client).call else None) ≡ Some t → P t
    by_idle client true came = by_call (next_call client).client (next_call client).call came
    by_idle client false came = absurd (cc)

    by_client : (client : Option Client) → link o s c client ≡ Some t → P t
    by_client None came = absurd (cc)
    by_client (Some client) came = by_idle client client.idle came

by_read : (P : State → Type 0) (o : Options) (s t : State) (c : ℕ) → ((client : Client) → P (with_client s c client)) → read o s c (client_at s c) ≡ Some t → P t
by_read P o s t c holds came = by_client (client_at s c) came
  where
    by_reply : (client : Client) (command : Command) (reply : Option Reply) → read_with s c client command reply ≡ Some t → P t
    by_reply client command (Some reply) came = let after : with_client s c (after_reply client command reply) ≡ t = cc in subst P after (holds (after_reply client command reply))
    by_reply client command None came = absurd (cc)

    by_call : (client : Client) (call : Option Command) → read_call o s c client call ≡ Some t → P t
    by_call client (Some command) came = by_reply client command (read_reply o s command) came
    by_call client None came = absurd (cc)

    by_idle : (client : Client) (b : Bool) → (if b then read_call o s c (next_call client).client (next_call client).call else None) ≡ Some t → P t
    by_idle client true came = by_call (next_call client).client (next_call client).call came
    by_idle client false came = absurd (cc)

    by_client : (client : Option Client) → read o s c client ≡ Some t → P t
    by_client None came = absurd (cc)
    by_client (Some client) came = by_idle client client.idle came

by_complete : (P : State → Type 0) (s t : State) (m : ℕ)
    → ((client : Client) → P (record (with_client s m client) { leaving = filter (λ (w : Writer). not (w.client == m)) s.leaving }))
    → complete s m (find (λ (w : Writer). w.client == m) s.leaving) ≡ Some t → P t
by_complete P s t m holds came = by_writer (find (λ (w : Writer). w.client == m) s.leaving) came
  where
    by_client : (w : Writer) (client : Option Client) (reply : Option Reply) → complete_with s m client w reply ≡ Some t → P t
    by_client w (Some client) (Some reply) came =
        let new = after_completion client w (reply_told s w.since reply) in
        let left = filter (λ (x : Writer). not (x.client == m)) s.leaving in
        let after : record (with_client s m new) { leaving = left } ≡ t = cc in
        subst P after (holds new)
    by_client w (Some client) None came = absurd (cc)
    by_client w None reply came = absurd (cc)

    by_writer : (w : Option Writer) → complete s m w ≡ Some t → P t
    by_writer None came = absurd (cc)
    by_writer (Some w) came = by_client w (client_at s m) w.answer came

-- Both halves

abbrev Moves : Options → Event → State → State → Type 0
Moves o event s t = TableStep o event s (table_half_of t) × ListStep o event s (list_half_of t)

-- what holds of the state that an event leads to, if its condition is true
when_holds : (P : State → Type 0) (b : Bool) (u t : State) → when b u ≡ Some t → P u → P t
when_holds P b u t came holds = subst P (when_some b u t came).1 holds

linked : (o : Options) (s : State) (c : ℕ) (client : Client) (how : WriteOptions) (why : Option Refusal) → Moves o (e.Link c) s (link_with o s c client how why)
linked o s c client how None = (refl, inr (record { client = c; options = how; records = client.added; since = None; answer = None }, refl, refl))
linked o s c client how (Some why) = (refl, inl refl)

linked_read : (o : Options) (s : State) (c : ℕ) (client : Client) (n : ℕ) → Moves o (e.Link c) s (link_read s c client n)
linked_read o s c client n = (refl, inr (record { client = c; options = plain_options; records = []; since = Some n; answer = None }, refl, refl))

by_elect : (o : Options) (s t : State) (c : ℕ) (phase : LogPhase) → s.log ≡ phase → elect s c phase ≡ Some t → Moves o (e.Elect c) s t
by_elect o s t c free is came =
    let u : State = record s { log = led c } in
    when_holds (Moves o (e.Elect c) s) _ u t came (refl, (is, refl))
by_elect o s t c (led d) is came = absurd (cc)
by_elect o s t c (built ws) is came = absurd (cc)
by_elect o s t c (in_log ws) is came = absurd (cc)
by_elect o s t c (stalled ws) is came = absurd (cc)
by_elect o s t c (marked ws) is came = absurd (cc)
by_elect o s t c (handed d) is came = absurd (cc)

by_build : (o : Options) (s t : State) (c : ℕ) (phase : LogPhase) → s.log ≡ phase → build o s c phase ≡ Some t → Moves o (e.Build c) s t
by_build o s t c (led d) is came =
    let u : State = record s { log = built (take (group_size o s) s.queue); queue = drop (group_size o s) s.queue } in
    let h = when_some (c == d) u t came in
    subst (Moves o (e.Build c) s) h.1 (refl, (is ∙ ap led (sym (eqb-true c d h.0)), refl))
by_build o s t c free is came = absurd (cc)
by_build o s t c (built ws) is came = absurd (cc)
by_build o s t c (in_log ws) is came = absurd (cc)
by_build o s t c (stalled ws) is came = absurd (cc)
by_build o s t c (marked ws) is came = absurd (cc)
by_build o s t c (handed d) is came = absurd (cc)

logged : (s : State) (ws : List Writer) (b : Bool) → list_any has_run ws ≡ b → (table_half_of (logged_group s ws) ≡ table_half_of s) × (list_half_of (logged_group s ws) ≡ logged_with s ws)
logged s ws true is = rw is (refl, refl)
logged s ws false is = rw is (refl, refl)

by_log : (o : Options) (s t : State) (c : ℕ) (phase : LogPhase) → s.log ≡ phase → log_group s c phase ≡ Some t → Moves o (e.Log c) s t
by_log o s t c (built ws) is came =
    let vs = with_runs s.assigned ws in
    let h = logged s vs (list_any has_run vs) refl in
    let u : State = logged_group s vs in
    when_holds (Moves o (e.Log c) s) _ u t came (h.0, (ws, is, h.1))
by_log o s t c free is came = absurd (cc)
by_log o s t c (led d) is came = absurd (cc)
by_log o s t c (in_log ws) is came = absurd (cc)
by_log o s t c (stalled ws) is came = absurd (cc)
by_log o s t c (marked ws) is came = absurd (cc)
by_log o s t c (handed d) is came = absurd (cc)

by_fault : (o : Options) (s t : State) (c : ℕ) (phase : LogPhase) → s.log ≡ phase → fault s c phase ≡ Some t → Moves o (e.Fault c) s t
by_fault o s t c (built ws) is came =
    let u : State = record (leave s (all_answered (refused (no.LogFault 1)) ws)) { log = free; log_failed = true } in
    when_holds (Moves o (e.Fault c) s) _ u t came (refl, (ws, is, refl))
by_fault o s t c free is came = absurd (cc)
by_fault o s t c (led d) is came = absurd (cc)
by_fault o s t c (in_log ws) is came = absurd (cc)
by_fault o s t c (stalled ws) is came = absurd (cc)
by_fault o s t c (marked ws) is came = absurd (cc)
by_fault o s t c (handed d) is came = absurd (cc)

by_refuse : (o : Options) (s t : State) (c : ℕ) (stops delays wait : ℕ) (phase : LogPhase) → s.log ≡ phase → refuse s c (no.Incomplete stops delays wait) phase ≡ Some t → Moves o (e.Refuse c stops delays wait) s t
by_refuse o s t c stops delays wait (built ws) is came =
    let u : State = record (leave s (all_answered (refused (no.Incomplete stops delays wait)) ws)) { log = free } in
    when_holds (Moves o (e.Refuse c stops delays wait) s) _ u t came (refl, (ws, is, refl))
by_refuse o s t c stops delays wait free is came = absurd (cc)
by_refuse o s t c stops delays wait (led d) is came = absurd (cc)
by_refuse o s t c stops delays wait (in_log ws) is came = absurd (cc)
by_refuse o s t c stops delays wait (stalled ws) is came = absurd (cc)
by_refuse o s t c stops delays wait (marked ws) is came = absurd (cc)
by_refuse o s t c stops delays wait (handed d) is came = absurd (cc)

by_stall : (o : Options) (s t : State) (c : ℕ) (phase : LogPhase) → s.log ≡ phase → stall s c phase ≡ Some t → Moves o (e.Stall c) s t
by_stall o s t c (built ws) is came =
    let u : State = record s { log = stalled ws } in
    when_holds (Moves o (e.Stall c) s) _ u t came (refl, (ws, is, refl))
by_stall o s t c free is came = absurd (cc)
by_stall o s t c (led d) is came = absurd (cc)
by_stall o s t c (stalled ws) is came = absurd (cc)
by_stall o s t c (in_log ws) is came = absurd (cc)
by_stall o s t c (marked ws) is came = absurd (cc)
by_stall o s t c (handed d) is came = absurd (cc)

by_unstall : (o : Options) (s t : State) (c : ℕ) (phase : LogPhase) → s.log ≡ phase → unstall s c phase ≡ Some t → Moves o (e.Unstall c) s t
by_unstall o s t c (stalled ws) is came =
    let u : State = record s { log = built ws } in
    when_holds (Moves o (e.Unstall c) s) _ u t came (refl, (ws, is, refl))
by_unstall o s t c free is came = absurd (cc)
by_unstall o s t c (led d) is came = absurd (cc)
by_unstall o s t c (built ws) is came = absurd (cc)
by_unstall o s t c (in_log ws) is came = absurd (cc)
by_unstall o s t c (marked ws) is came = absurd (cc)
by_unstall o s t c (handed d) is came = absurd (cc)

by_leave : (o : Options) (s t : State) (m stops delays : ℕ) (phase : LogPhase) → s.log ≡ phase → leave_queue s m (stall_refusal stops delays) phase ≡ Some t → Moves o (e.Leave m stops delays) s t
by_leave o s t m stops delays (stalled ws) is came = by_writer (find (λ (x : Writer). x.client == m) s.queue) refl came
  where
    by_writer : (w : Option Writer) → find (λ (x : Writer). x.client == m) s.queue ≡ w → leave_with s m (stall_refusal stops delays) w ≡ Some t → Moves o (e.Leave m stops delays) s t
    by_writer None found came = absurd (cc)
    by_writer (Some w) found came =
        let h = when_some w.options.no_slowdown (left_queue s m (stall_refusal stops delays) w) t came in
        subst (Moves o (e.Leave m stops delays) s) h.1 (refl, (ws, w, is, found, h.0, refl))
by_leave o s t m stops delays free is came = absurd (cc)
by_leave o s t m stops delays (led d) is came = absurd (cc)
by_leave o s t m stops delays (built ws) is came = absurd (cc)
by_leave o s t m stops delays (in_log ws) is came = absurd (cc)
by_leave o s t m stops delays (marked ws) is came = absurd (cc)
by_leave o s t m stops delays (handed d) is came = absurd (cc)

by_boundary : (o : Options) (s t : State) (c : ℕ) (phase : LogPhase) → s.log ≡ phase → boundary o s c phase ≡ Some t → Moves o (e.Boundary c) s t
by_boundary o s t c (in_log ws) is came =
    let u : State = record s { log = marked ws } in
    when_holds (Moves o (e.Boundary c) s) _ u t came (refl, (ws, is, refl))
by_boundary o s t c free is came = absurd (cc)
by_boundary o s t c (led d) is came = absurd (cc)
by_boundary o s t c (built ws) is came = absurd (cc)
by_boundary o s t c (stalled ws) is came = absurd (cc)
by_boundary o s t c (marked ws) is came = absurd (cc)
by_boundary o s t c (handed d) is came = absurd (cc)

by_second : (o : Options) (s t : State) (c : ℕ) (phase : LogPhase) → s.log ≡ phase → to_second s c phase ≡ Some t → Moves o (e.Second c) s t
by_second o s t c (marked ws) is came =
    let u : State = record s { log = handed c; second = s.second ++ ws ∷ [] } in
    when_holds (Moves o (e.Second c) s) _ u t came (refl, (ws, is, refl))
by_second o s t c free is came = absurd (cc)
by_second o s t c (led d) is came = absurd (cc)
by_second o s t c (built ws) is came = absurd (cc)
by_second o s t c (in_log ws) is came = absurd (cc)
by_second o s t c (stalled ws) is came = absurd (cc)
by_second o s t c (handed d) is came = absurd (cc)

by_next : (o : Options) (s t : State) (c : ℕ) (phase : LogPhase) → s.log ≡ phase → next s c phase ≡ Some t → Moves o (e.Next c) s t
by_next o s t c (handed d) is came =
    let u : State = record s { log = free } in
    let h = when_some (c == d) u t came in
    subst (Moves o (e.Next c) s) h.1 (refl, (is ∙ ap handed (sym (eqb-true c d h.0)), refl))
by_next o s t c free is came = absurd (cc)
by_next o s t c (led d) is came = absurd (cc)
by_next o s t c (built ws) is came = absurd (cc)
by_next o s t c (in_log ws) is came = absurd (cc)
by_next o s t c (stalled ws) is came = absurd (cc)
by_next o s t c (marked ws) is came = absurd (cc)

by_launch : (o : Options) (s t : State) (c : ℕ) (phase : TablePhase) → s.table ≡ phase → launch o s c phase ≡ Some t → Moves o (e.Launch c) s t
by_launch o s t c still is came = when_holds (Moves o (e.Launch c) s) _ (record s { table = launched [] [] }) t came ((is, refl), refl)
by_launch o s t c (launched ins fin) is came = absurd (cc)
by_launch o s t c published is came = absurd (cc)

by_insert : (o : Options) (s t : State) (m : ℕ) (phase : TablePhase) → s.table ≡ phase → insert o s m phase ≡ Some t → Moves o (e.Insert m) s t
by_insert o s t m (launched ins fin) is came =
    let u : State = record s { table = launched (ins ++ m ∷ []) fin; inserted = s.inserted ++ entry_ahead s m } in
    when_holds (Moves o (e.Insert m) s) _ u t came ((ins, fin, is, refl), refl)
by_insert o s t m still is came = absurd (cc)
by_insert o s t m published is came = absurd (cc)

by_finish : (o : Options) (s t : State) (m : ℕ) (phase : TablePhase) → s.table ≡ phase → finish s m phase ≡ Some t → Moves o (e.Finish m) s t
by_finish o s t m (launched ins fin) is came = when_holds (Moves o (e.Finish m) s) _ (record s { table = launched ins (fin ++ m ∷ []) }) t came ((ins, fin, is, refl), refl)
by_finish o s t m still is came = absurd (cc)
by_finish o s t m published is came = absurd (cc)

by_publish : (o : Options) (s t : State) (m : ℕ) (phase : TablePhase) → s.table ≡ phase → publish o s m phase ≡ Some t → Moves o (e.Publish m) s t
by_publish o s t m (launched ins fin) is came =
    let u : State = record s { table = published; last = group_last s.last (table_group o s) } in
    when_holds (Moves o (e.Publish m) s) _ u t came ((ins, fin, is, refl), refl)
by_publish o s t m still is came = absurd (cc)
by_publish o s t m published is came = absurd (cc)

left_same : (s : State) (pipelined : Bool) (ws : List Writer)
    → table_half_of (record (leave (if pipelined then record s { second = drop 1 s.second } else record s { log = free }) ws) { table = still }) ≡ record (table_half_of s) { phase = still }
left_same s true ws = refl
left_same s false ws = refl

-- a read of the log, and its exit
some_since : (since : Option ℕ) → is_some since ≡ true → since ≢ None
some_since (Some n) e = λ never. absurd (cc)
some_since None e = absurd (cc)

by_since : (o : Options) (s t : State) (c : ℕ) (phase : LogPhase) → s.log ≡ phase → read_log s c phase ≡ Some t → Moves o (e.Since c) s t
by_since o s t c (built (w ∷ [])) is came = by_client (w.client == c) refl came
  where
    by_answer : w.client ≡ c → (since : Option ℕ) (answer : Option Reply) → w.since ≡ since → answer_read s w since answer ≡ Some t → Moves o (e.Since c) s t
    by_answer here (Some n) None reads came =
        let after : record s { log = built (record w { answer = Some (read_at s.last) } ∷ []) } ≡ t = cc in
        subst (Moves o (e.Since c) s) after (refl, (w, is, here, some_since w.since (rw reads refl), refl))
    by_answer here (Some n) (Some reply) reads came = absurd (cc)
    by_answer here None answer reads came = absurd (cc)

    by_client : (b : Bool) → (w.client == c) ≡ b → (if b then answer_read s w w.since w.answer else None) ≡ Some t → Moves o (e.Since c) s t
    by_client true here came = by_answer (eqb-true w.client c here) w.since w.answer refl came
    by_client false here came = absurd (cc)
by_since o s t c (built []) is came = absurd (cc)
by_since o s t c (built (w ∷ v ∷ ws)) is came = absurd (cc)
by_since o s t c free is came = absurd (cc)
by_since o s t c (led d) is came = absurd (cc)
by_since o s t c (in_log ws) is came = absurd (cc)
by_since o s t c (stalled ws) is came = absurd (cc)
by_since o s t c (marked ws) is came = absurd (cc)
by_since o s t c (handed d) is came = absurd (cc)

by_reader : (o : Options) (s t : State) (c : ℕ) (phase : LogPhase) → s.log ≡ phase → exit_reader s c phase ≡ Some t → Moves o (e.Exit c) s t
by_reader o s t c (built (w ∷ [])) is came =
    let u : State = record (leave s (w ∷ [])) { log = free } in
    let h = when_some (has_read c w) u t came in
    let parts = and_parts (w.client == c) (is_some w.since) (and_parts ((w.client == c) && is_some w.since) (is_some w.answer) h.0).0 in
    subst (Moves o (e.Exit c) s) h.1 (inr refl, inr (w, is, eqb-true w.client c parts.0, some_since w.since parts.1, refl))
by_reader o s t c (built []) is came = absurd (cc)
by_reader o s t c (built (w ∷ v ∷ ws)) is came = absurd (cc)
by_reader o s t c free is came = absurd (cc)
by_reader o s t c (led d) is came = absurd (cc)
by_reader o s t c (in_log ws) is came = absurd (cc)
by_reader o s t c (stalled ws) is came = absurd (cc)
by_reader o s t c (marked ws) is came = absurd (cc)
by_reader o s t c (handed d) is came = absurd (cc)

by_exit : (o : Options) (s t : State) (c : ℕ) (phase : TablePhase) → s.table ≡ phase → exit o s c phase ≡ Some t → Moves o (e.Exit c) s t
by_exit o s t c published is came = by_leader (leads c (table_group o s)) came
  where
    by_leader : (b : Bool) → (if b then Some (record (leave (without_table_group o s) (table_group o s)) { table = still }) else exit_reader s c s.log) ≡ Some t → Moves o (e.Exit c) s t
    by_leader true came =
        let after : record (leave (without_table_group o s) (table_group o s)) { table = still } ≡ t = cc in
        subst (Moves o (e.Exit c) s) after (inl (is, left_same s o.pipelined (table_group o s)), inl refl)
    by_leader false came = by_reader o s t c s.log refl came
by_exit o s t c still is came = by_reader o s t c s.log refl came
by_exit o s t c (launched ins fin) is came = by_reader o s t c s.log refl came

-- Every event

moves : (o : Options) (s t : State) (event : Event) → step o s event ≡ Some t → Moves o event s t
moves o s t (e.Link c) came = by_link (Moves o (e.Link c) s) o s t c (linked o s c) (linked_read o s c) came
moves o s t (e.Elect c) came = by_elect o s t c s.log refl came
moves o s t (e.Build c) came = by_build o s t c s.log refl came
moves o s t (e.Log c) came = by_log o s t c s.log refl came
moves o s t (e.Fault c) came = by_fault o s t c s.log refl came
moves o s t (e.Refuse c stops delays wait) came = by_refuse o s t c stops delays wait s.log refl came
moves o s t (e.Stall c) came = by_stall o s t c s.log refl came
moves o s t (e.Leave m stops delays) came = by_leave o s t m stops delays s.log refl came
moves o s t (e.Unstall c) came = by_unstall o s t c s.log refl came
moves o s t (e.Boundary c) came = by_boundary o s t c s.log refl came
moves o s t (e.Second c) came = by_second o s t c s.log refl came
moves o s t (e.Next c) came = by_next o s t c s.log refl came
moves o s t (e.Launch c) came = by_launch o s t c s.table refl came
moves o s t (e.Insert m) came = by_insert o s t m s.table refl came
moves o s t (e.Finish m) came = by_finish o s t m s.table refl came
moves o s t (e.Publish m) came = by_publish o s t m s.table refl came
moves o s t (e.Since c) came = by_since o s t c s.log refl came
moves o s t (e.Exit c) came = by_exit o s t c s.table refl came
moves o s t (e.Complete m) came = by_complete (Moves o (e.Complete m) s) s t m (λ client. (refl, refl)) came
moves o s t (e.Read c) came = by_read (Moves o (e.Read c) s) o s t c (λ client. (refl, refl)) came

pub table_step : (o : Options) (s t : State) (event : Event) → step o s event ≡ Some t → TableStep o event s (table_half_of t)
table_step o s t event came = (moves o s t event came).0

pub list_step : (o : Options) (s t : State) (event : Event) → step o s event ≡ Some t → ListStep o event s (list_half_of t)
list_step o s t event came = (moves o s t event came).1

pub list_events_leave_table : (o : Options) (s t : State) (event : Event) → moves_table event ≡ false → step o s event ≡ Some t → table_half_of t ≡ table_half_of s
list_events_leave_table o s t (e.Link c) none came = table_step o s t (e.Link c) came
list_events_leave_table o s t (e.Elect c) none came = table_step o s t (e.Elect c) came
list_events_leave_table o s t (e.Build c) none came = table_step o s t (e.Build c) came
list_events_leave_table o s t (e.Log c) none came = table_step o s t (e.Log c) came
list_events_leave_table o s t (e.Fault c) none came = table_step o s t (e.Fault c) came
list_events_leave_table o s t (e.Refuse c stops delays wait) none came = table_step o s t (e.Refuse c stops delays wait) came
list_events_leave_table o s t (e.Stall c) none came = table_step o s t (e.Stall c) came
list_events_leave_table o s t (e.Leave m stops delays) none came = table_step o s t (e.Leave m stops delays) came
list_events_leave_table o s t (e.Unstall c) none came = table_step o s t (e.Unstall c) came
list_events_leave_table o s t (e.Boundary c) none came = table_step o s t (e.Boundary c) came
list_events_leave_table o s t (e.Second c) none came = table_step o s t (e.Second c) came
list_events_leave_table o s t (e.Next c) none came = table_step o s t (e.Next c) came
list_events_leave_table o s t (e.Launch c) none came = absurd (cc)
list_events_leave_table o s t (e.Insert m) none came = absurd (cc)
list_events_leave_table o s t (e.Finish m) none came = absurd (cc)
list_events_leave_table o s t (e.Publish m) none came = absurd (cc)
list_events_leave_table o s t (e.Since c) none came = table_step o s t (e.Since c) came
list_events_leave_table o s t (e.Exit c) none came = absurd (cc)
list_events_leave_table o s t (e.Complete m) none came = table_step o s t (e.Complete m) came
list_events_leave_table o s t (e.Read c) none came = table_step o s t (e.Read c) came

pub table_events_leave_list : (o : Options) (s t : State) (event : Event) → moves_list event ≡ false → step o s event ≡ Some t → list_half_of t ≡ list_half_of s
table_events_leave_list o s t (e.Launch c) none came = list_step o s t (e.Launch c) came
table_events_leave_list o s t (e.Insert m) none came = list_step o s t (e.Insert m) came
table_events_leave_list o s t (e.Finish m) none came = list_step o s t (e.Finish m) came
table_events_leave_list o s t (e.Publish m) none came = list_step o s t (e.Publish m) came
table_events_leave_list o s t (e.Read c) none came = list_step o s t (e.Read c) came
table_events_leave_list o s t event none came = absurd (cc)
