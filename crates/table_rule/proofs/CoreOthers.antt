-- What the core's other events leave alone: its table, and its group for the table.
use Rattle.std.proofs.Common.{◌≡◌, ℕ, ◌<◌, ◌==◌, Bool, true, false, not, List, [], ◌∷◌, ◌++◌, length, find, filter, Option, Some, None, if◌then◌else◌, refl, ap, sym, ◌∙◌, subst, arith}
use Rattle.std.specs.List.{list_any}
use Rattle.std.proofs.lemmas.Bool.{and_parts}
use Rattle.model_core.specs.declared.event.Event.{Event}
use Rattle.model_core.specs.declared.event.Event.TheVariants as e
use Rattle.model_base.specs.declared.write.WriteOptions.{WriteOptions}
use Rattle.model_base.specs.declared.write.Refusal.{Refusal}
use Rattle.model_base.specs.declared.write.Refusal.TheVariants as no
use Rattle.model_base.specs.Calls.{Command, commit, updates, Reply}
use Rattle.model_core.specs.Core.{Options, Writer, Client, LogPhase, free, led, built, stalled, in_log, marked, handed, TablePhase, still, launched, published, read_at, reply_told, State, client_at, with_client, next_call, after_reply, refusal_of, refusal_in, may_link, stall_refusal, leads, with_runs, has_run, in_hand, first_group, table_group, read_reply}
use Rattle.model_core.specs.Step.{when, step, read_log, answer_read, exit, exit_reader, leave, without_table_group, link, link_call, link_with, link_read, elect, build, log_group, logged_group, fault, refuse, stall, unstall, leave_queue, leave_with, left_queue, boundary, to_second, next, complete, complete_with, after_completion, read, read_call, read_with}
use Rattle.model_core.specs.Halves.{TableHalf, table_half_of, moves_table}

-- the table stays as it is, and so does a group for it
abbrev pub Leaves : Options → State → State → Type 0
Leaves o s t = (t.table ≡ s.table) × (t.last ≡ s.last) × (0 < length (table_group o s) → table_group o t ≡ table_group o s)

when_some : (b : Bool) (u t : State) → when b u ≡ Some t → (b ≡ true) × (u ≡ t)
when_some true u t e = (refl, cc)
when_some false u t e = absurd (cc)

-- an event comes only under a condition: what follows from it for the new state holds of that state
when_holds : (P : State → Type 0) (b : Bool) (u t : State) → when b u ≡ Some t → (b ≡ true → P u) → P t
when_holds P b u t came holds = let h = when_some b u t came in subst P h.1 (holds h.0)

-- the group for the table is that of the second queue, or of the log: where that stays, the group stays
same_group : (o : Options) (s : State) (second : List (List Writer)) (ws : List Writer) → (o.pipelined ≡ true → first_group second ≡ first_group s.second) → (o.pipelined ≡ false → ws ≡ in_hand s.log)
    → (if o.pipelined then first_group second else ws) ≡ table_group o s
same_group o s second ws two one = by o.pipelined refl
  where
    by : (b : Bool) → o.pipelined ≡ b → (if b then first_group second else ws) ≡ (if b then first_group s.second else in_hand s.log)
    by true is = two is
    by false is = one is

-- with no group in hand before and after, the second queue alone counts
unhanded : (o : Options) (s : State) (phase : LogPhase) → s.log ≡ phase → [] ≡ in_hand phase → (if o.pipelined then first_group s.second else []) ≡ table_group o s
unhanded o s phase is none = same_group o s s.second [] (λ _. refl) (λ _. none ∙ sym (ap in_hand is))

-- if commits aren't pipelined, and the log has no group in hand, there is no group for the table
none_in_hand : (o : Options) (s : State) → o.pipelined ≡ false → in_hand s.log ≡ [] → 0 < length (table_group o s) → ⊥
none_in_hand o s single none some = let e : length (table_group o s) ≡ 0 = ap (λ b. length (if b then first_group s.second else in_hand s.log)) single ∙ ap length none in omega (arith, e, some)

by_link : (o : Options) (s t : State) (c : ℕ) → link o s c (client_at s c) ≡ Some t → Leaves o s t
by_link o s t c came = by_client (client_at s c) came
  where
    linked : (client : Client) (how : WriteOptions) (why : Option Refusal) → Leaves o s (link_with o s c client how why)
    linked client how None = (refl, refl, λ _. refl)
    linked client how (Some why) = (refl, refl, λ _. refl)

    by_call : (client : Client) (call : Option Command) → link_call o s c client call ≡ Some t → Leaves o s t
    by_call client (Some (commit how)) came = let why = refusal_in s.log how (refusal_of o how client.added) in subst (Leaves o s) (when_some (may_link s.log why) (link_with o s c client how why) t came).1 (linked client how why)
    by_call client (Some (updates n)) came = subst (Leaves o s) (when_some (may_link s.log None) (link_read s c client n) t came).1 (refl, refl, λ _. refl)
    by_call client (Some other) came = absurd (cc)
    by_call client None came = absurd (cc)

    by_idle : (client : Client) (b : Bool) → (if b then link_call o s c (next_call client).client (next_call client).call else None) ≡ Some t → Leaves o s t
    by_idle client true came = by_call (next_call client).client (next_call client).call came
    by_idle client false came = absurd (cc)

    by_client : (client : Option Client) → link o s c client ≡ Some t → Leaves o s t
    by_client None came = absurd (cc)
    by_client (Some client) came = by_idle client client.idle came

by_read : (o : Options) (s t : State) (c : ℕ) → read o s c (client_at s c) ≡ Some t → Leaves o s t
by_read o s t c came = by_client (client_at s c) came
  where
    by_reply : (client : Client) (command : Command) (reply : Option Reply) → read_with s c client command reply ≡ Some t → Leaves o s t
    by_reply client command (Some reply) came = let after : with_client s c (after_reply client command reply) ≡ t = cc in subst (Leaves o s) after (refl, refl, λ _. refl)
    by_reply client command None came = absurd (cc)

    by_call : (client : Client) (call : Option Command) → read_call o s c client call ≡ Some t → Leaves o s t
    by_call client (Some command) came = by_reply client command (read_reply o s command) came
    by_call client None came = absurd (cc)

    by_idle : (client : Client) (b : Bool) → (if b then read_call o s c (next_call client).client (next_call client).call else None) ≡ Some t → Leaves o s t
    by_idle client true came = by_call (next_call client).client (next_call client).call came
    by_idle client false came = absurd (cc)

    by_client : (client : Option Client) → read o s c client ≡ Some t → Leaves o s t
    by_client None came = absurd (cc)
    by_client (Some client) came = by_idle client client.idle came

by_complete : (o : Options) (s t : State) (m : ℕ) → complete s m (find (λ (w : Writer). w.client == m) s.leaving) ≡ Some t → Leaves o s t
by_complete o s t m came = by_writer (find (λ (w : Writer). w.client == m) s.leaving) came
  where
    by_client : (w : Writer) (client : Option Client) (reply : Option Reply) → complete_with s m client w reply ≡ Some t → Leaves o s t
    by_client w (Some client) (Some reply) came =
        let left = filter (λ (x : Writer). not (x.client == m)) s.leaving in
        let after : record (with_client s m (after_completion client w (reply_told s w.since reply))) { leaving = left } ≡ t = cc in
        subst (Leaves o s) after (refl, refl, λ _. refl)
    by_client w (Some client) None came = absurd (cc)
    by_client w None reply came = absurd (cc)

    by_writer : (w : Option Writer) → complete s m w ≡ Some t → Leaves o s t
    by_writer None came = absurd (cc)
    by_writer (Some w) came = by_client w (client_at s m) w.answer came

by_elect : (o : Options) (s t : State) (c : ℕ) (phase : LogPhase) → s.log ≡ phase → elect s c phase ≡ Some t → Leaves o s t
by_elect o s t c free is came = when_holds (Leaves o s) _ _ t came (λ _. (refl, refl, λ _. unhanded o s free is refl))
by_elect o s t c (led d) is came = absurd (cc)
by_elect o s t c (built ws) is came = absurd (cc)
by_elect o s t c (in_log ws) is came = absurd (cc)
by_elect o s t c (stalled ws) is came = absurd (cc)
by_elect o s t c (marked ws) is came = absurd (cc)
by_elect o s t c (handed d) is came = absurd (cc)

by_build : (o : Options) (s t : State) (c : ℕ) (phase : LogPhase) → s.log ≡ phase → build o s c phase ≡ Some t → Leaves o s t
by_build o s t c (led d) is came = when_holds (Leaves o s) _ _ t came (λ _. (refl, refl, λ _. unhanded o s (led d) is refl))
by_build o s t c free is came = absurd (cc)
by_build o s t c (built ws) is came = absurd (cc)
by_build o s t c (in_log ws) is came = absurd (cc)
by_build o s t c (stalled ws) is came = absurd (cc)
by_build o s t c (marked ws) is came = absurd (cc)
by_build o s t c (handed d) is came = absurd (cc)

by_log : (o : Options) (s t : State) (c : ℕ) (phase : LogPhase) → s.log ≡ phase → log_group s c phase ≡ Some t → Leaves o s t
by_log o s t c (built ws) is came = let vs = with_runs s.assigned ws in when_holds (Leaves o s) _ (logged_group s vs) t came (λ _. logged vs (list_any has_run vs) refl)
  where
    single : o.pipelined ≡ false → 0 < length (table_group o s) → ⊥
    single one some = none_in_hand o s one (ap in_hand is) some

    logged : (vs : List Writer) (b : Bool) → list_any has_run vs ≡ b → Leaves o s (logged_group s vs)
    logged vs true runs = rw runs (refl, refl, λ some. same_group o s s.second vs (λ _. refl) (λ one. absurd (single one some)))
    logged vs false runs = rw runs (refl, refl, λ _. unhanded o s (built ws) is refl)
by_log o s t c free is came = absurd (cc)
by_log o s t c (led d) is came = absurd (cc)
by_log o s t c (in_log ws) is came = absurd (cc)
by_log o s t c (stalled ws) is came = absurd (cc)
by_log o s t c (marked ws) is came = absurd (cc)
by_log o s t c (handed d) is came = absurd (cc)

by_fault : (o : Options) (s t : State) (c : ℕ) (phase : LogPhase) → s.log ≡ phase → fault s c phase ≡ Some t → Leaves o s t
by_fault o s t c (built ws) is came = when_holds (Leaves o s) _ _ t came (λ _. (refl, refl, λ _. unhanded o s (built ws) is refl))
by_fault o s t c free is came = absurd (cc)
by_fault o s t c (led d) is came = absurd (cc)
by_fault o s t c (in_log ws) is came = absurd (cc)
by_fault o s t c (stalled ws) is came = absurd (cc)
by_fault o s t c (marked ws) is came = absurd (cc)
by_fault o s t c (handed d) is came = absurd (cc)

by_since : (o : Options) (s t : State) (c : ℕ) (phase : LogPhase) → s.log ≡ phase → read_log s c phase ≡ Some t → Leaves o s t
by_since o s t c (built (w ∷ [])) is came = by_client (w.client == c) came
  where
    by_answer : (since : Option ℕ) (answer : Option Reply) → answer_read s w since answer ≡ Some t → Leaves o s t
    by_answer (Some n) None came =
        let after : record s { log = built (record w { answer = Some (read_at s.last) } ∷ []) } ≡ t = cc in
        subst (Leaves o s) after (refl, refl, λ _. unhanded o s (built (w ∷ [])) is refl)
    by_answer (Some n) (Some reply) came = absurd (cc)
    by_answer None answer came = absurd (cc)

    by_client : (b : Bool) → (if b then answer_read s w w.since w.answer else None) ≡ Some t → Leaves o s t
    by_client true came = by_answer w.since w.answer came
    by_client false came = absurd (cc)
by_since o s t c (built []) is came = absurd (cc)
by_since o s t c (built (w ∷ v ∷ ws)) is came = absurd (cc)
by_since o s t c free is came = absurd (cc)
by_since o s t c (led d) is came = absurd (cc)
by_since o s t c (in_log ws) is came = absurd (cc)
by_since o s t c (stalled ws) is came = absurd (cc)
by_since o s t c (marked ws) is came = absurd (cc)
by_since o s t c (handed d) is came = absurd (cc)

-- the exit of who has read the log
by_reader : (o : Options) (s t : State) (c : ℕ) (phase : LogPhase) → s.log ≡ phase → exit_reader s c phase ≡ Some t → Leaves o s t
by_reader o s t c (built (w ∷ [])) is came = when_holds (Leaves o s) _ _ t came (λ _. (refl, refl, λ _. unhanded o s (built (w ∷ [])) is refl))
by_reader o s t c (built []) is came = absurd (cc)
by_reader o s t c (built (w ∷ v ∷ ws)) is came = absurd (cc)
by_reader o s t c free is came = absurd (cc)
by_reader o s t c (led d) is came = absurd (cc)
by_reader o s t c (in_log ws) is came = absurd (cc)
by_reader o s t c (stalled ws) is came = absurd (cc)
by_reader o s t c (marked ws) is came = absurd (cc)
by_reader o s t c (handed d) is came = absurd (cc)

pub reader_leaves : (o : Options) (s t : State) (c : ℕ) → step o s (e.Exit c) ≡ Some t → table_half_of t ≡ table_half_of s → Leaves o s t
reader_leaves o s t c came same = by_phase s.table refl came
  where
    by_phase : (phase : TablePhase) → s.table ≡ phase → exit o s c phase ≡ Some t → Leaves o s t
    by_phase published is came = by_leader (leads c (table_group o s)) came
      where
        by_leader : (b : Bool) → (if b then Some (record (leave (without_table_group o s) (table_group o s)) { table = still }) else exit_reader s c s.log) ≡ Some t → Leaves o s t
        by_leader true came = absurd (
            let after : record (leave (without_table_group o s) (table_group o s)) { table = still } ≡ t = cc in
            let at_rest : still ≡ t.table = ap (λ (u : State). u.table) after in
            let moved : t.table ≡ s.table = ap (λ (h : TableHalf). h.phase) same in
            let never : still ≡ published = at_rest ∙ (moved ∙ is) in cc)
        by_leader false came = by_reader o s t c s.log refl came
    by_phase still is came = by_reader o s t c s.log refl came
    by_phase (launched ins fin) is came = by_reader o s t c s.log refl came

by_refuse : (o : Options) (s t : State) (c : ℕ) (why : Refusal) (phase : LogPhase) → s.log ≡ phase → refuse s c why phase ≡ Some t → Leaves o s t
by_refuse o s t c why (built ws) is came = when_holds (Leaves o s) _ _ t came (λ _. (refl, refl, λ _. unhanded o s (built ws) is refl))
by_refuse o s t c why free is came = absurd (cc)
by_refuse o s t c why (led d) is came = absurd (cc)
by_refuse o s t c why (in_log ws) is came = absurd (cc)
by_refuse o s t c why (stalled ws) is came = absurd (cc)
by_refuse o s t c why (marked ws) is came = absurd (cc)
by_refuse o s t c why (handed d) is came = absurd (cc)

by_stall : (o : Options) (s t : State) (c : ℕ) (phase : LogPhase) → s.log ≡ phase → stall s c phase ≡ Some t → Leaves o s t
by_stall o s t c (built ws) is came = when_holds (Leaves o s) _ _ t came (λ _. (refl, refl, λ _. unhanded o s (built ws) is refl))
by_stall o s t c free is came = absurd (cc)
by_stall o s t c (led d) is came = absurd (cc)
by_stall o s t c (stalled ws) is came = absurd (cc)
by_stall o s t c (in_log ws) is came = absurd (cc)
by_stall o s t c (marked ws) is came = absurd (cc)
by_stall o s t c (handed d) is came = absurd (cc)

by_unstall : (o : Options) (s t : State) (c : ℕ) (phase : LogPhase) → s.log ≡ phase → unstall s c phase ≡ Some t → Leaves o s t
by_unstall o s t c (stalled ws) is came = when_holds (Leaves o s) _ _ t came (λ _. (refl, refl, λ _. unhanded o s (stalled ws) is refl))
by_unstall o s t c free is came = absurd (cc)
by_unstall o s t c (led d) is came = absurd (cc)
by_unstall o s t c (built ws) is came = absurd (cc)
by_unstall o s t c (in_log ws) is came = absurd (cc)
by_unstall o s t c (marked ws) is came = absurd (cc)
by_unstall o s t c (handed d) is came = absurd (cc)

by_leave : (o : Options) (s t : State) (m : ℕ) (why : Refusal) (phase : LogPhase) → leave_queue s m why phase ≡ Some t → Leaves o s t
by_leave o s t m why (stalled ws) came = by_writer (find (λ (x : Writer). x.client == m) s.queue) came
  where
    by_writer : (w : Option Writer) → leave_with s m why w ≡ Some t → Leaves o s t
    by_writer None came = absurd (cc)
    by_writer (Some w) came = when_holds (Leaves o s) _ (left_queue s m why w) t came (λ _. (refl, refl, λ _. refl))
by_leave o s t m why free came = absurd (cc)
by_leave o s t m why (led d) came = absurd (cc)
by_leave o s t m why (built ws) came = absurd (cc)
by_leave o s t m why (in_log ws) came = absurd (cc)
by_leave o s t m why (marked ws) came = absurd (cc)
by_leave o s t m why (handed d) came = absurd (cc)

by_boundary : (o : Options) (s t : State) (c : ℕ) (phase : LogPhase) → s.log ≡ phase → boundary o s c phase ≡ Some t → Leaves o s t
by_boundary o s t c (in_log ws) is came = when_holds (Leaves o s) _ _ t came (λ b. (
  refl,
  refl,
  λ _. same_group o s s.second [] (λ _. refl)
      (λ one. absurd (let two : false ≡ true = sym one ∙ (and_parts o.pipelined (leads c ws) b).0 in cc)),
))
by_boundary o s t c free is came = absurd (cc)
by_boundary o s t c (led d) is came = absurd (cc)
by_boundary o s t c (built ws) is came = absurd (cc)
by_boundary o s t c (stalled ws) is came = absurd (cc)
by_boundary o s t c (marked ws) is came = absurd (cc)
by_boundary o s t c (handed d) is came = absurd (cc)

by_second : (o : Options) (s t : State) (c : ℕ) (phase : LogPhase) → s.log ≡ phase → to_second s c phase ≡ Some t → Leaves o s t
by_second o s t c (marked ws) is came = when_holds (Leaves o s) _ _ t came (λ _. (
  refl,
  refl,
  λ some. same_group o s (s.second ++ ws ∷ []) []
      (λ two. first s.second (subst (λ b. 0 < length (if b then first_group s.second else in_hand s.log)) two some)) (λ _. sym (ap in_hand is)),
))
  where
    first : (wss : List (List Writer)) → 0 < length (first_group wss) → first_group (wss ++ ws ∷ []) ≡ first_group wss
    first [] some = absurd (omega (arith, some))
    first (vs ∷ wss) some = refl
by_second o s t c free is came = absurd (cc)
by_second o s t c (led d) is came = absurd (cc)
by_second o s t c (built ws) is came = absurd (cc)
by_second o s t c (in_log ws) is came = absurd (cc)
by_second o s t c (stalled ws) is came = absurd (cc)
by_second o s t c (handed d) is came = absurd (cc)

by_next : (o : Options) (s t : State) (c : ℕ) (phase : LogPhase) → s.log ≡ phase → next s c phase ≡ Some t → Leaves o s t
by_next o s t c (handed d) is came = when_holds (Leaves o s) _ _ t came (λ _. (refl, refl, λ _. unhanded o s (handed d) is refl))
by_next o s t c free is came = absurd (cc)
by_next o s t c (led d) is came = absurd (cc)
by_next o s t c (built ws) is came = absurd (cc)
by_next o s t c (in_log ws) is came = absurd (cc)
by_next o s t c (stalled ws) is came = absurd (cc)
by_next o s t c (marked ws) is came = absurd (cc)

pub others_leave : (o : Options) (s t : State) (event : Event) → moves_table event ≡ false → step o s event ≡ Some t → Leaves o s t
others_leave o s t (e.Link c) none came = by_link o s t c came
others_leave o s t (e.Elect c) none came = by_elect o s t c s.log refl came
others_leave o s t (e.Build c) none came = by_build o s t c s.log refl came
others_leave o s t (e.Log c) none came = by_log o s t c s.log refl came
others_leave o s t (e.Fault c) none came = by_fault o s t c s.log refl came
others_leave o s t (e.Refuse c stops delays wait) none came = by_refuse o s t c (no.Incomplete stops delays wait) s.log refl came
others_leave o s t (e.Stall c) none came = by_stall o s t c s.log refl came
others_leave o s t (e.Leave m stops delays) none came = by_leave o s t m (stall_refusal stops delays) s.log came
others_leave o s t (e.Unstall c) none came = by_unstall o s t c s.log refl came
others_leave o s t (e.Boundary c) none came = by_boundary o s t c s.log refl came
others_leave o s t (e.Second c) none came = by_second o s t c s.log refl came
others_leave o s t (e.Next c) none came = by_next o s t c s.log refl came
others_leave o s t (e.Since c) none came = by_since o s t c s.log refl came
others_leave o s t (e.Complete m) none came = by_complete o s t m came
others_leave o s t (e.Read c) none came = by_read o s t c came
others_leave o s t event none came = absurd (cc)
