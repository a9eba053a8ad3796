-- After every list of events the clients have the replies of a plain map, at points of the one history.
use Rattle.std.proofs.Common.{◌≡◌, ℕ, zero, suc, ◌≤◌, ◌==◌, Bool, true, false, cond, ◌⊎◌, inl, inr, List, [], ◌∷◌, ◌++◌, map, Option, Some, None, slice_get, refl, ap, sym, ◌∙◌, subst, arith}
use Rattle.std.specs.List.{AllByRecursion}
use Rattle.std.proofs.lemmas.Bool.{eqb-true, cond-false}
use Rattle.std.proofs.lemmas.List.{length-map}
use Rattle.model_core.specs.declared.event.Event.{Event}
use Rattle.model_core.specs.declared.event.Event.TheVariants as e
use Rattle.model_base.specs.Outcomes.{entries_of_client}
use Rattle.model_base.specs.Runs.{commands_of}
use Rattle.model_base.specs.Progress.{next_entry, batch_after}
use Rattle.model_base.specs.Calls.{Command, Reply, quiet, accepted, refused, found, found_each, rows, updates_found, read_failed, done, held, not_held, no_memory, Call}
use Rattle.model_core.specs.Core.{Options, Writer, Client, State, opening_state, idle_client, client_at, line_of, command_of}
use Rattle.model_core.specs.Step.{step, replay}
use Rattle.model_core.specs.CoreLaw.{IsCore, hand, writers_in, waiting_clients}
use Rattle.model_core.specs.Replies.{entries_told, AreRight, IsOnItsWay, IsAnswered, lines_at, AreRepliesOf}
use Rattle.model_core_laws.proofs.Kept.{kept, by_events}
use Rattle.model_core_laws.proofs.Opening.{opening}
use Rattle.model_core_laws.proofs.Tables.{times, there, there_append, times_cons, waiting_parts}
use Rattle.model_core_laws.proofs.Told.{Told, Waits, IsAnswer, IsToldSoFar, writers}
use Rattle.model_core_laws.proofs.ToldByLink.{told_by_link}
use Rattle.model_core_laws.proofs.ToldBySince.{told_by_since}
use Rattle.model_core_laws.proofs.ToldByStall.{told_by_stall, told_by_leave, told_by_unstall}
use Rattle.model_core_laws.proofs.ToldByRead.{told_by_read}
use Rattle.model_core_laws.proofs.ToldByComplete.{told_by_complete}
use Rattle.model_core_laws.proofs.ToldByLeaving.{told_by_fault, told_by_refuse}
use Rattle.model_core_laws.proofs.ToldByLines.{told_by_elect, told_by_build, told_by_boundary, told_by_second, told_by_next, told_by_launch, told_by_insert, told_by_finish, told_by_publish, told_by_exit}
use Rattle.model_core_laws.proofs.ToldByLog.{told_by_log}

-- At the opening no client has a reply

no_call_before : (before : List Call) (c : Call) (after : List Call) → [] ≡ before ++ c ∷ after → ⊥
no_call_before [] c after e = cc
no_call_before (b ∷ before) c after e = cc

none_right : (o : Options) (s : State) → AreRight o s []
none_right o s before c after e = absurd (no_call_before before c after e)

opened_client : (o : Options) (plans : List (List Command)) (i : ℕ) (client : Client) → slice_get (map idle_client plans) i ≡ Some client → IsToldSoFar o plans (opening_state o plans) (suc i) client
opened_client o plans i client is = so_far
  where
    opened_at : (all : List (List Command)) (k : ℕ) → slice_get (map idle_client all) k ≡ Some client → (lines : List Command) × (slice_get all k ≡ Some lines) × (idle_client lines ≡ client)
    opened_at [] k is = absurd (cc)
    opened_at (lines ∷ all) zero is = (lines, refl, cc)
    opened_at (lines ∷ all) (suc k) is = opened_at all k is

    so_far : IsToldSoFar o plans (opening_state o plans) (suc i) client
    so_far = let at = opened_at plans i is in subst (IsToldSoFar o plans (opening_state o plans) (suc i)) at.2 (record {
      added = refl;
      right = none_right o (opening_state o plans);
      seen_published = omega arith;
      log_failed = λ knows. absurd (cc);
      asked = λ idle lines there. (let e : lines ≡ at.0 = cc (at.1, there) in e);
      entries = λ idle. refl;
    })

told_at_opening : (o : Options) (plans : List (List Command)) → Told o plans (opening_state o plans)
told_at_opening o plans = record {
  core = opening o plans;
  count = length-map plans idle_client;
  each = each;
  of_clients = tt;
  waits = tt;
  none = tt;
  one_kind = tt;
}
  where
    each : (c : ℕ) (client : Client) → client_at (opening_state o plans) c ≡ Some client → IsToldSoFar o plans (opening_state o plans) c client
    each zero client is = absurd (cc)
    each (suc i) client is = opened_client o plans i client is

-- Each event keeps what is said of the clients' calls

pub told_by_each : (o : Options) (plans : List (List Command)) (s t : State) (event : Event) → Told o plans s → step o s event ≡ Some t → IsCore o t → Told o plans t
told_by_each o plans s t (e.Link c) told is core = told_by_link o plans s t c told is core
told_by_each o plans s t (e.Elect c) told is core = told_by_elect o plans s t c told is core
told_by_each o plans s t (e.Build c) told is core = told_by_build o plans s t c told is core
told_by_each o plans s t (e.Log c) told is core = told_by_log o plans s t c told is core
told_by_each o plans s t (e.Fault c) told is core = told_by_fault o plans s t c told is core
told_by_each o plans s t (e.Refuse c stops delays wait) told is core = told_by_refuse o plans s t c stops delays wait told is core
told_by_each o plans s t (e.Stall c) told is core = told_by_stall o plans s t c told is core
told_by_each o plans s t (e.Leave m stops delays) told is core = told_by_leave o plans s t m stops delays told is core
told_by_each o plans s t (e.Unstall c) told is core = told_by_unstall o plans s t c told is core
told_by_each o plans s t (e.Boundary c) told is core = told_by_boundary o plans s t c told is core
told_by_each o plans s t (e.Second c) told is core = told_by_second o plans s t c told is core
told_by_each o plans s t (e.Next c) told is core = told_by_next o plans s t c told is core
told_by_each o plans s t (e.Launch c) told is core = told_by_launch o plans s t c told is core
told_by_each o plans s t (e.Insert m) told is core = told_by_insert o plans s t m told is core
told_by_each o plans s t (e.Finish m) told is core = told_by_finish o plans s t m told is core
told_by_each o plans s t (e.Publish m) told is core = told_by_publish o plans s t m told is core
told_by_each o plans s t (e.Since c) told is core = told_by_since o plans s t c told is core
told_by_each o plans s t (e.Exit c) told is core = told_by_exit o plans s t c told is core
told_by_each o plans s t (e.Complete m) told is core = told_by_complete o plans s t m told is core
told_by_each o plans s t (e.Read c) told is core = told_by_read o plans s t c told is core

pub told_after : (o : Options) (plans : List (List Command)) (events : List Event) → Told o plans (replay o (opening_state o plans) events).state
told_after o plans events = by_events (Told o plans) o (λ s t event told is. told_by_each o plans s t event told is (kept o s t event told.core is).0) events
    (record { state = opening_state o plans; taken = 0; skipped = 0 }) (told_at_opening o plans)

-- What this says of one client

-- one of these writers is the client's
member_of : (P : Writer → Type 0) (c : ℕ) (ws : List Writer) → 1 ≤ there c ws → AllByRecursion P ws → (w : Writer) × (w.client ≡ c) × P w
member_of P c [] some all = absurd (omega arith)
member_of P c (w ∷ ws) some all = by (w.client == c) refl (member_of P c ws)
  where
    by : (b : Bool) → (w.client == c) ≡ b → (1 ≤ there c ws → AllByRecursion P ws → (v : Writer) × (v.client ≡ c) × P v) → (v : Writer) × (v.client ≡ c) × P v
    by true here later = (w, eqb-true w.client c here, all.0)
    by false other later = later (let e = times_cons c w.client (map (λ (v : Writer). v.client) ws) in let f : cond {A = ℕ} (w.client == c) 1 0 ≡ 0 = cond-false {A = ℕ} (w.client == c) 1 0 other in omega arith) all.1

-- a client's entries, by the answer with which its writer waits
by_answer : (o : Options) (s : State) (c : ℕ) (client : Client) (w : Writer) → client.idle ≡ false → w.client ≡ c → (w.since ≡ None → w.records ≡ batch_after client.calls) → (answer : Option Reply) → IsAnswer o s client w answer
    → (entries_of_client c s.entries ≡ entries_told c client.calls) ⊎ IsOnItsWay s c client (command_of w ∷ client.left)
by_answer o s c client w waits same batch None is = inl (subst (λ c. entries_of_client c s.entries ≡ entries_told c client.calls) same is)
by_answer o s c client w waits same batch (Some (accepted first last records)) is = inr (record {
  waits = waits;
  how = w.options;
  after = client.left;
  next = ap (λ since. line_of w.options since ∷ client.left) is.4;
  first = first;
  entries = subst (λ records. entries_of_client c s.entries ≡ entries_told c client.calls ++ next_entry c (entries_told c client.calls) w.options first records ∷ []) (batch is.4)
      (subst (λ c. entries_of_client c s.entries ≡ entries_told c client.calls ++ next_entry c (entries_told c client.calls) w.options first w.records ∷ []) same is.2);
})
by_answer o s c client w waits same batch (Some (refused why)) is = inl (subst (λ c. entries_of_client c s.entries ≡ entries_told c client.calls) same is.1)
by_answer o s c client w waits same batch (Some quiet) is = absurd is
by_answer o s c client w waits same batch (Some (found at v)) is = absurd is
by_answer o s c client w waits same batch (Some (found_each at vs)) is = absurd is
by_answer o s c client w waits same batch (Some (rows at pairs)) is = absurd is
by_answer o s c client w waits same batch (Some (updates_found at records)) is = inl (subst (λ c. entries_of_client c s.entries ≡ entries_told c client.calls) same is.entries)
by_answer o s c client w waits same batch (Some (read_failed count)) is = absurd is
by_answer o s c client w waits same batch (Some done) is = absurd is
by_answer o s c client w waits same batch (Some held) is = absurd is
by_answer o s c client w waits same batch (Some not_held) is = absurd is
by_answer o s c client w waits same batch (Some no_memory) is = absurd is

-- a client that waits
waiting_answered : (o : Options) (plans : List (List Command)) (s : State) (c : ℕ) (lines : List Command) (client : Client) → lines_at plans c ≡ Some lines → client_at s c ≡ Some client → client.idle ≡ false → Told o plans s
    → IsAnswered o s c lines client
waiting_answered o plans s c lines client at is waits told =
    let a = waiting_parts c s in let b : times c (waiting_clients s) ≡ 1 = told.core.once c client is ∙ rw waits refl in
    let d = there_append c ((writers_in s.second ++ hand s.log) ++ s.queue) s.leaving in let e = there_append c (writers_in s.second ++ hand s.log) s.queue in let f = there_append c (writers_in s.second) (hand s.log) in
    let member = member_of (Waits o plans s) c (writers s) (omega arith) told.waits in let w = member.0 in let wait = member.2 in
    let same : wait.client ≡ client = (let there : client_at s c ≡ Some wait.client = subst (λ c. client_at s c ≡ Some wait.client) member.1 wait.there in cc) in
    let rest : List Command = command_of w ∷ client.left in
    record {
      rest = rest;
      asked = subst (λ (x : Client). lines ≡ commands_of x.calls ++ command_of w ∷ x.left) same (wait.asked lines (subst (λ c. lines_at plans c ≡ Some lines) (sym member.1) at));
      right = (told.each c client is).right;
      seen_published = (told.each c client is).seen_published;
      entries = by_answer o s c client w waits member.1 (λ writes. wait.batch writes ∙ ap (λ (x : Client). batch_after x.calls) same) w.answer (subst (λ (x : Client). IsAnswer o s x w w.answer) same wait.answer);
    }

answered_client : (o : Options) (plans : List (List Command)) (s : State) (c : ℕ) (lines : List Command) (client : Client) → lines_at plans c ≡ Some lines → client_at s c ≡ Some client → Told o plans s → IsAnswered o s c lines client
answered_client o plans s c lines client at is told = by client.idle refl
  where
    by : (b : Bool) → client.idle ≡ b → IsAnswered o s c lines client
    by true idle = let so_far = told.each c client is in record { rest = client.left; asked = so_far.asked idle lines at; right = so_far.right; seen_published = so_far.seen_published; entries = inl (so_far.entries idle) }
    by false waits = waiting_answered o plans s c lines client at is waits told

pub replies : (o : Options) (plans : List (List Command)) (events : List Event) → AreRepliesOf o plans (replay o (opening_state o plans) events).state
replies o plans events = let told = told_after o plans events in
    record { is_history = told.core.is_history; of_clients = told.of_clients; count = told.count; each = λ c lines client at is. answered_client o plans (replay o (opening_state o plans) events).state c lines client at is told }
