-- Those that are refused while a leader stalls writes.
use Rattle.std.proofs.Common.{◌≡◌, ℕ, ◌==◌, Bool, true, false, not, cond, List, [], ◌∷◌, ◌++◌, map, find, Option, Some, None, if◌then◌else◌, refl, ap, sym, ◌∙◌, subst, arith}
use Rattle.std.specs.List.{AllByRecursion}
use Rattle.std.proofs.lemmas.Bool.{cond-true, cond-false}
use Rattle.std.proofs.lemmas.List.Elements.{filter-append}
use Rattle.model_core.specs.declared.event.Event.{Event}
use Rattle.model_core.specs.declared.event.Event.TheVariants as e
use Rattle.model_base.specs.declared.write.Refusal.{Refusal}
use Rattle.model_base.specs.declared.write.WriteOptions.{WriteOptions}
use Rattle.model_base.specs.Outcomes.{entries_of_client}
use Rattle.model_base.specs.Calls.{Command, commit, refused}
use Rattle.model_core.specs.Core.{Options, Writer, Client, State, stalled, client_at, with_client, next_call, after_reply, refusal_of, refusal_in, may_link, stall_refusal}
use Rattle.model_core.specs.Step.{step, link, link_call, link_with, left_queue, state_after}
use Rattle.model_core.specs.CoreLaw.{IsCore, in_order, hand, writers_in}
use Rattle.model_core.specs.Replies.{entries_told}
use Rattle.model_core_laws.specs.Stalls.{line_without, HasNoMore}
use Rattle.model_core_laws.proofs.Answered.{told_by_each, told_after}
use Rattle.model_core_laws.proofs.Clients.{replaced}
use Rattle.model_core_laws.proofs.EachHalf.{list_step}
use Rattle.model_core_laws.proofs.Kept.{kept}
use Rattle.model_core_laws.proofs.KeptByComplete.{without, found_there}
use Rattle.model_core_laws.proofs.KeptByLeaving.{client_of, order_parts}
use Rattle.model_core_laws.proofs.KeptByStall.{found_client}
use Rattle.model_core_laws.proofs.Lists.{all_back}
use Rattle.model_core_laws.proofs.Tables.{times, times_append, times_cons, waiting_parts, waits_once, when_some}
use Rattle.model_core_laws.proofs.Told.{Told, Waits}

-- A link

-- it changes no more than its client, which waits for nothing
record IsRefused (s t : State) (c : ℕ) : Type 0 where
  pub old : Client
  pub there : client_at s c ≡ Some old
  pub new : Client
  pub idle : new.idle ≡ true
  pub after : with_client s c new ≡ t

refused_link : (o : Options) (s t : State) (c : ℕ) (ws : List Writer) → s.log ≡ stalled ws → link o s c (client_at s c) ≡ Some t → IsRefused s t c
refused_link o s t c ws is came = by_client (client_at s c) refl came
  where
    by_refusal : (old : Client) → client_at s c ≡ Some old → (client : Client) (how : WriteOptions) (why : Option Refusal) → may_link s.log why ≡ true → link_with o s c client how why ≡ t → IsRefused s t c
    by_refusal old at client how (Some why) may after = record { old = old; there = at; new = after_reply client (commit how) (refused why); idle = refl; after = after }
    by_refusal old at client how None may after = absurd (let never : may_link (stalled ws) None ≡ true = subst (λ log. may_link log None ≡ true) is may in cc)

    by_call : (old : Client) → client_at s c ≡ Some old → (client : Client) (call : Option Command) → link_call o s c client call ≡ Some t → IsRefused s t c
    by_call old at client (Some (commit how)) came =
        let why = refusal_in s.log how (refusal_of o how client.added) in
        let h = when_some (may_link s.log why) (link_with o s c client how why) t came in
        by_refusal old at client how why h.0 h.1
    by_call old at client (Some other) came = absurd (cc)
    by_call old at client None came = absurd (cc)

    by_idle : (old : Client) → client_at s c ≡ Some old → (b : Bool) → (if b then link_call o s c (next_call old).client (next_call old).call else None) ≡ Some t → IsRefused s t c
    by_idle old at true came = by_call old at (next_call old).client (next_call old).call came
    by_idle old at false came = absurd (cc)

    by_client : (client : Option Client) → client_at s c ≡ client → link o s c client ≡ Some t → IsRefused s t c
    by_client None at came = absurd (cc)
    by_client (Some old) at came = by_idle old at old.idle came

pub nobody_comes : (o : Options) (s t : State) (ws : List Writer) (c : ℕ) → s.log ≡ stalled ws → step o s (e.Link c) ≡ Some t → in_order t ≡ in_order s
nobody_comes o s t ws c is came = let refusal = refused_link o s t c ws is came in subst (λ (u : State). in_order u ≡ in_order s) refusal.after refl

-- what the clients were told before an event, they were told after it
told_next : (o : Options) (plans : List (List Command)) (events : List Event) (t : State) (event : Event) → step o (state_after o plans events) event ≡ Some t → Told o plans t
told_next o plans events t event came =
    let told = told_after o plans events in
    told_by_each o plans (state_after o plans events) t event told came (kept o (state_after o plans events) t event told.core came).0

pub no_more_by_link : (o : Options) (plans : List (List Command)) (events : List Event) (t : State) (ws : List Writer) (c : ℕ) → (state_after o plans events).log ≡ stalled ws → step o (state_after o plans events) (e.Link c) ≡ Some t → HasNoMore t c
no_more_by_link o plans events t ws c is came client at =
    let s : State = state_after o plans events in
    let refusal = refused_link o s t c ws is came in
    let there : client_at t c ≡ Some refusal.new = subst (λ (u : State). client_at u c ≡ Some refusal.new) refusal.after (replaced s c refusal.old refusal.new refusal.there) in
    let same : refusal.new ≡ client = cc in
    (Told.each (told_next o plans events t (e.Link c) came) c client at).entries (ap (λ (x : Client). x.idle) (sym same) ∙ refusal.idle)

-- A writer that leaves

none_taken : (m : ℕ) (ns : List ℕ) → times m ns ≡ 0 → line_without m ns ≡ ns
none_taken m [] none = refl
none_taken m (n ∷ ns) none = by (n == m) refl (none_taken m ns)
  where
    by : (b : Bool) → (n == m) ≡ b → (times m ns ≡ 0 → line_without m ns ≡ ns) → cond (not b) (n ∷ line_without m ns) (line_without m ns) ≡ n ∷ ns
    by true here later = absurd (let a = times_cons m n ns in let b : cond {A = ℕ} (n == m) 1 0 ≡ 1 = cond-true {A = ℕ} (n == m) 1 0 here in omega arith)
    by false here later = ap (λ rest. n ∷ rest) (later (let a = times_cons m n ns in let b : cond {A = ℕ} (n == m) 1 0 ≡ 0 = cond-false {A = ℕ} (n == m) 1 0 here in omega arith))

clients_without : (m : ℕ) (ws : List Writer) → line_without m (map client_of ws) ≡ map client_of (without m ws)
clients_without m [] = refl
clients_without m (w ∷ ws) = by (w.client == m) (clients_without m ws)
  where
    by : (b : Bool) → line_without m (map client_of ws) ≡ map client_of (without m ws) → cond (not b) (w.client ∷ line_without m (map client_of ws)) (line_without m (map client_of ws)) ≡ map client_of (cond (not b) (w ∷ without m ws) (without m ws))
    by true later = later
    by false later = ap (λ rest. w.client ∷ rest) later

-- it was in the queue alone, and so it is nowhere in line now
line_left : (o : Options) (s : State) (m : ℕ) (why : Refusal) (w : Writer) → find (λ (x : Writer). x.client == m) s.queue ≡ Some w → IsCore o s → in_order (left_queue s m why w) ≡ line_without m (in_order s)
line_left o s m why w found core =
    let second : List ℕ = map client_of (writers_in s.second) in
    let held : List ℕ = map client_of (hand s.log) in
    let queue : List ℕ = map client_of s.queue in
    let now : in_order (left_queue s m why w) ≡ (second ++ held) ++ map client_of (without m s.queue) = order_parts (left_queue s m why w) in
    let none : times m (second ++ held) ≡ 0 = (let a = waiting_parts m s in let b = waits_once o s m core in let c = found_there m s.queue w found in let d = times_append m second held in omega arith) in
    now
    ∙ (ap (λ rest. (second ++ held) ++ rest) (sym (clients_without m s.queue))
    ∙ (ap (λ front. front ++ line_without m queue) (sym (none_taken m (second ++ held) none))
    ∙ (sym (filter-append (λ n. not (n == m)) (second ++ held) queue)
    ∙ ap (line_without m) (sym (order_parts s)))))

pub one_leaves : (o : Options) (s t : State) (m stops delays : ℕ) → IsCore o s → step o s (e.Leave m stops delays) ≡ Some t → in_order t ≡ line_without m (in_order s)
one_leaves o s t m stops delays core came =
    let h = list_step o s t (e.Leave m stops delays) came in
    ap (λ half. map client_of (writers_in half.second ++ hand half.log ++ half.queue)) h.5 ∙ line_left o s m (stall_refusal stops delays) h.1 h.3 core

pub no_more_by_leave : (o : Options) (plans : List (List Command)) (events : List Event) (t : State) (m stops delays : ℕ) → step o (state_after o plans events) (e.Leave m stops delays) ≡ Some t → HasNoMore t m
no_more_by_leave o plans events t m stops delays came =
    let s : State = state_after o plans events in
    let told = told_next o plans events t (e.Leave m stops delays) came in
    let h = list_step o s t (e.Leave m stops delays) came in
    let left : Writer = record h.1 { answer = Some (refused (stall_refusal stops delays)) } in
    let leaving : t.leaving ≡ s.leaving ++ left ∷ [] = ap (λ half. half.leaving) h.5 in
    let waits : Waits o plans t left = (all_back (Waits o plans t) s.leaving (left ∷ []) (subst (AllByRecursion (Waits o plans t)) leaving
    (all_back (Waits o plans t) ((writers_in t.second ++ hand t.log) ++ t.queue) t.leaving told.waits))).0 in
    subst (HasNoMore t) (found_client m s.queue h.1 h.3) (λ client at.
    let same : waits.client ≡ client = (let there = waits.there in cc) in
    subst (λ (x : Client). entries_of_client left.client t.entries ≡ entries_told left.client x.calls) same waits.answer.1)
