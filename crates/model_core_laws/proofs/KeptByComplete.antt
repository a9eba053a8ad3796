-- Completing a write keeps the core's law.
use Rattle.std.proofs.Common.{◌≡◌, ℕ, ◌≤◌, Bool, true, false, not, cond, ◌==◌, List, [], ◌∷◌, map, filter, find, Option, Some, None, if◌then◌else◌, refl, ap, sym, ◌∙◌, subst, arith}
use Rattle.std.proofs.lemmas.Bool.{ne_eqb, eqb-true, cond-true, cond-false}
use Rattle.model_base.specs.Calls.{Reply}
use Rattle.model_core.specs.Core.{Options, Writer, Client, State, client_at, with_client, reply_told}
use Rattle.model_core.specs.Step.{complete, complete_with, after_completion}
use Rattle.model_core.specs.CoreLaw.{IsCore, in_order, waiting_clients}
use Rattle.model_core_laws.proofs.Clients.{still_there, once_after, places}
use Rattle.model_core_laws.proofs.Lists.{all_weaker}
use Rattle.model_core_laws.proofs.Tables.{AddsNobody, all_fewer, keeps, subsequence_self, times, times_cons, there, there_filtered, waiting_parts, waits_once}

-- those that have left, without this client
abbrev pub without : ℕ → List Writer → List Writer
without m ws = filter (λ (x : Writer). not (x.client == m)) ws

pub found_there : (m : ℕ) (ws : List Writer) (w : Writer) → find (λ (x : Writer). x.client == m) ws ≡ Some w → 1 ≤ there m ws
found_there m [] w is = absurd (cc)
found_there m (v ∷ ws) w is = by (v.client == m) refl is (found_there m ws w)
  where
    by : (b : Bool) → (v.client == m) ≡ b → cond b (Some v) (find (λ (x : Writer). x.client == m) ws) ≡ Some w → (find (λ (x : Writer). x.client == m) ws ≡ Some w → 1 ≤ there m ws) → 1 ≤ there m (v ∷ ws)
    by true here e later =
        let a = times_cons m v.client (map (λ (x : Writer). x.client) ws) in
        let b : cond {A = ℕ} (v.client == m) 1 0 ≡ 1 = cond-true {A = ℕ} (v.client == m) 1 0 here in
        omega arith
    by false here e later = let a = times_cons m v.client (map (λ (x : Writer). x.client) ws) in let b = later e in omega arith

pub none_without : (m : ℕ) (ws : List Writer) → there m (without m ws) ≡ 0
none_without m [] = refl
none_without m (w ∷ ws) = by (w.client == m) refl (none_without m ws)
  where
    by : (b : Bool) → (w.client == m) ≡ b → there m (without m ws) ≡ 0 → there m (cond (not b) (w ∷ without m ws) (without m ws)) ≡ 0
    by true here later = later
    by false here later =
        let a = times_cons m w.client (map (λ (x : Writer). x.client) (without m ws)) in
        let b : cond {A = ℕ} (w.client == m) 1 0 ≡ 0 = cond-false {A = ℕ} (w.client == m) 1 0 here in
        omega arith

pub others_without : (m n : ℕ) (ws : List Writer) → (m ≡ n → ⊥) → there n (without m ws) ≡ there n ws
others_without m n [] apart = refl
others_without m n (w ∷ ws) apart = by (w.client == m) refl (others_without m n ws apart)
  where
    by : (b : Bool) → (w.client == m) ≡ b → there n (without m ws) ≡ there n ws → there n (cond (not b) (w ∷ without m ws) (without m ws)) ≡ there n (w ∷ ws)
    by true here later =
        let a = times_cons n w.client (map (λ (x : Writer). x.client) ws) in
        let b : cond {A = ℕ} (w.client == n) 1 0 ≡ 0 = cond-false {A = ℕ} (w.client == n) 1 0 (ne_eqb w.client n (λ e. apart (sym (eqb-true w.client m here) ∙ e))) in
        omega arith
    by false here later =
        let a = times_cons n w.client (map (λ (x : Writer). x.client) ws) in
        let b = times_cons n w.client (map (λ (x : Writer). x.client) (without m ws)) in
        omega arith

module _ (o : Options) (s : State) (m : ℕ) (old new : Client) (w : Writer) (is : client_at s m ≡ Some old) (idle : new.idle ≡ true) (left : find (λ (x : Writer). x.client == m) s.leaving ≡ Some w) (core : IsCore o s) where
  abbrev after : State
  after = record (with_client s m new) { leaving = without m s.leaving }

  none_now : times m (waiting_clients after) ≡ 0
  none_now =
      let a = waiting_parts m after in
      let b = waiting_parts m s in
      let d = waits_once o s m core in
      let e = found_there m s.leaving w left in
      let f = none_without m s.leaving in
      omega arith

  others : (n : ℕ) (other : Client) → (m ≡ n → ⊥) → client_at s n ≡ Some other → times n (waiting_clients after) ≡ (if other.idle then 0 else 1)
  others n other apart at = same ∙ core.once n other at
    where
      same : times n (waiting_clients after) ≡ times n (waiting_clients s)
      same = let a = waiting_parts n after in let b = waiting_parts n s in let d = others_without m n s.leaving apart in omega arith

  fewer : (n : ℕ) → times n (waiting_clients after) ≤ times n (waiting_clients s)
  fewer n = let a = waiting_parts n after in let b = waiting_parts n s in let d = there_filtered n (λ (x : Writer). not (x.client == m)) s.leaving in omega arith

  completing : IsCore o after × AddsNobody s after
  completing = (
    places o s (with_client s m new).clients s.queue (without m s.leaving)
        (once_after s after m old new is refl (none_now ∙ sym (ap (λ b. if b then 0 else 1) idle)) others)
        (all_fewer _ (waiting_clients s) (waiting_clients after) fewer (all_weaker _ _ (still_there s m old new is) (waiting_clients s) core.clients))
        core.led_is_first core.counted core,
    keeps s after (subsequence_self (in_order s)) refl refl,
  )

pub kept_by_complete : (o : Options) (s t : State) (m : ℕ) → IsCore o s → complete s m (find (λ (w : Writer). w.client == m) s.leaving) ≡ Some t → IsCore o t × AddsNobody s t
kept_by_complete o s t m core e = by_writer (find (λ (w : Writer). w.client == m) s.leaving) refl e
  where
    by_client : (w : Writer) → find (λ (x : Writer). x.client == m) s.leaving ≡ Some w → (client : Option Client) → client_at s m ≡ client → (reply : Option Reply) → complete_with s m client w reply ≡ Some t → IsCore o t × AddsNobody s t
    by_client w left (Some client) is (Some reply) e =
        let done : record (with_client s m (after_completion client w (reply_told s w.since reply))) { leaving = without m s.leaving } ≡ t = cc in
        subst (λ (x : State). IsCore o x × AddsNobody s x) done (completing o s m client (after_completion client w (reply_told s w.since reply)) w is refl left core)
    by_client w left (Some client) is None e = absurd (cc)
    by_client w left None is reply e = absurd (cc)

    by_writer : (w : Option Writer) → find (λ (x : Writer). x.client == m) s.leaving ≡ w → complete s m w ≡ Some t → IsCore o t × AddsNobody s t
    by_writer None left e = absurd (cc)
    by_writer (Some w) left e = by_client w left (client_at s m) refl w.answer e
