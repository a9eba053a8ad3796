-- From how a state is kept to what it shows, and back.
use Rattle.std.proofs.Common.{◌≡◌, ℕ, zero, suc, ◌<◌, Bool, List, [], ◌∷◌, length, slice_get, Option, Some, None, sym, ◌∙◌, subst, arith}
use Rattle.model_core.specs.declared.event.Event.{Event}
use Rattle.model_core.specs.Core as core
use Rattle.model_core.specs.Step.{step}
use Rattle.replay_core.specs.declared.state.State.{State}
use Rattle.replay_core.specs.Mirrors.{Mirrors, MirrorsStep, IsClient}
use Rattle.replay_core.specs.Shows.{Shows, ShowsStep, Takes, AreAlike, AreAlikeClients}
use Rattle.replay_core.specs.Steps.{Steps}
use Rattle.replay_core.proofs.ClientLemmas.{get_some}

pub shows : (r : State) (o : core.Options) (s : core.State) → Mirrors o r s → Shows r o s
unfolding Shows
shows r o s m = m

pub mirrors : (r : State) (o : core.Options) (s : core.State) → Shows r o s → Mirrors o r s
unfolding Shows
mirrors r o s h = h

shows_step : (v : Option core.State) (o : core.Options) (s : core.State) (came : Bool) (new : State) → MirrorsStep v o s came new → ShowsStep v o s came new
shows_step None o s came new h = (h.0, shows new o s h.1)
shows_step (Some t) o s came new h = (h.0, shows new o t h.1)

-- an event is taken by its own method
pub takes : (event e : Event) (old new : State) (came : Bool) → event ≡ e → Steps (λ o s. step o s e) old came new → Takes event old came new
takes event e old new came is steps = λ o s is_core shown.
    let P : Event → Type 0 = λ x. ShowsStep (step o s x) o s came new in
    subst P (sym is) (shows_step (step o s e) o s came new (steps o s is_core (mirrors old o s shown)))

pub alike : (r : State) (o p : core.Options) (s t : core.State) → Shows r o s → Shows r p t → AreAlike s t
alike r o p s t h k = by_fields (mirrors r o s h) (mirrors r p t k)
  where
    by_client : Mirrors o r s → Mirrors p r t → (c : ℕ) (a b : core.Client) → core.client_at s c ≡ Some a → core.client_at t c ≡ Some b → AreAlikeClients a b
    by_client m n zero a b e f = cc
    by_client m n (suc i) a b e f =
        let within : i < length s.clients = some_within s.clients i a e in
        let plan = get_some r.plans.items i (omega (arith, within, m.clients.plan_each)) in
        let seat = get_some r.seats.items i (omega (arith, within, m.clients.seat_each)) in
        let first : IsClient plan.0 seat.0 a = m.clients.each i plan.0 seat.0 a plan.1 seat.1 e in
        let second : IsClient plan.0 seat.0 b = n.clients.each i plan.0 seat.0 b plan.1 seat.1 f in
        record {
          left = first.left ∙ sym second.left;
          added = first.added ∙ sym second.added;
          idle = first.idle ∙ sym second.idle;
          told = seat.0.replies.items;
          told_first = first.replies;
          told_second = second.replies;
        }
      where
        some_within : {A : Type 0} (xs : List A) (i : ℕ) (x : A) → slice_get xs i ≡ Some x → i < length xs
        some_within [] i x e = cc
        some_within (y ∷ xs) zero x e = omega arith
        some_within (y ∷ xs) (suc i) x e = let h = some_within xs i x e in omega (arith, h)

    by_fields : Mirrors o r s → Mirrors p r t → AreAlike s t
    by_fields m n = record {
      clients = sym m.clients.plan_each ∙ n.clients.plan_each;
      client_each = by_client m n;
      queue = m.line.queue ∙ sym n.line.queue;
      log = m.line.hand ∙ sym n.line.hand;
      second = m.line.second_groups ∙ sym n.line.second_groups;
      leaving = λ c. m.leaving c ∙ sym (n.leaving c);
      groups = m.groups ∙ sym n.groups;
      entries = m.entries ∙ sym n.entries;
      assigned = m.assigned ∙ sym n.assigned;
      log_failed = m.log_failed ∙ sym n.log_failed;
      last = m.last ∙ sym n.last;
    }
