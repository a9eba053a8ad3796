-- A read keeps the core's law.
use Rattle.std.proofs.Common.{◌≡◌, ℕ, Bool, true, false, Option, Some, None, if◌then◌else◌, refl, ap, sym, ◌∙◌, subst}
use Rattle.model_base.specs.Calls.{Command, Reply}
use Rattle.model_core.specs.Core.{Options, Client, State, client_at, with_client, next_call, after_reply, read_reply}
use Rattle.model_core.specs.Step.{read, read_call, read_with}
use Rattle.model_core.specs.CoreLaw.{IsCore, in_order, waiting_clients}
use Rattle.model_core_laws.proofs.Clients.{still_there, once_after, places}
use Rattle.model_core_laws.proofs.Lists.{all_weaker}
use Rattle.model_core_laws.proofs.Tables.{AddsNobody, keeps, subsequence_self}

-- a client that is idle, and stays so
pub kept_idle : (o : Options) (s : State) (c : ℕ) (old new : Client) → client_at s c ≡ Some old → old.idle ≡ true → new.idle ≡ true → IsCore o s → IsCore o (with_client s c new) × AddsNobody s (with_client s c new)
kept_idle o s c old new is was now core = (
  places o s (with_client s c new).clients s.queue s.leaving
      (once_after s (with_client s c new) c old new is refl (core.once c old is ∙ ap (λ b. if b then 0 else 1) (was ∙ sym now)) (λ n client other at. core.once n client at))
      (all_weaker _ _ (still_there s c old new is) (waiting_clients s) core.clients)
      core.led_is_first core.counted core,
  keeps s (with_client s c new) (subsequence_self (in_order s)) refl refl,
)

pub kept_by_read : (o : Options) (s t : State) (c : ℕ) → IsCore o s → read o s c (client_at s c) ≡ Some t → IsCore o t × AddsNobody s t
kept_by_read o s t c core e = by_client (client_at s c) refl e
  where
    by_reply : (client : Client) → client_at s c ≡ Some client → client.idle ≡ true → (command : Command) (reply : Option Reply) → read_with s c (next_call client).client command reply ≡ Some t → IsCore o t × AddsNobody s t
    by_reply client is idle command None e = absurd (cc)
    by_reply client is idle command (Some reply) e =
        let after : with_client s c (after_reply (next_call client).client command reply) ≡ t = cc in
        subst (λ (x : State). IsCore o x × AddsNobody s x) after (kept_idle o s c client (after_reply (next_call client).client command reply) is idle refl core)

    by_call : (client : Client) → client_at s c ≡ Some client → client.idle ≡ true → (call : Option Command) → read_call o s c (next_call client).client call ≡ Some t → IsCore o t × AddsNobody s t
    by_call client is idle None e = absurd (cc)
    by_call client is idle (Some command) e = by_reply client is idle command (read_reply o s command) e

    by_idle : (client : Client) → client_at s c ≡ Some client → (b : Bool) → client.idle ≡ b → (if b then read_call o s c (next_call client).client (next_call client).call else None) ≡ Some t → IsCore o t × AddsNobody s t
    by_idle client is true idle e = by_call client is idle (next_call client).call e
    by_idle client is false idle e = absurd (cc)

    by_client : (client : Option Client) → client_at s c ≡ client → read o s c client ≡ Some t → IsCore o t × AddsNobody s t
    by_client None is e = absurd (cc)
    by_client (Some client) is e = by_idle client is client.idle refl e
