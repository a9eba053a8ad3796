-- What the events of one client share: this client goes on, and the others wait as before.
use Rattle.std.proofs.Common.{◌≡◌, ℕ, ◌-◌, true, ◌⊎◌, inl, inr, List, [], ◌∷◌, ◌++◌, length, Some, is_some, IsSome, refl, ap, sym, ◌∙◌, subst, append-nil, arith}
use Rattle.std.specs.List.{AllByRecursion}
use Rattle.std.proofs.lemmas.Bool.{cases_eq}
use Rattle.std.proofs.lemmas.List.{length-set}
use Rattle.model_base.specs.History.{Entry}
use Rattle.model_base.specs.Runs.{commands_of}
use Rattle.model_base.specs.Calls.{Command, Reply}
use Rattle.model_core.specs.Core.{Options, Writer, Client, State, client_at, with_client, next_call, after_reply, log_groups}
use Rattle.model_core.specs.CoreLaw.{IsCore, hand, writers_in, waiting_clients}
use Rattle.model_core.specs.Replies.{lines_at}
use Rattle.model_core_laws.proofs.Clients.{replaced, unchanged, still_there}
use Rattle.model_core_laws.proofs.Given.{IsAbsent, absent}
use Rattle.model_core_laws.proofs.Lists.{all_weaker}
use Rattle.model_core_laws.proofs.Ready.{IsReady, asked_push, goes_ahead}
use Rattle.model_core_laws.proofs.Tables.{times, there, there_append, waiting_parts}
use Rattle.model_core_laws.proofs.Told.{HasNoAnswer, Told, Waits, Grows, IsToldSoFar, writers, unanswered, own_same, answer_same, right_more, same_client}

-- one client goes on, and no entry is added
pub record GoesOn (s t : State) (c : ℕ) (old new : Client) : Type 0 where
  pub there : client_at s c ≡ Some old
  pub clients : t.clients ≡ (with_client s c new).clients
  pub entries : t.entries ≡ s.entries
  pub logged : log_groups t ≡ log_groups s
  pub log_failed : t.log_failed ≡ s.log_failed
  pub last : t.last ≡ s.last

abbrev grows : (s t : State) (c : ℕ) (old new : Client) → GoesOn s t c old new → Grows s t
grows s t c old new on = record { new = []; entries = on.entries ∙ sym (append-nil s.entries); logged = ([], append-nil (log_groups s) ∙ sym on.logged); log_failed = λ was. on.log_failed ∙ was; last = let e = on.last in omega arith }

pub the_client : (s t : State) (c : ℕ) (old new : Client) → GoesOn s t c old new → client_at t c ≡ Some new
the_client s t c old new on = same_client (with_client s c new) t on.clients c ∙ replaced s c old new on.there

other_client : (s t : State) (c : ℕ) (old new : Client) → GoesOn s t c old new → (n : ℕ) → (c ≡ n → ⊥) → client_at t n ≡ client_at s n
other_client s t c old new on n other = same_client (with_client s c new) t on.clients n ∙ unchanged s c n old new on.there other

-- the others wait as before
pub others_wait : (o : Options) (plans : List (List Command)) (s t : State) (c : ℕ) (old new : Client) → GoesOn s t c old new → (ws : List Writer) → IsAbsent c ws
    → AllByRecursion (Waits o plans s) ws → AllByRecursion (Waits o plans t) ws
others_wait o plans s t c old new on [] others is = tt
others_wait o plans s t c old new on (w ∷ ws) others is = (
  let a = is.0 in record {
    client = a.client;
    there = other_client s t c old new on w.client others.0 ∙ a.there;
    batch = a.batch;
    passed = a.passed;
    plain = a.plain;
    asked = a.asked;
    answer = answer_same o s t a.client w w.answer (grows s t c old new on) refl a.answer;
  },
  others_wait o plans s t c old new on ws others.1 is.1,
)

pub told_with : (o : Options) (plans : List (List Command)) (s t : State) (c : ℕ) (old new : Client) → GoesOn s t c old new → IsToldSoFar o plans s c new
    → AllByRecursion (Waits o plans t) (writers t) → t.log ≡ s.log → AllByRecursion HasNoAnswer (unanswered t.log t.queue) → Told o plans s → IsCore o t → Told o plans t
told_with o plans s t c old new on here waits log none before core = let more = grows s t c old new on in record {
  core = core;
  count = ap length on.clients ∙ (length-set s.clients (c - 1) new ∙ before.count);
  each = λ n client at. so_far n client (by n client at (cases_eq c n));
  of_clients = rw on.entries (all_weaker (λ (x : Entry). IsSome (client_at s x.client)) (λ (x : Entry). IsSome (client_at t x.client))
      (λ x is. ap is_some (same_client (with_client s c new) t on.clients x.client) ∙ still_there s c old new on.there x.client is) s.entries before.of_clients);
  waits = waits;
  none = none;
  one_kind = rw log before.one_kind;
}
  where
    by : (n : ℕ) (client : Client) → client_at t n ≡ Some client → (c ≡ n) ⊎ (c ≡ n → ⊥) → IsToldSoFar o plans s n client
    by n client at (inl e) =
        let f : client_at t n ≡ Some new = subst (λ m. client_at t m ≡ Some new) e (the_client s t c old new on) in let g : new ≡ client = cc in
        subst (IsToldSoFar o plans s n) g (subst (λ m. IsToldSoFar o plans s m new) e here)
    by n client at (inr other) = before.each n client (sym (other_client s t c old new on n other) ∙ at)

    so_far : (n : ℕ) (client : Client) → IsToldSoFar o plans s n client → IsToldSoFar o plans t n client
    so_far n client is = record {
      added = is.added;
      right = right_more o s t (grows s t c old new on) client.calls is.right;
      seen_published = let e = on.last in let f = is.seen_published in omega arith;
      log_failed = λ knows. on.log_failed ∙ is.log_failed knows;
      asked = is.asked;
      entries = λ idle. own_same n s t (grows s t c old new on) refl ∙ is.entries idle;
    }

-- An idle client on its way to its next call
idle_ready : (o : Options) (plans : List (List Command)) (s : State) (c : ℕ) (client : Client) → client.idle ≡ true → IsToldSoFar o plans s c client → IsReady o s c client.calls client.added
idle_ready o plans s c client idle is = record { batch = is.added; right = is.right; seen_published = is.seen_published; log_failed = is.log_failed; entries = is.entries idle }

pub next_ready : (o : Options) (plans : List (List Command)) (s : State) (c : ℕ) (client : Client) → client.idle ≡ true → IsToldSoFar o plans s c client
    → IsReady o s c (next_call client).client.calls (next_call client).client.added
next_ready o plans s c client idle is = (goes_ahead o s c (commands_of client.calls ++ client.left) client.calls client.added client.left client (idle_ready o plans s c client idle is) refl).ready

pub next_asked : (o : Options) (plans : List (List Command)) (s : State) (c : ℕ) (client : Client) → client.idle ≡ true → IsToldSoFar o plans s c client → (command : Command) → (next_call client).call ≡ Some command
    → (lines : List Command) → lines_at plans c ≡ Some lines → lines ≡ commands_of (next_call client).client.calls ++ command ∷ (next_call client).client.left
next_asked o plans s c client idle is command e lines there = (goes_ahead o s c lines client.calls client.added client.left client (idle_ready o plans s c client idle is) (is.asked idle lines there)).asked command e

-- an idle client waits nowhere
pub idle_absent : (o : Options) (s : State) (c : ℕ) (client : Client) → client_at s c ≡ Some client → client.idle ≡ true → IsCore o s → IsAbsent c (writers s)
idle_absent o s c client is idle core = absent c (writers s)
    (let a = waiting_parts c s in let b : times c (waiting_clients s) ≡ 0 = core.once c client is ∙ rw idle refl in
    let d = there_append c ((writers_in s.second ++ hand s.log) ++ s.queue) s.leaving in let e = there_append c (writers_in s.second ++ hand s.log) s.queue in let f = there_append c (writers_in s.second) (hand s.log) in omega arith)

-- a call that is answered at once
pub answered : (o : Options) (plans : List (List Command)) (s : State) (c : ℕ) (old : Client) (command : Command) (reply : Reply) → client_at s c ≡ Some old → old.idle ≡ true → (next_call old).call ≡ Some command
    → IsReady o s c ((next_call old).client.calls ++ record { command = command; reply = reply } ∷ []) (next_call old).client.added
    → Told o plans s → IsCore o (with_client s c (after_reply (next_call old).client command reply)) → Told o plans (with_client s c (after_reply (next_call old).client command reply))
answered o plans s c old command reply is idle call ready so_far =
    let a = (next_call old).client in let new = after_reply a command reply in let t = with_client s c new in
    let on : GoesOn s t c old new = record { there = is; clients = refl; entries = refl; logged = refl; log_failed = refl; last = refl } in
    told_with o plans s t c old new on
    (record {
      added = ready.batch;
      right = ready.right;
      seen_published = ready.seen_published;
      log_failed = ready.log_failed;
      asked = λ idle_now lines there. next_asked o plans s c old idle (so_far.each c old is) command call lines there ∙ asked_push a.calls (record { command = command; reply = reply }) a.left;
      entries = λ idle_now. ready.entries;
    })
    (others_wait o plans s t c old new on (writers s) (idle_absent o s c old is idle so_far.core) so_far.waits) refl so_far.none so_far
