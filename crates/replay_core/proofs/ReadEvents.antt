-- Which lines are reads, and how they are answered.
use Rattle.std.proofs.Common.{◌≡◌, ◌⊎◌, inl, inr, ℕ, zero, suc, ◌+◌, ◌-◌, ◌<◌, ◌≤◌, true, false, List, length, map, slice_get, slice_set, Option, Some, None, refl, sym, ap, ◌∙◌, subst, arith}
use Rattle.std.proofs.lemmas.List.{length-drop}
use Rattle.std.specs.Prelude.{if◌then◌else◌}
use Rattle.std.proofs.lemmas.Option.{slice_get_past}
use Rattle.std.specs.Option.{option_map_or}
use Rattle.model_base.specs.declared.write.Refusal.TheVariants.{NoFamily}
use Rattle.model_base.specs.Map.{value_at, rows_within}
use Rattle.model_base.specs.Progress.{first_missing}
use Rattle.model_base.specs.Calls.{Command, get, many, scan, Reply, refused, found, found_each, rows}
use Rattle.model_core.specs.Core as core
use Rattle.model_core.specs.Step as event
use Rattle.replay_core.specs.declared.writer.CoreReply.TheVariants.{ReadAt}
use Rattle.replay_plans.specs.declared.plan.ClientPlan.{ClientPlan}
use Rattle.replay_core.specs.declared.state.Seat.{Seat}
use Rattle.replay_plans.specs.declared.ahead.Ahead.{Ahead}
use Rattle.replay_core.proofs.ClientLemmas.{lines_fewer}
use Rattle.replay_core.specs.Mirrors.{IsClient, lines_left}
use Rattle.replay_plans.specs.Answers.{is_answer}
use Rattle.replay_core.specs.Replies.{IsReply, reply_at}
use Rattle.replay_plans.specs.Ahead.{is_read, read_families, IsAhead}

pub not_read : (o : core.Options) (s : core.State) (c : ℕ) (client : core.Client) (line : Option Command) → option_map_or is_read line false ≡ false → event.read_call o s c client line ≡ None
not_read o s c client None e = refl
not_read o s c client (Some (get key)) e = absurd (cc e)
not_read o s c client (Some (many keys)) e = absurd (cc e)
not_read o s c client (Some (scan family lo hi)) e = absurd (cc e)
not_read o s c client (Some other) e = refl

-- a read and its answer
pub record IsRead (o : core.Options) (s : core.State) (line : Option Command) : Type 0 where
  pub command : Command
  pub reply : Reply
  pub is_line : line ≡ Some command
  pub answered : core.read_reply o s command ≡ Some reply
  pub loud : is_answer reply ≡ Some reply
  pub at : IsReply (reply_at s.last (first_missing o.families (read_families command))) reply

-- an answer, or the refusal for a family
if_missing : (n : ℕ) (missing : Option ℕ) (reply : Reply) → is_answer reply ≡ Some reply → IsReply (ReadAt n) reply
    → (is_answer (option_map_or (λ family. refused (NoFamily family)) missing reply) ≡ Some (option_map_or (λ family. refused (NoFamily family)) missing reply))
    × IsReply (reply_at n missing) (option_map_or (λ family. refused (NoFamily family)) missing reply)
if_missing n None reply loud at = (loud, at)
if_missing n (Some family) reply loud at = (refl, refl)

pub read_is : (o : core.Options) (s : core.State) (line : Option Command) → option_map_or is_read line false ≡ true → IsRead o s line
read_is o s None e = cc
read_is o s (Some (get key)) e =
    let reply = if_missing s.last (first_missing o.families (read_families (get key))) (found s.last (value_at (core.published_map s) key)) refl refl in
    record { command = get key; reply = _; is_line = refl; answered = refl; loud = reply.0; at = reply.1 }
read_is o s (Some (many keys)) e =
    let reply = if_missing s.last (first_missing o.families (read_families (many keys))) (found_each s.last (map (value_at (core.published_map s)) keys)) refl refl in
    record { command = many keys; reply = _; is_line = refl; answered = refl; loud = reply.0; at = reply.1 }
read_is o s (Some (scan family lo hi)) e =
    let reply = if_missing s.last (first_missing o.families (read_families (scan family lo hi))) (rows s.last (rows_within family lo hi (core.published_map s))) refl refl in
    record { command = scan family lo hi; reply = _; is_line = refl; answered = refl; loud = reply.0; at = reply.1 }
read_is o s (Some other) e = absurd (cc e)

-- after its call a client has fewer lines left
pub fewer_left : (plan : ClientPlan) (seat : Seat) (client : core.Client) (a : Ahead) (v : core.Ahead) → IsClient plan seat client → IsAhead plan seat.next a client.calls client v → a.call < length plan
    → length v.client.left + 1 ≤ length client.left
fewer_left plan seat client a v is ahead there =
    let old : length client.left ≡ length plan - seat.next = ap length is.left ∙ length-drop seat.next plan in
    let new : length v.client.left ≡ length plan - a.next = ap length ahead.left ∙ length-drop a.next plan in
    omega (arith, old, new, ahead.goes_on there, ahead.onward)

pub lines_after : (clients : List core.Client) (i j : ℕ) (old new : core.Client) → j ≡ i → i < length clients → slice_get clients i ≡ Some old → length new.left + 1 ≤ length old.left → lines_left (slice_set clients j new) ≤ lines_left clients
lines_after clients i j old new e h there fewer =
    let P : ℕ → Type 0 = λ k. lines_left (slice_set clients k new) ≤ lines_left clients in
    subst P (sym e) (lines_fewer clients i old new h there (omega arith))

pub more_room : (a left less cap : ℕ) → a + left ≤ cap → less ≤ left → a + less ≤ cap
more_room a left less cap h k = omega arith

-- a number that no client has
pub nobody_at : (s : core.State) (n c : ℕ) → length s.clients ≡ n → (c ≡ 0) ⊎ (n < c) → core.client_at s c ≡ None
nobody_at s n zero e h = refl
nobody_at s n (suc c) e (inl z) = absurd (omega arith)
nobody_at s n (suc c) e (inr lt) = slice_get_past s.clients c (omega arith)

-- a client that waits can't read
pub read_waits : (o : core.Options) (s : core.State) (c : ℕ) (client : core.Client) → core.client_at s c ≡ Some client → client.idle ≡ false → event.read o s c (core.client_at s c) ≡ None
read_waits o s c client there busy =
    ap (event.read o s c) there ∙ ap (λ b. if b then event.read_call o s c (core.next_call client).client (core.next_call client).call else None) busy

-- the client after its read, with this seat
pub record Answered (o : core.Options) (s : core.State) (c : ℕ) (client : core.Client) (plan : ClientPlan) (seat : Seat) (line : Option Command) : Type 0 where
  pub new : core.Client
  pub comes : event.read o s c (core.client_at s c) ≡ Some (core.with_client s c new)
  pub is : IsClient plan seat new
  pub left : new.left ≡ (core.next_call client).client.left
  pub command : Command
  pub there : line ≡ Some command

pub read_answered : (o : core.Options) (s : core.State) (c n : ℕ) (client : core.Client) (plan : ClientPlan) (seat : Seat) (line : Option Command) → option_map_or is_read line false ≡ true → s.last ≡ n
    → core.client_at s c ≡ Some client → client.idle ≡ true → (core.next_call client).call ≡ line
    → ((command : Command) (reply : Reply) → line ≡ Some command → IsReply (reply_at n (first_missing o.families (read_families command))) reply → is_answer reply ≡ Some reply → IsClient plan seat (core.after_reply (core.next_call client).client command reply))
    → Answered o s c client plan seat line
read_answered o s c n client plan seat line reads last there idle call told =
    let read : IsRead o s line = read_is o s line reads in
    let P : ℕ → Type 0 = λ k. IsReply (reply_at k (first_missing o.families (read_families read.command))) read.reply in
    record {
      new = core.after_reply (core.next_call client).client read.command read.reply;
      comes = ap (event.read o s c) there ∙ ap (λ b. if b then event.read_call o s c (core.next_call client).client (core.next_call client).call else None) idle
          ∙ ap (event.read_call o s c (core.next_call client).client) (call ∙ read.is_line)
          ∙ ap (event.read_with s c (core.next_call client).client read.command) read.answered;
      is = told read.command read.reply read.is_line (subst P last read.at) read.loud;
      left = refl;
      command = read.command;
      there = read.is_line;
    }

-- a client whose next call is no read
pub read_passed : (o : core.Options) (s : core.State) (c : ℕ) (client : core.Client) (line : Option Command) → core.client_at s c ≡ Some client → client.idle ≡ true → (core.next_call client).call ≡ line
    → option_map_or is_read line false ≡ false → event.read o s c (core.client_at s c) ≡ None
read_passed o s c client line there idle call e =
    ap (event.read o s c) there ∙ ap (λ b. if b then event.read_call o s c (core.next_call client).client (core.next_call client).call else None) idle
    ∙ ap (event.read_call o s c (core.next_call client).client) call ∙ not_read o s c (core.next_call client).client line e

-- a proof from a value of which only its type is known
pub from_any : {A P : Type 0} → A → ((x : A) → P) → P
from_any x proof = proof x
