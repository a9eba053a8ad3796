-- A read keeps what holds of the clients' replies.
use Rattle.std.proofs.Common.{◌≡◌, ℕ, Bool, true, false, if◌then◌else◌, List, [], ◌∷◌, ◌++◌, map, take_while, nat_le, Option, Some, None, MatchOption, refl, ap, ◌∙◌, subst, arith, ◌≤◌}
use Rattle.std.proofs.lemmas.Bool.{lt-leb, le-leb}
use Rattle.std.proofs.lemmas.List.Sums.{take_while-cons}
use Rattle.std.specs.Option.{option_map_or}
use Rattle.model_base.specs.declared.write.Refusal.TheVariants as no
use Rattle.model_base.specs.declared.key.Key.{Key}
use Rattle.model_base.specs.Batch.{Record}
use Rattle.model_base.specs.Map.{Pairs, value_at, rows_within}
use Rattle.model_base.specs.History.{Entry, IsHistory, last_sequence, last_of, map_of}
use Rattle.model_base.specs.Progress.{first_missing}
use Rattle.model_base.specs.Calls.{Command, add, clear, commit, get, many, scan, updates, stop, unstop, slow, unslow, Reply, refused, found, found_each, rows, Call}
use Rattle.model_core.specs.Core.{Options, Client, State, client_at, with_client, next_call, after_reply, if_there, read_reply, published_map}
use Rattle.model_core.specs.Step.{read, read_call, read_with}
use Rattle.model_core.specs.CoreLaw.{IsCore}
use Rattle.model_core.specs.Replies.{seen_with, seen_up_to, is_log_fault, ReadsAt, Gets, GetsMany, Scans, IfThere}
use Rattle.model_core_laws.proofs.Histories.{history_rises, history_front}
use Rattle.model_core_laws.proofs.Ready.{IsReady, ready_push}
use Rattle.model_core_laws.proofs.Told.{Told}
use Rattle.model_core_laws.proofs.ToldByLines.{becomes}
use Rattle.model_core_laws.proofs.ToldByClients.{next_ready, answered}

-- The published map is that of the entries up to the published sequence
some_same : {A : Type 0} {a b : A} → Some a ≡ Some b → a ≡ b
some_same e = cc

up_to_last : (start : ℕ) (front rest : List Entry) (last : ℕ) → IsHistory start (front ++ rest) → last ≡ last_sequence start front → take_while (λ (x : Entry). nat_le (last_of x) last) (front ++ rest) ≡ front
up_to_last start [] [] last history ends = refl
up_to_last start [] (x ∷ rest) last history ends =
    let a = history.0.first in let b = history.0.some in let past : nat_le (last_of x) last ≡ false = lt-leb (last_of x) last (omega (arith, a, b, ends)) in
    take_while-cons (λ (x : Entry). nat_le (last_of x) last) x rest ∙ rw past refl
up_to_last start (x ∷ front) rest last history ends =
    let rises = history_rises (last_of x) front (history_front (last_of x) front rest history.1) in let up_to : nat_le (last_of x) last ≡ true = le-leb (last_of x) last (omega (arith, rises, ends)) in
    take_while-cons (λ (x : Entry). nat_le (last_of x) last) x (front ++ rest) ∙ rw up_to (ap (λ xs. x ∷ xs) (up_to_last (last_of x) front rest last history.1 ends))

published_is : (o : Options) (s : State) (core : IsCore o s) → published_map s ≡ map_of core.front
published_is o s core =
    let b = core.is_boundary in let history : IsHistory o.start (core.front ++ b.rest) = subst (IsHistory o.start) b.split core.is_history in
    ap map_of (ap (take_while (λ (x : Entry). nat_le (last_of x) s.last)) b.split ∙ up_to_last o.start core.front b.rest s.last history b.ends)

reads : (o : Options) (s : State) (c : ℕ) (calls : List Call) (added : List Record) (answers : Pairs → Type 0) → IsCore o s → IsReady o s c calls added → answers (published_map s) → ReadsAt o s calls s.last answers
reads o s c calls added answers core ready answer = record { front = core.front; is_front = core.is_boundary; not_below = ready.seen_published; answer = subst answers (published_is o s core) answer }

-- a read of keys in these families is answered, or refused where there isn't one of them
there_or_not : (o : Options) (named : List ℕ) (answer : Reply) (may : Reply → Type 0) → may answer → IfThere o named (if_there o named answer) (may (if_there o named answer))
there_or_not o named answer may is = by (first_missing o.families named)
  where
    by : (missing : Option ℕ)
        → MatchOption missing (may (option_map_or (λ family. refused (no.NoFamily family)) missing answer)) (λ family. option_map_or (λ family. refused (no.NoFamily family)) missing answer ≡ refused (no.NoFamily family))
    by None = is
    by (Some family) = refl

-- a refusal shows no sequence, and is not for the log's fault
seen_or_not : (o : Options) (named : List ℕ) (answer : Reply) (seen last : ℕ) → seen ≤ last → seen_with seen answer ≤ last → seen_with seen (if_there o named answer) ≤ last
seen_or_not o named answer seen last before after = by (first_missing o.families named)
  where
    by : (missing : Option ℕ) → seen_with seen (option_map_or (λ family. refused (no.NoFamily family)) missing answer) ≤ last
    by None = after
    by (Some family) = before

no_fault_told : (o : Options) (named : List ℕ) (answer : Reply) → is_log_fault answer ≡ false → is_log_fault (if_there o named answer) ≡ false
no_fault_told o named answer none = by (first_missing o.families named)
  where
    by : (missing : Option ℕ) → is_log_fault (option_map_or (λ family. refused (no.NoFamily family)) missing answer) ≡ false
    by None = none
    by (Some family) = refl

read_ready : (o : Options) (s : State) (c : ℕ) (calls : List Call) (added : List Record) (command : Command) (reply : Reply) → read_reply o s command ≡ Some reply → IsCore o s → IsReady o s c calls added
    → IsReady o s c (calls ++ record { command = command; reply = reply } ∷ []) added
read_ready o s c calls added (get key) reply is core ready =
    let named = key.family ∷ [] in
    let answer = found s.last (value_at (published_map s) key) in
    subst (λ reply. IsReady o s c (calls ++ record { command = get key; reply = reply } ∷ []) added) (some_same is)
    (ready_push o s c calls (record { command = get key; reply = if_there o named answer }) added ready.right
    (there_or_not o named answer (Gets o s calls key) (reads o s c calls added (λ m. value_at (published_map s) key ≡ value_at m key) core ready refl)) ready.batch
    (seen_or_not o named answer (seen_up_to calls) s.last ready.seen_published (let a = ready.seen_published in omega arith)) ready.log_failed
    (λ told. absurd (let f = no_fault_told o named answer refl in cc)) ready.entries)
read_ready o s c calls added (many keys) reply is core ready =
    let named = map (λ (k : Key). k.family) keys in
    let answer = found_each s.last (map (value_at (published_map s)) keys) in
    subst (λ reply. IsReady o s c (calls ++ record { command = many keys; reply = reply } ∷ []) added) (some_same is)
    (ready_push o s c calls (record { command = many keys; reply = if_there o named answer }) added ready.right
    (there_or_not o named answer (GetsMany o s calls keys) (reads o s c calls added (λ m. map (value_at (published_map s)) keys ≡ map (value_at m) keys) core ready refl)) ready.batch
    (seen_or_not o named answer (seen_up_to calls) s.last ready.seen_published (let a = ready.seen_published in omega arith)) ready.log_failed
    (λ told. absurd (let f = no_fault_told o named answer refl in cc)) ready.entries)
read_ready o s c calls added (scan family lo hi) reply is core ready =
    let named = family ∷ [] in
    let answer = rows s.last (rows_within family lo hi (published_map s)) in
    subst (λ reply. IsReady o s c (calls ++ record { command = scan family lo hi; reply = reply } ∷ []) added) (some_same is)
    (ready_push o s c calls (record { command = scan family lo hi; reply = if_there o named answer }) added ready.right
    (there_or_not o named answer (Scans o s calls family lo hi) (reads o s c calls added (λ m. rows_within family lo hi (published_map s) ≡ rows_within family lo hi m) core ready refl)) ready.batch
    (seen_or_not o named answer (seen_up_to calls) s.last ready.seen_published (let a = ready.seen_published in omega arith)) ready.log_failed
    (λ told. absurd (let f = no_fault_told o named answer refl in cc)) ready.entries)
read_ready o s c calls added (add r) reply is core ready = absurd (cc)
read_ready o s c calls added clear reply is core ready = absurd (cc)
read_ready o s c calls added (commit how) reply is core ready = absurd (cc)
read_ready o s c calls added (updates n) reply is core ready = absurd (cc)
read_ready o s c calls added stop reply is core ready = absurd (cc)
read_ready o s c calls added unstop reply is core ready = absurd (cc)
read_ready o s c calls added (slow rate) reply is core ready = absurd (cc)
read_ready o s c calls added unslow reply is core ready = absurd (cc)

pub told_by_read : (o : Options) (plans : List (List Command)) (s t : State) (c : ℕ) → Told o plans s → read o s c (client_at s c) ≡ Some t → IsCore o t → Told o plans t
told_by_read o plans s t c so_far e core = by_client (client_at s c) refl e
  where
    by_reply : (old : Client) → client_at s c ≡ Some old → old.idle ≡ true → (command : Command) → (next_call old).call ≡ Some command → (reply : Option Reply) → read_reply o s command ≡ reply
        → read_with s c (next_call old).client command reply ≡ Some t → Told o plans t
    by_reply old is idle command call None none e = absurd (cc)
    by_reply old is idle command call (Some reply) some e =
        let a = (next_call old).client in let ready = next_ready o plans s c old idle (so_far.each c old is) in
        becomes o plans (with_client s c (after_reply a command reply)) t (cc) core (answered o plans s c old command reply is idle call (read_ready o s c a.calls a.added command reply some so_far.core ready) so_far)

    by_call : (old : Client) → client_at s c ≡ Some old → old.idle ≡ true → (call : Option Command) → (next_call old).call ≡ call → read_call o s c (next_call old).client call ≡ Some t → Told o plans t
    by_call old is idle None call e = absurd (cc)
    by_call old is idle (Some command) call e = by_reply old is idle command call (read_reply o s command) refl e

    by_idle : (client : Client) → client_at s c ≡ Some client → (b : Bool) → client.idle ≡ b → (if b then read_call o s c (next_call client).client (next_call client).call else None) ≡ Some t → Told o plans t
    by_idle client is true idle e = by_call client is idle (next_call client).call refl e
    by_idle client is false idle e = absurd (cc)

    by_client : (client : Option Client) → client_at s c ≡ client → read o s c client ≡ Some t → Told o plans t
    by_client None is e = absurd (cc)
    by_client (Some client) is e = by_idle client is client.idle refl e
