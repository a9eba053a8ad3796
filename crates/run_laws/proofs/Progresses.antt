-- A client's progress after a call: what its batch, its accepted batches and its attempts are then.
use Rattle.std.proofs.Common.{◌≡◌, ℕ, List, [], ◌∷◌, ◌++◌, map, Option, Some, None, MatchOption, refl, sym, ap, ◌∙◌, subst, append-nil, append_assoc}
use Rattle.std.specs.List.{AllByRecursion}
use Rattle.model_base.specs.declared.write.WriteOptions.{WriteOptions}
use Rattle.model_base.specs.declared.key.Key.{Key}
use Rattle.model_base.specs.declared.write.Refusal.{Refusal}
use Rattle.model_base.specs.declared.write.Refusal.TheVariants as no
use Rattle.model_base.specs.Batch.{Record}
use Rattle.model_base.specs.Map.{Pairs}
use Rattle.model_base.specs.History.{Entry}
use Rattle.model_base.specs.Controller.{Action}
use Rattle.model_base.specs.Attempts.{Fate, succeeded, fate_at, with_attempt}
use Rattle.model_base.specs.Trace.{Trace, Settings}
use Rattle.model_base.specs.Progress.{Progress, fresh, next_entry, first_missing, early_refusal}
use Rattle.model_base.specs.Tokens.{holds_stop}
use Rattle.model_base.specs.Runs.{Run, commands_of, IsTranscript, whole, cut_off}
use Rattle.model_base.specs.Replies.{Adds, Clears, Stays, IsAttempted, ReadsAt, Gets, GetsMany, Scans, Updates, IsDone, Stops, Unstops, Slows, Unslows, Replies}
use Rattle.model_base.specs.Calls.{Command, add, clear, commit, get, many, scan, updates, stop, unstop, slow, unslow, Reply, quiet, accepted, refused, found, found_each, rows, updates_found, read_failed, done, held, not_held, no_memory, Call}
use Rattle.run_laws.proofs.Lists.{all_front, all_both}

-- what a call may change of the client's batch, accepted batches and attempts
pub data Moves (client : ℕ) (p : Progress) (command : Command) (q : Progress) : Type 0 where
  stays : q.pending ≡ p.pending → q.mine ≡ p.mine → q.attempts ≡ p.attempts → Moves client p command q
  adds : (r : Record) → command ≡ add r → q.pending ≡ p.pending ++ r ∷ [] → q.mine ≡ p.mine → q.attempts ≡ p.attempts → Moves client p command q
  clears : q.pending ≡ [] → q.mine ≡ p.mine → q.attempts ≡ p.attempts → Moves client p command q
  accepts : (how : WriteOptions) (first place decided : ℕ) → q.pending ≡ [] → q.mine ≡ p.mine ++ next_entry client p.mine how first p.pending ∷ []
      → q.attempts ≡ with_attempt p.attempts p.pending how (fate_at place decided succeeded) → Moves client p command q
  refuses : (how : WriteOptions) (fate : Option Fate) → q.pending ≡ p.pending → q.mine ≡ p.mine
      → q.attempts ≡ with_attempt p.attempts p.pending how fate → Moves client p command q

module _ (client : ℕ) (p : Progress) (command : Command) (q : Progress) where
  same : Stays p q → Moves client p command q
  same e = stays (ap (λ (x : Progress). x.pending) e) (ap (λ (x : Progress). x.mine) e) (ap (λ (x : Progress). x.attempts) e)

  by_add : (r : Record) (reply : Reply) → command ≡ add r → Adds p r reply q → Moves client p command q
  by_add r quiet is e = adds r is (ap (λ (x : Progress). x.pending) e) (ap (λ (x : Progress). x.mine) e) (ap (λ (x : Progress). x.attempts) e)
  by_add r other is e = absurd e

  by_clear : (reply : Reply) → Clears p reply q → Moves client p command q
  by_clear quiet e = clears (ap (λ (x : Progress). x.pending) e) (ap (λ (x : Progress). x.mine) e) (ap (λ (x : Progress). x.attempts) e)
  by_clear other e = absurd e

  by_attempt : (trace : Trace) (how : WriteOptions) (reply : Reply) → IsAttempted trace client p how reply q → Moves client p command q
  by_attempt trace how (accepted first last records) a =
      let e = a.after in accepts how first a.place a.decided (ap (λ (x : Progress). x.pending) e) (ap (λ (x : Progress). x.mine) e) (ap (λ (x : Progress). x.attempts) e)
  by_attempt trace how (refused why) a =
      let e = a.2 in refuses how a.0 (ap (λ (x : Progress). x.pending) e) (ap (λ (x : Progress). x.mine) e) (ap (λ (x : Progress). x.attempts) e)
  by_attempt trace how other a = absurd a

  by_commit : (trace : Trace) (how : WriteOptions) (reply : Reply) (early : Option Refusal)
      → MatchOption early (IsAttempted trace client p how reply q) (λ why. (reply ≡ refused why) × Stays p q) → Moves client p command q
  by_commit trace how reply None a = by_attempt trace how reply a
  by_commit trace how reply (Some why) a = same a.1

  by_read : (trace : Trace) (at : ℕ) (answers : Pairs → Type 0) → ReadsAt trace p at answers q → Moves client p command q
  by_read trace at answers r = let e = r.after in stays (ap (λ (x : Progress). x.pending) e) (ap (λ (x : Progress). x.mine) e) (ap (λ (x : Progress). x.attempts) e)

  -- a read is answered, or it is refused for a family that there isn't, and then nothing changes
  by_there : (F : Type 0) (missing : Option ℕ) (reply : Reply) (answered : Type 0) → (answered → F) → (Stays p q → F)
      → MatchOption missing answered (λ family. (reply ≡ refused (no.NoFamily family)) × Stays p q) → F
  by_there F None reply answered f g a = f a
  by_there F (Some family) reply answered f g a = g a.1

  by_get : (trace : Trace) (key : Key) (reply : Reply) → Gets trace p key reply q → Moves client p command q
  by_get trace key (found at v) r = by_read trace at _ r
  by_get trace key other r = absurd r

  by_many : (trace : Trace) (keys : List Key) (reply : Reply) → GetsMany trace p keys reply q → Moves client p command q
  by_many trace keys (found_each at vs) r = by_read trace at _ r
  by_many trace keys other r = absurd r

  by_scan : (trace : Trace) (family : ℕ) (lo hi : List ℕ) (reply : Reply) → Scans trace p family lo hi reply q → Moves client p command q
  by_scan trace family lo hi (rows at pairs) r = by_read trace at _ r
  by_scan trace family lo hi other r = absurd r

  by_updates : (settings : Settings) (trace : Trace) (n : ℕ) (reply : Reply) → Updates settings trace p n reply q → Moves client p command q
  by_updates settings trace n (updates_found at records) r = by_read trace at _ r.1.reads
  by_updates settings trace n (refused why) r = same r.2
  by_updates settings trace n (read_failed count) r = same r.2
  by_updates settings trace n other r = absurd r

  by_done : (trace : Trace) (action : Action) → IsDone trace client p action q → Moves client p command q
  by_done trace action d = let e = d.after in stays (ap (λ (x : Progress). x.pending) e) (ap (λ (x : Progress). x.mine) e) (ap (λ (x : Progress). x.attempts) e)

  by_stop : (trace : Trace) (reply : Reply) → Stops trace client p reply q → Moves client p command q
  by_stop trace done d = by_done trace _ d.2
  by_stop trace held d = same d.1
  by_stop trace other d = absurd d

  by_unstop : (trace : Trace) (reply : Reply) → Unstops trace client p reply q → Moves client p command q
  by_unstop trace done d = by_done trace _ d.2
  by_unstop trace not_held d = same d.1
  by_unstop trace other d = absurd d

  by_slow : (trace : Trace) (rate : ℕ) (reply : Reply) → Slows trace client p rate reply q → Moves client p command q
  by_slow trace rate done d = by_done trace _ d.2
  by_slow trace rate held d = same d.1
  by_slow trace rate other d = absurd d

  by_unslow : (trace : Trace) (reply : Reply) → Unslows trace client p reply q → Moves client p command q
  by_unslow trace done d = by_done trace _ d.2
  by_unslow trace not_held d = same d.1
  by_unslow trace other d = absurd d

pub moves : (settings : Settings) (trace : Trace) (client : ℕ) (p : Progress) (command : Command) (reply : Reply) (q : Progress) → Replies settings trace client p command reply q → Moves client p command q
moves settings trace client p (add r) reply q a = by_add client p (add r) q r reply refl a
moves settings trace client p clear reply q a = by_clear client p clear q reply a
moves settings trace client p (commit how) reply q a = by_commit client p (commit how) q trace how reply (early_refusal settings.families settings.batch_bytes (holds_stop p.asked) p.pending how) a
moves settings trace client p (get key) reply q a =
    by_there client p (get key) q (Moves client p (get key) q) (first_missing settings.families (key.family ∷ [])) reply (Gets trace p key reply q) (by_get client p (get key) q trace key reply) (same client p (get key) q) a
moves settings trace client p (many keys) reply q a =
    by_there client p (many keys) q (Moves client p (many keys) q) (first_missing settings.families (map (λ (k : Key). k.family) keys)) reply (GetsMany trace p keys reply q) (by_many client p (many keys) q trace keys reply)
    (same client p (many keys) q) a
moves settings trace client p (scan family lo hi) reply q a =
    by_there client p (scan family lo hi) q (Moves client p (scan family lo hi) q) (first_missing settings.families (family ∷ [])) reply (Scans trace p family lo hi reply q) (by_scan client p (scan family lo hi) q trace family lo hi reply)
    (same client p (scan family lo hi) q) a
moves settings trace client p (updates n) reply q a = by_updates client p (updates n) q settings trace n reply a
moves settings trace client p stop reply q a = by_stop client p stop q trace reply a
moves settings trace client p unstop reply q a = by_unstop client p unstop q trace reply a
moves settings trace client p (slow rate) reply q a = by_slow client p (slow rate) q trace rate reply a
moves settings trace client p unslow reply q a = by_unslow client p unslow q trace reply a

-- What holds of each record that a client adds holds of all records of its accepted batches

module _ (P : ℕ → Record → Type 0) where
  abbrev pub AddsOnly : ℕ → Command → Type 0
  AddsOnly client (add r) = P client r
  AddsOnly client other = Unit {0}

  abbrev pub HasOnly : Entry → Type 0
  HasOnly e = AllByRecursion (P e.client) e.records

  abbrev pub Keeps : ℕ → Progress → Type 0
  Keeps client p = AllByRecursion (P client) p.pending × AllByRecursion HasOnly p.mine

  added_only : (client : ℕ) (command : Command) (r : Record) → command ≡ add r → AddsOnly client command → P client r
  added_only client command r is a = subst (AddsOnly client) is a

  kept_at : (client : ℕ) (q : Progress) (pending : List Record) (mine : List Entry) → q.pending ≡ pending → q.mine ≡ mine
      → AllByRecursion (P client) pending → AllByRecursion HasOnly mine → Keeps client q
  kept_at client q pending mine e f a b = (subst (AllByRecursion (P client)) (sym e) a, subst (AllByRecursion HasOnly) (sym f) b)

  kept : (client : ℕ) (p : Progress) (command : Command) (q : Progress) → AddsOnly client command → Keeps client p → Moves client p command q → Keeps client q
  kept client p command q only k (stays e f g) = kept_at client q _ _ e f k.0 k.1
  kept client p command q only k (adds r is e f g) = kept_at client q _ _ e f (all_both (P client) p.pending (r ∷ []) k.0 (added_only client command r is only, tt)) k.1
  kept client p command q only k (clears e f g) = kept_at client q _ _ e f tt k.1
  kept client p command q only k (accepts how first place decided e f g) = kept_at client q _ _ e f tt (all_both HasOnly p.mine (next_entry client p.mine how first p.pending ∷ []) k.1 (k.0, tt))
  kept client p command q only k (refuses how fate e f g) = kept_at client q _ _ e f k.0 k.1

  pub kept_by_run : (settings : Settings) (trace : Trace) (client : ℕ) (p : Progress) (calls : List Call) (q : Progress) → AllByRecursion (AddsOnly client) (commands_of calls) → Keeps client p → Run settings trace client p calls q → Keeps client q
  kept_by_run settings trace client p [] q only k run = subst (Keeps client) (sym run) k
  kept_by_run settings trace client p (c ∷ calls) q only k run =
      kept_by_run settings trace client run.0 calls q only.1 (kept client p c.command run.0 only.0 k (moves settings trace client p c.command c.reply run.0 run.1.replies)) run.2

commands_of-append : (calls more : List Call) → commands_of (calls ++ more) ≡ commands_of calls ++ commands_of more
commands_of-append [] more = refl
commands_of-append (c ∷ calls) more = ap (λ cs. c.command ∷ cs) (commands_of-append calls more)

-- the calls of a client's transcript, without the one that found no memory, as a run
pub record HasRun (settings : Settings) (trace : Trace) (client : ℕ) (commands : List Command) (end : Progress) : Type 0 where
  pub calls : List Call
  pub run : Run settings trace client fresh calls end
  pub rest : List Command
  pub of_commands : commands ≡ commands_of calls ++ rest

pub run_of : (settings : Settings) (trace : Trace) (client : ℕ) (commands : List Command) (calls : List Call) (end : Progress) → IsTranscript settings trace client commands calls end → HasRun settings trace client commands end
run_of settings trace client commands calls end (whole is run) = record { calls = calls; run = run; rest = []; of_commands = is ∙ sym (append-nil (commands_of calls)) }
run_of settings trace client commands calls end (cut_off front last rest cut is run lacks) = record {
  calls = front;
  run = run;
  rest = last ∷ rest;
  of_commands = is ∙ ap (λ cs. commands_of cs ++ rest) cut ∙ ap (λ cs. cs ++ rest) (commands_of-append front (record { command = last; reply = no_memory } ∷ [])) ∙ append_assoc (commands_of front) (last ∷ []) rest;
}

pub kept_by_transcript : (P : ℕ → Record → Type 0) (settings : Settings) (trace : Trace) (client : ℕ) (commands : List Command) (calls : List Call) (end : Progress) → AllByRecursion (AddsOnly P client) commands
    → IsTranscript settings trace client commands calls end → AllByRecursion (HasOnly P) end.mine
kept_by_transcript P settings trace client commands calls end only is =
    let r = run_of settings trace client commands calls end is in
    let front = all_front (AddsOnly P client) (commands_of r.calls) r.rest (subst (AllByRecursion (AddsOnly P client)) r.of_commands only) in
    (kept_by_run P settings trace client fresh r.calls end front (tt, tt) r.run).1
