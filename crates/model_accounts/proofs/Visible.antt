-- A client's commits that leaders took into their groups are commits of its transcript, and their replies are those of
-- their statuses.
use Rattle.std.proofs.Common.{◌≡◌, ◌⊎◌, inl, inr, ℕ, ◌≤◌, Option, Some, None, List, [], ◌∷◌, ◌++◌, length, map, slice_get, MatchOption, refl, ap, sym, ◌∙◌, subst, arith, length-append}
use Rattle.std.proofs.lemmas.Option.{slice_get_cases}
use Rattle.std.proofs.lemmas.Bool.{cases_lt}
use Rattle.model_base.proofs.Prefixes.{prefix_at}
use Rattle.model_base.specs.declared.write.WriteOptions.{WriteOptions}
use Rattle.model_base.specs.declared.write.Refusal.{Refusal}
use Rattle.model_base.specs.declared.write.Refusal.TheVariants as no
use Rattle.model_base.specs.Batch.{Record}
use Rattle.model_base.specs.Controller.{ControllerCall}
use Rattle.model_base.specs.Tokens.{holds_stop}
use Rattle.model_base.specs.Trace.{Trace, Settings}
use Rattle.model_base.specs.Attempts.{Attempt, WriteStatus, succeeded, slowed, faulted, full, Fate, fate_at, with_attempt}
use Rattle.model_base.specs.declared.key.Key.{Key}
use Rattle.model_base.specs.Progress.{Progress, fresh, first_missing, early_refusal, added_by}
use Rattle.model_base.specs.Replies.{MayRefuse, IsAttempted, Stays, Replies, Stops, Unstops, Slows, Unslows, Gets, GetsMany, Scans, IfThere, Updates, Adds, Clears}
use Rattle.model_base.specs.Runs.{Run}
use Rattle.model_accounts.specs.Answered.{Tells, IsAmong}
use Rattle.model_base.specs.Calls.{Command, add, clear, commit, get, many, scan, updates, stop, unstop, slow, unslow, Reply, quiet, accepted, refused, found, found_each, rows, updates_found, read_failed, done, held, not_held, Call}

abbrev attempt : Progress → WriteOptions → Fate → Attempt
attempt p how fate = record { records = p.pending; options = how; status = fate.status; place = fate.place; decided = fate.decided }

-- a step adds no attempt, or adds the step's own commit, with a reply that fits its status
abbrev Hands : Progress → Command → Reply → Progress → Type 0
Hands p c r q = (q.attempts ≡ p.attempts)
    ⊎ ((how : WriteOptions) × (fate : Fate) × (c ≡ commit how) × (q.attempts ≡ p.attempts ++ attempt p how fate ∷ []) × Tells fate.status p.pending r)

record Moves (p : Progress) (c : Command) (r : Reply) (q : Progress) : Type 0 where
  pending : q.pending ≡ added_by p.pending c r
  hands : Hands p c r q

-- neither the batch nor the attempts have changed
same_both : (p : Progress) (c : Command) (r : Reply) (q : Progress) → added_by p.pending c r ≡ p.pending → q.pending ≡ p.pending → q.attempts ≡ p.attempts → Moves p c r q
same_both p c r q none a b = record { pending = a ∙ sym none; hands = inl b }

refusal_tells : (controller_calls : List ControllerCall) (client : ℕ) (p : Progress) (knows : ℕ) (how : WriteOptions) (why : Refusal) (fate : Fate)
    → MayRefuse controller_calls client p knows how why (Some fate) → Tells fate.status p.pending (refused why)
refusal_tells controller_calls client p knows how (no.Incomplete a b c) fate s = subst (λ f. Tells f p.pending (refused (no.Incomplete a b c))) (sym s.1.6) (a, b, c, refl)
refusal_tells controller_calls client p knows how (no.LogFault n) fate s = let is : fate.status ≡ faulted n = cc s in subst (λ f. Tells f p.pending (refused (no.LogFault n))) (sym is) refl
refusal_tells controller_calls client p knows how (no.SequenceFull n) fate s = let is : fate.status ≡ full n = cc (s.0) in subst (λ f. Tells f p.pending (refused (no.SequenceFull n))) (sym is) refl
refusal_tells controller_calls client p knows how no.Empty fate s = absurd s
refusal_tells controller_calls client p knows how (no.TooLarge n) fate s = absurd s
refusal_tells controller_calls client p knows how no.SyncWithoutLog fate s = absurd s
refusal_tells controller_calls client p knows how no.SelfStop fate s = absurd s
refusal_tells controller_calls client p knows how (no.NoFamily f) fate s = absurd s
refusal_tells controller_calls client p knows how no.NoMemory fate s = absurd s

commit_moves : (trace : Trace) (client : ℕ) (p : Progress) (how : WriteOptions) (r : Reply) (q : Progress) (o : Option Refusal)
    → MatchOption o (IsAttempted trace client p how r q) (λ why. (r ≡ refused why) × Stays p q) → Moves p (commit how) r q
commit_moves trace client p how (accepted a b records) q None s = record {
  pending = ap (λ (x : Progress). x.pending) s.after;
  hands = inr (how, record { status = succeeded; place = s.place; decided = s.decided }, refl, ap (λ (x : Progress). x.attempts) s.after, (a, b, ap (accepted a b) s.batch));
}
commit_moves trace client p how (refused why) q None s = by_status s.0 s.1 s.2
  where
    by_status : (fate : Option Fate) → MayRefuse trace.controller_calls client p q.known how why fate
        → q ≡ record p { attempts = with_attempt p.attempts p.pending how fate; known = q.known; logged = q.logged } → Moves p (commit how) (refused why) q
    by_status None may e = same_both p (commit how) (refused why) q refl (ap (λ (x : Progress). x.pending) e) (ap (λ (x : Progress). x.attempts) e)
    by_status (Some fate) may e = record {
      pending = ap (λ (x : Progress). x.pending) e;
      hands = inr (how, fate, refl, ap (λ (x : Progress). x.attempts) e, refusal_tells trace.controller_calls client p q.known how why fate may);
    }
commit_moves trace client p how _ q None s = absurd s
commit_moves trace client p how r q (Some why) s =
    same_both p (commit how) r q (ap (added_by p.pending (commit how)) s.0) (ap (λ (x : Progress). x.pending) s.1) (ap (λ (x : Progress). x.attempts) s.1)

-- steps that give the new progress by an equation, where the attempts stay as they are
module _ (p : Progress) (q : Progress) where
  adds : (x : Record) (r : Reply) → Adds p x r q → Moves p (add x) r q
  adds x quiet s = record { pending = ap (λ (x : Progress). x.pending) s; hands = inl (ap (λ (x : Progress). x.attempts) s) }
  adds x _ s = absurd s

  clears : (r : Reply) → Clears p r q → Moves p clear r q
  clears quiet s = record { pending = ap (λ (x : Progress). x.pending) s; hands = inl (ap (λ (x : Progress). x.attempts) s) }
  clears _ s = absurd s

  gets : (trace : Trace) (key : Key) (r : Reply) → Gets trace p key r q → Moves p (get key) r q
  gets trace key (found at v) s = same_both p _ _ q refl (ap (λ (x : Progress). x.pending) s.after) (ap (λ (x : Progress). x.attempts) s.after)
  gets trace key _ s = absurd s

  gets_many : (trace : Trace) (keys : List Key) (r : Reply) → GetsMany trace p keys r q → Moves p (many keys) r q
  gets_many trace keys (found_each at v) s = same_both p _ _ q refl (ap (λ (x : Progress). x.pending) s.after) (ap (λ (x : Progress). x.attempts) s.after)
  gets_many trace keys _ s = absurd s

  scans : (trace : Trace) (family : ℕ) (lo hi : List ℕ) (r : Reply) → Scans trace p family lo hi r q → Moves p (scan family lo hi) r q
  scans trace family lo hi (rows at v) s = same_both p _ _ q refl (ap (λ (x : Progress). x.pending) s.after) (ap (λ (x : Progress). x.attempts) s.after)
  scans trace family lo hi _ s = absurd s

  -- a read that is refused
  if_there : (settings : Settings) (named : List ℕ) (c : Command) (r : Reply) (answered : Type 0) → added_by p.pending c r ≡ p.pending → (answered → Moves p c r q) → IfThere settings named p r q answered → Moves p c r q
  if_there settings named c r answered none on s = by (first_missing settings.families named) s
    where
      by : (missing : Option ℕ) → MatchOption missing answered (λ family. (r ≡ refused (no.NoFamily family)) × Stays p q) → Moves p c r q
      by None s = on s
      by (Some family) s = same_both p c r q none (ap (λ (x : Progress). x.pending) s.1) (ap (λ (x : Progress). x.attempts) s.1)

  sees_updates : (settings : Settings) (trace : Trace) (n : ℕ) (r : Reply) → Updates settings trace p n r q → Moves p (updates n) r q
  sees_updates settings trace n (updates_found at records) s = same_both p _ _ q refl (ap (λ (x : Progress). x.pending) s.1.reads.after) (ap (λ (x : Progress). x.attempts) s.1.reads.after)
  sees_updates settings trace n (refused why) s = same_both p _ _ q refl (ap (λ (x : Progress). x.pending) s.2) (ap (λ (x : Progress). x.attempts) s.2)
  sees_updates settings trace n (read_failed count) s = same_both p _ _ q refl (ap (λ (x : Progress). x.pending) s.2) (ap (λ (x : Progress). x.attempts) s.2)
  sees_updates settings trace n _ s = absurd s

  stops : (trace : Trace) (client : ℕ) (r : Reply) → Stops trace client p r q → Moves p stop r q
  stops trace client done s = same_both p _ _ q refl (ap (λ (x : Progress). x.pending) s.2.after) (ap (λ (x : Progress). x.attempts) s.2.after)
  stops trace client held s = same_both p _ _ q refl (ap (λ (x : Progress). x.pending) s.1) (ap (λ (x : Progress). x.attempts) s.1)
  stops trace client _ s = absurd s

  unstops : (trace : Trace) (client : ℕ) (r : Reply) → Unstops trace client p r q → Moves p unstop r q
  unstops trace client done s = same_both p _ _ q refl (ap (λ (x : Progress). x.pending) s.2.after) (ap (λ (x : Progress). x.attempts) s.2.after)
  unstops trace client not_held s = same_both p _ _ q refl (ap (λ (x : Progress). x.pending) s.1) (ap (λ (x : Progress). x.attempts) s.1)
  unstops trace client _ s = absurd s

  slows : (trace : Trace) (client rate : ℕ) (r : Reply) → Slows trace client p rate r q → Moves p (slow rate) r q
  slows trace client rate done s = same_both p _ _ q refl (ap (λ (x : Progress). x.pending) s.2.after) (ap (λ (x : Progress). x.attempts) s.2.after)
  slows trace client rate held s = same_both p _ _ q refl (ap (λ (x : Progress). x.pending) s.1) (ap (λ (x : Progress). x.attempts) s.1)
  slows trace client rate _ s = absurd s

  unslows : (trace : Trace) (client : ℕ) (r : Reply) → Unslows trace client p r q → Moves p unslow r q
  unslows trace client done s = same_both p _ _ q refl (ap (λ (x : Progress). x.pending) s.2.after) (ap (λ (x : Progress). x.attempts) s.2.after)
  unslows trace client not_held s = same_both p _ _ q refl (ap (λ (x : Progress). x.pending) s.1) (ap (λ (x : Progress). x.attempts) s.1)
  unslows trace client _ s = absurd s

moves : (settings : Settings) (trace : Trace) (client : ℕ) (p : Progress) (c : Command) (r : Reply) (q : Progress) → Replies settings trace client p c r q → Moves p c r q
moves settings trace client p (add x) r q s = adds p q x r s
moves settings trace client p clear r q s = clears p q r s
moves settings trace client p (commit how) r q s = commit_moves trace client p how r q (early_refusal settings.families settings.batch_bytes (holds_stop p.asked) p.pending how) s
moves settings trace client p (get key) r q s = if_there p q settings (key.family ∷ []) (get key) r _ refl (gets p q trace key r) s
moves settings trace client p (many keys) r q s = if_there p q settings (map (λ (k : Key). k.family) keys) (many keys) r _ refl (gets_many p q trace keys r) s
moves settings trace client p (scan family lo hi) r q s = if_there p q settings (family ∷ []) (scan family lo hi) r _ refl (scans p q trace family lo hi r) s
moves settings trace client p (updates n) r q s = sees_updates p q settings trace n r s
moves settings trace client p stop r q s = stops p q trace client r s
moves settings trace client p unstop r q s = unstops p q trace client r s
moves settings trace client p (slow rate) r q s = slows p q trace client rate r s
moves settings trace client p unslow r q s = unslows p q trace client r s

later_call : (records : List Record) (c : Call) (calls : List Call) (h : Attempt) → IsAmong (added_by records c.command c.reply) calls h → IsAmong records (c ∷ calls) h
later_call records c calls h s = record { before = c ∷ s.before; reply = s.reply; after = s.after; there = ap (λ cs. c ∷ cs) s.there; batch = s.batch; tells = s.tells }

at_last : {A : Type 0} (xs : List A) (x : A) → slice_get (xs ++ x ∷ []) (length xs) ≡ Some x
at_last [] x = refl
at_last (z ∷ xs) x = at_last xs x

hands_keep : (p : Progress) (c : Command) (r : Reply) (q : Progress) → Hands p c r q → (i : ℕ) (x : Attempt) → slice_get p.attempts i ≡ Some x → slice_get q.attempts i ≡ Some x
hands_keep p c r q (inl same) i x e = ap (λ hs. slice_get hs i) same ∙ e
hands_keep p c r q (inr new) i x e = prefix_at p.attempts q.attempts (attempt p new.0 new.1 ∷ [], sym new.3) i x e

kept : (settings : Settings) (trace : Trace) (client : ℕ) (p : Progress) (calls : List Call) (q : Progress) → Run settings trace client p calls q → (i : ℕ) (x : Attempt) → slice_get p.attempts i ≡ Some x → slice_get q.attempts i ≡ Some x
kept settings trace client p [] q run i x e = ap (λ (y : Progress). slice_get y.attempts i) run ∙ e
kept settings trace client p (c ∷ calls) q run i x e =
    kept settings trace client run.0 calls q run.2 i x (hands_keep p c.command c.reply run.0 (moves settings trace client p c.command c.reply run.0 run.1.replies).hands i x e)

among : (settings : Settings) (trace : Trace) (client : ℕ) (p : Progress) (calls : List Call) (q : Progress) → Run settings trace client p calls q
    → (k : ℕ) (h : Attempt) → length p.attempts ≤ k → slice_get q.attempts k ≡ Some h → IsAmong p.pending calls h
among settings trace client p [] q run k h past e =
    let at : slice_get p.attempts k ≡ Some h = ap (λ (x : Progress). slice_get x.attempts k) (sym run) ∙ e in
    elim (slice_get_cases p.attempts k).1 [
      | inl there ↦ (let n = there.1 in absurd (omega arith))
      | inr gone ↦ absurd (cc (at, gone.1))
    ]
among settings trace client p (c ∷ calls) q run k h past e =
    by_move (moves settings trace client p c.command c.reply run.0 run.1.replies) (λ low. among settings trace client run.0 calls q run.2 k h low e) (kept settings trace client run.0 calls q run.2)
  where
    this_one : (how : WriteOptions) (fate : Fate) → c.command ≡ commit how → Tells fate.status p.pending c.reply → IsAmong p.pending (c ∷ calls) (attempt p how fate)
    this_one how fate command tells = record {
      before = [];
      reply = c.reply;
      after = calls;
      there = ap (λ (x : Command). record { command = x; reply = c.reply } ∷ calls) command;
      batch = refl;
      tells = tells;
    }

    by_move : Moves p c.command c.reply run.0 → (length (run.0).attempts ≤ k → IsAmong (run.0).pending calls h)
        → ((i : ℕ) (x : Attempt) → slice_get (run.0).attempts i ≡ Some x → slice_get q.attempts i ≡ Some x) → IsAmong p.pending (c ∷ calls) h
    by_move m later keeps = elim m.hands [
      | inl same ↦ later_call p.pending c calls h (subst (λ rs. IsAmong rs calls h) m.pending (later (let n : length (run.0).attempts ≡ length p.attempts = ap length same in omega arith)))
      | inr new ↦ elim (cases_lt (length p.attempts) k) [
        | inl more ↦ later_call p.pending c calls h (subst (λ rs. IsAmong rs calls h) m.pending (later (
            let n : length (run.0).attempts ≡ length (p.attempts ++ attempt p new.0 new.1 ∷ []) = ap length new.3 in
            omega (arith, n, length-append p.attempts (attempt p new.0 new.1 ∷ [])))))
        | inr last ↦ (
            let is : k ≡ length p.attempts = omega arith in
            let there = keeps (length p.attempts) (attempt p new.0 new.1) (ap (λ hs. slice_get hs (length p.attempts)) new.3 ∙ at_last p.attempts (attempt p new.0 new.1)) in
            let same : attempt p new.0 new.1 ≡ h = cc (there, ap (slice_get q.attempts) is, e) in
            subst (IsAmong p.pending (c ∷ calls)) same (this_one new.0 new.1 new.2 new.4))
      ]
    ]

-- each commit that a leader took into a group is in the transcript, with the batch that it had there and the reply of
-- its status
pub attempts_visible : (settings : Settings) (trace : Trace) (client : ℕ) (calls : List Call) (end : Progress) → Run settings trace client fresh calls end
    → (k : ℕ) (h : Attempt) → slice_get end.attempts k ≡ Some h → IsAmong [] calls h
attempts_visible settings trace client calls end run k h e = among settings trace client fresh calls end run k h (omega arith) e
