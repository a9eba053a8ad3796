-- A client's batch, its tokens and its accepted batches are those that its calls and replies make.
use Rattle.std.proofs.Common.{◌≡◌, ℕ, Bool, false, List, [], ◌∷◌, ◌++◌, map, fold, Option, Some, None, MatchOption, sym, ap, ◌∙◌, subst}
use Rattle.std.proofs.lemmas.List.Sums.{fold-append}
use Rattle.model_base.specs.declared.write.WriteOptions.{WriteOptions}
use Rattle.model_base.specs.declared.key.Key.{Key}
use Rattle.model_base.specs.declared.write.Refusal.{Refusal}
use Rattle.model_base.specs.declared.write.Refusal.TheVariants as no
use Rattle.model_base.specs.Batch.{Record}
use Rattle.model_base.specs.History.{Entry}
use Rattle.model_base.specs.Controller as controller
use Rattle.model_base.specs.Controller.{Action}
use Rattle.model_base.specs.Tokens.{holds_stop, stop_after}
use Rattle.model_base.specs.Trace.{Trace, Settings}
use Rattle.model_base.specs.Progress.{Progress, next_entry, first_missing, early_refusal, added_by}
use Rattle.model_base.specs.Runs.{Run}
use Rattle.model_base.specs.Replies.{Adds, Clears, Stays, IsAttempted, Gets, GetsMany, Scans, Updates, Stops, Unstops, Slows, Unslows, Replies}
use Rattle.model_base.specs.Calls.{Command, add, clear, commit, get, many, scan, updates, stop, unstop, slow, unslow, Reply, quiet, accepted, refused, found, found_each, rows, updates_found, read_failed, done, held, not_held, Call}
use Rattle.run_laws.specs.Accepting.{stopping_with}

-- a client's accepted batches after a call
abbrev pub mine_with : ℕ → Progress → Command → Reply → List Entry
mine_with client p (commit how) (accepted first last own) = p.mine ++ next_entry client p.mine how first p.pending ∷ []
mine_with client p other reply = p.mine

-- its token calls after a call
abbrev pub AsksWith : List Action → Command → Reply → List Action → Type 0
AsksWith asked stop done after = (shown : ℕ) × (after ≡ asked ++ controller.stop shown ∷ [])
AsksWith asked unstop done after = (shown : ℕ) × (after ≡ asked ++ controller.unstop shown ∷ [])
AsksWith asked (slow rate) done after = (shown : ℕ) × (after ≡ asked ++ controller.slow rate shown ∷ [])
AsksWith asked unslow done after = (shown : ℕ) × (after ≡ asked ++ controller.unslow shown ∷ [])
AsksWith asked other reply after = after ≡ asked

-- its batch, its tokens and its accepted batches after a call
pub record Follows (client : ℕ) (p : Progress) (command : Command) (reply : Reply) (q : Progress) : Type 0 where
  pub batch : q.pending ≡ added_by p.pending command reply
  pub asked : AsksWith p.asked command reply q.asked
  pub mine : q.mine ≡ mine_with client p command reply

batch_is : (q : Progress) (x : Progress) → q ≡ x → q.pending ≡ x.pending
batch_is q x e = ap (λ (y : Progress). y.pending) e

asked_is : (q : Progress) (x : Progress) → q ≡ x → q.asked ≡ x.asked
asked_is q x e = ap (λ (y : Progress). y.asked) e

mine_is : (q : Progress) (x : Progress) → q ≡ x → q.mine ≡ x.mine
mine_is q x e = ap (λ (y : Progress). y.mine) e

module _ (trace : Trace) (client : ℕ) (p q : Progress) where
  by_add : (r : Record) (reply : Reply) → Adds p r reply q → Follows client p (add r) reply q
  by_add r quiet e = record { batch = batch_is q _ e; asked = asked_is q _ e; mine = mine_is q _ e }
  by_add r other e = absurd e

  by_clear : (reply : Reply) → Clears p reply q → Follows client p clear reply q
  by_clear quiet e = record { batch = batch_is q _ e; asked = asked_is q _ e; mine = mine_is q _ e }
  by_clear other e = absurd e

  by_attempt : (how : WriteOptions) (reply : Reply) → IsAttempted trace client p how reply q → Follows client p (commit how) reply q
  by_attempt how (accepted first last records) a = record { batch = batch_is q _ a.after; asked = asked_is q _ a.after; mine = mine_is q _ a.after }
  by_attempt how (refused why) a = record { batch = batch_is q _ a.2; asked = asked_is q _ a.2; mine = mine_is q _ a.2 }
  by_attempt how other a = absurd a

  by_commit : (how : WriteOptions) (reply : Reply) (early : Option Refusal)
      → MatchOption early (IsAttempted trace client p how reply q) (λ why. (reply ≡ refused why) × Stays p q) → Follows client p (commit how) reply q
  by_commit how reply None a = by_attempt how reply a
  by_commit how reply (Some why) a = subst (λ x. Follows client p (commit how) x q) (sym a.0) (record { batch = batch_is q _ a.1; asked = asked_is q _ a.1; mine = mine_is q _ a.1 })

  -- a read is answered, or it is refused for a family that there isn't, and then nothing changes
  by_there : (F : Type 0) (missing : Option ℕ) (reply : Reply) (answered : Type 0) → (answered → F) → (Stays p q → F)
      → MatchOption missing answered (λ family. (reply ≡ refused (no.NoFamily family)) × Stays p q) → F
  by_there F None reply answered f g a = f a
  by_there F (Some family) reply answered f g a = g a.1

  by_get : (key : Key) (reply : Reply) → Gets trace p key reply q → Follows client p (get key) reply q
  by_get key (found at v) r = record { batch = batch_is q _ r.after; asked = asked_is q _ r.after; mine = mine_is q _ r.after }
  by_get key other r = absurd r

  by_many : (keys : List Key) (reply : Reply) → GetsMany trace p keys reply q → Follows client p (many keys) reply q
  by_many keys (found_each at vs) r = record { batch = batch_is q _ r.after; asked = asked_is q _ r.after; mine = mine_is q _ r.after }
  by_many keys other r = absurd r

  by_scan : (family : ℕ) (lo hi : List ℕ) (reply : Reply) → Scans trace p family lo hi reply q → Follows client p (scan family lo hi) reply q
  by_scan family lo hi (rows at pairs) r = record { batch = batch_is q _ r.after; asked = asked_is q _ r.after; mine = mine_is q _ r.after }
  by_scan family lo hi other r = absurd r

  by_updates : (settings : Settings) (n : ℕ) (reply : Reply) → Updates settings trace p n reply q → Follows client p (updates n) reply q
  by_updates settings n (updates_found at records) r = let e = r.1.reads.after in record { batch = batch_is q _ e; asked = asked_is q _ e; mine = mine_is q _ e }
  by_updates settings n (refused why) r = record { batch = batch_is q _ r.2; asked = asked_is q _ r.2; mine = mine_is q _ r.2 }
  by_updates settings n (read_failed count) r = record { batch = batch_is q _ r.2; asked = asked_is q _ r.2; mine = mine_is q _ r.2 }
  by_updates settings n other r = absurd r

  by_stop : (reply : Reply) → Stops trace client p reply q → Follows client p stop reply q
  by_stop done d = record { batch = batch_is q _ d.2.after; asked = (d.1, asked_is q _ d.2.after); mine = mine_is q _ d.2.after }
  by_stop held d = record { batch = batch_is q _ d.1; asked = asked_is q _ d.1; mine = mine_is q _ d.1 }
  by_stop other d = absurd d

  by_unstop : (reply : Reply) → Unstops trace client p reply q → Follows client p unstop reply q
  by_unstop done d = record { batch = batch_is q _ d.2.after; asked = (d.1, asked_is q _ d.2.after); mine = mine_is q _ d.2.after }
  by_unstop not_held d = record { batch = batch_is q _ d.1; asked = asked_is q _ d.1; mine = mine_is q _ d.1 }
  by_unstop other d = absurd d

  by_slow : (rate : ℕ) (reply : Reply) → Slows trace client p rate reply q → Follows client p (slow rate) reply q
  by_slow rate done d = record { batch = batch_is q _ d.2.after; asked = (d.1, asked_is q _ d.2.after); mine = mine_is q _ d.2.after }
  by_slow rate held d = record { batch = batch_is q _ d.1; asked = asked_is q _ d.1; mine = mine_is q _ d.1 }
  by_slow rate other d = absurd d

  by_unslow : (reply : Reply) → Unslows trace client p reply q → Follows client p unslow reply q
  by_unslow done d = record { batch = batch_is q _ d.2.after; asked = (d.1, asked_is q _ d.2.after); mine = mine_is q _ d.2.after }
  by_unslow not_held d = record { batch = batch_is q _ d.1; asked = asked_is q _ d.1; mine = mine_is q _ d.1 }
  by_unslow other d = absurd d

pub follows : (settings : Settings) (trace : Trace) (client : ℕ) (p : Progress) (command : Command) (reply : Reply) (q : Progress) → Replies settings trace client p command reply q → Follows client p command reply q
follows settings trace client p (add r) reply q a = by_add trace client p q r reply a
follows settings trace client p clear reply q a = by_clear trace client p q reply a
follows settings trace client p (commit how) reply q a = by_commit trace client p q how reply (early_refusal settings.families settings.batch_bytes (holds_stop p.asked) p.pending how) a
follows settings trace client p (get key) reply q a =
    by_there trace client p q (Follows client p (get key) reply q) (first_missing settings.families (key.family ∷ [])) reply (Gets trace p key reply q) (by_get trace client p q key reply)
    (λ e. record { batch = batch_is q _ e; asked = asked_is q _ e; mine = mine_is q _ e }) a
follows settings trace client p (many keys) reply q a =
    by_there trace client p q (Follows client p (many keys) reply q) (first_missing settings.families (map (λ (k : Key). k.family) keys)) reply (GetsMany trace p keys reply q) (by_many trace client p q keys reply)
    (λ e. record { batch = batch_is q _ e; asked = asked_is q _ e; mine = mine_is q _ e }) a
follows settings trace client p (scan family lo hi) reply q a =
    by_there trace client p q (Follows client p (scan family lo hi) reply q) (first_missing settings.families (family ∷ [])) reply (Scans trace p family lo hi reply q) (by_scan trace client p q family lo hi reply)
    (λ e. record { batch = batch_is q _ e; asked = asked_is q _ e; mine = mine_is q _ e }) a
follows settings trace client p (updates n) reply q a = by_updates trace client p q settings n reply a
follows settings trace client p stop reply q a = by_stop trace client p q reply a
follows settings trace client p unstop reply q a = by_unstop trace client p q reply a
follows settings trace client p (slow rate) reply q a = by_slow trace client p q rate reply a
follows settings trace client p unslow reply q a = by_unslow trace client p q reply a

-- the same after all its calls
abbrev pub add_call : List Record → Call → List Record
add_call records c = added_by records c.command c.reply

abbrev pub stop_call : Bool → Call → Bool
stop_call stopping c = stopping_with stopping c.command c.reply

pub batch_by : (settings : Settings) (trace : Trace) (client : ℕ) (p : Progress) (calls : List Call) (q : Progress) → Run settings trace client p calls q → q.pending ≡ fold add_call p.pending calls
batch_by settings trace client p [] q run = batch_is q p run
batch_by settings trace client p (c ∷ calls) q run =
    batch_by settings trace client run.0 calls q run.2
    ∙ ap (λ records. fold add_call records calls) (follows settings trace client p c.command c.reply run.0 run.1.replies).batch

-- whether the client holds a stop token after a call
stopping_after : (asked : List Action) (command : Command) (reply : Reply) (after : List Action) → AsksWith asked command reply after → holds_stop after ≡ stopping_with (holds_stop asked) command reply
stopping_after asked stop done after w = ap holds_stop w.1 ∙ fold-append stop_after false asked (controller.stop w.0 ∷ [])
stopping_after asked unstop done after w = ap holds_stop w.1 ∙ fold-append stop_after false asked (controller.unstop w.0 ∷ [])
stopping_after asked (slow rate) done after w = ap holds_stop w.1 ∙ fold-append stop_after false asked (controller.slow rate w.0 ∷ [])
stopping_after asked unslow done after w = ap holds_stop w.1 ∙ fold-append stop_after false asked (controller.unslow w.0 ∷ [])
stopping_after asked other reply after w = ap holds_stop w

pub stopping_by : (settings : Settings) (trace : Trace) (client : ℕ) (p : Progress) (calls : List Call) (q : Progress) → Run settings trace client p calls q → holds_stop q.asked ≡ fold stop_call (holds_stop p.asked) calls
stopping_by settings trace client p [] q run = ap holds_stop (asked_is q p run)
stopping_by settings trace client p (c ∷ calls) q run =
    stopping_by settings trace client run.0 calls q run.2
    ∙ ap (λ stopping. fold stop_call stopping calls) (stopping_after p.asked c.command c.reply run.0.asked (follows settings trace client p c.command c.reply run.0 run.1.replies).asked)
