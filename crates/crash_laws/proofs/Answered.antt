-- Each `ok` of a `commit sync` is acknowledged: the client's calls are split at it, and its accepted batches, which never
-- get fewer, are then its first ones in the trace.
use Rattle.std.proofs.Common.{◌≡◌, ◌⊎◌, ℕ, zero, suc, ◌+◌, Bool, true, false, cond, List, [], ◌∷◌, ◌++◌, length, map, Option, Some, None, slice_get, MatchOption, refl, sym, ap, ◌∙◌, subst, inl, inr, arith, length-append, append-nil, append_assoc}
use mathlib.Core.List.{IsPrefix}
use Rattle.model_base.specs.declared.history.Flag.TheVariants.{Log, NoLog, Sync}
use Rattle.model_base.specs.declared.write.WriteOptions.{WriteOptions}
use Rattle.model_base.specs.declared.key.Key.{Key}
use Rattle.model_base.specs.declared.write.Refusal.{Refusal}
use Rattle.model_base.specs.declared.write.Refusal.TheVariants as no
use Rattle.model_base.specs.Batch.{Record}
use Rattle.model_base.specs.Map.{Pairs}
use Rattle.model_base.specs.History.{Entry, flag_of}
use Rattle.model_base.specs.Controller.{Action}
use Rattle.model_base.specs.Attempts.{Attempt}
use Rattle.model_base.specs.Trace.{Trace, Settings}
use Rattle.model_base.specs.Progress.{Progress, fresh, next_entry, first_missing, early_refusal}
use Rattle.model_base.specs.Tokens.{holds_stop}
use Rattle.model_base.specs.LogContents.{IsLoggedBy}
use Rattle.model_base.specs.Outcomes.{IsLegalTranscript, IsLegalIn}
use Rattle.model_base.specs.Runs.{Step, Run, IsTranscript, whole, cut_off}
use Rattle.model_base.specs.Replies.{Adds, Clears, Stays, IsAttempted, Commits, ReadsAt, Gets, GetsMany, Scans, Updates, IsDone, Stops, Unstops, Slows, Unslows, Replies}
use Rattle.model_base.specs.Calls.{Command, add, clear, commit, get, many, scan, updates, stop, unstop, slow, unslow, Reply, quiet, accepted, refused, found, found_each, rows, updates_found, read_failed, done, held, not_held, no_memory, Call, Outcome}
use Rattle.crash_laws.specs.Answered.{WasAnswered, KnewByThen}

-- A client's accepted batches after a call begin with those that it had before

module _ (p q : Progress) where
  abbrev Keeps : Type 0
  Keeps = IsPrefix p.mine q.mine

  as_before : (x : Progress) → q ≡ x → x.mine ≡ p.mine → Keeps
  as_before x e same = ([], append-nil p.mine ∙ sym (ap (λ (y : Progress). y.mine) e ∙ same))

  by_stay : Stays p q → Keeps
  by_stay e = as_before _ e refl

  by_add : (r : Record) (reply : Reply) → Adds p r reply q → Keeps
  by_add r quiet e = as_before _ e refl
  by_add r other e = absurd e

  by_clear : (reply : Reply) → Clears p reply q → Keeps
  by_clear quiet e = as_before _ e refl
  by_clear other e = absurd e

  by_attempt : (trace : Trace) (client : ℕ) (how : WriteOptions) (reply : Reply) → IsAttempted trace client p how reply q → Keeps
  by_attempt trace client how (accepted first last records) a = (next_entry client p.mine how first p.pending ∷ [], sym (ap (λ (x : Progress). x.mine) a.after))
  by_attempt trace client how (refused why) a = as_before _ a.2 refl
  by_attempt trace client how other a = absurd a

  by_commit : (trace : Trace) (client : ℕ) (how : WriteOptions) (reply : Reply) (early : Option Refusal) → MatchOption early (IsAttempted trace client p how reply q) (λ why. (reply ≡ refused why) × Stays p q) → Keeps
  by_commit trace client how reply None a = by_attempt trace client how reply a
  by_commit trace client how reply (Some why) a = by_stay a.1

  by_read : (trace : Trace) (at : ℕ) (answers : Pairs → Type 0) → ReadsAt trace p at answers q → Keeps
  by_read trace at answers r = as_before _ r.after refl

  -- a read is answered, or it is refused for a family that there isn't, and then nothing changes
  by_there : (missing : Option ℕ) (reply : Reply) (answered : Type 0) → (answered → Keeps) → MatchOption missing answered (λ family. (reply ≡ refused (no.NoFamily family)) × Stays p q) → Keeps
  by_there None reply answered f a = f a
  by_there (Some family) reply answered f a = by_stay a.1

  by_get : (trace : Trace) (key : Key) (reply : Reply) → Gets trace p key reply q → Keeps
  by_get trace key (found at v) r = by_read trace at _ r
  by_get trace key other r = absurd r

  by_many : (trace : Trace) (keys : List Key) (reply : Reply) → GetsMany trace p keys reply q → Keeps
  by_many trace keys (found_each at vs) r = by_read trace at _ r
  by_many trace keys other r = absurd r

  by_scan : (trace : Trace) (family : ℕ) (lo hi : List ℕ) (reply : Reply) → Scans trace p family lo hi reply q → Keeps
  by_scan trace family lo hi (rows at pairs) r = by_read trace at _ r
  by_scan trace family lo hi other r = absurd r

  by_updates : (settings : Settings) (trace : Trace) (n : ℕ) (reply : Reply) → Updates settings trace p n reply q → Keeps
  by_updates settings trace n (updates_found at records) r = by_read trace at _ r.1.reads
  by_updates settings trace n (refused why) r = by_stay r.2
  by_updates settings trace n (read_failed count) r = by_stay r.2
  by_updates settings trace n other r = absurd r

  by_done : (trace : Trace) (client : ℕ) (action : Action) → IsDone trace client p action q → Keeps
  by_done trace client action d = as_before _ d.after refl

  by_stop : (trace : Trace) (client : ℕ) (reply : Reply) → Stops trace client p reply q → Keeps
  by_stop trace client done d = by_done trace client _ d.2
  by_stop trace client held d = by_stay d.1
  by_stop trace client other d = absurd d

  by_unstop : (trace : Trace) (client : ℕ) (reply : Reply) → Unstops trace client p reply q → Keeps
  by_unstop trace client done d = by_done trace client _ d.2
  by_unstop trace client not_held d = by_stay d.1
  by_unstop trace client other d = absurd d

  by_slow : (trace : Trace) (client rate : ℕ) (reply : Reply) → Slows trace client p rate reply q → Keeps
  by_slow trace client rate done d = by_done trace client _ d.2
  by_slow trace client rate held d = by_stay d.1
  by_slow trace client rate other d = absurd d

  by_unslow : (trace : Trace) (client : ℕ) (reply : Reply) → Unslows trace client p reply q → Keeps
  by_unslow trace client done d = by_done trace client _ d.2
  by_unslow trace client not_held d = by_stay d.1
  by_unslow trace client other d = absurd d

keeps : (settings : Settings) (trace : Trace) (client : ℕ) (p : Progress) (command : Command) (reply : Reply) (q : Progress) → Replies settings trace client p command reply q → IsPrefix p.mine q.mine
keeps settings trace client p (add r) reply q a = by_add p q r reply a
keeps settings trace client p clear reply q a = by_clear p q reply a
keeps settings trace client p (commit how) reply q a = by_commit p q trace client how reply (early_refusal settings.families settings.batch_bytes (holds_stop p.asked) p.pending how) a
keeps settings trace client p (get key) reply q a = by_there p q (first_missing settings.families (key.family ∷ [])) reply (Gets trace p key reply q) (by_get p q trace key reply) a
keeps settings trace client p (many keys) reply q a = by_there p q (first_missing settings.families (map (λ (k : Key). k.family) keys)) reply (GetsMany trace p keys reply q) (by_many p q trace keys reply) a
keeps settings trace client p (scan family lo hi) reply q a = by_there p q (first_missing settings.families (family ∷ [])) reply (Scans trace p family lo hi reply q) (by_scan p q trace family lo hi reply) a
keeps settings trace client p (updates n) reply q a = by_updates p q settings trace n reply a
keeps settings trace client p stop reply q a = by_stop p q trace client reply a
keeps settings trace client p unstop reply q a = by_unstop p q trace client reply a
keeps settings trace client p (slow rate) reply q a = by_slow p q trace client rate reply a
keeps settings trace client p unslow reply q a = by_unslow p q trace client reply a

-- So they do after all its calls.
keeps_all : (settings : Settings) (trace : Trace) (client : ℕ) (p : Progress) (calls : List Call) (q : Progress) → Run settings trace client p calls q → IsPrefix p.mine q.mine
keeps_all settings trace client p [] q run = ([], append-nil p.mine ∙ sym (ap (λ (x : Progress). x.mine) run))
keeps_all settings trace client p (c ∷ calls) q run =
    let one = keeps settings trace client p c.command c.reply run.0 run.1.replies in
    let more = keeps_all settings trace client run.0 calls q run.2 in
    (one.0 ++ more.0, sym (append_assoc p.mine one.0 more.0) ∙ ap (λ (es : List Entry). es ++ more.0) one.1 ∙ more.1)

-- The calls, split at one of them

pub record Split (settings : Settings) (trace : Trace) (client : ℕ) (start : Progress) (before : List Call) (c : Call) (end : Progress) : Type 0 where
  pub at : Progress
  pub next : Progress
  pub run : Run settings trace client start before at
  pub step : Step settings trace client at c.command c.reply next
  pub mine : IsPrefix next.mine end.mine

split_at : (settings : Settings) (trace : Trace) (client : ℕ) (start : Progress) (before : List Call) (c : Call) (after : List Call) (end : Progress) → Run settings trace client start (before ++ c ∷ after) end
    → Split settings trace client start before c end
split_at settings trace client start [] c after end run = record { at = start; next = run.0; run = refl; step = run.1; mine = keeps_all settings trace client run.0 after end run.2 }
split_at settings trace client start (b ∷ before) c after end run =
    let later = split_at settings trace client run.0 before c after end run.2 in
    record { at = later.at; next = later.next; run = (run.0, run.1, later.run); step = later.step; mine = later.mine }

-- an element of a list with one more at its end is that last one, or comes before it
last_or_before : {X : Type 0} (front before after : List X) (cut c : X) → front ++ cut ∷ [] ≡ before ++ c ∷ after → (c ≡ cut) ⊎ ((rest : List X) × (front ≡ before ++ c ∷ rest))
last_or_before [] [] after cut c e = inl (cc e)
last_or_before [] (b ∷ before) after cut c e = let long = ap length e in absurd (omega (arith, long, length-append before (c ∷ after)))
last_or_before (f ∷ front) [] after cut c e = let same : f ≡ c = cc e in inr (front, ap (λ x. x ∷ front) same)
last_or_before (f ∷ front) (b ∷ before) after cut c e =
    let same : f ≡ b = cc e in let rest : front ++ cut ∷ [] ≡ before ++ c ∷ after = cc e in
    elim (last_or_before front before after cut c rest) [
      | inl is ↦ inl is
      | inr more ↦ inr (more.0, ap (λ x. x ∷ front) same ∙ ap (λ xs. b ∷ xs) more.1)
    ]

-- a call that was answered `ok` isn't the one that found no memory
pub split_of : (settings : Settings) (trace : Trace) (client : ℕ) (commands : List Command) (calls before after : List Call) (how : WriteOptions) (first last : ℕ) (records : List Record) (end : Progress)
    → calls ≡ before ++ record { command = commit how; reply = accepted first last records } ∷ after → IsTranscript settings trace client commands calls end
    → Split settings trace client fresh before (record { command = commit how; reply = accepted first last records }) end
split_of settings trace client commands calls before after how first last records end there (whole is run) =
    split_at settings trace client fresh before _ after end (subst (λ (cs : List Call). Run settings trace client fresh cs end) there run)
split_of settings trace client commands calls before after how first last records end there (cut_off front cut rest are is run lacks) =
    elim (last_or_before front before after (record { command = cut; reply = no_memory }) (record { command = commit how; reply = accepted first last records }) (sym are ∙ there)) [
      | inl same ↦ let clash : accepted first last records ≡ no_memory = ap (λ (c : Call). c.reply) same in absurd (cc clash)
      | inr more ↦ split_at settings trace client fresh before _ more.0 end (subst (λ (cs : List Call). Run settings trace client fresh cs end) more.1 run)
    ]

-- the call that wrote the batch, by the answer to its commit
wrote_by : (settings : Settings) (trace : Trace) (client : ℕ) (p : Progress) (how : WriteOptions) (first last : ℕ) (records : List Record) (q : Progress) → flag_of how ≡ Sync
    → Commits settings trace client p how (accepted first last records) q → IsLoggedBy trace.log_calls p.logged q.logged first records true
wrote_by settings trace client p how first last records q to_sync s = by_early (early_refusal settings.families settings.batch_bytes (holds_stop p.asked) p.pending how) s
  where
    flags : (a b : Bool) → cond a NoLog (cond b Sync Log) ≡ Sync → (a ≡ false) × (b ≡ true)
    flags true b is = absurd (cc is)
    flags false true is = (refl, refl)
    flags false false is = absurd (cc is)

    by_early : (early : Option Refusal) → MatchOption early (IsAttempted trace client p how (accepted first last records) q) (λ why. (accepted first last records ≡ refused why) × Stays p q)
        → IsLoggedBy trace.log_calls p.logged q.logged first records true
    by_early None a =
        let is = flags how.no_log how.sync to_sync in
        let logged : IsLoggedBy trace.log_calls p.logged q.logged first records how.sync = subst (λ (rs : List Record). IsLoggedBy trace.log_calls p.logged q.logged first rs how.sync) (sym a.batch) (a.logged is.0) in
        subst (IsLoggedBy trace.log_calls p.logged q.logged first records) is.1 logged
    by_early (Some why) a = absurd (cc a.0)

pub knew_by_then : (settings : Settings) (trace : Trace) (fault : Option ℕ) (client : ℕ) (commands : List Command) (calls : List Call) (attempts : List Attempt) (first last : ℕ) (records : List Record)
    → IsLegalTranscript settings trace fault client commands calls attempts → WasAnswered calls first last records → KnewByThen settings trace client calls first records
knew_by_then settings trace fault client commands calls attempts first last records legal was =
    let s = split_of settings trace client commands calls was.before was.after was.how first last records legal.end was.there legal.is_transcript in
    record {
      knew = s.next.logged;
      within = s.step.logs_within;
      acknowledged = record {
        before = was.before;
        how = was.how;
        last = last;
        after = was.after;
        there = was.there;
        to_sync = was.to_sync;
        p = s.at;
        q = s.next;
        run = s.run;
        step = s.step;
        mine = subst (λ (es : List Entry). IsPrefix s.next.mine es) (sym legal.accepted) s.mine;
        knows = refl;
      };
      wrote = wrote_by settings trace client s.at was.how first last records s.next was.to_sync s.step.replies;
    }

-- The same of a client in a legal outcome

-- where one list has an element, another one of its length has one too
pub as_long : {X Y : Type 0} (xs : List X) (ys : List Y) (i : ℕ) (x : X) → length xs ≡ length ys → slice_get xs i ≡ Some x → (y : Y) × (slice_get ys i ≡ Some y)
as_long [] ys i x same there = absurd (cc there)
as_long (z ∷ xs) [] i x same there = absurd (omega (arith, same))
as_long (z ∷ xs) (y ∷ ys) zero x same there = (y, refl)
as_long (z ∷ xs) (y ∷ ys) (suc i) x same there = as_long xs ys i x (omega (arith, same)) there

pub knew_in_outcome : (settings : Settings) (ended : ℕ) (script : List (List Command)) (trace : Trace) (attempts : List (List Attempt)) (o : Outcome) → IsLegalIn settings ended script trace attempts o
    → (i : ℕ) (calls : List Call) (first last : ℕ) (records : List Record) → slice_get o.transcripts i ≡ Some calls → WasAnswered calls first last records → KnewByThen settings trace (i + 1) calls first records
knew_in_outcome settings ended script trace attempts o legal i calls first last records there was =
    let asked = as_long o.transcripts script i calls legal.count there in
    let own = legal.each i asked.0 calls asked.1 there in
    knew_by_then settings trace o.fault (i + 1) asked.0 calls own.0 first last records own.2 was
