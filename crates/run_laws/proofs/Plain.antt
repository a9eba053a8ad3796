-- A client that only adds short counted records and commits one to four of them at a time. If its commits aren't
-- refused for a fault or because no run fits, its accepted batches are just those that its commands make.
use Rattle.std.proofs.Common.{◌≡◌, ℕ, ◌+◌, ◌*◌, ◌≤◌, Bool, true, false, cond, ◌==◌, nat_lt, nat_le, List, [], ◌∷◌, ◌++◌, length, map, Option, Some, None, MatchOption, refl, sym, ap, ◌∙◌, subst, append_assoc, append-nil, arith, length-append}
use Rattle.std.specs.List.{AllByRecursion}
use Rattle.std.proofs.lemmas.Bool.Decides.{nat_tests}
use Rattle.std.proofs.lemmas.List.{map_push}
use Rattle.std.proofs.lemmas.List.Sums.{sum_by-cons}
use Rattle.model_base.specs.declared.limits.TheConstants.{MAX_SIZE}
use Rattle.model_base.specs.declared.write.WriteOptions.{WriteOptions}
use Rattle.model_base.specs.declared.write.Refusal.{Refusal}
use Rattle.model_base.specs.declared.write.Refusal.TheVariants as no
use Rattle.model_base.specs.Batch.{Record, is_counted, count_of, record_bytes, header, body, size_of_batch}
use Rattle.model_base.specs.History.{Entry, max_sequence}
use Rattle.model_base.specs.Tokens.{holds_stop}
use Rattle.model_base.specs.Attempts.{Attempt, Fate, WriteStatus, succeeded, slowed, faulted, full, fate_at, with_attempt}
use Rattle.model_base.specs.Trace.{Trace, Settings}
use Rattle.model_base.specs.Progress.{Progress, next_entry, family_about, families_in, first_missing, early_refusal}
use Rattle.model_base.specs.Generator.{plain}
use Rattle.model_base.specs.Runs.{Run, commands_of}
use Rattle.model_base.specs.Replies.{MayRefuse, Adds, IsAttempted, Commits, Stays, Replies}
use Rattle.model_base.specs.Calls.{Command, add, commit, Reply, quiet, accepted, refused, Call}
use Rattle.model_base.proofs.Fates.{fate_with}
use Rattle.run_laws.specs.Summaries.{batches_after}
use Rattle.run_laws.proofs.Lists.{all_front, all_back, all_both}
use Rattle.run_laws.proofs.Progresses.{Moves, stays, adds, clears, accepts, refuses, moves}

-- a record that counts, is in the default family, and has at most 12 bytes
abbrev pub IsShort : Record → Type 0
IsShort r = ((is_counted r ≡ true) × (family_about r ≡ Some 0)) × (length (record_bytes r) ≤ 12)

-- the commands of such a client whose batch has n records
abbrev pub IsPlain : ℕ → List Command → Type 0
IsPlain n [] = Unit {0}
IsPlain n (add r ∷ commands) = IsShort r × IsPlain (n + 1) commands
IsPlain n (commit how ∷ commands) = (how ≡ plain) × (1 ≤ n) × (n ≤ 4) × IsPlain 0 commands
IsPlain n (other ∷ commands) = ⊥

-- Its commits pass the early checks

short_count : (records : List Record) → AllByRecursion IsShort records → count_of records ≡ length records
short_count [] a = refl
short_count (r ∷ records) a =
    let first = sum_by-cons (λ r. cond (is_counted r) 1 0) r records in
    let weight : Bool → ℕ = λ b. cond b 1 0 in let counted = ap weight a.0.0.0 in
    omega (arith, first, counted, short_count records a.1)

short_body : (records : List Record) → AllByRecursion IsShort records → length (body records) ≤ 12 * length records
short_body [] a = omega arith
short_body (r ∷ records) a = omega (arith, a.0.1, short_body records a.1, length-append (record_bytes r) (body records))

short_there : (families : ℕ) → 1 ≤ families → (records : List Record) → AllByRecursion IsShort records → first_missing families (families_in records) ≡ None
short_there families some [] a = refl
short_there families some (r ∷ records) a =
    let below : nat_le families 0 ≡ false = grind (arith, nat_tests) in
    rw (a.0.0.1, below) (short_there families some records a.1)

passes : (families : ℕ) → 1 ≤ families → (records : List Record) → AllByRecursion IsShort records → 1 ≤ length records → length records ≤ 4 → early_refusal families MAX_SIZE false records plain ≡ None
passes families some_family records a some few =
    let count = short_count records a in let bytes = short_body records a in
    let counted : (count_of records == 0) ≡ false = grind (arith, nat_tests) in
    let size : size_of_batch records ≤ 60 = omega (arith, few, bytes, length-append (header 0 (count_of records)) (body records)) in
    let fits : nat_lt MAX_SIZE (size_of_batch records) ≡ false = grind (arith, nat_tests) in
    rw (counted, fits, short_there families some_family records a) refl

-- Its attempts

-- a status that is no fault, and is `full` only after a sequence up to `most`
abbrev pub IsSound : ℕ → WriteStatus → Type 0
IsSound most succeeded = Unit {0}
IsSound most slowed = Unit {0}
IsSound most (faulted count) = ⊥
IsSound most (full last) = last ≤ most

abbrev pub AreSound : ℕ → List Attempt → Type 0
AreSound most attempts = AllByRecursion (λ (h : Attempt). IsSound most h.status) attempts

sound_before : (most : ℕ) (attempts : List Attempt) (records : List Record) (how : WriteOptions) (fate : Option Fate) → AreSound most (with_attempt attempts records how fate) → AreSound most attempts
sound_before most attempts records how None a = a
sound_before most attempts records how (Some fate) a = all_front (λ (h : Attempt). IsSound most h.status) attempts _ a

sound_last : (most : ℕ) (attempts : List Attempt) (records : List Record) (how : WriteOptions) (place decided : ℕ) (status : WriteStatus) → AreSound most (with_attempt attempts records how (fate_at place decided status)) → IsSound most status
sound_last most attempts records how place decided status a = (all_back (λ (h : Attempt). IsSound most h.status) attempts _ a).0

sound_step : (most client : ℕ) (p : Progress) (command : Command) (q : Progress) → Moves client p command q → AreSound most q.attempts → AreSound most p.attempts
sound_step most client p command q (stays e f g) a = subst (AreSound most) g a
sound_step most client p command q (adds r is e f g) a = subst (AreSound most) g a
sound_step most client p command q (clears e f g) a = subst (AreSound most) g a
sound_step most client p command q (accepts how first place decided e f g) a = sound_before most p.attempts p.pending how (fate_at place decided succeeded) (subst (AreSound most) g a)
sound_step most client p command q (refuses how fate e f g) a = sound_before most p.attempts p.pending how fate (subst (AreSound most) g a)

sound_run : (most : ℕ) (settings : Settings) (trace : Trace) (client : ℕ) (p : Progress) (calls : List Call) (q : Progress) → Run settings trace client p calls q → AreSound most q.attempts → AreSound most p.attempts
sound_run most settings trace client p [] q run a = subst (λ (x : Progress). AreSound most x.attempts) run a
sound_run most settings trace client p (c ∷ calls) q run a =
    sound_step most client p c.command run.0 (moves settings trace client p c.command c.reply run.0 run.1.replies) (sound_run most settings trace client run.0 calls q run.2 a)

-- Its calls

-- the client's progress, with n short records in its batch and no tokens
pub record Stands (n : ℕ) (p : Progress) : Type 0 where
  pub long : length p.pending ≡ n
  pub short : AllByRecursion IsShort p.pending
  pub asked : p.asked ≡ []

-- the client's accepted batches, and after them those that its next commands make
abbrev pub made_with : Progress → List Command → List (List Record)
made_with p commands = map (λ (e : Entry). e.records) p.mine ++ batches_after p.pending commands

-- after a call this still holds, with one command less to come
pub record GoesOn (p : Progress) (command : Command) (commands : List Command) (q : Progress) : Type 0 where
  pub n : ℕ
  pub stands : Stands n q
  pub left : IsPlain n commands
  pub same : made_with q commands ≡ made_with p (command ∷ commands)

module _ (most : ℕ) (small : most + 4 ≤ max_sequence) (settings : Settings) (bytes : settings.batch_bytes ≡ MAX_SIZE) (some_family : 1 ≤ settings.families) (trace : Trace) (client : ℕ) where
  after_add : (n : ℕ) (p : Progress) (r : Record) (commands : List Command) (reply : Reply) (q : Progress) → IsPlain n (add r ∷ commands) → Stands n p → Adds p r reply q → GoesOn p (add r) commands q
  after_add n p r commands quiet q is s e = record {
    n = n + 1;
    stands = subst (Stands (n + 1)) (sym e) (record {
      long = omega (arith, s.long, length-append p.pending (r ∷ []));
      short = all_both IsShort p.pending (r ∷ []) s.short (is.0, tt);
      asked = s.asked;
    });
    left = is.1;
    same = ap (λ x. made_with x commands) e;
  }
  after_add n p r commands other q is s e = absurd e

  -- the commit can't be refused
  never_refused : (n : ℕ) (p : Progress) (knows : ℕ) (how : WriteOptions) (why : Refusal) (fate : Option Fate) → how ≡ plain → n ≤ 4 → Stands n p
      → AreSound most (with_attempt p.attempts p.pending how fate) → MayRefuse trace.controller_calls client p knows how why fate → ⊥
  never_refused n p knows how (no.Incomplete stops delays wait) fate is few s a may = let no_wait : how.no_slowdown ≡ false = ap (λ (x : WriteOptions). x.no_slowdown) is in let yes = may.0 in cc
  never_refused n p knows how (no.LogFault count) fate is few s a may =
      let f = fate_with fate (faulted count) may in sound_last most p.attempts p.pending how f.0 f.1 (faulted count) (subst (λ x. AreSound most (with_attempt p.attempts p.pending how x)) f.2 a)
  never_refused n p knows how (no.SequenceFull last) fate is few s a may =
      let f = fate_with fate (full last) may.0 in
      let within : last ≤ most = sound_last most p.attempts p.pending how f.0 f.1 (full last) (subst (λ x. AreSound most (with_attempt p.attempts p.pending how x)) f.2 a) in
      let past = may.5 in let count = short_count p.pending s.short in let long = s.long in omega (arith, small, within, past, count, long, few)
  never_refused n p knows how no.Empty fate is few s a may = may
  never_refused n p knows how (no.TooLarge size) fate is few s a may = may
  never_refused n p knows how no.SyncWithoutLog fate is few s a may = may
  never_refused n p knows how (no.NoFamily family) fate is few s a may = may
  never_refused n p knows how no.SelfStop fate is few s a may = may
  never_refused n p knows how no.NoMemory fate is few s a may = may

  after_attempt : (n : ℕ) (p : Progress) (how : WriteOptions) (commands : List Command) (reply : Reply) (q : Progress) → IsPlain n (commit how ∷ commands) → Stands n p → AreSound most q.attempts
      → IsAttempted trace client p how reply q → GoesOn p (commit how) commands q
  after_attempt n p how commands (accepted first last records) q is s a e = record {
    n = 0;
    stands = subst (Stands 0) (sym e.after) (record { long = refl; short = tt; asked = s.asked });
    left = is.3;
    same = ap (λ x. made_with x commands) e.after
        ∙ ap (λ xs. xs ++ batches_after [] commands) (map_push (λ (e : Entry). e.records) p.mine (next_entry client p.mine how first p.pending))
        ∙ append_assoc (map (λ (e : Entry). e.records) p.mine) (p.pending ∷ []) (batches_after [] commands);
  }
  after_attempt n p how commands (refused why) q is s a e =
      absurd (never_refused n p q.known how why e.0 is.0 is.2 s (subst (λ (x : Progress). AreSound most x.attempts) e.2 a) e.1)
  after_attempt n p how commands other q is s a e = absurd e

  after_commit : (n : ℕ) (p : Progress) (how : WriteOptions) (commands : List Command) (reply : Reply) (q : Progress) → IsPlain n (commit how ∷ commands) → Stands n p → AreSound most q.attempts
      → Commits settings trace client p how reply q → GoesOn p (commit how) commands q
  after_commit n p how commands reply q is s a e =
      let some : 1 ≤ length p.pending = let n_some = is.1 in let long = s.long in omega arith in
      let few : length p.pending ≤ 4 = let n_few = is.2 in let long = s.long in omega arith in
      let checks : early_refusal settings.families settings.batch_bytes (holds_stop p.asked) p.pending how ≡ None = rw (bytes, s.asked, is.0) (passes settings.families some_family p.pending s.short some few) in
      after_attempt n p how commands reply q is s a
      (subst (λ early. MatchOption early (IsAttempted trace client p how reply q) (λ why. (reply ≡ refused why) × Stays p q)) checks e)

  after_call : (n : ℕ) (p : Progress) (command : Command) (commands : List Command) (reply : Reply) (q : Progress) → IsPlain n (command ∷ commands) → Stands n p → AreSound most q.attempts
      → Replies settings trace client p command reply q → GoesOn p command commands q
  after_call n p (add r) commands reply q is s a e = after_add n p r commands reply q is s e
  after_call n p (commit how) commands reply q is s a e = after_commit n p how commands reply q is s a e
  after_call n p other commands reply q is s a e = absurd is

  -- after all its calls its accepted batches are those that its commands make
  pub all_accepted : (n : ℕ) (p : Progress) (calls : List Call) (q : Progress) → IsPlain n (commands_of calls) → Stands n p → AreSound most q.attempts
      → Run settings trace client p calls q → map (λ (e : Entry). e.records) q.mine ≡ made_with p (commands_of calls)
  all_accepted n p [] q is s a run = ap (λ (x : Progress). map (λ (e : Entry). e.records) x.mine) run ∙ sym (append-nil (map (λ (e : Entry). e.records) p.mine))
  all_accepted n p (c ∷ calls) q is s a run =
      let on = after_call n p c.command (commands_of calls) c.reply run.0 is s (sound_run most settings trace client run.0 calls q run.2 a) run.1.replies in
      all_accepted on.n run.0 calls q on.left on.stands a run.2 ∙ on.same
