-- What each step of a client's calls keeps: no accepted batch is larger than the settings allow, or in a family that
-- there isn't, and where no fault of the log ended one of the client's commits, each refused call was refused only for a
-- cause of its own.
use Rattle.std.proofs.Common.{◌≡◌, ℕ, ◌<◌, ◌≤◌, ◌==◌, nat_lt, nat_le, Bool, true, false, not, ◌&&◌, cond, Option, Some, None, List, [], ◌∷◌, ◌++◌, map, MatchOption, refl, ap, sym, ◌∙◌, subst}
use Rattle.std.specs.List.{AllByRecursion}
use Rattle.std.specs.Option.{option_map_or}
use Rattle.std.proofs.lemmas.Bool.{ltb-false, leb-false}
use Rattle.model_base.specs.declared.write.WriteOptions.{WriteOptions}
use Rattle.model_base.specs.declared.write.Refusal.{Refusal}
use Rattle.model_base.specs.declared.write.Refusal.TheVariants as no
use Rattle.model_base.specs.Batch.{Record, count_of, size_of_batch}
use Rattle.model_base.specs.declared.key.Key.{Key}
use Rattle.model_base.specs.Map.{Pairs}
use Rattle.model_base.specs.History.{Entry}
use Rattle.model_base.specs.Controller.{ControllerCall, Action}
use Rattle.model_base.specs.Tokens.{holds_stop}
use Rattle.model_base.specs.Trace.{Trace, Settings}
use Rattle.model_base.specs.Attempts.{Attempt, Fate, WriteStatus, succeeded, slowed, faulted, full, fate_at, is_faulted, status_in, with_attempt}
use Rattle.model_base.specs.Groups.{IsStatus, AreStatuses}
use Rattle.model_base.specs.Progress.{Progress, fresh, next_entry, families_in, first_missing, early_refusal}
use Rattle.model_base.specs.Replies.{MayRefuse, IsAttempted, Commits, ReadsAt, IfThere, IsDone, Stays, Adds, Clears, Gets, GetsMany, Scans, Updates, Stops, Unstops, Slows, Unslows, Replies}
use Rattle.model_base.specs.Runs.{Run, IsTranscript, whole, cut_off}
use Rattle.model_base.specs.Calls.{Command, add, clear, commit, get, many, scan, updates, stop, unstop, slow, unslow, Reply, quiet, accepted, refused, found, found_each, rows, updates_found, read_failed, done, held, not_held, no_memory, Call}
use Rattle.model_runs.specs.Refusals.{is_for_itself, RefusesForItself, AreRefusedForThemselves}

-- Each element of a list

all_append : {X : Type 0} (P : X → Type 0) (xs ys : List X) → AllByRecursion P xs → AllByRecursion P ys → AllByRecursion P (xs ++ ys)
all_append P [] ys a b = b
all_append P (x ∷ xs) ys a b = (a.0, all_append P xs ys a.1 b)

all_front : {X : Type 0} (P : X → Type 0) (xs ys : List X) → AllByRecursion P (xs ++ ys) → AllByRecursion P xs
all_front P [] ys a = tt
all_front P (x ∷ xs) ys a = (a.0, all_front P xs ys a.1)

all_back : {X : Type 0} (P : X → Type 0) (xs ys : List X) → AllByRecursion P (xs ++ ys) → AllByRecursion P ys
all_back P [] ys a = a
all_back P (x ∷ xs) ys a = all_back P xs ys a.1

-- The early checks, the second of which is that of the size, and the fourth that of the families

passed_both : (a b c : Bool) (s t u : Refusal) (rest : Option Refusal) → cond a (Some s) (cond b (Some t) (cond c (Some u) rest)) ≡ None → (b ≡ false) × (rest ≡ None)
passed_both true b c s t u rest e = absurd (cc e)
passed_both false true c s t u rest e = absurd (cc e)
passed_both false false true s t u rest e = absurd (cc e)
passed_both false false false s t u rest e = (refl, e)

none_is_missing : (missing : Option ℕ) (rest : Option Refusal) → option_map_or (λ family. Some (no.NoFamily family)) missing rest ≡ None → missing ≡ None
none_is_missing None rest e = refl
none_is_missing (Some family) rest e = absurd (cc e)

all_there : (families : ℕ) (named : List ℕ) → first_missing families named ≡ None → AllByRecursion (λ (f : ℕ). f < families) named
all_there families [] none = tt
all_there families (f ∷ named) none = by_test (nat_le families f) refl none (all_there families named)
  where
    by_test : (b : Bool) → nat_le families f ≡ b → cond b (Some f) (first_missing families named) ≡ None → (first_missing families named ≡ None → AllByRecursion (λ (f : ℕ). f < families) named)
        → (f < families) × AllByRecursion (λ (f : ℕ). f < families) named
    by_test true is none later = absurd (cc none)
    by_test false is none later = (leb-false families f is, later none)

-- a batch that isn't too large, each of whose records is in a family that there is
abbrev pub IsAllowed : ℕ → ℕ → List Record → Type 0
IsAllowed families bytes records = (size_of_batch records ≤ bytes) × AllByRecursion (λ (f : ℕ). f < families) (families_in records)

passed_checks : (families bytes : ℕ) (stopping : Bool) (records : List Record) (how : WriteOptions) → early_refusal families bytes stopping records how ≡ None → IsAllowed families bytes records
passed_checks families bytes stopping records how e =
    let stopped : Option Refusal = cond (stopping && not how.no_slowdown) (Some no.SelfStop) None in
    let missing = first_missing families (families_in records) in
    let passed = passed_both (count_of records == 0) (nat_lt bytes (size_of_batch records)) (how.sync && how.no_log) no.Empty (no.TooLarge (size_of_batch records)) no.SyncWithoutLog
    (option_map_or (λ family. Some (no.NoFamily family)) missing stopped) e in
    (ltb-false bytes (size_of_batch records) passed.0, all_there families (families_in records) (none_is_missing missing stopped passed.1))

is_early : (a b c : Bool) (missing : Option ℕ) (d : Bool) (n : ℕ) (why : Refusal)
    → cond a (Some no.Empty) (cond b (Some (no.TooLarge n)) (cond c (Some no.SyncWithoutLog) (option_map_or (λ family. Some (no.NoFamily family)) missing (cond d (Some no.SelfStop) None)))) ≡ Some why → is_for_itself why ≡ true
is_early true b c missing d n why e = let same : no.Empty ≡ why = cc e in ap is_for_itself (sym same)
is_early false true c missing d n why e = let same : no.TooLarge n ≡ why = cc e in ap is_for_itself (sym same)
is_early false false true missing d n why e = let same : no.SyncWithoutLog ≡ why = cc e in ap is_for_itself (sym same)
is_early false false false (Some family) d n why e = let same : no.NoFamily family ≡ why = cc e in ap is_for_itself (sym same)
is_early false false false None true n why e = let same : no.SelfStop ≡ why = cc e in ap is_for_itself (sym same)
is_early false false false None false n why e = absurd (cc e)

early_for_itself : (families bytes : ℕ) (stopping : Bool) (records : List Record) (how : WriteOptions) (why : Refusal) → early_refusal families bytes stopping records how ≡ Some why → is_for_itself why ≡ true
early_for_itself families bytes stopping records how why e =
    is_early (count_of records == 0) (nat_lt bytes (size_of_batch records)) (how.sync && how.no_log) (first_missing families (families_in records)) (stopping && not how.no_slowdown) (size_of_batch records) why e

-- Commits that no fault of the log ended

abbrev pub NoneFaulted : List Attempt → Type 0
NoneFaulted attempts = AllByRecursion (λ (h : Attempt). is_faulted h.status ≡ false) attempts

status_without_fault : (trace : Trace) (status : WriteStatus) → IsStatus trace None status → is_faulted status ≡ false
status_without_fault trace succeeded is = refl
status_without_fault trace slowed is = refl
status_without_fault trace (faulted count) is = absurd (cc is)
status_without_fault trace (full last) is = refl

pub none_faulted : (trace : Trace) (attempts : List Attempt) → AreStatuses trace None attempts → NoneFaulted attempts
none_faulted trace [] are = tt
none_faulted trace (h ∷ attempts) are = (status_without_fault trace h.status are.0, none_faulted trace attempts are.1)

earlier : (attempts : List Attempt) (records : List Record) (how : WriteOptions) (fate : Option Fate) → NoneFaulted (with_attempt attempts records how fate) → NoneFaulted attempts
earlier attempts records how None none = none
earlier attempts records how (Some fate) none = all_front (λ (h : Attempt). is_faulted h.status ≡ false) attempts (record { records = records; options = how; status = fate.status; place = fate.place; decided = fate.decided } ∷ []) none

last_faulted : (attempts : List Attempt) (records : List Record) (how : WriteOptions) (count : ℕ) (fate : Option Fate) → status_in fate ≡ Some (faulted count) → NoneFaulted (with_attempt attempts records how fate) → ⊥
last_faulted attempts records how count None is none = cc is
last_faulted attempts records how count (Some fate) is none =
    let last : is_faulted fate.status ≡ false = (all_back (λ (h : Attempt). is_faulted h.status ≡ false) attempts (record { records = records; options = how; status = fate.status; place = fate.place; decided = fate.decided } ∷ []) none).0 in
    let same : fate.status ≡ faulted count = cc is in cc (sym last ∙ ap is_faulted same)

for_itself : (controller_calls : List ControllerCall) (client : ℕ) (p : Progress) (knows : ℕ) (how : WriteOptions) (why : Refusal) (fate : Option Fate)
    → MayRefuse controller_calls client p knows how why fate → NoneFaulted (with_attempt p.attempts p.pending how fate) → is_for_itself why ≡ true
for_itself controller_calls client p knows how (no.Incomplete stops delays wait) fate may none = refl
for_itself controller_calls client p knows how (no.LogFault count) fate may none = absurd (last_faulted p.attempts p.pending how count fate may none)
for_itself controller_calls client p knows how (no.SequenceFull last) fate may none = refl
for_itself controller_calls client p knows how no.Empty fate may none = absurd may
for_itself controller_calls client p knows how (no.TooLarge size) fate may none = absurd may
for_itself controller_calls client p knows how no.SyncWithoutLog fate may none = absurd may
for_itself controller_calls client p knows how (no.NoFamily family) fate may none = absurd may
for_itself controller_calls client p knows how no.SelfStop fate may none = absurd may
for_itself controller_calls client p knows how no.NoMemory fate may none = absurd may

-- Steps

abbrev pub AreSmall : ℕ → ℕ → List Entry → Type 0
AreSmall families bytes mine = AllByRecursion (λ (e : Entry). IsAllowed families bytes e.records) mine

-- From one place of a client to a later one no batch was accepted that isn't allowed. Where no commit up to the later
-- place was ended by a fault, none up to the earlier place was, and what `Says` says holds of the replies between them.
pub record Keeps (families bytes : ℕ) (p : Progress) (Says : Type 0) (q : Progress) : Type 0 where
  pub small : AreSmall families bytes p.mine → AreSmall families bytes q.mine
  pub told : NoneFaulted q.attempts → NoneFaulted p.attempts × Says

abbrev IsNoRefusal : Reply → Type 0
IsNoRefusal reply = (why : Refusal) → reply ≡ refused why → ⊥

-- the two cases of an option, each with the equation that it is this case
by_option : {A : Type 0} (P R : Type 0) (Q : A → Type 0) (o : Option A) → (o ≡ None → P → R) → ((a : A) → o ≡ Some a → Q a → R) → MatchOption o P Q → R
by_option P R Q None f g h = f refl h
by_option P R Q (Some a) f g h = g a refl h

module _ (settings : Settings) (trace : Trace) (client : ℕ) where
  -- after a step with this reply
  abbrev KeepsBy : Progress → Reply → Progress → Type 0
  KeepsBy p r q = Keeps settings.families settings.batch_bytes p (RefusesForItself r) q

  unchanged : (p : Progress) (r : Reply) (q : Progress) {m : Progress} → IsNoRefusal r → q ≡ m → m.mine ≡ p.mine → m.attempts ≡ p.attempts → KeepsBy p r q
  unchanged p r q never is mine attempts = record {
    small = λ are. subst (AreSmall settings.families settings.batch_bytes) (sym (ap (λ (x : Progress). x.mine) is ∙ mine)) are;
    told = λ none. (subst NoneFaulted (ap (λ (x : Progress). x.attempts) is ∙ attempts) none, λ why e. absurd (never why e));
  }

  stays : (p : Progress) (r : Reply) (q : Progress) → IsNoRefusal r → Stays p q → KeepsBy p r q
  stays p r q never s = unchanged p r q never s refl refl

  adds : (p : Progress) (x : Record) (r : Reply) (q : Progress) → Adds p x r q → KeepsBy p r q
  adds p x quiet q s = unchanged p quiet q (λ why e. cc e) s refl refl
  adds p x _ q s = absurd s

  clears : (p : Progress) (r : Reply) (q : Progress) → Clears p r q → KeepsBy p r q
  clears p quiet q s = unchanged p quiet q (λ why e. cc e) s refl refl
  clears p _ q s = absurd s

  attempted : (p : Progress) (how : WriteOptions) (r : Reply) (q : Progress) → IsAllowed settings.families settings.batch_bytes p.pending → IsAttempted trace client p how r q → KeepsBy p r q
  attempted p how (accepted first last records) q fits s = record {
    small = λ are. subst (AreSmall settings.families settings.batch_bytes) (sym (ap (λ (x : Progress). x.mine) s.after))
        (all_append (λ (e : Entry). IsAllowed settings.families settings.batch_bytes e.records) p.mine (next_entry client p.mine how first p.pending ∷ []) are (fits, tt));
    told = λ none. (earlier p.attempts p.pending how (fate_at s.place s.decided succeeded) (subst NoneFaulted (ap (λ (x : Progress). x.attempts) s.after) none), λ why e. absurd (cc e));
  }
  attempted p how (refused why) q fits s = record {
    small = λ are. subst (AreSmall settings.families settings.batch_bytes) (sym (ap (λ (x : Progress). x.mine) s.2)) are;
    told = λ none. (
        let none_before = subst NoneFaulted (ap (λ (x : Progress). x.attempts) s.2) none in (
          earlier p.attempts p.pending how s.0 none_before,
          λ other e. (
              let same : why ≡ other = cc e in
              subst (λ (w : Refusal). is_for_itself w ≡ true) same (for_itself trace.controller_calls client p q.known how why s.0 s.1 none_before)),
        ));
  }
  attempted p how _ q fits s = absurd s

  refuses_early : (p : Progress) (how : WriteOptions) (r : Reply) (q : Progress) (why : Refusal) → early_refusal settings.families settings.batch_bytes (holds_stop p.asked) p.pending how ≡ Some why
      → (r ≡ refused why) × Stays p q → KeepsBy p r q
  refuses_early p how r q why early s = record {
    small = λ are. subst (AreSmall settings.families settings.batch_bytes) (sym (ap (λ (x : Progress). x.mine) s.1)) are;
    told = λ none. (
      subst NoneFaulted (ap (λ (x : Progress). x.attempts) s.1) none,
      λ other e. (
          let same : why ≡ other = cc (s.0, e) in
          subst (λ (w : Refusal). is_for_itself w ≡ true) same (early_for_itself settings.families settings.batch_bytes (holds_stop p.asked) p.pending how why early)),
    );
  }

  commits : (p : Progress) (how : WriteOptions) (r : Reply) (q : Progress) → Commits settings trace client p how r q → KeepsBy p r q
  commits p how r q s =
      let early = early_refusal settings.families settings.batch_bytes (holds_stop p.asked) p.pending how in
      by_option {A = Refusal} (IsAttempted trace client p how r q) (KeepsBy p r q) (λ why. (r ≡ refused why) × Stays p q) early
      (λ passes is. attempted p how r q (passed_checks settings.families settings.batch_bytes (holds_stop p.asked) p.pending how passes) is)
      (λ why is both. refuses_early p how r q why is both) s

  reads : (p : Progress) (r : Reply) (q : Progress) → IsNoRefusal r → (at : ℕ) (answers : Pairs → Type 0) → ReadsAt trace p at answers q → KeepsBy p r q
  reads p r q never at answers s = unchanged p r q never s.after refl refl

  -- a read that is refused, since there isn't one of the families that it names
  refuses_read : (p : Progress) (r : Reply) (q : Progress) (family : ℕ) → (r ≡ refused (no.NoFamily family)) × Stays p q → KeepsBy p r q
  refuses_read p r q family s = record {
    small = λ are. subst (AreSmall settings.families settings.batch_bytes) (sym (ap (λ (x : Progress). x.mine) s.1)) are;
    told = λ none. (
      subst NoneFaulted (ap (λ (x : Progress). x.attempts) s.1) none,
      λ other e. (let same : no.NoFamily family ≡ other = cc (s.0, e) in ap is_for_itself (sym same)),
    );
  }

  if_there : {A : Type 0} (p : Progress) (named : List ℕ) (r : Reply) (q : Progress) → (A → KeepsBy p r q) → IfThere settings named p r q A → KeepsBy p r q
  if_there {A = A} p named r q answered s =
      by_option {A = ℕ} A (KeepsBy p r q) (λ family. (r ≡ refused (no.NoFamily family)) × Stays p q) (first_missing settings.families named) (λ there is. answered is) (λ family missing both. refuses_read p r q family both) s

  gets : (p : Progress) (key : Key) (r : Reply) (q : Progress) → Gets trace p key r q → KeepsBy p r q
  gets p key (found at v) q s = reads p (found at v) q (λ why e. cc e) at _ s
  gets p key _ q s = absurd s

  gets_many : (p : Progress) (keys : List Key) (r : Reply) (q : Progress) → GetsMany trace p keys r q → KeepsBy p r q
  gets_many p keys (found_each at vs) q s = reads p (found_each at vs) q (λ why e. cc e) at _ s
  gets_many p keys _ q s = absurd s

  scans : (p : Progress) (family : ℕ) (lo hi : List ℕ) (r : Reply) (q : Progress) → Scans trace p family lo hi r q → KeepsBy p r q
  scans p family lo hi (rows at pairs) q s = reads p (rows at pairs) q (λ why e. cc e) at _ s
  scans p family lo hi _ q s = absurd s

  updated : (p : Progress) (n : ℕ) (r : Reply) (q : Progress) → Updates settings trace p n r q → KeepsBy p r q
  updated p n (updates_found at records) q s = reads p (updates_found at records) q (λ why e. cc e) at _ s.1.reads
  updated p n (refused why) q s = record {
    small = λ are. subst (AreSmall settings.families settings.batch_bytes) (sym (ap (λ (x : Progress). x.mine) s.2)) are;
    told = λ none. (
      subst NoneFaulted (ap (λ (x : Progress). x.attempts) s.2) none,
      λ other e. (let same : no.SelfStop ≡ other = cc (s.0, e) in ap is_for_itself (sym same)),
    );
  }
  updated p n (read_failed count) q s = stays p (read_failed count) q (λ why e. cc e) s.2
  updated p n _ q s = absurd s

  token : (p : Progress) (r : Reply) (q : Progress) → IsNoRefusal r → (action : Action) → IsDone trace client p action q → KeepsBy p r q
  token p r q never action s = unchanged p r q never s.after refl refl

  stops : (p : Progress) (r : Reply) (q : Progress) → Stops trace client p r q → KeepsBy p r q
  stops p done q s = token p done q (λ why e. cc e) _ s.2
  stops p held q s = stays p held q (λ why e. cc e) s.1
  stops p _ q s = absurd s

  unstops : (p : Progress) (r : Reply) (q : Progress) → Unstops trace client p r q → KeepsBy p r q
  unstops p done q s = token p done q (λ why e. cc e) _ s.2
  unstops p not_held q s = stays p not_held q (λ why e. cc e) s.1
  unstops p _ q s = absurd s

  slows : (p : Progress) (rate : ℕ) (r : Reply) (q : Progress) → Slows trace client p rate r q → KeepsBy p r q
  slows p rate done q s = token p done q (λ why e. cc e) _ s.2
  slows p rate held q s = stays p held q (λ why e. cc e) s.1
  slows p rate _ q s = absurd s

  unslows : (p : Progress) (r : Reply) (q : Progress) → Unslows trace client p r q → KeepsBy p r q
  unslows p done q s = token p done q (λ why e. cc e) _ s.2
  unslows p not_held q s = stays p not_held q (λ why e. cc e) s.1
  unslows p _ q s = absurd s

  replied : (p : Progress) (c : Command) (r : Reply) (q : Progress) → Replies settings trace client p c r q → KeepsBy p r q
  replied p (add x) r q s = adds p x r q s
  replied p clear r q s = clears p r q s
  replied p (commit how) r q s = commits p how r q s
  replied p (get key) r q s = if_there p (key.family ∷ []) r q (gets p key r q) s
  replied p (many keys) r q s = if_there p (map (λ (k : Key). k.family) keys) r q (gets_many p keys r q) s
  replied p (scan family lo hi) r q s = if_there p (family ∷ []) r q (scans p family lo hi r q) s
  replied p (updates n) r q s = updated p n r q s
  replied p stop r q s = stops p r q s
  replied p unstop r q s = unstops p r q s
  replied p (slow rate) r q s = slows p rate r q s
  replied p unslow r q s = unslows p r q s

  -- Runs

  ran : (p : Progress) (calls : List Call) (q : Progress) → Run settings trace client p calls q → Keeps settings.families settings.batch_bytes p (AreRefusedForThemselves calls) q
  ran p [] q s = record {
    small = λ are. subst (AreSmall settings.families settings.batch_bytes) (sym (ap (λ (x : Progress). x.mine) s)) are;
    told = λ none. (subst NoneFaulted (ap (λ (x : Progress). x.attempts) s) none, tt);
  }
  ran p (c ∷ calls) q s =
      let one = replied p c.command c.reply s.0 s.1.replies in let rest = ran s.0 calls q s.2 in
      record {
        small = λ are. rest.small (one.small are);
        told = λ none. (let behind = rest.told none in let here = one.told behind.0 in (here.0, (here.1, behind.1)));
      }

  pub transcribed : (commands : List Command) (calls : List Call) (end : Progress) → IsTranscript settings trace client commands calls end → Keeps settings.families settings.batch_bytes fresh (AreRefusedForThemselves calls) end
  transcribed commands calls end (whole all run) = ran fresh calls end run
  transcribed commands calls end (cut_off front last rest are from run lacks) =
      let before = ran fresh front end run in
      record {
        small = before.small;
        told = λ none. (
          tt,
          subst AreRefusedForThemselves (sym are)
              (all_append (λ (c : Call). RefusesForItself c.reply) front (record { command = last; reply = no_memory } ∷ []) (before.told none).1 ((λ why e. absurd (cc e)), tt)),
        );
      }
