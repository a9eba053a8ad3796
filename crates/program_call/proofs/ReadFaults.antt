-- Reads of the log that failed: whether the replies show any, and that the disk's count of faults rose to each.
use Rattle.std.proofs.Common.{◌≡◌, ℕ, suc, ◌+◌, ◌≤◌, Bool, true, false, ◌||◌, List, [], ◌∷◌, ◌++◌, length, Option, Some, None, IfSome, MatchOption, Vec, le_trans, refl, ap, sym, ◌∙◌, subst, arith}
use Rattle.std.specs.Prelude.{slice_get, is_some}
use Rattle.std.specs.List.{AllByRecursion, AllZip, list_any}
use Rattle.std.specs.declared.alloc.Global.{Global}
use Rattle.std.proofs.lemmas.Grind.{flat_map-append}
use Rattle.std.proofs.lemmas.List.{append-nil}
use Rattle.model_base.specs.Calls as calls
use Rattle.model_base.specs.Counts.{Rose}
use Rattle.model_base.specs.Map.{Pairs}
use Rattle.model_base.specs.declared.write.Refusal.{Refusal}
use Rattle.model_base.specs.declared.write.Refusal.TheVariants.{NoFamily}
use Rattle.model_base.specs.Attempts.{Attempt}
use Rattle.model_base.specs.Outcomes.{read_fault_of, read_faults_of, read_faults_in, AreOwnFaults, IsLegalIn}
use Rattle.model_base.specs.Progress.{Progress, fresh}
use Rattle.model_base.specs.Replies.{Replies, Stays}
use Rattle.model_base.specs.Runs.{Run, IsTranscript, whole, cut_off}
use Rattle.model_base.specs.Trace.{Trace, Settings}
use Rattle.run_outcome.specs.declared.reply.Reply.{Reply}
use Rattle.run_outcome.specs.declared.reply.Reply.TheVariants as reply
use Rattle.run_outcome.specs.declared.outcome.Outcome.{Outcome}
use Rattle.run_outcome.specs.Shows.{ShowsReply, ShowsReplies, ShowsOutcome, with_replies, is_read_fault, has_read_fault}
use Rattle.program_call.specs.Outcomes.{IsUnharmed}
use Rattle.program_call.specs.Reports.{disk_failed}

-- Whether there are any: the values say so exactly where the calls have one

abbrev any : List ℕ → Bool
any [] = false
any (n ∷ ns) = true

any_of_both : (xs ys : List ℕ) → any (xs ++ ys) ≡ (any xs || any ys)
any_of_both [] ys = refl
any_of_both (x ∷ xs) ys = refl

one_shown : (r : Reply) (c : calls.Call) → ShowsReply r c → is_read_fault r ≡ any (read_fault_of c.reply)
one_shown (reply.Accepted run) c shows = ap (λ x. any (read_fault_of x)) (sym shows.1)
one_shown (reply.Refused why) c shows = ap (λ x. any (read_fault_of x)) (sym shows)
one_shown (reply.Found at v) c shows = ap (λ x. any (read_fault_of x)) (sym shows)
one_shown (reply.Nothing at) c shows = ap (λ x. any (read_fault_of x)) (sym shows)
one_shown (reply.FoundEach at vs) c shows = ap (λ x. any (read_fault_of x)) (sym shows)
one_shown (reply.Rows at rows) c shows = ap (λ x. any (read_fault_of x)) (sym shows)
one_shown (reply.Updates at records) c shows = ap (λ x. any (read_fault_of x)) (sym shows)
one_shown (reply.ReadFault count) c shows = ap (λ x. any (read_fault_of x)) (sym shows)
one_shown reply.Done c shows = ap (λ x. any (read_fault_of x)) (sym shows)
one_shown reply.Held c shows = ap (λ x. any (read_fault_of x)) (sym shows)
one_shown reply.NotHeld c shows = ap (λ x. any (read_fault_of x)) (sym shows)
one_shown reply.NoMemory c shows = ap (λ x. any (read_fault_of x)) (sym shows)

each_shown : (rs : List Reply) (cs : List calls.Call) → AllZip ShowsReply rs cs → list_any is_read_fault rs ≡ any (read_faults_of cs)
each_shown [] [] shows = refl
each_shown [] (c ∷ cs) shows = absurd shows
each_shown (r ∷ rs) [] shows = absurd shows
each_shown (r ∷ rs) (c ∷ cs) shows =
    ap (λ b. b || list_any is_read_fault rs) (one_shown r c shows.0)
    ∙ (ap (λ b. any (read_fault_of c.reply) || b) (each_shown rs cs shows.1) ∙ sym (any_of_both (read_fault_of c.reply) (read_faults_of cs)))

-- a call without a reply hasn't failed either
call_same : (command : calls.Command) (r : calls.Reply) (cs : List calls.Call) → read_faults_of (with_replies cs) ≡ read_faults_of cs
    → read_faults_of (with_replies (record { command = command; reply = r } ∷ cs)) ≡ read_faults_of (record { command = command; reply = r } ∷ cs)
call_same command calls.quiet cs same = same
call_same command r cs same = ap (λ l. read_fault_of r ++ l) same

calls_same : (cs : List calls.Call) → read_faults_of (with_replies cs) ≡ read_faults_of cs
calls_same [] = refl
calls_same (c ∷ cs) = call_same c.command c.reply cs (calls_same cs)

abbrev any_fails : List (Vec Reply Global) → Bool
any_fails vs = list_any (λ (v : Vec Reply Global). list_any is_read_fault v.items) vs

all_shown : (vs : List (Vec Reply Global)) (ts : List (List calls.Call)) → AllZip (λ (v : Vec Reply Global). ShowsReplies v.items) vs ts → any_fails vs ≡ any (read_faults_in ts)
all_shown [] [] shows = refl
all_shown [] (t ∷ ts) shows = absurd shows
all_shown (v ∷ vs) [] shows = absurd shows
all_shown (v ∷ vs) (t ∷ ts) shows =
    ap (λ b. b || any_fails vs) (each_shown v.items (with_replies t) shows.0 ∙ ap any (calls_same t))
    ∙ (ap (λ b. any (read_faults_of t) || b) (all_shown vs ts shows.1) ∙ sym (any_of_both (read_faults_of t) (read_faults_in ts)))

none_of : (ns : List ℕ) → any ns ≡ false → ns ≡ []
none_of [] e = refl
none_of (n ∷ ns) e = absurd (cc e)

no_fault : (fault : Option ℕ) → is_some fault ≡ false → fault ≡ None
no_fault None e = refl
no_fault (Some count) e = absurd (cc e)

neither : (a b : Bool) → (a || b) ≡ false → (a ≡ false) × (b ≡ false)
neither true b e = absurd (cc e)
neither false b e = (refl, e)

-- no write of the log failed and no read of it, by what the values say
pub unharmed : (shown : Outcome Pairs) (o : calls.Outcome) → ShowsOutcome shown o → disk_failed shown ≡ false → IsUnharmed o
unharmed shown o shows e =
    let both = neither (is_some shown.fault) (has_read_fault shown) e in
    (shows.fault ∙ no_fault shown.fault both.0, none_of (read_faults_in o.transcripts) (sym (all_shown shown.transcripts.items o.transcripts shows.transcripts) ∙ both.1))

-- one of them failed
pub harmed : (shown : Outcome Pairs) (o : calls.Outcome) → ShowsOutcome shown o → disk_failed shown ≡ true → IsUnharmed o → ⊥
harmed shown o shows e none =
    let wrote : is_some shown.fault ≡ false = ap is_some (sym shows.fault ∙ none.0) in
    let read : has_read_fault shown ≡ false = all_shown shown.transcripts.items o.transcripts shows.transcripts ∙ ap any none.1 in
    let well : disk_failed shown ≡ false = ap (λ b. b || has_read_fault shown) wrote ∙ read in
    cc (e, well)

-- The disk's count of faults rose to each

all_of_both : (P : ℕ → Type 0) (xs ys : List ℕ) → AllByRecursion P xs → AllByRecursion P ys → AllByRecursion P (xs ++ ys)
all_of_both P [] ys one other = other
all_of_both P (x ∷ xs) ys one other = (one.0, all_of_both P xs ys one.1 other)

-- no other call than a read of the log is answered so: each other one is refused for a cause, or answered differently
other_way : {A : Type 0} (o : Option A) (why : A → Refusal) (S : Type 0) (count : ℕ) → MatchOption o ⊥ (λ a. (calls.read_failed count ≡ calls.refused (why a)) × S) → ⊥
other_way None why S count is = is
other_way (Some a) why S count is = let e = is.0 in cc e

module _ (settings : Settings) (trace : Trace) (client : ℕ) where
  call_rose : (p : Progress) (command : calls.Command) (count : ℕ) (q : Progress) → Replies settings trace client p command (calls.read_failed count) q → Rose settings.opened count
  call_rose p (calls.add r) count q is = absurd is
  call_rose p calls.clear count q is = absurd is
  call_rose p (calls.commit how) count q is = absurd (other_way _ (λ why. why) (Stays p q) count is)
  call_rose p (calls.get key) count q is = absurd (other_way _ NoFamily (Stays p q) count is)
  call_rose p (calls.many keys) count q is = absurd (other_way _ NoFamily (Stays p q) count is)
  call_rose p (calls.scan family lo hi) count q is = absurd (other_way _ NoFamily (Stays p q) count is)
  call_rose p (calls.updates s) count q is = is.1
  call_rose p calls.stop count q is = absurd is
  call_rose p calls.unstop count q is = absurd is
  call_rose p (calls.slow rate) count q is = absurd is
  call_rose p calls.unslow count q is = absurd is

  reply_rose : (p : Progress) (command : calls.Command) (r : calls.Reply) (q : Progress) → Replies settings trace client p command r q → AllByRecursion (Rose settings.opened) (read_fault_of r)
  reply_rose p command (calls.read_failed count) q is = (call_rose p command count q is, tt)
  reply_rose p command other q is = tt

  run_rose : (cs : List calls.Call) (p q : Progress) → Run settings trace client p cs q → AllByRecursion (Rose settings.opened) (read_faults_of cs)
  run_rose [] p q run = tt
  run_rose (c ∷ cs) p q run =
      all_of_both (Rose settings.opened) (read_fault_of c.reply) (read_faults_of cs) (reply_rose p c.command c.reply run.0 run.1.replies) (run_rose cs run.0 q run.2)

  transcript_rose : (commands : List calls.Command) (cs : List calls.Call) (end : Progress) → IsTranscript settings trace client commands cs end → AllByRecursion (Rose settings.opened) (read_faults_of cs)
  transcript_rose commands cs end (whole are run) = run_rose cs fresh end run
  transcript_rose commands cs end (cut_off front last rest is are run may) =
      let same : read_faults_of cs ≡ read_faults_of front = ap read_faults_of is
      ∙ (flat_map-append (λ (c : calls.Call). read_fault_of c.reply) front (record { command = last; reply = calls.no_memory } ∷ []) ∙ append-nil (read_faults_of front)) in
      subst (AllByRecursion (Rose settings.opened)) (sym same) (run_rose front fresh end run)

all_rose : (opened : ℕ) (script : List (List calls.Command)) (ts : List (List calls.Call)) → length ts ≡ length script
    → ((i : ℕ) (commands : List calls.Command) (cs : List calls.Call) → slice_get script i ≡ Some commands → slice_get ts i ≡ Some cs → AllByRecursion (Rose opened) (read_faults_of cs))
    → AllByRecursion (Rose opened) (read_faults_in ts)
all_rose opened script [] count each = tt
all_rose opened [] (t ∷ ts) count each = absurd (omega (arith, count))
all_rose opened (commands ∷ script) (t ∷ ts) count each =
    all_of_both (Rose opened) (read_faults_of t) (read_faults_in ts) (each 0 commands t refl refl) (all_rose opened script ts (omega (arith, count)) (λ i some cs at there. each (suc i) some cs at there))

-- where a write or a read failed, the count rose
rose_by_one : (opened ended : ℕ) (fault : Option ℕ) (counts : List ℕ) → IfSome fault (λ count. Rose opened count × (count ≤ ended)) → AllByRecursion (Rose opened) counts → AreOwnFaults ended fault counts
    → ((fault ≡ None) × (counts ≡ []) → ⊥) → Rose opened ended
rose_by_one opened ended (Some count) counts wrote read own some = le_trans wrote.0 wrote.1
rose_by_one opened ended None [] wrote read own some = absurd (some (refl, refl))
rose_by_one opened ended None (count ∷ counts) wrote read own some = le_trans read.0 own.0

pub rose_in_run : (settings : Settings) (ended : ℕ) (script : List (List calls.Command)) (trace : Trace) (attempts : List (List Attempt)) (o : calls.Outcome) → IsLegalIn settings ended script trace attempts o
    → (IsUnharmed o → ⊥) → Rose settings.opened ended
rose_in_run settings ended script trace attempts o legal some =
    let read = all_rose settings.opened script o.transcripts legal.count (λ i commands cs at there.
    let transcript = (legal.each i commands cs at there).2 in
    transcript_rose settings trace (i + 1) commands cs transcript.end transcript.is_transcript) in
    rose_by_one settings.opened ended o.fault (read_faults_in o.transcripts) legal.fault read legal.read_faults some
