-- What a client concludes from its answer.
use Rattle.std.proofs.Common.{◌≡◌, inr, ℕ, ◌+◌, ◌-◌, ◌<◌, ◌≤◌, Bool, true, false, not, cond, ◌==◌, ◌&&◌, List, [], ◌∷◌, ◌++◌, Option, Some, None, MatchOption, IfSome, Result, Ok, Err, IfOk, IfErr, length, take, refl, ap, sym, ◌∙◌, subst, arith, append_assoc, append-nil, length-append}
use Rattle.std.specs.Prelude.{if◌then◌else◌, nat_lt}
use Rattle.std.specs.List.{AllByRecursion}
use Rattle.std.proofs.lemmas.Option.{slice_get_within}
use Rattle.std.proofs.Math.Seq.{take-length}
use mathlib.Core.List.{IsPrefix}
use Rattle.log_writer.specs.declared.group_log.GroupLog.{Ghosts}
use Rattle.model_base.specs.declared.write.Refusal.{Refusal}
use Rattle.model_base.specs.declared.write.Refusal.TheVariants.{Empty, TooLarge, SyncWithoutLog, SelfStop, NoFamily, NoMemory, Incomplete, LogFault, SequenceFull}
use Rattle.model_base.specs.declared.write.WriteOptions.{WriteOptions}
use Rattle.model_base.specs.Map.{Pairs}
use Rattle.model_base.specs.Trace.{Settings}
use Rattle.std.specs.Option.{option_map_or}
use Rattle.model_base.specs.Progress.{families_in, first_missing, early_refusal}
use Rattle.model_base.specs.Batch.{Record, count_of, size_of_batch}
use Rattle.model_base.specs.Controller.{ControllerCall, Look, delay, look}
use Rattle.model_base.specs.LogContents.{GroupCall, IsLoggedBy}
use Rattle.model_base.specs.Replies.{IsLater, IsWithinCall, MetStall}
use Rattle.model_base.specs.Tokens.{tokens_of, holds_stop, said_in, shown_by_tokens}
use Rattle.model_base.proofs.Prefixes.{prefix_length, prefix_self, prefix_take, prefix_trans}
use Rattle.model_base.proofs.Runs.{later_in, logged_in}
use Rattle.model_base.proofs.Shown.{shown_in_prefix}
use Rattle.engine_parts.specs.declared.log.OpenLog.{OpenLog}
use Rattle.engine_parts.specs.Logs.{Wrote as LogWrote}
use Rattle.log_batch.specs.Contents.{Contents}
use Rattle.table_rule.specs.declared.content.MemberVersions.{MemberVersions}
use Rattle.table_rule.specs.Histories.{Begins, last_of, versions_of}
use Rattle.table_rule.proofs.Histories.{versions_append}
use Rattle.line_rule.specs.declared.view.Handling.{Handling}
use Rattle.line_rule.specs.Chain.{of}
use Rattle.engine_controller.specs.declared.controller.Controller.{Controller}
use Rattle.engine_controller.specs.Noted.{Noted}
use Rattle.engine_controller.specs.Passes.{seen_by_note}
use Rattle.engine_parts.specs.declared.requests.Request.{Request}
use Rattle.engine_calls.specs.declared.answers.Receipt.{Receipt}
use Rattle.engine_calls.specs.declared.answers.Refused.{Refused}
use Rattle.engine_parts.specs.declared.requests.Answer.{Answer}
use Rattle.model_accounts.specs.Accounts.{Account, IsRefused, IsRefusedLate, Keeps, KnowsOwnTokens, Refuses, Wrote}
use Rattle.engine_groups.specs.Clients.{own_answers, own_commits, own_sights}
use Rattle.engine_groups.proofs.Told.{answers_same, commit, commits_told, own_more, sight, sights_more, sights_told}
use Rattle.engine_parts.specs.Handled.{AreHandled, ComesBack, HandsBack, IsDelayed, IsLate, ShowsDelay, answer_in, answer_of_refusal, first_of, has_run, held_up_with, noted_in, seen_for, went_for, sights_in, commits_in}
use Rattle.engine_parts.specs.Runs.{IsAbove}
use Rattle.engine_parts.proofs.Views.{some_holds}
use Rattle.engine_rule.specs.Asked.{place_of, decided_of}
use Rattle.engine_rule.specs.Commits.{Commit, accepted, commits_of, held_up}
use Rattle.engine_rule.specs.Entries.{account_of, SeesMore, ShowsBatch}
use Rattle.engine_rule.specs.LogSights.{LogSight, WrittenBatch, logged_by, written_if}
use Rattle.engine_rule.specs.Reading.{ReadAnswer}
use Rattle.engine_rule.proofs.Own.{logged_more, refused_failed, refused_full, refused_held_up, refused_stalled, wrote}
use Rattle.engine_rule.proofs.LogSights.{newest_shown}

one_pair : {A : Type 0} (x y : A) (xs ys : List A) → x ∷ xs ≡ y ∷ ys → (x ≡ y) × (xs ≡ ys)
one_pair x y xs ys e = (cc, cc)

-- the newest of the requests that were handled for a client
back_by : (P : Handling Request Answer → Type 0) (k : ℕ) (h : Handling Request Answer) (hs : List (Handling Request Answer)) (mine : List (Request × Answer)) (q : Request) (p : Answer) (b : Bool) → cond b ((h.asked, h.reply) ∷ of k hs) (of k hs) ≡ mine ++ (q, p) ∷ [] → P h
    → ((m : List (Request × Answer)) → of k hs ≡ m ++ (q, p) ∷ [] → (by : ℕ) × P (record { by = by; asked = q; reply = p })) → (by : ℕ) × P (record { by = by; asked = q; reply = p })
back_by P k h hs [] q p true e holds more = let t = (one_pair (h.asked, h.reply) (q, p) (of k hs) [] e).0 in (h.by, subst (λ (z : Request × Answer). P (record { by = h.by; asked = z.0; reply = z.1 })) t holds)
back_by P k h hs (m ∷ mine) q p true e holds more = more mine (one_pair (h.asked, h.reply) m (of k hs) (mine ++ (q, p) ∷ []) e).1
back_by P k h hs mine q p false e holds more = more mine e

nothing_last : {A : Type 0} (l : List A) (x : A) → [] ≡ l ++ x ∷ [] → ⊥
nothing_last [] x e = absurd (cc)
nothing_last (y ∷ ys) x e = absurd (cc)

pub newest : (P : Handling Request Answer → Type 0) (k : ℕ) (hs : List (Handling Request Answer)) (mine : List (Request × Answer)) (q : Request) (p : Answer) → of k hs ≡ mine ++ (q, p) ∷ [] → AllByRecursion P hs → (by : ℕ) × P (record { by = by; asked = q; reply = p })
newest P k [] mine q p e all = absurd (nothing_last mine (q, p) e)
newest P k (h ∷ hs) mine q p e all = back_by P k h hs mine q p (h.by == k) e all.0 (λ m is. newest P k hs m q p is all.1)

pub last_back : (k : ℕ) (hs : List (Handling Request Answer)) (mine : List (Request × Answer)) (q : Request) (p : Answer) → of k hs ≡ mine ++ (q, p) ∷ [] → AllByRecursion HandsBack hs → ComesBack q.batch p.answer
last_back k hs mine q p e handed_back = (newest HandsBack k hs mine q p e handed_back).1

-- a batch that passed the early checks may not wait where its client stops writes
impatient_by : (empty large unlogged no_slowdown : Bool) (missing : Option ℕ) (a b c d : Refusal)
    → (if empty then Some a else if large then Some b else if unlogged then Some c else option_map_or (λ family. Some (NoFamily family)) missing (if true && not no_slowdown then Some d else None)) ≡ None → no_slowdown ≡ true
impatient_by true large unlogged no_slowdown missing a b c d e = absurd (cc)
impatient_by false true unlogged no_slowdown missing a b c d e = absurd (cc)
impatient_by false false true no_slowdown missing a b c d e = absurd (cc)
impatient_by false false false no_slowdown (Some family) a b c d e = absurd (cc)
impatient_by false false false true None a b c d e = refl
impatient_by false false false false None a b c d e = absurd (cc)

pub impatient_if : (families bytes : ℕ) (records : List Record) (how : WriteOptions) → early_refusal families bytes true records how ≡ None → how.no_slowdown ≡ true
impatient_if families bytes records how e =
    impatient_by (count_of records == 0) (nat_lt bytes (size_of_batch records)) (how.sync && how.no_log) how.no_slowdown (first_missing families (families_in records)) Empty (TooLarge (size_of_batch records)) SyncWithoutLog SelfStop e

pub none_is : {A : Type 0} (o : Option A) → ((x : A) → o ≡ Some x → ⊥) → o ≡ None
none_is None h = refl
none_is (Some x) h = absurd (h x refl)

pub begins_self : {A : Type 0} (xs : List A) → Begins xs xs
begins_self xs = ([], sym (append-nil xs))

pub keeps_self : (v : Account) → KnowsOwnTokens v → Keeps v v
keeps_self v own = record {
  number = refl;
  mine = refl;
  ends = refl;
  asked = refl;
  attempts = refl;
  read_faults = refl;
  seen = record { start = refl; opening = refl; published = begins_self v.seen.published; controller_calls = prefix_self v.seen.controller_calls; log_reads = prefix_self v.seen.log_reads; logged = omega arith; batches = prefix_self v.seen.batches };
  tokens = own;
}

-- a refusal by the early checks
pub refuses_early : (settings : Settings) (v : Account) (records : List Record) (how : WriteOptions) (why : Refusal) → early_refusal settings.families settings.batch_bytes (holds_stop v.asked) records how ≡ Some why → KnowsOwnTokens v → Refuses settings v records how why v
refuses_early settings v records how why early own =
    subst (λ (o : Option Refusal). MatchOption o (IsRefusedLate v records how why v) (λ (x : Refusal). (why ≡ x) × Keeps v v)) (sym early) (refl, keeps_self v own)

-- a refusal past the early checks
pub refuses_late : (settings : Settings) (v : Account) (records : List Record) (how : WriteOptions) (why : Refusal) (w : Account) → early_refusal settings.families settings.batch_bytes (holds_stop v.asked) records how ≡ None → IsRefusedLate v records how why w → Refuses settings v records how why w
refuses_late settings v records how why w passed late =
    subst (λ (o : Option Refusal). MatchOption o (IsRefusedLate v records how why w) (λ (early : Refusal). (why ≡ early) × Keeps v w)) (sym passed) late

-- what a client concludes from an answer to this batch, where its account was `v` and is now `w`
pub record Concludes {D : Type 0} {ghosts : Ghosts D} (opened : OpenLog D ghosts) (settings : Settings) (v : Account) (batch : Contents) (how : WriteOptions) (answer : Result Receipt Refused) (w : Account) : Type 0 where
  pub accepted : IfOk answer (λ (r : Receipt). Wrote settings v batch.records how r.run.first r.group_last w)
  pub back : IfOk answer (λ (r : Receipt). (r.batch ≡ record batch { sequence = r.run.first }) × (r.run.last + 1 ≡ r.run.first + count_of batch.records))
  pub logged : IfOk answer (λ (r : Receipt). how.no_log ≡ false → (calls : List GroupCall) × (log : OpenLog D ghosts) × LogWrote opened calls log × (w.seen.logged ≤ length calls) × IsLoggedBy calls v.seen.logged w.seen.logged r.run.first batch.records how.sync)
  pub refused : IfErr answer (λ (e : Refused). Refuses settings v batch.records how e.why w)
  pub unchanged : IfErr answer (λ (e : Refused). e.batch ≡ batch)

module _ {C D : Type 0} {ghosts : Ghosts D} (controller : Controller C) (opened : OpenLog D ghosts) (start : ℕ) (opening : Pairs) (k : ℕ) (settings : Settings) (q : Request) (p : Answer) (mine : List (Request × Answer)) (handled : List (Handling Request Answer)) (kept : AreHandled controller opened start handled) (own : of k handled ≡ mine ++ (q, p) ∷ []) (seen now : List (List MemberVersions)) (sees : Begins seen now)
    (known after : List ControllerCall) (more : SeesMore k known after) (noted_known : IsPrefix known (noted_in q.note)) (sees_note : IfSome p.note (λ (n : Noted). IsPrefix (seen_by_note n) after))
    (passed : early_refusal settings.families settings.batch_bytes (holds_stop (tokens_of k known)) q.batch.records q.options ≡ None) (free : holds_stop (tokens_of k known) ≡ false) (above : IsAbove (last_of start seen) p.answer) (unseen : IfSome p.note (λ (n : Noted). IsAbove (shown_by_tokens (seen_by_note n)) p.answer)) (had : last_of start seen ≤ q.shown) (writes : q.since ≡ None) where
  is : commits_of k (commits_in handled) ≡ own_commits k mine ++ commit k q p ∷ []
  is = commits_told k handled ∙ (ap (own_commits k) own ∙ own_more k mine q p writes)

  abbrev old : Account
  old = account_of start opening k (own_commits k mine) (own_sights k mine) (own_answers mine) seen known

  abbrev new : Account
  new = account_of start opening k (own_commits k (mine ++ (q, p) ∷ [])) (own_sights k (mine ++ (q, p) ∷ [])) (own_answers (mine ++ (q, p) ∷ [])) now after

  new_is : account_of start opening k (own_commits k mine ++ commit k q p ∷ []) (own_sights k mine ++ sight k q p ∷ []) (own_answers mine) now after ≡ new
  new_is = λ i. account_of start opening k (sym (own_more k mine q p writes) i) (sym (sights_more k mine q p writes) i) (sym (answers_same mine q p writes) i) now after

  -- The client has seen the note of its reply, and with it all that its leader had seen when the group went on or was
  -- refused, and so the delay of its group. That delay comes after all that the client had seen before the call.

  shows : (by : ℕ) × ShowsDelay controller (record { by = by; asked = q; reply = p })
  shows = newest (ShowsDelay controller) k handled mine q p own kept.shown

  all_heard : IsPrefix (went_for p) after
  all_heard = let n = shows.1.noted writes in prefix_trans (went_for p) (seen_by_note n.0) after n.3 (some_holds (λ (m : Noted). IsPrefix (seen_by_note m) after) p.note n.0 n.1 sees_note)

  front : IsPrefix (seen_for p) after
  front = prefix_trans (seen_for p) (went_for p) after (shows.1.begins writes) all_heard

  -- what is later than all that the note showed is later than all that the client had seen
  later_known : (numbers : Look) (d : IsDelayed (noted_in q.note) (seen_for p) numbers) → IsLater after (length known) (length (seen_for p) - 1) (record { client = d.by; action = delay d.now d.bytes; told = Some numbers })
  later_known numbers d =
      let later = later_in (seen_for p) after front (length (noted_in q.note)) (length (seen_for p) - 1) (record { client = d.by; action = delay d.now d.bytes; told = Some numbers }) d.is_later in
      let low = prefix_length known (noted_in q.note) noted_known in let late = later.later in
      record { later = omega (arith, low, late); there = later.there }

  within : IsWithinCall (length known) (length after) (place_of (commit k q p)) (decided_of (commit k q p))
  within =
      let d = shows.1.delayed writes in let later = later_known d.0 d.1 in
      let there = slice_get_within (seen_for p) (length (seen_for p) - 1) (record { client = d.1.by; action = delay d.1.now d.1.bytes; told = Some d.0 }) d.1.is_later.there in
      let long = prefix_length (seen_for p) (went_for p) (shows.1.begins writes) in
      (later.later, omega (arith, there, long), prefix_length (went_for p) after all_heard)

  -- the newest of the client's answers shows no less of the log than those before it
  in_order : (logged_by (own_sights k mine) ≤ (sight k q p).made) × ((sight k q p).made ≤ length kept.written.worked)
      × IfSome (sight k q p).batch (λ (b : WrittenBatch). IsLoggedBy kept.written.worked (logged_by (own_sights k mine)) (sight k q p).made b.first b.records b.sync)
  in_order = newest_shown kept.written.worked (sights_in handled) kept.written.shown k (own_sights k mine) (sight k q p) (sights_told k handled ∙ (ap (own_sights k) own ∙ sights_more k mine q p writes))

  batch_shown : (first end : ℕ) → answer_in p.answer ≡ accepted first end → ShowsBatch (commit k q p) first (sight k q p)
  batch_shown first end is to_log = λ i. written_if (to_log i) (has_run (is i)) (record { first = first_of (is i); records = q.batch.records; sync = q.options.sync })

  -- nobody who took a token or gave one back before its leader decided had been shown the batch
  never_shown : (r : Receipt) → p.answer ≡ Ok r → shown_by_tokens (take (decided_of (commit k q p)) after) < r.run.first
  never_shown r ok =
      let n = shows.1.noted writes in
      let note_above : IsAbove (shown_by_tokens (seen_by_note n.0)) p.answer = some_holds (λ (m : Noted). IsAbove (shown_by_tokens (seen_by_note m)) p.answer) p.note n.0 n.1 unseen in
      let run_above : shown_by_tokens (seen_by_note n.0) < r.run.first = subst (IsAbove (shown_by_tokens (seen_by_note n.0))) ok note_above in
      let less = shown_in_prefix (went_for p) (seen_by_note n.0) n.3 in
      let same : take (length (went_for p)) after ≡ went_for p = prefix_take (went_for p) after all_heard (length (went_for p)) (omega arith) ∙ take-length (went_for p) in
      subst (λ (l : List ControllerCall). shown_by_tokens l < r.run.first) (sym same) (omega (arith, less, run_above))

  -- by the delay of its group, calls had said all that the client had seen published
  said_by_then : last_of start seen ≤ said_in (take (place_of (commit k q p) + 1) after)
  said_by_then =
      let d = shows.1.delayed writes in let said = shows.1.said writes in
      let there = slice_get_within (seen_for p) (length (seen_for p) - 1) (record { client = d.1.by; action = delay d.1.now d.1.bytes; told = Some d.0 }) d.1.is_later.there in
      let whole : length (seen_for p) - 1 + 1 ≡ length (seen_for p) = omega (arith, there) in
      let same : take (length (seen_for p) - 1 + 1) after ≡ seen_for p = ap (λ (n : ℕ). take n after) whole ∙ (prefix_take (seen_for p) after front (length (seen_for p)) (omega arith) ∙ take-length (seen_for p)) in
      subst (λ (l : List ControllerCall). last_of start seen ≤ said_in l) (sym same) (omega (arith, had, said))

  pub answered_ok : (r : Receipt) → p.answer ≡ Ok r → r.group_last ≤ last_of start now → Wrote settings old q.batch.records q.options r.run.first r.group_last new
  answered_ok r ok reached = subst (Wrote settings old q.batch.records q.options r.run.first r.group_last) new_is
      (wrote start opening k (own_commits k mine) (own_sights k mine) (own_answers mine) (commit k q p) (sight k q p) seen now sees known after more free within said_by_then in_order.0 (commits_in handled) kept.answered is settings r.run.first r.group_last (ap answer_in ok) passed (subst (IsAbove (last_of start seen)) ok above) reached
      (batch_shown r.run.first r.group_last (ap answer_in ok)) (never_shown r ok))

  refused_by : (why : Refusal) (e : Refused) → e.why ≡ why → p.answer ≡ Err e → IsLate why → IsRefused old q.batch.records q.options why new
  refused_by (LogFault n) e is_why err late = subst (IsRefused old q.batch.records q.options (LogFault n)) new_is
      (refused_failed start opening k (own_commits k mine) (own_sights k mine) (own_answers mine) (commit k q p) (sight k q p) seen now sees known after more free within said_by_then in_order.0 n (ap answer_in err ∙ ap answer_of_refusal is_why))
  refused_by (SequenceFull l) e is_why err late = subst (IsRefused old q.batch.records q.options (SequenceFull l)) new_is
      (refused_full start opening k (own_commits k mine) (own_sights k mine) (own_answers mine) (commit k q p) (sight k q p) seen now sees known after more free within said_by_then in_order.0 (commits_in handled) kept.answered is l (ap answer_in err ∙ ap answer_of_refusal is_why) (subst (IsAbove (last_of start seen)) err above l is_why))
  refused_by (Incomplete s d w) e is_why err late =
      let numbers : Look = record { stops = s; delays = d; wait = w } in
      let told : answer_in p.answer ≡ held_up numbers = ap answer_in err ∙ ap answer_of_refusal is_why in
      let h = shows.1.held_up numbers told in
      subst (IsRefused old q.batch.records q.options (Incomplete s d w)) new_is
      (refused_held_up start opening k (own_commits k mine) (own_sights k mine) (own_answers mine) (commit k q p) (sight k q p) seen now sees known after more free within said_by_then in_order.0 numbers h.2.by h.2.now h.2.bytes told h.0 h.1 (later_known numbers h.2))
  refused_by Empty e is_why err late = absurd late
  refused_by (TooLarge size) e is_why err late = absurd late
  refused_by SyncWithoutLog e is_why err late = absurd late
  refused_by SelfStop e is_why err late = absurd late
  refused_by (NoFamily family) e is_why err late = absurd late
  refused_by NoMemory e is_why err late = absurd late

  back : ComesBack q.batch p.answer
  back = last_back k handled mine q p own kept.handed_back

  pub answered_err : (e : Refused) → p.answer ≡ Err e → Refuses settings old q.batch.records q.options e.why new
  answered_err e err = refuses_late settings old q.batch.records q.options e.why new passed (inr (refused_by e.why e refl err (subst (ComesBack q.batch) err back).1))

  -- a batch that goes into the log was written by one of the calls that the client knows of now
  answered_logged : (r : Receipt) → p.answer ≡ Ok r → q.options.no_log ≡ false
      → (calls : List GroupCall) × (log : OpenLog D ghosts) × LogWrote opened calls log × (new.seen.logged ≤ length calls) × IsLoggedBy calls old.seen.logged new.seen.logged r.run.first q.batch.records q.options.sync
  answered_logged r ok to_log =
      let w = kept.written in
      let made : new.seen.logged ≡ (sight k q p).made = ap logged_by (sights_more k mine q p writes) ∙ logged_more (own_sights k mine) (sight k q p) in
      let begins : IsPrefix w.worked w.calls = (w.lost, sym w.both) in
      let long = prefix_length w.worked w.calls begins in let within_all = in_order.1 in
      let one : IsLoggedBy w.worked old.seen.logged (sight k q p).made r.run.first q.batch.records q.options.sync =
      some_holds (λ (b : WrittenBatch). IsLoggedBy w.worked old.seen.logged (sight k q p).made b.first b.records b.sync) (sight k q p).batch (record { first = r.run.first; records = q.batch.records; sync = q.options.sync })
      (batch_shown r.run.first r.group_last (ap answer_in ok) to_log) in_order.2 in (
        w.calls,
        w.log,
        w.wrote,
        omega (arith, made, long, within_all),
        subst (λ (knows : ℕ). IsLoggedBy w.calls old.seen.logged knows r.run.first q.batch.records q.options.sync) (sym made)
            (logged_in w.worked w.calls begins old.seen.logged (sight k q p).made r.run.first q.batch.records q.options.sync one),
      )

  -- all that the client concludes
  pub concludes : (answer : Result Receipt Refused) → p.answer ≡ answer → IfOk answer (λ (r : Receipt). r.group_last ≤ last_of start now) → Concludes opened settings old q.batch q.options answer new
  concludes (Ok r) ok reached = let b = subst (ComesBack q.batch) ok back in record { accepted = answered_ok r ok reached; back = b; logged = answered_logged r ok; refused = tt; unchanged = tt }
  concludes (Err e) err reached = let b = subst (ComesBack q.batch) err back in record { accepted = tt; back = tt; logged = tt; refused = answered_err e err; unchanged = b.0 }

-- what a client concludes whose commit met a stall, and is in no group
pub concludes_met : {D : Type 0} {ghosts : Ghosts D} (opened : OpenLog D ghosts) (settings : Settings) (start : ℕ) (opening : Pairs) (k : ℕ) (own : List Commit) (sights : List LogSight) (answers : List ReadAnswer) (batch : Contents) (how : WriteOptions) (before now : List (List MemberVersions)) (known after : List ControllerCall) (numbers : Look) (by place : ℕ)
    → Begins before now → SeesMore k known after → early_refusal settings.families settings.batch_bytes (holds_stop (tokens_of k known)) batch.records how ≡ None → holds_stop (tokens_of k known) ≡ false → how.no_slowdown ≡ true
    → IsLater after (length known) place (record { client = by; action = look; told = Some numbers }) → MetStall after k by place numbers
    → Concludes opened settings (account_of start opening k own sights answers before known) batch how (Err (held_up_with numbers batch)) (account_of start opening k own sights answers now after)
concludes_met opened settings start opening k own sights answers batch how before now known after numbers by place sees more passed free impatient later met = record {
  accepted = tt;
  back = tt;
  logged = tt;
  refused = refuses_late settings (account_of start opening k own sights answers before known) batch.records how (Incomplete numbers.stops numbers.delays numbers.wait) (account_of start opening k own sights answers now after) passed
      (inr (refused_stalled start opening k own sights answers batch.records how before now known after numbers by place sees more free impatient later met));
  unchanged = refl;
}

-- What a client has seen grows

pub sees_on : (k : ℕ) (a b c : List ControllerCall) → SeesMore k a b → SeesMore k b c → SeesMore k a c
sees_on k a b c f g = record { begins = prefix_trans a b c f.begins g.begins; tokens = g.tokens ∙ f.tokens }

pub begins_on : {A : Type 0} (xs ys zs : List A) → Begins xs ys → Begins ys zs → Begins xs zs
begins_on xs ys zs a b = (a.0 ++ b.0, b.1 ∙ (ap (λ l. l ++ b.0) a.1 ∙ append_assoc xs a.0 b.0))

-- a client that has seen no less of what is published has seen it up to no lower sequence
pub last_later : (start : ℕ) (xs ys : List (List MemberVersions)) → Begins xs ys → last_of start xs ≤ last_of start ys
last_later start xs ys b = let e = ap (λ l. length (versions_of l)) b.1 ∙ (ap length (versions_append xs b.0) ∙ length-append (versions_of xs) (versions_of b.0)) in omega (arith, e)

pub above_all : (m n : ℕ) (answer : Result Receipt Refused) → m ≤ n → IsAbove n answer → IsAbove m answer
above_all m n (Ok r) low above = let a : n < r.run.first = above in omega (arith, low, a)
above_all m n (Err e) low above = λ last is. let a : n ≤ last = above last is in omega (arith, low, a)

-- an answer above what a client was shown is above all that it had seen before
pub above_seen : (start start' shown : ℕ) (before loaded : List (List MemberVersions)) (answer : Result Receipt Refused) → start ≡ start' → Begins before loaded → shown ≡ last_of start' loaded → IsAbove shown answer → IsAbove (last_of start before) answer
above_seen start start' shown before loaded answer same more is above =
    above_all (last_of start before) shown answer (let l = last_later start before loaded more in let e = ap (λ (n : ℕ). last_of n loaded) same in omega (arith, l, e, is)) above

-- an answer that is above a number which a note gives, and above others, is above what the note shows
pub above_note : (note : Option Noted) (said most : ℕ) (answer : Result Receipt Refused) → IfSome note (λ (n : Noted). said ≡ shown_by_tokens (seen_by_note n)) → said ≤ most → IsAbove most answer
    → IfSome note (λ (n : Noted). IsAbove (shown_by_tokens (seen_by_note n)) answer)
above_note None said most answer is low above = tt
above_note (Some n) said most answer is low above = above_all (shown_by_tokens (seen_by_note n)) most answer (omega (arith, is, low)) above
