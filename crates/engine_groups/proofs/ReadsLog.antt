-- A client that reads the log, and what it concludes from the answer.
use Rattle.std.proofs.Common.{◌≡◌, ℕ, ◌+◌, ◌-◌, ◌≤◌, false, cond, ◌==◌, List, [], ◌∷◌, ◌++◌, Option, Some, None, Result, Ok, Err, IfOk, IfErr, refl, sym, ap, ◌∙◌, subst, arith, append-nil}
use Rattle.std.specs.List.{AllByRecursion}
use Rattle.model_base.specs.Batch.{count_of}
use Rattle.model_base.specs.Counts.{Rose}
use Rattle.model_base.specs.Since.{LogRead}
use Rattle.model_base.specs.Tokens.{holds_stop}
use Rattle.model_base.specs.Trace.{Settings}
use Rattle.model_accounts.specs.Accounts.{FailsToRead, Keeps, ReadsLog}
use Rattle.log_batch.specs.Contents.{Contents}
use Rattle.log_writer.specs.declared.group_log.GroupLog.{Ghosts}
use Rattle.table_rule.specs.Histories.{last_of}
use Rattle.line_rule.specs.declared.view.QueuedWriter.{QueuedWriter}
use Rattle.line_rule.specs.declared.view.Handling.{Handling}
use Rattle.line_rule.specs.Laws.{given_runs}
use Rattle.line_rule.specs.Members.{pays}
use Rattle.engine_controller.specs.Passes.{seen_by}
use Rattle.engine_calls.specs.Reading.{FailsFor}
use Rattle.engine_calls.specs.declared.answers.Receipt.{Receipt}
use Rattle.engine_calls.specs.declared.answers.Refused.{Refused}
use Rattle.engine_calls.specs.declared.answers.Since.{Since}
use Rattle.engine_calls.specs.declared.answers.SinceRefused.{SinceRefused}
use Rattle.engine_calls.specs.declared.answers.SinceRefused.TheVariants.{SelfStop, NoMemory, ReadFault}
use Rattle.engine_rule.specs.Entries.{ClientCall, account_before, account_of, account_told}
use Rattle.engine_rule.specs.Reading.{gave, broke, lacked}
use Rattle.engine_parts.specs.declared.log.OpenLog.{OpenLog}
use Rattle.engine_parts.specs.declared.requests.Request.{Request}
use Rattle.engine_parts.specs.declared.requests.Answer.{Answer}
use Rattle.engine_parts.specs.Handled.{ComesBack, HandsBack, handled_with, read_answer}
use Rattle.engine_parts.specs.Items.{run_in}
use Rattle.engine_parts.specs.ReadAnswers.{HasReadTo, IsOneRead}
use Rattle.engine_parts.specs.Runs.{run_of}
use Rattle.engine_parts.proofs.Views.{read_counts}
use Rattle.engine_groups.specs.Meaning.{Meaning}
use Rattle.engine_groups.specs.declared.engine.EngineClient.{EngineClient}
use Rattle.engine_groups.specs.Clients.{IsReadBy, account_in, map_at_opening, own_answers, own_commits, own_sights, told_of}
use Rattle.engine_groups.proofs.Told.{answers_more, commits_same, sights_same}
use Rattle.engine_groups.proofs.Turning.{given_append}

-- A read gets no run

none_of_read : (h : Handling Request Answer) (gs : List (Handling Request Answer)) (batch : Contents) (r : Result Receipt Refused) → count_of batch.records ≡ 0 → ComesBack batch r → cond ((run_in r).1 == 0) gs (h ∷ gs) ≡ gs
none_of_read h gs batch (Ok r) none back =
    let end : r.run.last + 1 ≡ r.run.first + count_of batch.records = back.1 in
    let zero : r.run.last + 1 - r.run.first ≡ 0 = omega (arith, end, none) in
    ap (λ (n : ℕ). cond (n == 0) gs (h ∷ gs)) zero
none_of_read h gs batch (Err e) none back = refl

abbrev IsRead : ℕ × Request → Type 0
IsRead x = (n : ℕ) × (x.1.since ≡ Some n)

given_reads : (xs : List (ℕ × Request)) (ys : List (ℕ × Answer)) → AllByRecursion IsRead xs → AllByRecursion HandsBack (handled_with xs ys) → given_runs run_of (handled_with xs ys) ≡ []
given_reads [] ys reads back = refl
given_reads (x ∷ xs) [] reads back = refl
given_reads (x ∷ xs) (y ∷ ys) reads back =
    none_of_read (record { by = x.0; asked = x.1; reply = y.1 }) (given_runs run_of (handled_with xs ys)) x.1.batch y.1.answer (read_counts x.1 reads.0.0 reads.0.1) back.0 ∙ given_reads xs ys reads.1 back.1

pub read_given : (n : ℕ) (seen new : List (Handling Request Answer)) (xs : List (ℕ × Request)) (ys : List (ℕ × Answer)) → IsOneRead n xs → new ≡ handled_with xs ys → AllByRecursion HandsBack (handled_with xs ys) → given_runs run_of (seen ++ new) ≡ given_runs run_of seen
read_given n seen new xs ys one is back =
    let reads : AllByRecursion IsRead xs = subst (AllByRecursion IsRead) (sym one.is) ((one.since, one.reads), tt) in
    given_append seen new ∙ (ap (λ l. given_runs run_of seen ++ l) (ap (given_runs run_of) is ∙ given_reads xs ys reads back) ∙ append-nil (given_runs run_of seen))

-- The leader's own reply is one of its group's

all_front : {A : Type 0} (P : A → Type 0) (xs ys : List A) → AllByRecursion P (xs ++ ys) → AllByRecursion P xs
all_front P [] ys h = tt
all_front P (x ∷ xs) ys h = (h.0, all_front P xs ys h.1)

pub own_paid : (P : ℕ × Answer → Type 0) (own : QueuedWriter Request) (p : Answer) (gs : List (QueuedWriter Request × Answer)) → AllByRecursion P (pays own p gs) → P (own.by, p)
own_paid P own p [] h = h.0
own_paid P own p (g ∷ gs) h = own_paid P own p gs (all_front P (pays own p gs) ((g.0.by, g.1) ∷ []) h)

-- a count that rose since then rose since the log was opened
pub read_since : (before now at : ℕ) (read : Option (Result Since SinceRefused)) → before ≤ now → HasReadTo now at read → HasReadTo before at read
read_since before now at None low h = absurd h
read_since before now at (Some (Ok r)) low h = h
read_since before now at (Some (Err SelfStop)) low h = absurd h
read_since before now at (Some (Err NoMemory)) low h = tt
read_since before now at (Some (Err (ReadFault count))) low h = let rose : Rose now count = h in omega (arith, low, rose)

-- What the client concludes

pub concludes_read : (settings : Settings) (k : ClientCall) (since : ℕ) → ((r : LogRead) → r.at ≡ last_of k.start k.after → ReadsLog (account_before k) r.since r.at r.records (account_told k (gave r))) → ((count : ℕ) → Rose settings.opened count → FailsToRead settings (account_before k) count (account_told k (broke count)))
    → Keeps (account_before k) (account_told k lacked) → holds_stop (account_before k).asked ≡ false → (read : Result Since SinceRefused) → HasReadTo settings.opened (last_of k.start k.after) (Some read)
    → IfOk read (λ r. (holds_stop (account_before k).asked ≡ false) × ReadsLog (account_before k) since r.at r.records (account_told k (read_answer since (Some read)))) × IfErr read (λ why. FailsFor settings (account_before k) why (account_told k (read_answer since (Some read))))
concludes_read settings k since on_read on_fault on_lack free (Ok r) h = ((free, on_read (record { since = since; at = r.at; records = r.records }) h), tt)
concludes_read settings k since on_read on_fault on_lack free (Err SelfStop) h = absurd h
concludes_read settings k since on_read on_fault on_lack free (Err NoMemory) h = (tt, (free, on_lack))
concludes_read settings k since on_read on_fault on_lack free (Err (ReadFault count)) h = (tt, (free, on_fault count h))

-- its account, by its numbers before the call
pub told_account : {D T S U P C : Type 0} {ghosts : Ghosts D} (meaning : Meaning T S U P) (opened : OpenLog D ghosts) (v w : EngineClient D T C S U P ghosts) (q : Request) (p : Answer) (since : ℕ) → q.since ≡ Some since → IsReadBy meaning opened q p v w → w.pass ≡ v.pass
    → account_of v.start (map_at_opening meaning v.table.value) v.number (own_commits v.number (told_of v)) (own_sights v.number (told_of v)) (own_answers (told_of v) ++ read_answer since p.read ∷ []) (meaning.account w.seat).seen (seen_by w.pass) ≡ account_in meaning w
told_account meaning opened v w q p since reads a same =
    let commits : own_commits v.number (told_of v) ≡ own_commits v.number (told_of w) = sym (ap (own_commits v.number) a.told_now ∙ commits_same v.number (told_of v) q p since reads) in
    let sights : own_sights v.number (told_of v) ≡ own_sights v.number (told_of w) = sym (ap (own_sights v.number) a.told_now ∙ sights_same v.number (told_of v) q p since reads) in
    let answers : own_answers (told_of v) ++ read_answer since p.read ∷ [] ≡ own_answers (told_of w) = sym (ap own_answers a.told_now ∙ answers_more (told_of v) q p since reads) in
    (λ i. account_of (sym a.start_same i) (map_at_opening meaning (sym a.table_same i).value) v.number (commits i) (sights i) (answers i) (meaning.account w.seat).seen (seen_by w.pass))
    ∙ (λ i. account_of w.start (map_at_opening meaning w.table.value) (sym a.number i) (own_commits (sym a.number i) (told_of w)) (own_sights (sym a.number i) (told_of w)) (own_answers (told_of w)) (meaning.account w.seat).seen (seen_by w.pass))
