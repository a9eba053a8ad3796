-- A leader's replies in the form in which the list gets them, and the number of the log's law.
use Rattle.std.proofs.Common.{◌≡◌, ℕ, suc, ◌+◌, ◌-◌, ◌≤◌, cond, ◌==◌, List, [], ◌∷◌, ◌++◌, Option, Some, None, Result, Ok, Err, length, refl, ap, sym, ◌∙◌, arith}
use Rattle.std.specs.List.{AllByRecursion}
use Rattle.std.proofs.lemmas.Bool.{ne_eqb}
use Rattle.model_base.specs.declared.write.Refusal.{Refusal}
use Rattle.model_base.specs.declared.write.Refusal.TheVariants.{Empty, TooLarge, SyncWithoutLog, SelfStop, NoFamily, NoMemory, Incomplete, LogFault, SequenceFull}
use Rattle.model_base.specs.Batch.{count_of}
use Rattle.log_batch.specs.Contents.{Contents}
use Rattle.line_rule.specs.declared.view.QueuedWriter.{QueuedWriter}
use Rattle.line_rule.specs.declared.view.Handling.{Handling}
use Rattle.line_rule.specs.Chain.{heads, handling, all_answers}
use Rattle.line_rule.specs.Rule.{last_run}
use Rattle.line_rule.specs.Members.{asks, pays}
use Rattle.engine_parts.specs.declared.requests.Request.{Request}
use Rattle.engine_calls.specs.declared.answers.Receipt.{Receipt}
use Rattle.engine_calls.specs.declared.answers.Refused.{Refused}
use Rattle.engine_parts.specs.declared.requests.Answer.{Answer}
use Rattle.engine_parts.specs.Handled.{ComesBack, HandsBack, InOrder, answer_in, answer_of_refusal, commit_if, commit_of, handled_with, commits_in}
use Rattle.engine_parts.proofs.Views.{read_counts}
use Rattle.engine_parts.specs.Items.{run_in}
use Rattle.engine_rule.specs.Commits.{AreAnswered, IsAnswer, fault_after, last_after, last_after_all}

record Split (xs : List (ℕ × Request)) (x : ℕ × Request) (ys : List (ℕ × Answer)) : Type 0 where
  front : List (ℕ × Answer)
  last : Answer
  is : ys ≡ front ++ (x.0, last) ∷ []
  pays_front : InOrder xs front
  handled_is : handled_with (xs ++ x ∷ []) ys ≡ handled_with xs front ++ record { by = x.0; asked = x.1; reply = last } ∷ []

split_last : (xs : List (ℕ × Request)) (x : ℕ × Request) (ys : List (ℕ × Answer)) → InOrder (xs ++ x ∷ []) ys → Split xs x ys
split_last [] x [] h = absurd h
split_last [] x (y ∷ []) h = record { front = []; last = y.1; is = (λ i. (h.0 i, y.1) ∷ []); pays_front = tt; handled_is = refl }
split_last [] x (y ∷ z ∷ ys) h = absurd h.1
split_last (w ∷ xs) x [] h = absurd h
split_last (w ∷ xs) x (y ∷ ys) h =
    let t = split_last xs x ys h.1 in
    record { front = y ∷ t.front; last = t.last; is = ap (λ l. y ∷ l) t.is; pays_front = (h.0, t.pays_front); handled_is = ap (λ l. record { by = w.0; asked = w.1; reply = y.1 } ∷ l) t.handled_is }

pub record Paid (own : QueuedWriter Request) (group : List (QueuedWriter Request)) (ys : List (ℕ × Answer)) : Type 0 where
  pub gs : List (QueuedWriter Request × Answer)
  pub own_reply : Answer
  pub heads_are : heads gs ≡ group
  pub pays_are : ys ≡ pays own own_reply gs
  pub answers_are : all_answers own own_reply gs ≡ handled_with (asks own group) ys

pub paid : (own : QueuedWriter Request) (group : List (QueuedWriter Request)) (ys : List (ℕ × Answer)) → InOrder (asks own group) ys → Paid own group ys
paid own [] [] h = absurd h
paid own [] (y ∷ []) h = record { gs = []; own_reply = y.1; heads_are = refl; pays_are = (λ i. (h.0 i, y.1) ∷ []); answers_are = refl }
paid own [] (y ∷ z ∷ ys) h = absurd h.1
paid own (e ∷ es) ys h =
    let s = split_last (asks own es) (e.by, e.asked) ys h in
    let t = paid own es s.front s.pays_front in
    record {
      gs = (e, s.last) ∷ t.gs;
      own_reply = t.own_reply;
      heads_are = ap (λ l. e ∷ l) t.heads_are;
      pays_are = s.is ∙ ap (λ l. l ++ (e.by, s.last) ∷ []) t.pays_are;
      answers_are = ap (λ l. l ++ handling e s.last ∷ []) t.answers_are ∙ sym s.handled_is;
    }

-- the number that the list has for its log is the last sequence given
abbrev pub run : Answer → ℕ × ℕ
run p = run_in p.answer

late_same : (last count : ℕ) (why : Refusal) → last ≡ last_after last count (answer_of_refusal why)
late_same last count Empty = refl
late_same last count (TooLarge size) = refl
late_same last count SyncWithoutLog = refl
late_same last count SelfStop = refl
late_same last count (NoFamily family) = refl
late_same last count NoMemory = refl
late_same last count (Incomplete s d w) = refl
late_same last count (LogFault n) = refl
late_same last count (SequenceFull l) = refl

number_by : (last : ℕ) (dead : Option ℕ) (batch : Contents) (r : Result Receipt Refused) → ComesBack batch r → IsAnswer last dead (count_of batch.records) (answer_in r)
    → cond ((run_in r).1 == 0) last ((run_in r).0 + (run_in r).1 - 1) ≡ last_after last (count_of batch.records) (answer_in r)
number_by last dead batch (Ok r) back ok =
    let first : r.run.first ≡ last + 1 = ok.2 in let some : 1 ≤ count_of batch.records = ok.1 in let end : r.run.last + 1 ≡ r.run.first + count_of batch.records = back.1 in
    let count : ℕ = r.run.last + 1 - r.run.first in
    let counted : count ≡ count_of batch.records = omega (arith, end) in
    ap (λ b. cond b last (r.run.first + count - 1)) (ne_eqb count 0 (λ e. omega (arith, e, counted, some))) ∙ omega (arith, counted, some, first)
number_by last dead batch (Err e) back ok = late_same last (count_of batch.records) e.why

-- the empty batch of a read takes no sequence, whatever its answer
number_of_read : (last : ℕ) (batch : Contents) (r : Result Receipt Refused) → count_of batch.records ≡ 0 → ComesBack batch r → cond ((run_in r).1 == 0) last ((run_in r).0 + (run_in r).1 - 1) ≡ last
number_of_read last batch (Ok r) none back =
    let end : r.run.last + 1 ≡ r.run.first + count_of batch.records = back.1 in
    let count : ℕ = r.run.last + 1 - r.run.first in
    ap (λ (n : ℕ). cond (n == 0) last (r.run.first + n - 1)) (let zero : count ≡ 0 = omega (arith, end, none) in zero)
number_of_read last batch (Err e) none back = refl

pub number_is : (last : ℕ) (dead : Option ℕ) (hs : List (Handling Request Answer)) → AllByRecursion HandsBack hs → AreAnswered last dead (commits_in hs) → last_run run last hs ≡ last_after_all last (commits_in hs)
number_is last dead [] handed_back answered = refl
number_is last dead (h ∷ hs) handed_back answered = by_since h.asked.since refl answered (λ l d right. number_is l d hs handed_back.1 right)
  where
    last_now : ℕ
    last_now = last_after last (count_of h.asked.batch.records) (answer_in h.reply.answer)

    by_since : (since : Option ℕ) → h.asked.since ≡ since → AreAnswered last dead (commit_if since (commit_of h) ++ commits_in hs) → ((l : ℕ) (d : Option ℕ) → AreAnswered l d (commits_in hs) → last_run run l hs ≡ last_after_all l (commits_in hs)) → last_run run last (h ∷ hs) ≡ last_after_all last (commit_if since (commit_of h) ++ commits_in hs)
    by_since None write right more =
        ap (λ n. last_run run n hs) (number_by last dead h.asked.batch h.reply.answer handed_back.0 right.0)
        ∙ more last_now (fault_after dead (answer_in h.reply.answer)) right.1
    by_since (Some since) read right more =
        ap (λ n. last_run run n hs) (number_of_read last h.asked.batch h.reply.answer (read_counts h.asked since read) handed_back.0)
        ∙ more last dead right

pub backs_append : (xs ys : List (Handling Request Answer)) → AllByRecursion HandsBack xs → AllByRecursion HandsBack ys → AllByRecursion HandsBack (xs ++ ys)
backs_append [] ys a b = b
backs_append (x ∷ xs) ys a b = (a.0, backs_append xs ys a.1 b)

pub pays_length : (xs : List (ℕ × Request)) (ys : List (ℕ × Answer)) → InOrder xs ys → length ys ≡ length xs
pays_length [] [] h = refl
pays_length [] (y ∷ ys) h = absurd h
pays_length (x ∷ xs) [] h = absurd h
pays_length (x ∷ xs) (y ∷ ys) h = ap suc (pays_length xs ys h.1)
