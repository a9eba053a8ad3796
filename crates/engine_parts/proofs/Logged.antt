-- What a leader's steps result in.
use Rattle.std.proofs.Common.{rules, ◌≡◌, inl, inr, ℕ, zero, suc, ◌==◌, ◌+◌, ◌<◌, ◌≤◌, Bool, true, false, cond, nat_le, map, List, [], ◌∷◌, ◌++◌, Option, Some, None, Result, Ok, Err, length, get_or, refl, ap, sym, ◌∙◌, subst, ⊎_elim, arith, length-append}
use Rattle.std.specs.List.{AllByRecursion}
use Rattle.log_writer.specs.declared.group_log.GroupLog.{Ghosts}
use Rattle.model_base.specs.declared.write.WriteOptions.{WriteOptions}
use Rattle.model_base.specs.Batch.{count_of}
use Rattle.model_base.specs.History.{max_sequence}
use Rattle.log_batch.specs.Contents.{Contents}
use Rattle.log_writer.specs.declared.errors.Fault.{Fault}
use Rattle.engine_parts.specs.declared.log.OpenLog.{OpenLog}
use Rattle.log_writer.specs.Adding.{call_of, count_of_fault}
use Rattle.engine_parts.specs.Logs.{Adds}
use Rattle.table_rule.specs.declared.content.Version.{Version}
use Rattle.table_nodes.specs.declared.parts.MemberNodes.{MemberNodes}
use Rattle.table_rule.specs.Batches.{new_versions, number_from}
use Rattle.engine_parts.specs.declared.requests.Request.{Request}
use Rattle.engine_parts.specs.declared.requests.Delay.{Delay}
use Rattle.engine_parts.specs.declared.requests.Answer.{Answer}
use Rattle.engine_parts.specs.declared.numbering.Numbering.{Numbering}
use Rattle.engine_parts.specs.declared.numbering.GroupFate.TheVariants.{Written, Faulted}
use Rattle.engine_parts.specs.Handled.{HandsBack, InOrder, IsReplyOf, commit_requests_of, failures, handled_with, replies_of}
use Rattle.engine_parts.specs.Led.{IsLedGroup}
use Rattle.engine_parts.specs.Numbering.{AreEnough, HasVersions, answers, batches_of, numberings_of}
use Rattle.engine_rule.specs.LogCalls.{SyncsFor, WritesBatches, leader_asks_sync}
use Rattle.engine_rule.specs.Plans.{AreLawful, CommitRequest, batches_from, last_with, versions_from}
use Rattle.engine_parts.proofs.Replies.{answers_faulted, answers_written, are_enough, backs_failed, backs_planned, batches_are, plans_count, replies_failed, replies_planned}
use Rattle.engine_parts.proofs.Standing.{LogsOn}
use Rattle.engine_rule.proofs.Plans.{made_length, numbered_length}

pub none_is : {A : Type 0} (o : Option A) → ((x : A) → o ≡ Some x → ⊥) → o ≡ None
none_is None h = refl
none_is (Some x) h = absurd (h x refl)

pub ok_is : {A B : Type 0} (r : Result A B) → ((e : B) → r ≡ Err e → ⊥) → (x : A) × (r ≡ Ok x)
ok_is (Ok x) h = (x, refl)
ok_is (Err e) h = absurd (h e refl)

pub pays_planned : (delay : Delay) (last end : ℕ) (xs : List (ℕ × Request)) → InOrder xs (replies_of delay last end xs)
pays_planned delay last end [] = tt
pays_planned delay last end (x ∷ xs) = (refl, pays_planned delay (last_with last x.1.batch.records) end xs)

pub pays_failed : (delay : Delay) (n : ℕ) (xs : List (ℕ × Request)) → InOrder xs (failures delay n xs)
pays_failed delay n [] = tt
pays_failed delay n (x ∷ xs) = (refl, pays_failed delay n xs)

none_by : (last : ℕ) (a : CommitRequest) (asks : List CommitRequest) (b : Bool) → ((m : ℕ) → batches_from m asks ≡ [] → versions_from m asks ≡ []) → cond b (a.records ∷ []) [] ++ batches_from (cond b (last + count_of a.records) last) asks ≡ []
    → cond b (number_from (last + 1) (new_versions a.records)) [] ++ versions_from (cond b (last + count_of a.records) last) asks ≡ []
none_by last a asks true more e = absurd (cc)
none_by last a asks false more e = more last e

pub no_versions : (last : ℕ) (asks : List CommitRequest) → batches_from last asks ≡ [] → versions_from last asks ≡ []
no_versions last [] e = refl
no_versions last (a ∷ asks) e = none_by last a asks (nat_le (last + count_of a.records) max_sequence) (λ m. no_versions m asks) e

some_by : (last : ℕ) (a : CommitRequest) (asks : List CommitRequest) (b : Bool) → 1 ≤ count_of a.records → ((m : ℕ) → 0 < length (batches_from m asks) → 0 < length (versions_from m asks)) → 0 < length (cond b (a.records ∷ []) [] ++ batches_from (cond b (last + count_of a.records) last) asks)
    → 0 < length (cond b (number_from (last + 1) (new_versions a.records)) [] ++ versions_from (cond b (last + count_of a.records) last) asks)
some_by last a asks true one more h =
    let l = length-append (number_from (last + 1) (new_versions a.records)) (versions_from (last + count_of a.records) asks) in
    let m = numbered_length (last + 1) (new_versions a.records) ∙ made_length a.records in
    omega (arith, l, m, one)
some_by last a asks false one more h = more last h

pub some_versions : (clients last : ℕ) (asks : List CommitRequest) → AreLawful clients asks → 0 < length (batches_from last asks) → 0 < length (versions_from last asks)
some_versions clients last [] lawful h = h
some_versions clients last (a ∷ asks) lawful h = some_by last a asks (nat_le (last + count_of a.records) max_sequence) lawful.0.0 (λ m. some_versions clients m asks lawful.1) h

pub part_is : (member : ℕ) (vs : List Version) (parts : List MemberNodes) → 0 < length vs → HasVersions member vs parts → parts ≡ record { member = member; nodes = vs } ∷ []
part_is member vs parts some h = ⊎_elim (λ (t : (vs ≡ []) × (parts ≡ [])). absurd (let none : length vs ≡ 0 = ap length t.0 in omega arith)) (λ e. e) h

tail_of : {A : Type 0} → List A → List A
tail_of [] = []
tail_of (z ∷ zs) = zs

same_tail : {A : Type 0} (x y : A) (xs ys : List A) → x ∷ xs ≡ y ∷ ys → xs ≡ ys
unfolding tail_of
same_tail x y xs ys e = ap tail_of e

pub same_length : {A B : Type 0} (f : A → B) (xs : List A) (ys : List B) → map f xs ≡ ys → length xs ≡ length ys
same_length f [] ys e = ap length e
same_length f (x ∷ xs) [] e = absurd (cc)
same_length f (x ∷ xs) (y ∷ ys) e = ap suc (same_length f xs ys (same_tail (f x) y (map f xs) ys e))

pub empty_list : {A : Type 0} (xs : List A) → length xs ≡ 0 → xs ≡ []
empty_list [] e = refl
empty_list (x ∷ xs) e = absurd (omega arith)

-- what a test for an empty list shows
pub some_of : (n : ℕ) → (n == 0) ≡ false → 0 < n
some_of zero e = absurd (cc)
some_of (suc n) e = omega arith

pub none_left : (n : ℕ) → (n == 0) ≡ true → n ≡ 0
none_left n e = search (rules, e)

pub head_is : {A : Type 0} (xs rest : List A) (x d : A) → xs ≡ x ∷ rest → get_or xs 0 d ≡ x
head_is xs rest x d e = ap (λ l. get_or l 0 d) e

module _ {D : Type 0} {ghosts : Ghosts D} (group_bytes clients last : ℕ) (xs : List (ℕ × Request)) (led : IsLedGroup group_bytes clients xs) (options : WriteOptions) (same : options ≡ led.first.1.options) (batches : List Contents) (are : batches ≡ batches_of last xs) (some : 0 < length batches)
    (log log' : OpenLog D ghosts) (result : Result (Unit {0}) Fault) (skipped : options.no_log ≡ true → (result ≡ Ok tt) × (log' ≡ log)) (adds : options.no_log ≡ false → Adds (call_of (last + 1) batches options.sync result) log log') where
  from : map (λ (c : Contents). c.records) batches ≡ batches_from last (commit_requests_of xs)
  from = ap (map (λ (c : Contents). c.records)) are ∙ batches_are last xs

  pub writes : options.no_log ≡ false → WritesBatches last (commit_requests_of xs) (call_of (last + 1) batches options.sync result)
  writes logged = record {
    to_log = led.logged (ap (λ (h : WriteOptions). h.no_log) (sym same) ∙ logged);
    first = refl;
    batches = from;
    some = (let l = same_length (λ (c : Contents). c.records) batches (map (λ (c : Contents). c.records) batches) refl in omega (arith, l, some));
    sync = ap (λ (h : WriteOptions). h.sync) same ∙ ap (λ (l : List (ℕ × Request)). leader_asks_sync (commit_requests_of l)) (sym led.leads);
  }

  -- the call is counted, if one was made
  module _ (made made' : ℕ) (not_counted : options.no_log ≡ true → made' ≡ made) (counted : options.no_log ≡ false → made' ≡ made + 1) where
    logs_by : (b : Bool) → options.no_log ≡ b → (x : Unit {0}) → result ≡ Ok x → LogsOn last (commit_requests_of xs) made made' log log'
    logs_by true is x ok = inl ((skipped is).1, inl (led.unlogged (ap (λ (h : WriteOptions). h.no_log) (sym same) ∙ is)), not_counted is)
    logs_by false is x ok =
        inr (call_of (last + 1) batches options.sync result, adds is, writes is, subst (SyncsFor (commit_requests_of xs)) (ap (λ (h : WriteOptions). h.sync) (sym same)) led.syncs, ap count_of_fault ok, counted is)

    pub logs_on : (x : Unit {0}) → result ≡ Ok x → LogsOn last (commit_requests_of xs) made made' log log'
    logs_on x ok = logs_by options.no_log refl x ok

  fails_by : (b : Bool) → options.no_log ≡ b → (e : Fault) → result ≡ Err e → options.no_log ≡ false
  fails_by true is e err = absurd (let ok = (skipped is).0 in cc)
  fails_by false is e err = is

  pub to_log : (e : Fault) → result ≡ Err e → options.no_log ≡ false
  to_log e err = fails_by options.no_log refl e err

pub layout_enough : (last : ℕ) (xs : List (ℕ × Request)) (numberings : List Numbering) (batches : List Contents) → numberings ≡ numberings_of last xs → batches ≡ batches_of last xs → AreEnough numberings batches
layout_enough last xs numberings batches p b = subst (λ (z : List Numbering × List Contents). AreEnough z.0 z.1) (λ i. (sym p i, sym b i)) (are_enough last xs)

pub layout_room : (last room : ℕ) (xs : List (ℕ × Request)) (numberings : List Numbering) → numberings ≡ numberings_of last xs → length xs ≤ room → length numberings ≤ room
layout_room last room xs numberings p h = subst (λ (n : ℕ). n ≤ room) (sym (ap length p ∙ plans_count last xs)) h

module _ (delay : Delay) where
  pub layout_written : (last end : ℕ) (xs : List (ℕ × Request)) (numberings : List Numbering) (batches : List Contents) → numberings ≡ numberings_of last xs → batches ≡ batches_of last xs → answers (Written end) delay numberings batches ≡ replies_of delay last end xs
  layout_written last end xs numberings batches p b = (λ i. answers (Written end) delay (p i) (b i)) ∙ answers_written delay last end xs

  pub layout_faulted : (last n : ℕ) (xs : List (ℕ × Request)) (numberings : List Numbering) (batches : List Contents) → numberings ≡ numberings_of last xs → batches ≡ batches_of last xs → answers (Faulted n) delay numberings batches ≡ failures delay n xs
  layout_faulted last n xs numberings batches p b = (λ i. answers (Faulted n) delay (p i) (b i)) ∙ answers_faulted delay last n xs

  -- what a leader's replies must be: in order, with the batches back, and for this delay
  abbrev Pays : List (ℕ × Request) → List (ℕ × Answer) → Type 0
  Pays xs ys = InOrder xs ys × AllByRecursion HandsBack (handled_with xs ys) × AllByRecursion (IsReplyOf delay) ys

  pub pays_written : (last end : ℕ) (xs : List (ℕ × Request)) (ys : List (ℕ × Answer)) → ys ≡ replies_of delay last end xs → Pays xs ys
  pays_written last end xs ys is = subst (Pays xs) (sym is) (pays_planned delay last end xs, backs_planned delay last end xs, replies_planned delay last end xs)

  pub pays_faulted : (n : ℕ) (xs : List (ℕ × Request)) (ys : List (ℕ × Answer)) → ys ≡ failures delay n xs → Pays xs ys
  pays_faulted n xs ys is = subst (Pays xs) (sym is) (pays_failed delay n xs, backs_failed delay n xs, replies_failed delay n xs)
