-- Linking keeps what holds of the clients' replies.
use Rattle.std.proofs.Common.{◌≡◌, ℕ, Bool, true, false, if◌then◌else◌, List, [], ◌∷◌, ◌++◌, Option, Some, None, MatchOption, refl, ap, sym, ◌∙◌, subst, append_assoc}
use Rattle.std.specs.List.{AllByRecursion}
use Rattle.model_base.specs.declared.write.Refusal.{Refusal}
use Rattle.model_base.specs.declared.write.WriteOptions.{WriteOptions}
use Rattle.model_base.specs.Batch.{Record}
use Rattle.model_base.specs.Progress.{batch_after, early_refusal}
use Rattle.model_base.specs.Calls.{Command, commit, updates, refused, Call}
use Rattle.model_core.specs.Core.{Options, Writer, Client, State, LogPhase, free, led, built, stalled, in_log, marked, handed, client_at, next_call, refusal_of, refusal_in, may_link, stall_refusal, plain_options}
use Rattle.model_core.specs.Step.{link, link_call, link_with, link_read}
use Rattle.model_core.specs.Replies.{IsHandled, MayReply, is_log_fault}
use Rattle.model_core.specs.CoreLaw.{IsCore, hand, writers_in}
use Rattle.model_core_laws.proofs.KeptByLink.{none_early}
use Rattle.model_core_laws.proofs.Lists.{all_append}
use Rattle.model_core_laws.proofs.Tables.{when_some}
use Rattle.model_core_laws.proofs.Ready.{ready_push, commit_refused, early_other}
use Rattle.model_core_laws.proofs.Told.{HasNoAnswer, Told, Waits, writers, unanswered}
use Rattle.model_core_laws.proofs.ToldByLines.{apart, together, becomes}
use Rattle.model_core_laws.proofs.ToldByClients.{GoesOn, the_client, others_wait, told_with, next_ready, next_asked, idle_absent, answered}

one_more_unanswered : (P : Writer → Type 0) (log : LogPhase) (queue : List Writer) (w : Writer) → AllByRecursion P (unanswered log queue) → P w → AllByRecursion P (unanswered log (queue ++ w ∷ []))
one_more_unanswered P (built ws) queue w a p = subst (AllByRecursion P) (append_assoc ws queue (w ∷ [])) (all_append P (ws ++ queue) (w ∷ []) a (p, tt))
one_more_unanswered P (stalled ws) queue w a p = subst (AllByRecursion P) (append_assoc ws queue (w ∷ [])) (all_append P (ws ++ queue) (w ∷ []) a (p, tt))
one_more_unanswered P free queue w a p = all_append P queue (w ∷ []) a (p, tt)
one_more_unanswered P (led c) queue w a p = all_append P queue (w ∷ []) a (p, tt)
one_more_unanswered P (in_log ws) queue w a p = all_append P queue (w ∷ []) a (p, tt)
one_more_unanswered P (marked ws) queue w a p = all_append P queue (w ∷ []) a (p, tt)
one_more_unanswered P (handed c) queue w a p = all_append P queue (w ∷ []) a (p, tt)

linked_waits : (o : Options) (plans : List (List Command)) (s : State) (c : ℕ) (old : Client) (how : WriteOptions) → client_at s c ≡ Some old → old.idle ≡ true → (next_call old).call ≡ Some (commit how)
    → refusal_of o how (next_call old).client.added ≡ None → Told o plans s → IsCore o (link_with o s c (next_call old).client how None) → Told o plans (link_with o s c (next_call old).client how None)
linked_waits o plans s c old how is idle call passed so_far =
    let a = (next_call old).client in let new : Client = record a { idle = false } in let t = link_with o s c a how None in
    let w : Writer = record { client = c; options = how; records = a.added; since = None; answer = None } in
    let on : GoesOn s t c old new = record { there = is; clients = refl; entries = refl; logged = refl; log_failed = refl; last = refl } in
    let ready = next_ready o plans s c old idle (so_far.each c old is) in
    let parts = apart (Waits o plans t) (writers_in s.second) (hand s.log) s.queue s.leaving (others_wait o plans s t c old new on (writers s) (idle_absent o s c old is idle so_far.core) so_far.waits) in
    let waits : Waits o plans t w = record {
      client = new;
      there = the_client s t c old new on;
      batch = λ writes. ready.batch;
      passed = λ writes. passed;
      plain = λ n reads. absurd (cc);
      asked = next_asked o plans s c old idle (so_far.each c old is) (commit how) call;
      answer = ready.entries;
    } in
    told_with o plans s t c old new on (record { added = ready.batch; right = ready.right; seen_published = ready.seen_published; log_failed = ready.log_failed; asked = λ never. absurd (cc); entries = λ never. absurd (cc) })
    (together (Waits o plans t) (writers_in s.second) (hand s.log) (s.queue ++ w ∷ []) s.leaving
    (record { at_second = parts.at_second; at_hand = parts.at_hand; at_queue = all_append (Waits o plans t) s.queue (w ∷ []) parts.at_queue (waits, tt); at_leaving = parts.at_leaving }))
    refl (one_more_unanswered HasNoAnswer s.log s.queue w so_far.none (λ writes. refl)) so_far

-- a read of the log waits too
reader_waits : (o : Options) (plans : List (List Command)) (s : State) (c : ℕ) (old : Client) (n : ℕ) → client_at s c ≡ Some old → old.idle ≡ true → (next_call old).call ≡ Some (updates n)
    → Told o plans s → IsCore o (link_read s c (next_call old).client n) → Told o plans (link_read s c (next_call old).client n)
reader_waits o plans s c old n is idle call so_far =
    let a = (next_call old).client in let new : Client = record a { idle = false } in let t = link_read s c a n in
    let w : Writer = record { client = c; options = plain_options; records = []; since = Some n; answer = None } in
    let on : GoesOn s t c old new = record { there = is; clients = refl; entries = refl; logged = refl; log_failed = refl; last = refl } in
    let ready = next_ready o plans s c old idle (so_far.each c old is) in
    let parts = apart (Waits o plans t) (writers_in s.second) (hand s.log) s.queue s.leaving (others_wait o plans s t c old new on (writers s) (idle_absent o s c old is idle so_far.core) so_far.waits) in
    let waits : Waits o plans t w = record {
      client = new;
      there = the_client s t c old new on;
      batch = λ writes. absurd (cc);
      passed = λ writes. absurd (cc);
      plain = λ m reads. refl;
      asked = next_asked o plans s c old idle (so_far.each c old is) (updates n) call;
      answer = ready.entries;
    } in
    told_with o plans s t c old new on (record { added = ready.batch; right = ready.right; seen_published = ready.seen_published; log_failed = ready.log_failed; asked = λ never. absurd (cc); entries = λ never. absurd (cc) })
    (together (Waits o plans t) (writers_in s.second) (hand s.log) (s.queue ++ w ∷ []) s.leaving
    (record { at_second = parts.at_second; at_hand = parts.at_hand; at_queue = all_append (Waits o plans t) s.queue (w ∷ []) parts.at_queue (waits, tt); at_leaving = parts.at_leaving }))
    refl (one_more_unanswered HasNoAnswer s.log s.queue w so_far.none (λ writes. refl)) so_far

-- a commit is refused by a check, or since writes are stalled and it may not wait
refused_in_stall : (how : WriteOptions) (b : Bool) (why : Refusal) → how.no_slowdown ≡ b → (if b then Some (stall_refusal 1 0) else None) ≡ Some why → (how.no_slowdown ≡ true) × (stall_refusal 1 0 ≡ why)
refused_in_stall how true why is e = (is, cc)
refused_in_stall how false why is e = absurd (cc)

late_refusal : (how : WriteOptions) (why : Refusal) (log : LogPhase) → refusal_in log how None ≡ Some why → (how.no_slowdown ≡ true) × (stall_refusal 1 0 ≡ why)
late_refusal how why (stalled ws) e = refused_in_stall how how.no_slowdown why refl e
late_refusal how why free e = absurd (cc)
late_refusal how why (led c) e = absurd (cc)
late_refusal how why (built ws) e = absurd (cc)
late_refusal how why (in_log ws) e = absurd (cc)
late_refusal how why (marked ws) e = absurd (cc)
late_refusal how why (handed c) e = absurd (cc)

refused_now : (o : Options) (s : State) (calls : List Call) (added : List Record) (how : WriteOptions) (why : Refusal) → added ≡ batch_after calls → (log : LogPhase) (early : Option Refusal) → refusal_of o how added ≡ early → refusal_in log how early ≡ Some why
    → MayReply o s calls (commit how) (refused why)
refused_now o s calls added how why batch log (Some first) is e = let f : first ≡ why = cc in commit_refused o s calls added how why batch (is ∙ ap (λ w. Some w) f)
refused_now o s calls added how why batch log None is e =
    let h = late_refusal how why log e in
    let passed : early_refusal o.families o.batch_bytes false (batch_after calls) how ≡ None = subst (λ rs. early_refusal o.families o.batch_bytes false rs how ≡ None) batch is in
    subst (λ (early : Option Refusal). MatchOption early (IsHandled o s calls how (refused why)) (λ w. refused why ≡ refused w)) (sym passed)
    (subst (λ w. IsHandled o s calls how (refused w)) h.1 h.0)

no_fault : (o : Options) (added : List Record) (how : WriteOptions) (why : Refusal) (log : LogPhase) (early : Option Refusal) → refusal_of o how added ≡ early → refusal_in log how early ≡ Some why → is_log_fault (refused why) ≡ false
no_fault o added how why log (Some first) is e = let f : first ≡ why = cc in early_other o.families o.batch_bytes added how why (is ∙ ap (λ w. Some w) f)
no_fault o added how why log None is e = subst (λ w. is_log_fault (refused w) ≡ false) (late_refusal how why log e).1 refl

pub told_by_link : (o : Options) (plans : List (List Command)) (s t : State) (c : ℕ) → Told o plans s → link o s c (client_at s c) ≡ Some t → IsCore o t → Told o plans t
told_by_link o plans s t c so_far e core = by_client (client_at s c) refl e
  where
    by_refusal : (old : Client) → client_at s c ≡ Some old → old.idle ≡ true → (how : WriteOptions) → (next_call old).call ≡ Some (commit how) → (why : Option Refusal) → refusal_in s.log how (refusal_of o how (next_call old).client.added) ≡ why
        → link_with o s c (next_call old).client how why ≡ t → Told o plans t
    by_refusal old is idle how call (Some why) early e =
        let a = (next_call old).client in let ready = next_ready o plans s c old idle (so_far.each c old is) in
        becomes o plans (link_with o s c a how (Some why)) t e core (answered o plans s c old (commit how) (refused why) is idle call
        (ready_push o s c a.calls (record { command = commit how; reply = refused why }) a.added ready.right (refused_now o s a.calls a.added how why ready.batch s.log (refusal_of o how a.added) refl early) ready.batch ready.seen_published ready.log_failed
        (λ told. absurd (let f = no_fault o a.added how why s.log (refusal_of o how a.added) refl early in cc)) ready.entries) so_far)
    by_refusal old is idle how call None early e = becomes o plans (link_with o s c (next_call old).client how None) t e core (linked_waits o plans s c old how is idle call (none_early s.log how (refusal_of o how (next_call old).client.added) early) so_far)

    by_call : (old : Client) → client_at s c ≡ Some old → old.idle ≡ true → (call : Option Command) → (next_call old).call ≡ call → link_call o s c (next_call old).client call ≡ Some t → Told o plans t
    by_call old is idle (Some (commit how)) call e =
        let why = refusal_in s.log how (refusal_of o how (next_call old).client.added) in
        by_refusal old is idle how call why refl (when_some (may_link s.log why) (link_with o s c (next_call old).client how why) t e).1
    by_call old is idle (Some (updates n)) call e =
        becomes o plans (link_read s c (next_call old).client n) t (when_some (may_link s.log None) (link_read s c (next_call old).client n) t e).1 core (reader_waits o plans s c old n is idle call so_far)
    by_call old is idle (Some other) call e = absurd (cc)
    by_call old is idle None call e = absurd (cc)

    by_idle : (client : Client) → client_at s c ≡ Some client → (b : Bool) → client.idle ≡ b → (if b then link_call o s c (next_call client).client (next_call client).call else None) ≡ Some t → Told o plans t
    by_idle client is true idle e = by_call client is idle (next_call client).call refl e
    by_idle client is false idle e = absurd (cc)

    by_client : (client : Option Client) → client_at s c ≡ client → link o s c client ≡ Some t → Told o plans t
    by_client None is e = absurd (cc)
    by_client (Some client) is e = by_idle client is client.idle refl e
