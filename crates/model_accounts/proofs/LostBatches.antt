-- The batches of the group whose log write failed are those of commits that were answered the log's fault.
use Rattle.std.proofs.Common.{◌≡◌, inl, inr, ℕ, ◌+◌, ◌<◌, false, Some, List, [], ◌∷◌, ◌++◌, length, slice_get, ap, sym, ◌∙◌, subst, arith, append_assoc}
use Rattle.std.proofs.lemmas.Option.{slice_get_cases}
use Rattle.model_base.specs.declared.write.Refusal.TheVariants as no
use Rattle.model_base.specs.Batch.{Record}
use Rattle.model_base.specs.Trace.{Trace, Settings}
use Rattle.model_base.specs.Attempts.{Attempt, faulted}
use Rattle.model_base.specs.Progress.{Progress}
use Rattle.model_base.specs.Runs.{IsTranscript, whole, cut_off}
use Rattle.model_base.specs.Calls.{Command, commit, refused, no_memory, Call, Outcome}
use Rattle.model_base.specs.Outcomes.{IsLegalIn}
use Rattle.model_base.specs.Groups.{Member}
use Rattle.model_runs.specs.Lost.{IsLost, IsFaultedBatch}
use Rattle.model_accounts.specs.Answered.{Tells, IsAmong}
use Rattle.model_accounts.proofs.Visible.{attempts_visible}

-- this is so even in a transcript that ended without memory
pub transcript_visible : (settings : Settings) (trace : Trace) (client : ℕ) (commands : List Command) (calls : List Call) (end : Progress) → IsTranscript settings trace client commands calls end
    → (k : ℕ) (h : Attempt) → slice_get end.attempts k ≡ Some h → IsAmong [] calls h
transcript_visible settings trace client commands calls end (whole all run) k h e = attempts_visible settings trace client calls end run k h e
transcript_visible settings trace client commands calls end (cut_off front last rest are from run lacks) k h e =
    let s = attempts_visible settings trace client front end run k h e in
    let tail : List Call = record { command = last; reply = no_memory } ∷ [] in
    record {
      before = s.before;
      reply = s.reply;
      after = s.after ++ tail;
      there = are ∙ (ap (λ cs. cs ++ tail) s.there ∙ append_assoc s.before (record { command = commit h.options; reply = s.reply } ∷ s.after) tail);
      batch = s.batch;
      tells = s.tells;
    }

lost_at : (o : Outcome) (number count : ℕ) (calls : List Call) (records : List Record) (h : Attempt) → slice_get o.transcripts number ≡ Some calls → h.status ≡ faulted count → h.records ≡ records
    → h.options.no_log ≡ false → IsAmong [] calls h → IsFaultedBatch o count records
lost_at o number count calls records h of_client status same to_log s =
    let told : s.reply ≡ refused (no.LogFault count) = subst (λ f. Tells f h.records s.reply) status s.tells in
    record {
      client = number;
      calls = calls;
      before = s.before;
      after = s.after;
      how = h.options;
      of_client = of_client;
      there = s.there ∙ ap (λ r. s.before ++ record { command = commit h.options; reply = r } ∷ s.after) told;
      to_log = to_log;
      same = sym same ∙ s.batch;
    }

pub lost_is_faulted : (settings : Settings) (ended : ℕ) (script : List (List Command)) (trace : Trace) (attempts : List (List Attempt)) (o : Outcome) → IsLegalIn settings ended script trace attempts o
    → (count : ℕ) (m : Member) (records : List Record) → IsLost attempts count m records → IsFaultedBatch o count records
lost_is_faulted settings ended script trace attempts o legal count m records lost =
    let c = lost.stands in
    let within : c.number < length attempts = inside attempts c.commits c.of_client in
    let in_script : c.number < length script = (let n = legal.count_attempts in omega arith) in
    let in_transcripts : c.number < length o.transcripts = (let n = legal.count in omega arith) in
    let commands = there_is script in_script in
    let calls = there_is o.transcripts in_transcripts in
    let e = legal.each c.number commands.0 calls.0 commands.1 calls.1 in
    let t = e.2 in
    let same : c.commits ≡ t.end.attempts = ◌∙◌ {b = e.0} {c = t.end.attempts} (cc (c.of_client, e.1)) t.commits in
    let at : slice_get t.end.attempts m.call ≡ Some c.attempt = ◌∙◌ {b = slice_get c.commits m.call} {c = Some c.attempt} (ap (λ own. slice_get own m.call) {x = t.end.attempts} (sym {b = t.end.attempts} same)) c.there in
    lost_at o c.number count calls.0 records c.attempt calls.1 lost.status lost.records_are lost.to_log
    (transcript_visible settings trace (c.number + 1) commands.0 calls.0 t.end t.is_transcript m.call c.attempt at)
  where
    inside : {A : Type 0} (xs : List A) (x : A) → slice_get xs lost.stands.number ≡ Some x → lost.stands.number < length xs
    inside xs x e = elim (slice_get_cases xs lost.stands.number).1 [
      | inl there ↦ there.1
      | inr gone ↦ absurd (cc (e, gone.1))
    ]

    there_is : {A : Type 0} (xs : List A) → lost.stands.number < length xs → (x : A) × (slice_get xs lost.stands.number ≡ Some x)
    there_is xs h = elim (slice_get_cases xs lost.stands.number).1 [
      | inl there ↦ (there.0, there.2)
      | inr gone ↦ (let g = gone.0 in absurd (omega arith))
    ]
