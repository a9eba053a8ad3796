-- A commit that passes the checks, has room, and isn't held up, is accepted or finds no memory.
use Rattle.std.proofs.Common.{◌≡◌, ◌⊎◌, ℕ, ◌+◌, ◌<◌, ◌≤◌, Bool, true, false, ◌==◌, nat_lt, nat_le, ◌&&◌, List, [], ◌∷◌, Option, None, MatchOption, refl, ap, subst, inl, inr, arith}
use Rattle.std.proofs.lemmas.Bool.Decides.{nat_tests}
use Rattle.model_base.specs.declared.write.WriteOptions.{WriteOptions}
use Rattle.model_base.specs.declared.write.Refusal.{Refusal}
use Rattle.model_base.specs.declared.write.Refusal.TheVariants as no
use Rattle.model_base.specs.Batch.{count_of, size_of_batch}
use Rattle.model_base.specs.History.{max_sequence}
use Rattle.model_base.specs.Tokens.{holds_stop}
use Rattle.model_base.specs.Attempts.{Attempt, Fate, faulted, full, with_attempt}
use Rattle.model_base.specs.Trace.{Trace, Settings}
use Rattle.std.specs.List.{AllByRecursion}
use Rattle.model_base.specs.Progress.{Progress, fresh, families_in, first_missing, early_refusal, batch_after}
use Rattle.model_base.specs.Replies.{MayRefuse, IsAttempted, Commits, Stays}
use Rattle.model_base.specs.Outcomes.{IsLegal, IsLegalTranscript}
use Rattle.model_base.specs.Calls.{Command, commit, Reply, accepted, refused, no_memory, Call, Outcome}
use Rattle.model_base.specs.Script.{Script}
use Rattle.model_base.proofs.Fates.{fate_with}
use Rattle.run_laws.proofs.Plain.{AreSound}
use Rattle.run_laws.proofs.Counts.{sequences_of, sound}
use Rattle.run_laws.specs.Accepting.{HasRoom, HoldsNothingUp, stops_after, ReachesCommit, PassesChecks, IsAccepted}
use Rattle.run_laws.proofs.Follows.{batch_by, stopping_by}
use Rattle.run_laws.proofs.Splits.{Comes, comes_to}
use Rattle.run_laws.proofs.Room.{takes_less}
use Rattle.run_laws.proofs.Statuses.{sound_last, sound_run}
use Rattle.run_laws.proofs.Calm.{not_held_up}
use Rattle.run_laws.proofs.LegalRoom as history

-- the checks before a batch is linked

not_both : (a b : Bool) → (a ≡ true → b ≡ false) → (a && b) ≡ false
not_both true b f = f refl
not_both false b f = refl

all_there : (families : ℕ) (named : List ℕ) → AllByRecursion (λ family. family < families) named → first_missing families named ≡ None
all_there families [] there = refl
all_there families (family ∷ named) there =
    let first = there.0 in
    let below : nat_le families family ≡ false = grind (arith, nat_tests) in
    rw below (all_there families named there.1)

no_early_refusal : (settings : Settings) (before : List Call) (how : WriteOptions) → PassesChecks settings before how
    → early_refusal settings.families settings.batch_bytes (stops_after before) (batch_after before) how ≡ None
no_early_refusal settings before how checks =
    let some = checks.some in let within = checks.fits in
    let counted : (count_of (batch_after before) == 0) ≡ false = grind (arith, nat_tests) in
    let fits : nat_lt settings.batch_bytes (size_of_batch (batch_after before)) ≡ false = grind (arith, nat_tests) in
    rw (counted, fits, not_both how.sync how.no_log checks.logged, all_there settings.families (families_in (batch_after before)) checks.there, checks.no_stop) refl

module _ (settings : Settings) (ended : ℕ) (script : Script) (o : Outcome) (client : ℕ) (before : List Call) (how : WriteOptions) (reply : Reply) (legal : IsLegal settings ended script o) where
  abbrev trace : Trace
  trace = legal.trace

  abbrev most : ℕ
  most = history.end_of_history settings ended script o legal

  -- the commit can't be refused
  never_refused : (p : Progress) (knows : ℕ) (why : Refusal) (fate : Option Fate) → most + count_of p.pending ≤ max_sequence → (how.no_slowdown ≡ false) ⊎ HoldsNothingUp script
      → AreSound most (with_attempt p.attempts p.pending how fate) → MayRefuse trace.controller_calls (client + 1) p knows how why fate → ⊥
  never_refused p knows (no.Incomplete stops delays wait) fate room (inl waits) s may = let yes = may.0 in cc
  never_refused p knows (no.Incomplete stops delays wait) fate room (inr quiet) s may =
      not_held_up trace.controller_calls legal.legal.is_trace.controller_calls (history.calm settings ended script o legal quiet) (holds_stop p.asked) (client + 1) p.known knows _ fate may.1
  never_refused p knows (no.LogFault count) fate room freed s may =
      let f = fate_with fate (faulted count) may in sound_last most p.attempts p.pending how f.0 f.1 (faulted count) (subst (λ x. AreSound most (with_attempt p.attempts p.pending how x)) f.2 s)
  never_refused p knows (no.SequenceFull last) fate room freed s may =
      let f = fate_with fate (full last) may.0 in
      let within : last ≤ most = sound_last most p.attempts p.pending how f.0 f.1 (full last) (subst (λ x. AreSound most (with_attempt p.attempts p.pending how x)) f.2 s) in
      let past = may.5 in omega (arith, room, within, past)
  never_refused p knows no.Empty fate room freed s may = may
  never_refused p knows (no.TooLarge size) fate room freed s may = may
  never_refused p knows no.SyncWithoutLog fate room freed s may = may
  never_refused p knows (no.NoFamily family) fate room freed s may = may
  never_refused p knows no.SelfStop fate room freed s may = may
  never_refused p knows no.NoMemory fate room freed s may = may

  attempt_accepted : (p q : Progress) (told : Reply) → (q.mine ≡ p.mine → most + count_of p.pending ≤ max_sequence) → (how.no_slowdown ≡ false) ⊎ HoldsNothingUp script → AreSound most q.attempts
      → IsAttempted trace (client + 1) p how told q → IsAccepted p.pending told
  attempt_accepted p q (accepted first last records) room freed s a = (first, last, ap (accepted first last) a.batch)
  attempt_accepted p q (refused why) room freed s a = absurd (never_refused p q.known why a.0 (room (ap (λ (x : Progress). x.mine) a.2)) freed (subst (λ (x : Progress). AreSound most x.attempts) a.2 s) a.1)
  attempt_accepted p q other room freed s a = absurd a

  commit_accepted : (p q : Progress) → p.pending ≡ batch_after before → holds_stop p.asked ≡ stops_after before → PassesChecks settings before how → (q.mine ≡ p.mine → most + count_of p.pending ≤ max_sequence)
      → (how.no_slowdown ≡ false) ⊎ HoldsNothingUp script → AreSound most q.attempts → Commits settings trace (client + 1) p how reply q → IsAccepted (batch_after before) reply
  commit_accepted p q batch tokens checks room freed s e =
      let none : early_refusal settings.families settings.batch_bytes (holds_stop p.asked) p.pending how ≡ None = rw (batch, tokens) (no_early_refusal settings before how checks) in
      subst (λ records. IsAccepted records reply) batch
      (attempt_accepted p q reply room freed s
      (subst (λ early. MatchOption early (IsAttempted trace (client + 1) p how reply q) (λ why. (reply ≡ refused why) × Stays p q)) none e))

  statuses_sound : (attempts : List Attempt) (commands : List Command) (calls : List Call) → o.fault ≡ None
      → (right : IsLegalTranscript settings trace o.fault (client + 1) commands calls attempts) → AreSound most right.end.attempts
  statuses_sound attempts commands calls no_fault right =
      subst (AreSound most) right.commits (sound most trace o.fault attempts no_fault (history.last_within settings ended script o legal) right.statuses)

  -- if a commit wasn't accepted, its batch had room
  has_room_at : {commands : List Command} {attempts : List Attempt} (to : ReachesCommit o client before how reply) (right : IsLegalTranscript settings trace o.fault (client + 1) commands to.calls attempts)
      → (c : Comes settings trace (client + 1) fresh before (record { command = commit how; reply = reply }) to.after right.end) → c.next.mine ≡ c.at.mine → HasRoom settings o → most + count_of c.at.pending ≤ max_sequence
  has_room_at to right c same room =
      let all = ap sequences_of right.accepted in
      let less = takes_less settings trace (client + 1) to.calls before how reply to.after right.end to.split c same in
      history.has_room settings ended script o legal client to.calls (count_of c.at.pending) to.there (omega (arith, all, less)) room

  pub accepted_or_no_memory : o.fault ≡ None → ReachesCommit o client before how reply → PassesChecks settings before how → HasRoom settings o
      → (how.no_slowdown ≡ false) ⊎ HoldsNothingUp script → IsAccepted (batch_after before) reply ⊎ (reply ≡ no_memory)
  accepted_or_no_memory no_fault to checks room freed =
      let t = history.right_of settings ended script o legal client to.calls to.there in let right = t.right in
      let sound_at_end = statuses_sound t.attempts t.commands to.calls no_fault right in
      elim (comes_to settings trace (client + 1) t.commands to.calls before (record { command = commit how; reply = reply }) to.after right.end to.split right.is_transcript) [
        | inl c ↦ inl (commit_accepted c.at c.next (batch_by settings trace (client + 1) fresh before c.at c.run) (stopping_by settings trace (client + 1) fresh before c.at c.run) checks
            (λ same. has_room_at to right c same room) freed
            (sound_run most settings trace (client + 1) c.next c.kept right.end c.rest sound_at_end) c.step.replies)
        | inr none ↦ inr none
      ]
