-- The group of a batch that a client was answered `ok` for, and that goes into the log: the client knew by then that the
-- call that wrote it had returned.
use Rattle.std.proofs.Common.{◌≡◌, ℕ, zero, suc, ◌+◌, ◌<◌, ◌≤◌, Bool, List, [], ◌∷◌, ◌++◌, length, map, sum_by, Option, Some, None, MatchOption, slice_get, refl, ap, sym, ◌∙◌, subst, arith}
use Rattle.std.specs.List.{AllByRecursion, AllZip}
use Rattle.std.proofs.lemmas.List.Sums.{sum_by-cons}
use Rattle.base_devices.specs.declared.disk.Disk.{Ghosts}
use Rattle.model_base.specs.declared.write.WriteOptions.{WriteOptions}
use Rattle.model_base.specs.declared.write.Refusal.{Refusal}
use Rattle.model_base.specs.Attempts.{Attempt}
use Rattle.model_base.specs.Batch.{Record, count_of}
use Rattle.model_base.specs.History.{Entry, IsHistory, RunsFollow, last_of}
use Rattle.model_base.specs.Trace.{Trace, Settings}
use Rattle.model_base.specs.Progress.{Progress, early_refusal}
use Rattle.model_base.specs.Tokens.{holds_stop}
use Rattle.model_base.specs.Replies.{IsAccepted, IsAttempted, Commits, Stays}
use Rattle.model_base.specs.Calls.{accepted, refused, Call as Answered}
use Rattle.model_base.specs.LogContents.{GroupCall, WroteBatch}
use Rattle.model_runs.specs.Acknowledged.{HasBatch}
use Rattle.model_runs.specs.Written.{WroteEntries, AreLost}
use Rattle.crash_laws.specs.Restarts.{Call, execution_of, groups_in, calls_in}
use Rattle.crash_laws.specs.Killed.{WasAccepted, KnewThen}
use Rattle.crash_laws.proofs.Promised.{is_run}
use Rattle.crash_laws.proofs.Sequences.{IsCounted}
use Rattle.crash_laws.proofs.Whole.{counted}
use Rattle.crash_laws.proofs.Answered.{as_long, split_of}

-- A call that worked wrote a group

lost_failed : (group_bytes : ℕ) (attempts : List (List Attempt)) (fault : Option ℕ) (last : ℕ) (lost : List GroupCall) → AreLost group_bytes attempts fault last lost → (c : GroupCall) → c.failed ≡ None → (i : ℕ) → slice_get lost i ≡ Some c → ⊥
lost_failed group_bytes attempts None last lost are c ok i there = cc (subst (λ cs. slice_get cs i ≡ Some c) are there)
lost_failed group_bytes attempts (Some count) last lost are c ok zero there =
    let same : Some (are.0) ≡ Some c = subst (λ cs. slice_get cs 0 ≡ Some c) are.1 there in let failed = are.2.failed in cc (same, failed, ok)
lost_failed group_bytes attempts (Some count) last lost are c ok (suc i) there = cc (subst (λ cs. slice_get cs (suc i) ≡ Some c) are.1 there)

record Part (parts : List (List Entry)) (place : ℕ) (c : GroupCall) : Type 0 where
  part : List Entry
  there : slice_get parts place ≡ Some part
  wrote : WroteEntries part c

part_of : (parts : List (List Entry)) (calls lost : List GroupCall) (c : GroupCall) → AllZip WroteEntries parts calls → ((i : ℕ) → slice_get lost i ≡ Some c → ⊥) → (place : ℕ) → slice_get (calls ++ lost) place ≡ Some c → Part parts place c
part_of [] [] lost c each never place there = absurd (never place there)
part_of [] (d ∷ calls) lost c each never place there = absurd each
part_of (part ∷ parts) [] lost c each never place there = absurd each
part_of (part ∷ parts) (d ∷ calls) lost c each never zero there = let same : d ≡ c = cc there in record { part = part; there = refl; wrote = subst (WroteEntries part) same each.0 }
part_of (part ∷ parts) (d ∷ calls) lost c each never (suc place) there =
    let p = part_of parts calls lost c each.1 never place there in record { part = p.part; there = p.there; wrote = p.wrote }

-- The batch's entry in that group

no_end : {A : Type 0} (front : List A) (x : A) (rest : List A) → front ++ x ∷ rest ≡ [] → ⊥
no_end [] x rest none = cc none
no_end (y ∷ front) x rest none = cc none

one_earlier : (first : ℕ) (records : List Record) (e : Entry) (part : List Entry) → HasBatch first records part → HasBatch first records (e ∷ part)
one_earlier first records e part has = record { before = e ∷ has.before; entry = has.entry; after = has.after; there = ap (λ (es : List Entry). e ∷ es) has.there; run = has.run; batch = has.batch }

-- the entries follow each other, and the first of them begins at `start`
at_front : (records : List Record) (rest : List (List Record)) (start first : ℕ) (front : List (List Record)) (e : Entry) (part : List Entry) → e.first ≡ start → IsHistory (last_of e) part → AllByRecursion IsCounted (e ∷ part)
    → front ++ records ∷ rest ≡ map (λ (x : Entry). x.records) (e ∷ part) → first ≡ start + sum_by count_of front → HasBatch first records (e ∷ part)
at_front records rest start first [] e part begins follow counts same run = record { before = []; entry = e; after = part; there = refl; run = (let a = begins in omega (arith, a, run)); batch = sym (cc same) }
at_front records rest start first (r ∷ front) e [] begins follow counts same run = absurd (no_end front records rest (cc same))
at_front records rest start first (r ∷ front) e (d ∷ part) begins follow counts same run =
    let here : r ≡ e.records = cc same in
    let count : count_of r ≡ count_of e.records = ap count_of here in
    let own = counts.0.0 in let some = counts.0.1 in let next = follow.0.first in
    let sum = sum_by-cons count_of r front in
    one_earlier first records e (d ∷ part) (at_front records rest d.first first front d part refl follow.1 counts.1 (cc same) (omega (arith, begins, run, count, own, some, next, sum)))

entry_in : (c : GroupCall) (first : ℕ) (records : List Record) (sync : Bool) (part : List Entry) → WroteBatch first records sync c → WroteEntries part c → RunsFollow part → AllByRecursion IsCounted part → HasBatch first records part
entry_in c first records sync [] batch wrote runs counts = absurd (cc wrote.some)
entry_in c first records sync (e ∷ part) batch wrote runs counts =
    let begins : e.first ≡ c.first = cc wrote.some in
    at_front records batch.after c.first first batch.before e part begins runs counts (sym batch.among ∙ wrote.batches) batch.run

all_at : {A : Type 0} (P : A → Type 0) (xs : List A) (i : ℕ) (x : A) → AllByRecursion P xs → slice_get xs i ≡ Some x → P x
all_at P [] i x all there = absurd (cc there)
all_at P (y ∷ xs) zero x all there = let same : y ≡ x = cc there in subst P same all.0
all_at P (y ∷ xs) (suc i) x all there = all_at P xs i x all.1 there

-- The commit

accepted_by : (settings : Settings) (trace : Trace) (client : ℕ) (p : Progress) (how : WriteOptions) (first last : ℕ) (records : List Record) (q : Progress) → Commits settings trace client p how (accepted first last records) q
    → IsAccepted trace.controller_calls trace.log_calls client p how first last records q
accepted_by settings trace client p how first last records q s = by (early_refusal settings.families settings.batch_bytes (holds_stop p.asked) p.pending how) s
  where
    by : (early : Option Refusal) → MatchOption early (IsAttempted trace client p how (accepted first last records) q) (λ why. (accepted first last records ≡ refused why) × Stays p q) → IsAccepted trace.controller_calls trace.log_calls client p how first last records q
    by None s = s
    by (Some why) s = absurd (cc s.0)

-- one of the groups that were logged has the batch, and its call is among the first `knew`
pub record IsInGroup {D : Type 0} {disk : Ghosts D} (call : Call disk) (first knew : ℕ) (records : List Record) : Type 0 where
  pub k : ℕ
  pub group : List Entry
  pub there : slice_get (groups_in call) k ≡ Some group
  pub has : HasBatch first records group
  pub written : k < knew

-- what a client knew as it was answered `ok`
pub record Knows {D : Type 0} {disk : Ghosts D} (call : Call disk) (client : ℕ) (calls : List Answered) (first : ℕ) (records : List Record) : Type 0 where
  pub knew : ℕ
  pub within : knew ≤ length (calls_in call)
  pub known : KnewThen (execution_of call).settings (is_run call).trace client calls first knew records

module _ {D : Type 0} {disk : Ghosts D} (call : Call disk) where
  pub in_group : (client : ℕ) (calls : List Answered) (first knew : ℕ) (records : List Record) → KnewThen (execution_of call).settings (is_run call).trace client calls first knew records → IsInGroup call first knew records
  in_group client calls first knew records known =
      let run = is_run call in
      let writes = run.writes in
      let settings : Settings = (execution_of call).settings in
      let was = known.was in
      let a = accepted_by settings run.trace client known.p was.how first known.last records known.q (known.step).replies in
      let logged = a.logged was.to_log in
      let wrote = logged.wrote in
      let there : slice_get (calls_in call) logged.place ≡ Some logged.call = ap (λ (cs : List GroupCall). slice_get cs logged.place) writes.log ∙ logged.there in
      let part = part_of writes.parts writes.calls writes.lost logged.call writes.each (lost_failed settings.group_bytes run.attempts call.outcome.fault _ writes.lost writes.none_else logged.call wrote.ok) logged.place there in
      let counts = all_at _ writes.parts logged.place part.part (counted call) part.there in
      let pending : List Record = (known.p).pending in
      let has : HasBatch first pending part.part = entry_in logged.call first pending was.how.sync part.part wrote part.wrote counts.1 counts.0 in
      record {
        k = logged.place;
        group = part.part;
        there = part.there;
        has = subst (λ (rs : List Record). HasBatch first rs part.part) (sym a.batch) has;
        written = subst (λ (m : ℕ). logged.place < m) known.knows logged.known;
      }

  -- each client that was answered so knew of some first calls
  pub knows_by_then : (i : ℕ) (calls : List Answered) (first last : ℕ) (records : List Record) → slice_get call.outcome.transcripts i ≡ Some calls → WasAccepted calls first last records → Knows call (i + 1) calls first records
  knows_by_then i calls first last records there was =
      let run = is_run call in
      let settings : Settings = (execution_of call).settings in
      let legal = run.legal in
      let asked = as_long call.outcome.transcripts (execution_of call).script i calls legal.count there in
      let own = legal.each i asked.0 calls asked.1 there in
      let mine = own.2 in
      let s = split_of settings run.trace (i + 1) asked.0 calls was.before was.after was.how first last records mine.end was.there mine.is_transcript in
      let step = s.step in
      record {
        knew = (s.next).logged;
        within = subst (λ (cs : List GroupCall). (s.next).logged ≤ length cs) (sym (run.writes).log) step.logs_within;
        known = record { last = last; was = was; p = s.at; q = s.next; run = s.run; step = step; knows = refl };
      }
