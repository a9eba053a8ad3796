-- What the leader's answers are for the commits.
use Rattle.std.proofs.Common.{◌≡◌, ℕ, suc, ◌+◌, ◌≤◌, Bool, true, false, cond, nat_le, map, None, List, [], ◌∷◌, ◌++◌, length, refl, ap, ◌∙◌, arith}
use Rattle.std.specs.List.{AllByRecursion}
use Rattle.model_base.specs.declared.write.Refusal.TheVariants.{LogFault, SequenceFull}
use Rattle.model_base.specs.Batch.{count_of}
use Rattle.model_base.specs.History.{max_sequence}
use Rattle.log_batch.specs.Contents.{Contents}
use Rattle.std.specs.declared.snapshot.Snapshot.{Snapshot}
use Rattle.engine_parts.specs.declared.requests.Request.{Request}
use Rattle.engine_parts.specs.declared.requests.Delay.{Delay}
use Rattle.engine_parts.specs.declared.requests.Answer.{Answer}
use Rattle.line_rule.specs.declared.view.Handling.{Handling}
use Rattle.engine_parts.proofs.Commits.{Writes, one_commit_in, one_sight_in}
use Rattle.engine_parts.specs.declared.numbering.Numbering.TheVariants as numbered
use Rattle.engine_parts.specs.declared.numbering.GroupFate.TheVariants.{Written, Faulted}
use Rattle.engine_parts.specs.Handled.{ComesBack, HandsBack, IsReplyOf, accepted_reply, commit_of, commit_request_of, commit_requests_of, failures, handled_with, refused_reply, run_after, snapshot_of, replies_of, heard_at, commits_in, reply_at, sight_of, sights_in}
use Rattle.engine_parts.specs.Numbering.{AreEnough, answers, batch_at, batches_of, numberings_of}
use Rattle.engine_rule.specs.Commits.{accepted, failed, no_room}
use Rattle.engine_rule.specs.LogSights.{WrittenBatch, written_if, sights_with, sights_without}
use Rattle.engine_rule.specs.Plans.{all_failed, commit_of_request, batches_from, last_with, commits_of_plan}

-- a snapshot is determined by its value
pub is_remembered : {X : Type 0} (s : Snapshot X) (x : X) → s.value ≡ x → s ≡ snapshot_of x
is_remembered s x e = ap snapshot_of e

pub map_append : {A B : Type 0} (f : A → B) (xs ys : List A) → map f (xs ++ ys) ≡ map f xs ++ map f ys
map_append f [] ys = refl
map_append f (x ∷ xs) ys = ap (λ l. f x ∷ l) (map_append f xs ys)

-- a request has at most one batch
one_by : (last : ℕ) (q : Request) (b : Bool) → length (cond b (record q.batch { sequence = last + 1 } ∷ []) []) ≤ 1
one_by last q true = omega arith
one_by last q false = omega arith

pub one_batch : (last : ℕ) (q : Request) → length (batch_at last q) ≤ 1
one_batch last q = one_by last q (nat_le (last + count_of q.batch.records) max_sequence)

enough_by : (last : ℕ) (x : ℕ × Request) (xs : List (ℕ × Request)) (b : Bool) → ((m : ℕ) → AreEnough (numberings_of m xs) (batches_of m xs))
    → AreEnough ((cond b (numbered.Given x.0 (run_after last x.1.batch.records) x.1.batch.sequence tt) (numbered.SequenceFull x.0 last x.1.batch tt)) ∷ numberings_of (cond b (last + count_of x.1.batch.records) last) xs) (cond b (record x.1.batch { sequence = last + 1 } ∷ []) [] ++ batches_of (cond b (last + count_of x.1.batch.records) last) xs)
enough_by last x xs true more = more (last + count_of x.1.batch.records)
enough_by last x xs false more = more last

pub are_enough : (last : ℕ) (xs : List (ℕ × Request)) → AreEnough (numberings_of last xs) (batches_of last xs)
are_enough last [] = refl
are_enough last (x ∷ xs) = enough_by last x xs (nat_le (last + count_of x.1.batch.records) max_sequence) (λ m. are_enough m xs)

pub plans_count : (last : ℕ) (xs : List (ℕ × Request)) → length (numberings_of last xs) ≡ length xs
plans_count last [] = refl
plans_count last (x ∷ xs) = ap suc (plans_count (last_with last x.1.batch.records) xs)

batches_by : (last : ℕ) (x : ℕ × Request) (xs : List (ℕ × Request)) (b : Bool) → ((m : ℕ) → map (λ (c : Contents). c.records) (batches_of m xs) ≡ batches_from m (commit_requests_of xs))
    → map (λ (c : Contents). c.records) (cond b (record x.1.batch { sequence = last + 1 } ∷ []) [] ++ batches_of (cond b (last + count_of x.1.batch.records) last) xs) ≡ cond b (x.1.batch.records ∷ []) [] ++ batches_from (cond b (last + count_of x.1.batch.records) last) (commit_requests_of xs)
batches_by last x xs true more = ap (λ l. x.1.batch.records ∷ l) (more (last + count_of x.1.batch.records))
batches_by last x xs false more = more last

pub batches_are : (last : ℕ) (xs : List (ℕ × Request)) → map (λ (c : Contents). c.records) (batches_of last xs) ≡ batches_from last (commit_requests_of xs)
batches_are last [] = refl
batches_are last (x ∷ xs) = batches_by last x xs (nat_le (last + count_of x.1.batch.records) max_sequence) (λ m. batches_are m xs)

-- what isn't accepted shows no batch
pub none_if : (no_log : Bool) (b : WrittenBatch) → written_if no_log false b ≡ None
none_if true b = refl
none_if false b = refl

module _ (delay : Delay) where
  -- the answers to what was laid out
  written_by : (last end : ℕ) (x : ℕ × Request) (xs : List (ℕ × Request)) (b : Bool) → ((m : ℕ) → answers (Written end) delay (numberings_of m xs) (batches_of m xs) ≡ replies_of delay m end xs)
      → answers (Written end) delay ((cond b (numbered.Given x.0 (run_after last x.1.batch.records) x.1.batch.sequence tt) (numbered.SequenceFull x.0 last x.1.batch tt)) ∷ numberings_of (cond b (last + count_of x.1.batch.records) last) xs) (cond b (record x.1.batch { sequence = last + 1 } ∷ []) [] ++ batches_of (cond b (last + count_of x.1.batch.records) last) xs)
      ≡ (x.0, cond b (accepted_reply delay last end x.1) (refused_reply delay (SequenceFull last) x.1)) ∷ replies_of delay (cond b (last + count_of x.1.batch.records) last) end xs
  written_by last end x xs true more = ap (λ l. (x.0, accepted_reply delay last end x.1) ∷ l) (more (last + count_of x.1.batch.records))
  written_by last end x xs false more = ap (λ l. (x.0, refused_reply delay (SequenceFull last) x.1) ∷ l) (more last)

  pub answers_written : (last end : ℕ) (xs : List (ℕ × Request)) → answers (Written end) delay (numberings_of last xs) (batches_of last xs) ≡ replies_of delay last end xs
  answers_written last end [] = refl
  answers_written last end (x ∷ xs) = written_by last end x xs (nat_le (last + count_of x.1.batch.records) max_sequence) (λ m. answers_written m end xs)

  faulted_by : (last n : ℕ) (x : ℕ × Request) (xs : List (ℕ × Request)) (b : Bool) → ((m : ℕ) → answers (Faulted n) delay (numberings_of m xs) (batches_of m xs) ≡ failures delay n xs)
      → answers (Faulted n) delay ((cond b (numbered.Given x.0 (run_after last x.1.batch.records) x.1.batch.sequence tt) (numbered.SequenceFull x.0 last x.1.batch tt)) ∷ numberings_of (cond b (last + count_of x.1.batch.records) last) xs) (cond b (record x.1.batch { sequence = last + 1 } ∷ []) [] ++ batches_of (cond b (last + count_of x.1.batch.records) last) xs)
      ≡ (x.0, refused_reply delay (LogFault n) x.1) ∷ failures delay n xs
  faulted_by last n x xs true more = ap (λ l. (x.0, refused_reply delay (LogFault n) x.1) ∷ l) (more (last + count_of x.1.batch.records))
  faulted_by last n x xs false more = ap (λ l. (x.0, refused_reply delay (LogFault n) x.1) ∷ l) (more last)

  pub answers_faulted : (last n : ℕ) (xs : List (ℕ × Request)) → answers (Faulted n) delay (numberings_of last xs) (batches_of last xs) ≡ failures delay n xs
  answers_faulted last n [] = refl
  answers_faulted last n (x ∷ xs) = faulted_by last n x xs (nat_le (last + count_of x.1.batch.records) max_sequence) (λ m. answers_faulted m n xs)

  -- the commits
  commit_by : (last end : ℕ) (x : ℕ × Request) (b : Bool) → commit_of (record { by = x.0; asked = x.1; reply = cond b (accepted_reply delay last end x.1) (refused_reply delay (SequenceFull last) x.1) }) ≡ commit_of_request (heard_at delay) (commit_request_of x) (cond b (accepted (last + 1) end) (no_room last))
  commit_by last end x true = refl
  commit_by last end x false = refl

  pub commits_planned : (last end : ℕ) (xs : List (ℕ × Request)) → AllByRecursion Writes xs → commits_in (handled_with xs (replies_of delay last end xs)) ≡ commits_of_plan (heard_at delay) last end (commit_requests_of xs)
  commits_planned last end [] all = refl
  commits_planned last end (x ∷ xs) all =
      let next : ℕ = last_with last x.1.batch.records in
      let h : Handling Request Answer = record { by = x.0; asked = x.1; reply = reply_at delay last end x.1 } in
      one_commit_in h (handled_with xs (replies_of delay next end xs)) all.0
      ∙ (λ i. commit_by last end x (nat_le (last + count_of x.1.batch.records) max_sequence) i ∷ commits_planned next end xs all.1 i)

  pub commits_failed : (n : ℕ) (xs : List (ℕ × Request)) → AllByRecursion Writes xs → commits_in (handled_with xs (failures delay n xs)) ≡ all_failed (heard_at delay) n (commit_requests_of xs)
  commits_failed n [] all = refl
  commits_failed n (x ∷ xs) all =
      one_commit_in (record { by = x.0; asked = x.1; reply = refused_reply delay (LogFault n) x.1 }) (handled_with xs (failures delay n xs)) all.0
      ∙ ap (λ l. commit_of_request (heard_at delay) (commit_request_of x) (failed n) ∷ l) (commits_failed n xs all.1)

  -- what they show of the log
  sight_by : (last end : ℕ) (x : ℕ × Request) (b : Bool) → sight_of (record { by = x.0; asked = x.1; reply = cond b (accepted_reply delay last end x.1) (refused_reply delay (SequenceFull last) x.1) })
      ≡ record { client = x.0; made = delay.made; batch = written_if x.1.options.no_log b (record { first = last + 1; records = x.1.batch.records; sync = x.1.options.sync }) }
  sight_by last end x true = refl
  sight_by last end x false = refl

  pub sights_planned : (last end : ℕ) (xs : List (ℕ × Request)) → AllByRecursion Writes xs → sights_in (handled_with xs (replies_of delay last end xs)) ≡ sights_with delay.made last (commit_requests_of xs)
  sights_planned last end [] all = refl
  sights_planned last end (x ∷ xs) all =
      let next : ℕ = last_with last x.1.batch.records in
      let h : Handling Request Answer = record { by = x.0; asked = x.1; reply = reply_at delay last end x.1 } in
      one_sight_in h (handled_with xs (replies_of delay next end xs)) all.0
      ∙ (λ i. sight_by last end x (nat_le (last + count_of x.1.batch.records) max_sequence) i ∷ sights_planned next end xs all.1 i)

  pub sights_failed : (n : ℕ) (xs : List (ℕ × Request)) → AllByRecursion Writes xs → sights_in (handled_with xs (failures delay n xs)) ≡ sights_without delay.made (commit_requests_of xs)
  sights_failed n [] all = refl
  sights_failed n (x ∷ xs) all =
      one_sight_in (record { by = x.0; asked = x.1; reply = refused_reply delay (LogFault n) x.1 }) (handled_with xs (failures delay n xs)) all.0
      ∙ (λ i. record { client = x.0; made = delay.made; batch = none_if x.1.options.no_log (record { first = 0; records = x.1.batch.records; sync = x.1.options.sync }) i } ∷ sights_failed n xs all.1 i)

  -- the batches come back
  back_by : (last end : ℕ) (q : Request) (b : Bool) → ComesBack q.batch (cond b (accepted_reply delay last end q) (refused_reply delay (SequenceFull last) q)).answer
  back_by last end q true = (refl, omega arith)
  back_by last end q false = (refl, tt)

  pub backs_planned : (last end : ℕ) (xs : List (ℕ × Request)) → AllByRecursion HandsBack (handled_with xs (replies_of delay last end xs))
  backs_planned last end [] = tt
  backs_planned last end (x ∷ xs) = (back_by last end x.1 (nat_le (last + count_of x.1.batch.records) max_sequence), backs_planned (last_with last x.1.batch.records) end xs)

  pub backs_failed : (n : ℕ) (xs : List (ℕ × Request)) → AllByRecursion HandsBack (handled_with xs (failures delay n xs))
  backs_failed n [] = tt
  backs_failed n (x ∷ xs) = ((refl, tt), backs_failed n xs)

  -- the replies are for this delay
  reply_by : (last end : ℕ) (x : ℕ × Request) (b : Bool) → IsReplyOf delay (x.0, cond b (accepted_reply delay last end x.1) (refused_reply delay (SequenceFull last) x.1))
  reply_by last end x true = (refl, refl, tt)
  reply_by last end x false = (refl, refl, tt)

  pub replies_planned : (last end : ℕ) (xs : List (ℕ × Request)) → AllByRecursion (IsReplyOf delay) (replies_of delay last end xs)
  replies_planned last end [] = tt
  replies_planned last end (x ∷ xs) = (reply_by last end x (nat_le (last + count_of x.1.batch.records) max_sequence), replies_planned (last_with last x.1.batch.records) end xs)

  pub replies_failed : (n : ℕ) (xs : List (ℕ × Request)) → AllByRecursion (IsReplyOf delay) (failures delay n xs)
  replies_failed n [] = tt
  replies_failed n (x ∷ xs) = ((refl, refl, tt), replies_failed n xs)
