-- A read of the log gives its records or finds no memory, where no read failed and the client holds no stop token.
use Rattle.std.proofs.Common.{◌≡◌, ◌⊎◌, ℕ, zero, suc, ◌+◌, true, false, List, [], ◌∷◌, ◌++◌, Some, slice_get, flat_map, refl, sym, ap, ◌∙◌, inl, inr}
use Rattle.model_base.specs.Tokens.{holds_stop}
use Rattle.model_base.specs.Trace.{Trace, Settings}
use Rattle.model_base.specs.Progress.{Progress, fresh}
use Rattle.model_base.specs.Replies.{Updates}
use Rattle.model_base.specs.Outcomes.{IsLegal, read_fault_of, read_faults_of, read_faults_in}
use Rattle.model_base.specs.Calls.{updates, Reply, refused, updates_found, read_failed, no_memory, Call, Outcome}
use Rattle.model_base.specs.Script.{Script}
use Rattle.run_laws.specs.Accepting.{ReachesUpdates, IsGiven, stops_after}
use Rattle.run_laws.proofs.Follows.{stopping_by}
use Rattle.run_laws.proofs.Splits.{comes_to}
use Rattle.run_laws.proofs.LegalRoom as history

-- where lists have nothing together, each has nothing
module _ {A : Type 0} where
  none_front : (xs ys : List A) → xs ++ ys ≡ [] → xs ≡ []
  none_front [] ys none = refl
  none_front (x ∷ xs) ys none = absurd (cc)

  none_behind : (xs ys : List A) → xs ++ ys ≡ [] → ys ≡ []
  none_behind [] ys none = none
  none_behind (x ∷ xs) ys none = absurd (cc)

module _ {X A : Type 0} (of : X → List A) where
  none_at : (xs : List X) (i : ℕ) (x : X) → flat_map of xs ≡ [] → slice_get xs i ≡ Some x → of x ≡ []
  none_at [] i x none there = absurd (cc)
  none_at (y ∷ xs) zero x none there = let same : y ≡ x = cc in ap of (sym same) ∙ none_front (of y) (flat_map of xs) none
  none_at (y ∷ xs) (suc i) x none there = none_at xs i x (none_behind (of y) (flat_map of xs) none) there

  none_among : (before : List X) (x : X) (after : List X) → flat_map of (before ++ x ∷ after) ≡ [] → of x ≡ []
  none_among [] x after none = none_front (of x) (flat_map of after) none
  none_among (y ∷ before) x after none = none_among before x after (none_behind (of y) (flat_map of (before ++ x ∷ after)) none)

given_by : (settings : Settings) (trace : Trace) (p q : Progress) (s : ℕ) (reply : Reply) → holds_stop p.asked ≡ false → read_fault_of reply ≡ [] → Updates settings trace p s reply q → IsGiven reply
given_by settings trace p q s (updates_found at records) free none r = (at, records, refl)
given_by settings trace p q s (refused why) free none r = absurd (let bad : true ≡ false = sym r.1 ∙ free in cc)
given_by settings trace p q s (read_failed count) free none r = absurd (cc)
given_by settings trace p q s other free none r = absurd r

pub given_or_no_memory : (settings : Settings) (ended : ℕ) (script : Script) (o : Outcome) (client : ℕ) (before : List Call) (s : ℕ) (reply : Reply) → IsLegal settings ended script o → read_faults_in o.transcripts ≡ [] → ReachesUpdates o client before s reply → stops_after before ≡ false
    → IsGiven reply ⊎ (reply ≡ no_memory)
given_or_no_memory settings ended script o client before s reply legal none to free =
    let t = history.right_of settings ended script o legal client to.calls to.there in
    let right = t.right in
    let call : Call = record { command = updates s; reply = reply } in
    let own : read_faults_of to.calls ≡ [] = none_at read_faults_of o.transcripts client to.calls none to.there in
    let here : read_fault_of reply ≡ [] = none_among (λ (c : Call). read_fault_of c.reply) before call to.after (ap read_faults_of (sym to.split) ∙ own) in
    elim (comes_to settings legal.trace (client + 1) t.commands to.calls before call to.after right.end to.split right.is_transcript) [
      | inl c ↦ inl (given_by settings legal.trace c.at c.next s reply (stopping_by settings legal.trace (client + 1) fresh before c.at c.run ∙ free) here c.step.replies)
      | inr is ↦ inr is
    ]
