-- Outcomes of one client.
use Rattle.std.proofs.Common.{◌≡◌, ℕ, zero, suc, ◌+◌, ◌≤◌, false, Option, Some, None, List, [], ◌∷◌, ◌++◌, length, max, slice_get, take, refl, ap, subst, arith}
use Rattle.std.specs.List.{AllByRecursion, AllZip}
use Rattle.model_base.specs.Batch.{Record}
use Rattle.model_base.specs.Trace.{Trace, Settings}
use Rattle.model_base.specs.Tokens.{tokens_of}
use Rattle.model_base.specs.LogContents.{GroupCall, IsLoggedBy}
use Rattle.model_base.specs.Attempts.{Attempt, WriteStatus, succeeded, fate_at, with_attempt}
use Rattle.model_base.specs.Progress.{Progress, next_entry}
use Rattle.model_base.specs.Replies.{Replies}
use Rattle.model_base.specs.Runs.{Step}
use Rattle.model_base.specs.Calls.{Command, Reply, Call}
use Rattle.model_base.specs.Outcomes.{IsLegalTranscript}
use Rattle.model_rows.specs.Examples.{plain}

pub some_same : {A : Type 0} {a b : A} → Some a ≡ Some b → a ≡ b
some_same e = cc

-- what holds of all elements holds of the one at this place
pub all_at : {A : Type 0} (P : A → Type 0) (xs : List A) (i : ℕ) (x : A) → AllByRecursion P xs → slice_get xs i ≡ Some x → P x
all_at P [] i x a there = absurd (cc)
all_at P (y ∷ xs) zero x a there = subst P (some_same there) a.0
all_at P (y ∷ xs) (suc i) x a there = all_at P xs i x a.1 there

-- what holds of two lists, element by element, holds of what is at this place
pub zip_at : {A B : Type 0} (R : A → B → Type 0) (xs : List A) (ys : List B) (i : ℕ) (x : A) → AllZip R xs ys → slice_get xs i ≡ Some x → (y : B) × (slice_get ys i ≡ Some y) × R x y
zip_at R [] ys i x zip there = absurd (cc)
zip_at R (a ∷ xs) [] i x zip there = absurd zip
zip_at R (a ∷ xs) (y ∷ ys) zero x zip there = (y, refl, subst (λ z. R z y) (some_same there) zip.0)
zip_at R (a ∷ xs) (y ∷ ys) (suc i) x zip there = zip_at R xs ys i x zip.1 there

-- a list of one element has it at the place 0, and nothing elsewhere
first_only : {A : Type 0} (x y : A) (i : ℕ) → slice_get (x ∷ []) i ≡ Some y → (i ≡ 0) × (x ≡ y)
first_only x y zero h = (refl, cc h)
first_only x y (suc i) h = absurd (cc h)

-- if there is one client, only its transcript has to be legal
pub each_one : (settings : Settings) (trace : Trace) (fault : Option ℕ) (commands : List Command) (calls : List Call) (attempts : List Attempt)
    → IsLegalTranscript settings trace fault 1 commands calls attempts
    → (i : ℕ) (cs : List Command) (ks : List Call) → slice_get (commands ∷ []) i ≡ Some cs → slice_get (calls ∷ []) i ≡ Some ks
    → (h : List Attempt) × (slice_get (attempts ∷ []) i ≡ Some h) × IsLegalTranscript settings trace fault (i + 1) cs ks h
each_one settings trace fault commands calls attempts t i cs ks a b =
    let f = first_only commands cs i a in
    let g = first_only calls ks i b in (
      attempts,
      ap (λ n. slice_get (attempts ∷ []) n) f.0,
      rw (f.0, ← f.1, ← g.1) t,
    )

-- a call after which the client knows of these calls of the controller and of the log
pub steps : (settings : Settings) (trace : Trace) (p : Progress) (c : Command) (r : Reply) (q : Progress) → Replies settings trace 1 p c r q → p.known ≤ q.known → q.known ≤ length trace.controller_calls
    → tokens_of 1 (take q.known trace.controller_calls) ≡ q.asked → p.logged ≤ q.logged → q.logged ≤ length trace.log_calls → Step settings trace 1 p c r q
steps settings trace p c r q h rises within tokens logs_rise logs_within = record { replies = h; rises = rises; within = within; tokens = tokens; logs_rise = logs_rise; logs_within = logs_within }

-- a call of the log writer that writes one plain batch, and that it wrote it
abbrev pub writes : ℕ → List Record → GroupCall
writes first records = record { first = first; batches = records ∷ []; sync = false; failed = None }

pub logged_alone : (calls : List GroupCall) (knew place first : ℕ) (records : List Record) → slice_get calls place ≡ Some (writes first records) → knew ≤ place → IsLoggedBy calls knew (place + 1) first records false
logged_alone calls knew place first records there later = record {
  place = place;
  call = writes first records;
  there = there;
  later = later;
  known = omega arith;
  wrote = record { before = []; after = []; among = refl; run = omega arith; synced = λ sync. cc; ok = refl };
}

-- The client's progress after each kind of call. The delay of a commit's group is at `place`. The client then knows of
-- those calls of the controller by which its leader decided (`decided`); mostly the delay is the last one of these.

abbrev pub added : Record → Progress → Progress
added r p = record p { pending = p.pending ++ r ∷ [] }

abbrev pub took_by : ℕ → ℕ → ℕ → ℕ → Progress → Progress
took_by first last place decided p = record p {
  pending = [];
  mine = p.mine ++ next_entry 1 p.mine plain first p.pending ∷ [];
  attempts = with_attempt p.attempts p.pending plain (fate_at place decided succeeded);
  seen_up_to = max p.seen_up_to last;
  known = decided;
  logged = p.logged + 1;
}

abbrev pub took : ℕ → ℕ → ℕ → Progress → Progress
took first last place p = took_by first last place (place + 1) p

abbrev pub fell : WriteStatus → ℕ → Progress → Progress
fell status place p =
    record p { attempts = with_attempt p.attempts p.pending plain (fate_at place (place + 1) status); known = place + 1 }

abbrev pub shown : ℕ → Progress → Progress
shown at p = record p { seen_up_to = at }
