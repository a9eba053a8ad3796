-- What a leader that reads the log answers itself.
use Rattle.std.specs.Prelude.{◌≡◌, ℕ, ◌≤◌, List, [], ◌∷◌, Option, Some, None, Result, Ok, Err, ⊤}
use Rattle.model_base.specs.Counts.{Rose}
use Rattle.engine_calls.specs.declared.answers.Since.{Since}
use Rattle.engine_calls.specs.declared.answers.SinceRefused.{SinceRefused}
use Rattle.engine_calls.specs.declared.answers.SinceRefused.TheVariants as unread
use Rattle.engine_parts.specs.declared.requests.Request.{Request}

-- the request of one client, which reads the log
pub record IsOneRead (clients : ℕ) (requests : List (ℕ × Request)) : Type 0 where
  pub client : ℕ
  pub request : Request
  pub is : requests ≡ (client, request) ∷ []
  pub since : ℕ
  pub reads : request.since ≡ Some since
  pub low : 1 ≤ client
  pub high : client ≤ clients

-- Why a read of a log was answered so, whose disks had counted `before` faults, and have counted `now` after it: it was
-- read, or there was no memory, and no fault; or the count rose, and this is what it is.
abbrev pub HasCounted : ℕ → ℕ → Result Since SinceRefused → Type 0
HasCounted before now (Ok r) = now ≡ before
HasCounted before now (Err unread.SelfStop) = ⊥
HasCounted before now (Err unread.NoMemory) = now ≡ before
HasCounted before now (Err (unread.ReadFault count)) = Rose before count × (count ≡ now)

-- A request has such an answer: the log was read up to `at`; or the disks' count of faults, which was `before`, rose to
-- this one; or there was no memory.
abbrev pub HasReadTo : ℕ → ℕ → Option (Result Since SinceRefused) → Type 0
HasReadTo before at None = ⊥
HasReadTo before at (Some (Ok r)) = r.at ≡ at
HasReadTo before at (Some (Err unread.SelfStop)) = ⊥
HasReadTo before at (Some (Err unread.NoMemory)) = ⊤
HasReadTo before at (Some (Err (unread.ReadFault count))) = Rose before count
