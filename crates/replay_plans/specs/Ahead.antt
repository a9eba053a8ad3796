-- What the search for a client's next call finds.
use Rattle.std.specs.Prelude.{◌≡◌, ℕ, ◌+◌, ◌<◌, ◌≤◌, Bool, true, false, List, [], ◌∷◌, length, map, drop, Option, Some, None, slice_get}
use Rattle.model_base.specs.declared.key.Key.{Key}
use Rattle.model_base.specs.declared.write.WriteOptions.{WriteOptions}
use Rattle.model_base.specs.Calls.{Command, commit, get, many, scan, updates, Call}
use Rattle.model_core.specs.Core as core
use Rattle.replay_plans.specs.declared.ahead.Ahead.{Ahead}
use Rattle.replay_plans.specs.Plans.{added_between}
use Rattle.replay_plans.specs.Answers.{answers_of}

-- the code's answer `a` and the machine's answer `v` agree on a client's next call, from the line `at` of its plan on,
-- after these calls
pub record IsAhead (plan : List Command) (at : ℕ) (a : Ahead) (calls : List Call) (client : core.Client)
    (v : core.Ahead) : Type 0 where
  pub call : v.call ≡ slice_get plan a.call
  pub left : v.client.left ≡ drop a.next plan
  pub added : v.client.added ≡ added_between a.from a.call plan
  pub later : added_between a.from a.next plan ≡ added_between a.from a.call plan
  pub idle : v.client.idle ≡ client.idle
  pub answers : answers_of v.client.calls ≡ answers_of calls
  pub begun : a.from ≤ a.call
  pub onward : at ≤ a.call
  pub goes_on : a.call < length plan → a.next ≡ a.call + 1
  pub stays : length plan ≤ a.call → a.next ≡ a.call
  pub within : a.call ≤ length plan

abbrev pub is_read : Command → Bool
is_read (get key) = true
is_read (many keys) = true
is_read (scan family lo hi) = true
is_read other = false

-- the families of the keys that a command reads
abbrev pub read_families : Command → List ℕ
read_families (get key) = key.family ∷ []
read_families (many keys) = map (λ (k : Key). k.family) keys
read_families (scan family lo hi) = family ∷ []
read_families other = []

-- the options of a commit
abbrev pub commit_of : Command → Option WriteOptions
commit_of (commit options) = Some options
commit_of other = None

-- the sequence from which on a command reads the log
abbrev pub updates_of : Command → Option ℕ
updates_of (updates n) = Some n
updates_of other = None
