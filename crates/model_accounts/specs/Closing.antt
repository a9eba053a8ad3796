-- What the closing of a write path says about all its clients.
use Rattle.std.specs.Prelude.{◌≡◌, ℕ, ◌+◌, ◌≤◌, List, [], length, map, flat_map, Option, Some, None, slice_get, IfSome}
use Rattle.model_base.specs.History.{Entry, last_sequence}
use Rattle.model_base.specs.Counts.{Rose}
use Rattle.model_base.specs.Tokens.{tokens_of}
use Rattle.model_base.specs.Recovery.{Logged}
use Rattle.model_base.specs.Settings.{with_kept}
use Rattle.model_base.specs.Trace.{Trace, Settings}
use Rattle.model_base.specs.Attempts.{Attempt}
use Rattle.model_base.specs.Groups.{Group, AreGroups, AreStatuses}
use Rattle.model_base.specs.Outcomes.{entries_of_client, IsTrace, AreOwnFaults}
use Rattle.model_base.specs.LogContents.{GroupCall}
use Rattle.model_runs.specs.Parts.{AreParts}
use Rattle.model_runs.specs.Written.{WritesLog}
use Rattle.model_accounts.specs.Sights.{Saw}
use Rattle.model_accounts.specs.Accounts.{Account}
use Rattle.model_accounts.specs.Parts.{ends_in}

-- these are all clients, in the order of their numbers
pub record AreOurs {C : Type 0} (belongs : C → Type 0) (account : C → Account) (clients : ℕ)
    (cs : List C) : Type 0 where
  pub number_of : length cs ≡ clients
  pub each : (i : ℕ) (c : C) → slice_get cs i ≡ Some c → belongs c × ((account c).number ≡ i + 1)

-- What a client has done is just its part of the trace. What it has seen may have been seen of the trace. It has
-- learned, for each of its batches, the last sequence of the batch's group; `parts` are the entries of the groups.
pub record IsAccountOf (trace : Trace) (parts : List (List Entry)) (fault : Option ℕ)
    (a : Account) : Type 0 where
  pub accepted : entries_of_client a.number trace.entries ≡ a.mine
  pub ends : a.ends ≡ ends_in a.number parts
  pub tokens : tokens_of a.number trace.controller_calls ≡ a.asked
  pub statuses : AreStatuses trace fault a.attempts
  pub seen : Saw a.seen trace

-- for each client its commits that leaders took into their groups
abbrev pub all_attempts : List Account → List (List Attempt)
all_attempts accounts = map (λ (a : Account). a.attempts) accounts

-- the counts of faults with which reads of the log failed
abbrev pub all_read_faults : List Account → List ℕ
all_read_faults accounts = flat_map (λ (a : Account). a.read_faults) accounts

-- if the log has a fault, the disk's count of faults rose to it in this run
abbrev pub RoseInRun : Settings → ℕ → Option ℕ → Type 0
RoseInRun settings ended fault = IfSome fault (λ count. Rose settings.opened count × (count ≤ ended))

-- There was one trace, and there were groups of commits, each of which made a part of the trace's entries. The accounts
-- are what each client did and saw of these. Each fault of the log or of a read of it is a count of its own. Where
-- there was none, the disk has counted none.
pub record IsClosing (settings : Settings) (ended : ℕ) (trace : Trace) (groups : List Group) (accounts : List Account)
    (last : ℕ) (fault : Option ℕ) : Type 0 where
  pub is_trace : IsTrace settings trace
  pub are_groups : AreGroups settings.group_bytes trace.controller_calls groups (all_attempts accounts)
  pub parts : List (List Entry)
  pub are_parts : AreParts (all_attempts accounts) groups trace.entries parts
  pub each : (i : ℕ) (a : Account) → slice_get accounts i ≡ Some a → IsAccountOf trace parts fault a
  pub last_is : last ≡ last_sequence trace.start trace.entries
  pub fault_is : RoseInRun settings ended fault
  pub read_faults : AreOwnFaults ended fault (all_read_faults accounts)
  pub counted : fault ≡ None → all_read_faults accounts ≡ [] → ended ≡ settings.opened

-- There is one trace of all that the clients did and saw, and there were groups of their commits: the log was written
-- by exactly the calls that wrote this trace's history, for exactly these groups. The log kept these batches before, or
-- it isn't known which.
abbrev pub HasOneTrace : Settings → Option (List Logged) → ℕ → List Account → ℕ → Option ℕ
    → (List GroupCall → Type 0) → Type 0
HasOneTrace settings kept ended accounts last fault wrote = (trace : Trace) × (groups : List Group)
    × IsClosing (with_kept kept settings) ended trace groups accounts last fault
    × WritesLog settings.group_bytes wrote trace (all_attempts accounts) groups fault
