-- Groups of one or two commits, and calls that may have written a log for them.
use Rattle.std.specs.Prelude.{ℕ, Bool, true, false, List, [], ◌∷◌, map, Some, None}
use Rattle.model_base.specs.declared.history.Flag.TheVariants.{Log, NoLog}
use Rattle.model_base.specs.declared.write.WriteOptions.{WriteOptions}
use Rattle.model_base.specs.Batch.{Record}
use Rattle.model_base.specs.History.{Entry}
use Rattle.model_base.specs.Controller.{ControllerCall, delay}
use Rattle.model_base.specs.Attempts.{Attempt, WriteStatus, succeeded, faulted, item_of}
use Rattle.model_base.specs.Groups.{Member, Group}
use Rattle.model_base.specs.LogContents.{GroupCall}
use Rattle.model_runs.specs.Examples.{put_a, put_b, entry_of, call_of}

abbrev pub plain : WriteOptions
plain = record { sync = false; no_log = false; no_slowdown = false }

-- a commit that ended so
abbrev pub ended : WriteStatus → WriteOptions → List Record → Attempt
ended status options records =
    record { records = records; options = options; status = status; place = 0; decided = 1 }

-- this commit as a member: it is the one with this number of this client (a member doesn't show how the commit ended)
abbrev pub member_of : ℕ → ℕ → Attempt → Member
member_of client call attempt = record { client = client; call = call; item = item_of attempt }

-- a group of one commit, whose delay is at this place
abbrev pub alone_at : ℕ → Member → Group
alone_at place member = record { place = place; members = member ∷ [] }

-- the controller's history: these clients each asked for a delay, one after another
abbrev pub delays_by : List ℕ → List ControllerCall
delays_by clients = map (λ (client : ℕ). record { client = client; action = delay 0 0; told = None }) clients

-- Client 1 commits `put a 1` with `commit sync`, and then `put b 2` with `commit`

abbrev pub synced_commit : Attempt
synced_commit = ended succeeded (record plain { sync = true }) put_a

abbrev pub own_commits : List (List Attempt)
own_commits = (synced_commit ∷ ended succeeded plain put_b ∷ []) ∷ []

abbrev pub own_groups : List Group
own_groups = alone_at 0 (member_of 1 0 synced_commit) ∷ alone_at 1 (member_of 1 1 (ended succeeded plain put_b)) ∷ []

-- the second commit is in a group before that of the first
abbrev pub turned_round : List Group
turned_round = alone_at 0 (member_of 1 1 (ended succeeded plain put_b)) ∷ alone_at 1 (member_of 1 0 synced_commit) ∷ []

-- Client 1 commits `put a 1`, and client 2 `put b 2`

abbrev pub pair_entries : List Entry
pair_entries = entry_of 1 Log put_a ∷ record (entry_of 2 Log put_b) { client = 2; ordinal = 1 } ∷ []

-- both commits ended so
abbrev pub pair_commits : WriteStatus → List (List Attempt)
pair_commits status = (ended status plain put_a ∷ []) ∷ (ended status plain put_b ∷ []) ∷ []

-- in one group, or each in a group of its own, where the delays of these are at these places
abbrev pub in_one_group : List Group
in_one_group =
    record {
      place = 0;
      members = member_of 1 0 (ended succeeded plain put_a) ∷ member_of 2 0 (ended succeeded plain put_b) ∷ [];
    } ∷ []

abbrev pub in_two_groups : ℕ → ℕ → List Group
in_two_groups first second = alone_at first (member_of 1 0 (ended succeeded plain put_a))
    ∷ alone_at second (member_of 2 0 (ended succeeded plain put_b)) ∷ []

-- the calls of the log writer: one for both batches, which syncs or doesn't, and one for each
abbrev pub one_call_for_both : Bool → List GroupCall
one_call_for_both sync = call_of 1 (put_a ∷ put_b ∷ []) sync None ∷ []

abbrev pub a_call_for_each : List GroupCall
a_call_for_each = call_of 1 (put_a ∷ []) false None ∷ call_of 2 (put_b ∷ []) false None ∷ []

-- one call, which was asked to write this batch, with a run that begins at this sequence, and failed
abbrev pub failed_call : ℕ → List Record → Bool → List GroupCall
failed_call first records sync = call_of first (records ∷ []) sync (Some 1) ∷ []

-- Client 3 commits `put a 1` too, in a group after that of the other two. Its batch is in the record of client 2's.

abbrev pub three_commits : List (List Attempt)
three_commits =
    (ended succeeded plain put_a ∷ []) ∷ (ended succeeded plain put_b ∷ []) ∷ (ended succeeded plain put_a ∷ []) ∷ []

abbrev pub pair_then_one : List Group
pair_then_one = record {
  place = 0;
  members = member_of 1 0 (ended succeeded plain put_a) ∷ member_of 2 0 (ended succeeded plain put_b) ∷ [];
} ∷ alone_at 1 (member_of 3 0 (ended succeeded plain put_a)) ∷ []

abbrev pub one_then_pair : List GroupCall
one_then_pair = call_of 1 (put_a ∷ []) false None ∷ call_of 2 (put_b ∷ put_a ∷ []) false None ∷ []

-- Client 1's commit was answered the log's fault, and then client 2's, with `commit nolog`, succeeded

abbrev pub kept_out : Attempt
kept_out = ended succeeded (record plain { no_log = true }) put_b

abbrev pub fault_ignored : List (List Attempt)
fault_ignored = (ended (faulted 1) plain put_a ∷ []) ∷ (kept_out ∷ []) ∷ []

abbrev pub lost_then_kept_out : List Group
lost_then_kept_out =
    alone_at 0 (member_of 1 0 (ended (faulted 1) plain put_a)) ∷ alone_at 1 (member_of 2 0 kept_out) ∷ []

-- or client 2's was in the first group
abbrev pub kept_out_then_lost : List Group
kept_out_then_lost =
    alone_at 0 (member_of 2 0 kept_out) ∷ alone_at 1 (member_of 1 0 (ended (faulted 1) plain put_a)) ∷ []

abbrev pub kept_out_entry : Entry
kept_out_entry = record (entry_of 1 NoLog put_b) { client = 2 }

-- Client 1 commits `put a 1` with `commit nolog`, and then the same batch with `commit`; both were answered the fault

abbrev pub faulted_kept_out : Attempt
faulted_kept_out = ended (faulted 1) (record plain { no_log = true }) put_a

abbrev pub both_faulted : List (List Attempt)
both_faulted = (faulted_kept_out ∷ ended (faulted 1) plain put_a ∷ []) ∷ []

abbrev pub kept_out_first : List Group
kept_out_first =
    alone_at 0 (member_of 1 0 faulted_kept_out) ∷ alone_at 1 (member_of 1 1 (ended (faulted 1) plain put_a)) ∷ []
