-- What a client can see of a run while the run goes on.
use Rattle.std.specs.Prelude.{◌≡◌, ℕ, ◌≤◌, Bool, List, [], length, map}
use mathlib.Core.List.{IsPrefix}
use Rattle.std.specs.List.{AllByRecursion}
use Rattle.model_base.specs.Map.{Pairs, after_records}
use Rattle.model_base.specs.History.{Entry, IsHistory}
use Rattle.model_base.specs.Controller.{ControllerCall}
use Rattle.model_base.specs.Since.{LogRead}
use Rattle.model_base.specs.Batch.{Record}
use Rattle.model_base.specs.LogContents.{GroupCall, IsLoggedBy}
use Rattle.model_base.specs.Trace.{Trace}
use Rattle.model_base.specs.Replies.{IsLogRead}
use Rattle.table_rule.specs.declared.content.MemberVersions.{MemberVersions}
use Rattle.table_rule.specs.Histories.{Begins, Images, versions_of, record_of, last_of}
use Rattle.model_accounts.specs.Versions.{versions_of_entry}

-- An accepted batch of a client that went into the log: how many calls of the log writer the client knew to have
-- returned before its commit, and after it; the first sequence of the batch's run; and whether it was to be synced.
pub record LoggedBatch : Type 0 where
  pub knew : ℕ
  pub knows : ℕ
  pub first : ℕ
  pub records : List Record
  pub sync : Bool

-- The published groups, as its reads showed them, the controller's calls, as its pass saw them, what its reads of the
-- log gave, how many calls of the log writer it knows to have returned, from the first one on, and its batches that
-- went into the log. A published group has versions, which tell neither whose they are nor how they were committed. So
-- this isn't a trace.
pub record Sight : Type 0 where
  -- the sequence before the first batch, and the map there
  pub start : ℕ
  pub opening : Pairs
  pub published : List (List MemberVersions)
  pub controller_calls : List ControllerCall
  pub log_reads : List LogRead
  pub logged : ℕ
  pub batches : List LoggedBatch

abbrev pub unseen : ℕ → Pairs → Sight
unseen start opening = record {
  start = start;
  opening = opening;
  published = [];
  controller_calls = [];
  log_reads = [];
  logged = 0;
  batches = [];
}

-- the last sequence that was seen published
abbrev pub last_seen : Sight → ℕ
last_seen sight = last_of sight.start sight.published

-- the map at that sequence
abbrev pub map_seen : Sight → Pairs
map_seen sight = after_records sight.opening (map record_of (versions_of sight.published))

-- One of these calls of the log writer wrote the batch. The client didn't know of that call before its commit, and
-- knows of it since.
abbrev pub WasLogged : List GroupCall → LoggedBatch → Type 0
WasLogged calls b = IsLoggedBy calls b.knew b.knows b.first b.records b.sync

-- v is what was seen of a run at some time, and w what was seen of it then or later
pub record Sees (v w : Sight) : Type 0 where
  pub start : w.start ≡ v.start
  pub opening : w.opening ≡ v.opening
  pub published : Begins v.published w.published
  pub controller_calls : IsPrefix v.controller_calls w.controller_calls
  pub log_reads : IsPrefix v.log_reads w.log_reads
  pub logged : v.logged ≤ w.logged
  pub batches : IsPrefix v.batches w.batches

-- This may have been seen of the trace: the trace's first entries made the published groups, one after another, and
-- each of these entries is in one group as a whole. The controller's calls are the trace's first ones. The reads of the
-- log are right in the trace, and one of the trace's calls wrote each of the client's batches.
pub record Saw (sight : Sight) (trace : Trace) : Type 0 where
  pub start : sight.start ≡ trace.start
  pub opening : sight.opening ≡ trace.opening
  pub entries : List Entry
  pub begins : IsPrefix entries trace.entries
  pub groups : Images versions_of_entry entries sight.published
  pub controller_calls : IsPrefix sight.controller_calls trace.controller_calls
  pub log_reads : AllByRecursion (IsLogRead trace) sight.log_reads
  pub logged : sight.logged ≤ length trace.log_calls
  pub batches : AllByRecursion (WasLogged trace.log_calls) sight.batches

-- P holds in each trace of which this may have been seen, if its history is one of whole batches
abbrev pub InEachTrace : Sight → (Trace → Type 0) → Type 0
InEachTrace sight P = (trace : Trace) → IsHistory trace.start trace.entries → Saw sight trace → P trace
