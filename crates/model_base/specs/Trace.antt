-- What happened in a run: the history of batches, and next to it the history of the write controller and the calls of
-- the log writer.
use Rattle.std.specs.Prelude.{◌≡◌, ℕ, List, [], Option}
use mathlib.Core.List.{IsPrefix}
use Rattle.model_base.specs.Map.{Pairs}
use Rattle.model_base.specs.History.{Entry}
use Rattle.model_base.specs.Recovery.{Logged}
use Rattle.model_base.specs.Controller.{ControllerCall}
use Rattle.model_base.specs.LogContents.{GroupCall}

pub record Trace : Type 0 where
  -- the sequence before the first batch
  pub start : ℕ
  -- the map before it
  pub opening : Pairs
  -- the batches that the log had kept, where they are known
  pub kept : Option (List Logged)
  pub entries : List Entry
  -- the entries that are logged, by the records of the log
  pub logged : List (List Entry)
  pub controller_calls : List ControllerCall
  -- the calls that wrote the log, in order; the last one may have failed
  pub log_calls : List GroupCall

abbrev pub empty_trace : ℕ → Pairs → Option (List Logged) → Trace
empty_trace start opening kept = record {
  start = start;
  opening = opening;
  kept = kept;
  entries = [];
  logged = [];
  controller_calls = [];
  log_calls = [];
}

-- the trace v is a beginning of the trace w
pub record Begins (v w : Trace) : Type 0 where
  pub start : v.start ≡ w.start
  pub opening : v.opening ≡ w.opening
  pub kept : v.kept ≡ w.kept
  pub entries : IsPrefix v.entries w.entries
  pub logged : IsPrefix v.logged w.logged
  pub controller_calls : IsPrefix v.controller_calls w.controller_calls
  pub log_calls : IsPrefix v.log_calls w.log_calls

-- How a run was set up: the sequence before the first batch, the map before it and the batches that the log kept, where
-- they are known, the number of clients and that of column families, the limits on a group's bytes and on a batch's,
-- and the count of faults of the log's disk at opening. The batches are known where the disk tells what it holds.
pub record Settings : Type 0 where
  pub start : ℕ
  pub opening : Pairs
  pub kept : Option (List Logged)
  pub clients : ℕ
  pub families : ℕ
  pub group_bytes : ℕ
  pub batch_bytes : ℕ
  pub opened : ℕ
