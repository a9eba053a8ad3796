-- What the values of the code mean in the machine of events.
use Rattle.std.specs.Prelude.{ℕ, zero, suc, ◌+◌, List, [], ◌∷◌, take, drop, Option, Some, None, slice_get}
use Rattle.model_base.specs.Batch.{Record}
use Rattle.model_base.specs.History as history
use Rattle.model_base.specs.Calls.{Reply, accepted, refused}
use Rattle.model_core.specs.Core as core
use Rattle.run_outcome.specs.declared.history_entry.HistoryEntry.{HistoryEntry}
use Rattle.run_outcome.specs.HistoryEntries.{entry_of}
use Rattle.replay_plans.specs.Plans.{records_of}
use Rattle.replay_plans.specs.declared.plan.ClientPlan.{ClientPlan}
use Rattle.replay_core.specs.declared.phases.LogPhase.{LogPhase}
use Rattle.replay_core.specs.declared.phases.LogPhase.TheVariants.{Free, Led, Built, Stalled, InLog, Marked, Handed}
use Rattle.replay_plans.specs.declared.plan.Lines.{Lines}
use Rattle.replay_core.specs.declared.writer.Writer.{Writer}
use Rattle.replay_core.specs.declared.writer.Answer.{Answer}
use Rattle.replay_core.specs.declared.writer.Answer.TheVariants.{Accepted, Refused, ReadAt}
use Rattle.replay_core.specs.declared.state.CoreOptions.{CoreOptions}
use Rattle.replay_core.specs.declared.state.State.{State}

abbrev pub options_of : CoreOptions → core.Options
options_of o = record {
  pipelined = o.pipelined;
  families = o.families;
  group_bytes = o.group_bytes;
  batch_bytes = o.batch_bytes;
  start = o.last;
}

-- the clients' plans; the first is client 1's
abbrev pub plans_in : State → List ClientPlan
plans_in r = r.plans.items

abbrev pub shown_reply : List Record → Answer → Reply
shown_reply records (Accepted run) = accepted run.first run.last records
shown_reply records (Refused why) = refused why
shown_reply records (ReadAt at) = core.read_at at

abbrev pub shown_answer : List Record → Option Answer → Option Reply
shown_answer records None = None
shown_answer records (Some (Accepted run)) = Some (accepted run.first run.last records)
shown_answer records (Some (Refused why)) = Some (refused why)
shown_answer records (Some (ReadAt at)) = Some (core.read_at at)

abbrev pub shown_writer : List ClientPlan → Writer → core.Writer
shown_writer plans w = record {
  client = w.client;
  options = w.options;
  records = records_of plans w.client w.batch;
  since = w.since;
  answer = shown_answer (records_of plans w.client w.batch) w.answer;
}

-- an entry of the history whose batch is lines of its client's plan
abbrev pub CoreEntry : Type 0
CoreEntry = HistoryEntry Lines

abbrev pub shown_entry : List ClientPlan → CoreEntry → history.Entry
shown_entry plans e = entry_of (λ (x : CoreEntry). records_of plans x.client x.batch) e

-- the log's phase, with the group in hand
abbrev pub shown_log : LogPhase → List core.Writer → core.LogPhase
shown_log Free ws = core.free
shown_log (Led c) ws = core.led c
shown_log Built ws = core.built ws
shown_log Stalled ws = core.stalled ws
shown_log InLog ws = core.in_log ws
shown_log Marked ws = core.marked ws
shown_log (Handed c) ws = core.handed c

-- a list cut into groups of these lengths, from its first item on
abbrev pub groups_of_lengths : {A : Type 0} → List ℕ → List A → List (List A)
groups_of_lengths [] xs = []
groups_of_lengths (n ∷ ns) xs = take n xs ∷ groups_of_lengths ns (drop n xs)

-- a client's item of a list, by the client's number
abbrev pub of_client : {A : Type 0} → List A → ℕ → Option A
of_client xs zero = None
of_client xs (suc c) = slice_get xs c

abbrev pub total : List ℕ → ℕ
total [] = 0
total (n ∷ ns) = n + total ns
