-- What it means that the writers of a group got their runs.
use Rattle.std.specs.Prelude.{◌≡◌, ℕ, List, ◌++◌, map, Some, None}
use Rattle.model_base.specs.Batch.{count_of}
use Rattle.model_base.specs.History.{Entry, last_sequence}
use Rattle.model_core.specs.Core as core
use Rattle.replay_plans.specs.declared.plan.ClientPlan.{ClientPlan}
use Rattle.replay_core.specs.declared.writer.Answer.{Answer}
use Rattle.replay_core.specs.declared.writer.Writer.{Writer}
use Rattle.replay_plans.specs.Plans.{records_of}
use Rattle.replay_core.specs.Shown.{CoreEntry, shown_writer, shown_entry}

-- a writer's count is how many records of its batch take a sequence
abbrev pub IsCounted : List ClientPlan → Writer → Type 0
IsCounted plans w = w.count ≡ count_of (records_of plans w.client w.batch)

-- a writer with its answer taken away
abbrev pub without_answer : Writer → Writer
without_answer w = record w { answer = None }

-- a writer with this answer
abbrev pub with_answer : Answer → Writer → Writer
with_answer answer w = record w { answer = Some answer }

-- Writers got their runs in order after the sequence `last`. For each writer that has one an entry was added after
-- those in `front`, and `given` is the sequence given last.
pub record GotRuns (plans : List ClientPlan) (s : core.State) (front : List Entry) (last : ℕ) (old new : List Writer)
    (entries : List CoreEntry) (given : ℕ) : Type 0 where
  pub runs : map (shown_writer plans) new ≡ core.with_runs last (map (shown_writer plans) old)
  pub listed : map (shown_entry plans) entries ≡ front ++ core.entries_of s (map (shown_writer plans) new)
  pub reached : given ≡ last_sequence last (core.entries_of s (map (shown_writer plans) new))
