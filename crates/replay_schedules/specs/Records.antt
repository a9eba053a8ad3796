-- The records that the core's logged groups make.
use Rattle.std.specs.Prelude.{List, filter, flat_map, fold, map, Option, Some, None}
use Rattle.model_base.specs.Batch.{Record}
use Rattle.model_base.specs.History as history
use Rattle.model_base.specs.History.{is_logged}
use Rattle.log_batch.specs.declared.run.Run.{Run}
use Rattle.replay_plans.specs.declared.plan.ClientPlan.{ClientPlan}
use Rattle.replay_plans.specs.Plans.{records_of}
use Rattle.replay_core.specs.Shown.{CoreEntry, shown_entry}

-- the entries that are logged
abbrev pub logged_in : List CoreEntry → List CoreEntry
logged_in entries = filter (λ (e : CoreEntry). is_logged e.flag) entries

-- the logged ones of these entries, as entries of the history
abbrev pub logged_shown : List ClientPlan → List CoreEntry → List history.Entry
logged_shown plans entries = map (shown_entry plans) (logged_in entries)

-- a run, or a run that goes on with another
abbrev pub joined : Option Run → Run → Run
joined None run = run
joined (Some before) run = record { first = before.first; last = run.last }

-- from the first sequence of the first logged entry to the last one of the last
abbrev pub run_over : List CoreEntry → Option Run
run_over entries = fold (λ (before : Option Run) (e : CoreEntry). Some (joined before e.run)) None (logged_in entries)

-- the records of the logged entries, in order
abbrev pub records_over : List ClientPlan → List CoreEntry → List Record
records_over plans entries = flat_map (λ (e : CoreEntry). records_of plans e.client e.batch) (logged_in entries)
