-- The maps that entries of the history make.
use Rattle.std.specs.Prelude.{◌≡◌, ℕ, ◌≤◌, List, take, take_while, map, filter_map, fold, nat_le}
use Rattle.std.specs.List.{prefix_len}
use Rattle.std.specs.Option.{option_map_or}
use Rattle.model_base.specs.Batch.{Record}
use Rattle.model_base.specs.Map.{Pairs, after_record, after_records}
use Rattle.model_base.specs.History.{Entry, last_of, map_of}
use Rattle.model_base.specs.Calls.{Command}
use Rattle.run_command_list.specs.declared.command_view.CommandView.{CommandView}
use Rattle.run_command_list.specs.Kinds.{record_added}
use Rattle.run_command_list.specs.Views.{command_of}
use Rattle.replay_plans.specs.declared.plan.ClientPlan.{ClientPlan}
use Rattle.replay_plans.specs.Plans.{records_of}
use Rattle.replay_core.specs.Shown.{CoreEntry}
use Rattle.replay_schedules.specs.declared.reading.MapUpTo.{MapUpTo}

-- the map after the entries, from the first on, whose runs end at a sequence or before
abbrev pub map_up_to : ℕ → List Entry → Pairs
map_up_to at entries = map_of (take_while (λ (x : Entry). nat_le (last_of x) at) entries)

-- the records that commands add
abbrev pub records_added : List CommandView → List Record
records_added lines = filter_map record_added (map command_of lines)

-- a map after the record that a command adds, if it adds one
abbrev pub after_line : Pairs → Command → Pairs
after_line m line = option_map_or (after_record m) (record_added line) m

-- a map after the batches of these entries
abbrev pub after_entries : List ClientPlan → Pairs → List CoreEntry → Pairs
after_entries plans m entries = fold
    (λ (m : Pairs) (e : CoreEntry). after_records m (records_of plans e.client e.batch)) m entries

-- The map has the first `m.count` entries, and none whose run ends after its sequence.
pub record IsMapOf (entries : List Entry) (m : MapUpTo) : Type 0 where
  pub some : m.count ≤ prefix_len (λ (x : Entry). nat_le (last_of x) m.at) entries
  pub map : m.map ≡ map_of (take m.count entries)
