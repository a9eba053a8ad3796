-- How a run is set up.
use Rattle.std.specs.Prelude.{ℕ, List, Option, None}
use Rattle.model_base.specs.Map.{Pairs}
use Rattle.model_base.specs.Recovery.{Logged}
use Rattle.model_base.specs.Trace.{Settings}
use Rattle.model_base.specs.declared.options.Options.{Options}

-- the settings of a run with these options, over the map `opening`, for this number of clients, on a disk that had
-- counted `opened` faults when the log was opened; which batches the log had kept isn't known
abbrev pub settings_of : Options → Pairs → ℕ → ℕ → Settings
settings_of options opening clients opened = record {
  start = options.last;
  opening = opening;
  kept = None;
  clients = clients;
  families = options.families;
  group_bytes = options.group_bytes;
  batch_bytes = options.batch_bytes;
  opened = opened;
}

-- the same settings, where these are the batches that the log had kept, or they aren't known
abbrev pub with_kept : Option (List Logged) → Settings → Settings
with_kept kept settings = record settings { kept = kept }
