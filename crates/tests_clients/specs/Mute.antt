-- The settings that a mute write path was opened with.
use Rattle.std.specs.Prelude.{ℕ, [], None}
use Rattle.model_base.specs.Trace.{Settings}

-- for `clients` clients and `families` families, with batches of up to `batch_bytes` bytes
abbrev pub settings_for : ℕ → ℕ → ℕ → Settings
settings_for clients families batch_bytes = record {
  start = 0;
  opening = [];
  kept = None;
  clients = clients;
  families = families;
  group_bytes = 0;
  batch_bytes = batch_bytes;
  opened = 0;
}
