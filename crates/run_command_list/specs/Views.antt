-- The commands whose words are seen as parts of bytes.
use Rattle.std.specs.Prelude.{◌<◌, ◌^◌, ⊤, length}
use Rattle.model_base.specs.Map.{key_at}
use Rattle.model_base.specs.Batch.{value, deletion, single_deletion, log_data}
use Rattle.model_base.specs.Calls as calls
use Rattle.run_command_list.specs.declared.command_view.CommandView.{CommandView}
use Rattle.run_command_list.specs.declared.command_view.CommandView.TheVariants.{Put, Delete, SingleDelete, Note, Clear, Commit, Get, Many, Scan, Updates, Stop, Unstop, Slow, Unslow}

abbrev pub command_of : CommandView → calls.Command
command_of (Put family key v) = calls.add (value family key.now v.now)
command_of (Delete family key) = calls.add (deletion family key.now)
command_of (SingleDelete family key) = calls.add (single_deletion family key.now)
command_of (Note text) = calls.add (log_data text.now)
command_of Clear = calls.clear
command_of (Commit options) = calls.commit options
command_of (Get family key) = calls.get (key_at family key.now)
command_of (Many keys) = calls.many keys
command_of (Scan family lo hi) = calls.scan family lo.now hi.now
command_of (Updates since) = calls.updates since
command_of Stop = calls.stop
command_of Unstop = calls.unstop
command_of (Slow rate) = calls.slow rate
command_of Unslow = calls.unslow

-- Its words are shorter than 2^32 bytes. The keys of `Many` always are.
abbrev pub HasShortWords : CommandView → Type 0
HasShortWords (Put family key v) = (length key.now < 2 ^ 32) × (length v.now < 2 ^ 32)
HasShortWords (Delete family key) = length key.now < 2 ^ 32
HasShortWords (SingleDelete family key) = length key.now < 2 ^ 32
HasShortWords (Note text) = length text.now < 2 ^ 32
HasShortWords Clear = ⊤
HasShortWords (Commit options) = ⊤
HasShortWords (Get family key) = length key.now < 2 ^ 32
HasShortWords (Many keys) = ⊤
HasShortWords (Scan family lo hi) = (length lo.now < 2 ^ 32) × (length hi.now < 2 ^ 32)
HasShortWords (Updates since) = ⊤
HasShortWords Stop = ⊤
HasShortWords Unstop = ⊤
HasShortWords (Slow rate) = ⊤
HasShortWords Unslow = ⊤
