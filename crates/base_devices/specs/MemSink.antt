-- What a sink in memory shows.
use Rattle.std.specs.Prelude.{ℕ, ◌-◌, min, Bool, ◌&&◌, nat_le, nat_lt, List, length}
use Rattle.base_devices.specs.Listed.{Listed}
use Rattle.base_devices.specs.declared.mem_sink.MemSink.{MemSink}

-- all the bytes that were taken
abbrev pub taken_of : MemSink → List ℕ
taken_of s = s.bytes.items

-- how many bytes it takes in all
abbrev pub sink_capacity : MemSink → ℕ
sink_capacity s = s.capacity

-- how many bytes a write takes at most
abbrev pub sink_piece : MemSink → ℕ
sink_piece s = s.piece

-- how many bytes it takes of a piece with this number of bytes
abbrev pub takes_of : MemSink → ℕ → ℕ
takes_of s len = min (min len (sink_capacity s - length (taken_of s))) (sink_piece s)

-- there are bytes to take, and it has no room for any of them
abbrev pub is_full_for : MemSink → ℕ → Bool
is_full_for s len = nat_le (sink_capacity s) (length (taken_of s)) && nat_lt 0 len

-- the numbers of the calls that must fail, how many were made, and how many failed
abbrev pub sink_calls : MemSink → Listed
sink_calls s = s.calls
