-- What a source in memory shows.
use Rattle.std.specs.Prelude.{ℕ, min, List, length, drop}
use Rattle.base_devices.specs.Listed.{Listed}
use Rattle.base_devices.specs.declared.mem_source.MemSource.{MemSource}

-- the bytes that are left
abbrev pub left_of : MemSource → List ℕ
left_of s = drop s.at s.bytes.items

-- how many bytes a read gives at most
abbrev pub source_piece : MemSource → ℕ
source_piece s = s.piece

-- how many bytes it gives to a buffer of this length
abbrev pub gives_of : MemSource → ℕ → ℕ
gives_of s len = min (min (length (left_of s)) len) (source_piece s)

-- the numbers of the calls that must fail, how many were made, and how many failed
abbrev pub source_calls : MemSource → Listed
source_calls s = s.calls
