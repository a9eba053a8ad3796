-- Bytes laid in a buffer.
use Rattle.std.specs.Prelude.{ℕ, ◌+◌, List, ◌++◌, length, take, drop}

-- the buffer with the bytes at this place, over those that were there
abbrev pub laid_at : ℕ → List ℕ → List ℕ → List ℕ
laid_at place bytes buffer = take place buffer ++ bytes ++ drop (place + length bytes) buffer
