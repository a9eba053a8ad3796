-- Copies to a buffer.
use Rattle.std.specs.Prelude.{◌≡◌, ℕ, ◌<◌, ◌≤◌, List, ◌++◌, length, drop}
use Rattle.wolzenn_c.specs.declared.codes.TheConstants.{DONE, SMALL}

-- a buffer with these bytes at its start, and the rest as it was
abbrev pub begun_with : List ℕ → List ℕ → List ℕ
begun_with bytes buffer = bytes ++ drop (length bytes) buffer

-- the bytes are copied to the start of a buffer, if it has room for them
pub record Copies (bytes old : List ℕ) (code : ℕ) (new : List ℕ) : Type 0 where
  pub fits : length bytes ≤ length old → (code ≡ DONE) × (new ≡ begun_with bytes old)
  pub small : length old < length bytes → (code ≡ SMALL) × (new ≡ old)
