-- The block in which a reader is.
use Rattle.std.specs.Prelude.{◌≡◌, ℕ, ◌+◌, ◌-◌, ◌%◌, ◌^◌, ◌<◌, ◌≤◌, min, List, length, take, drop, vec_len, true, false, Option}
use Rattle.log_block.specs.declared.fragments.Seen.{Seen}
use Rattle.log_reader.specs.declared.window.Window.{Window}
use Rattle.log_reader.specs.Blocks.{IsBlock, SeenNext, PartIn}
use Rattle.log_reader.specs.Opens.{starts_at}

-- the reader's offset in the log
abbrev pub offset_of : Window → ℕ
offset_of w = w.start + w.at

-- the bytes of the block
abbrev pub bytes_of : Window → List ℕ
bytes_of w = take w.len w.room.items

-- the reader's place is in the block, which is no longer than a block may be
pub record IsSound (w : Window) : Type 0 where
  pub room : vec_len w.room ≡ 32768
  pub in_room : w.len ≤ 32768
  pub inside : w.at ≤ w.len
  pub aligned : w.start % 32768 ≡ 0
  pub unread : w.is_read ≡ false → w.len ≡ 0
  pub small : w.start + w.len < 2 ^ 63

-- the block begins in the file or at its end, and its bytes are the file's, once they are read
pub record IsOn (file : List ℕ) (w : Window) : Type 0 where
  pub in_file : w.start ≤ length file
  pub block : w.is_read ≡ true → IsBlock file w.start (bytes_of w)

-- the block's bytes are the file's, once they are read; the file may also end before the block
abbrev pub HasBytes : List ℕ → Window → Type 0
HasBytes file w = w.is_read ≡ true → bytes_of w ≡ take 32768 (drop w.start file)

-- the reader is at this offset, or where the block ends before it, and has read the block that has the offset
pub record IsMovedTo (place : ℕ) (w : Window) : Type 0 where
  pub read : w.is_read ≡ true
  pub start : w.start ≡ starts_at place
  pub at : w.at ≡ min (place - w.start) w.len

-- what a reader sees next from an offset, in a log with this number, if it has one: it is at the reader's place in the
-- block
abbrev pub SeesNext : Option ℕ → List ℕ → ℕ → Window → Seen → Type 0
SeesNext number file offset w s = SeenNext number file offset w.start (bytes_of w) w.at s

-- a fragment's part lies in the block, after the reader's place
abbrev pub PartLies : Window → Seen → Type 0
PartLies w s = PartIn w.len w.at s
