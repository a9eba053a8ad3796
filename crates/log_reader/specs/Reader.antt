-- A reader of a log's records, as callers see it.
use Rattle.std.specs.Prelude.{◌≡◌, ℕ, ◌^◌, ◌<◌, List, Option, None, IfSome, true}
use Rattle.model_base.specs.declared.log.EndReason.{EndReason}
use Rattle.model_base.specs.declared.log.EndReason.TheVariants as ends
use Rattle.log_reader.specs.declared.reader.Next.{Next}
use Rattle.log_reader.specs.declared.reader.Next.TheVariants as next
use Rattle.log_reader.specs.declared.window.Window.{Window}
use Rattle.log_reader.specs.Opens.{starts_at}
use Rattle.log_reader.specs.Windows.{IsSound, IsOn, offset_of}

-- the log's number, if it has one, the place up to which records were read, the record in hand, the answer with which
-- the reading stopped, if it has, and the window
pub record Reader : Type 0 where
  pub number : Option ℕ
  pub place : ℕ
  pub in_hand : List ℕ
  pub stopped : Option Next
  pub window : Window

-- what the reader holds of the log is from this file
abbrev pub Follows : List ℕ → Reader → Type 0
Follows file r = IsOn file r.window

-- the reader has read the block that has its place
abbrev pub HasBlock : Reader → Type 0
HasBlock r = (r.window.is_read ≡ true) × (r.window.start ≡ starts_at r.place)

-- damage and a fragment in a wrong place are below 2 ^ 63, which no file is long enough to reach
abbrev pub IsSmallEnd : ℕ → EndReason → Type 0
IsSmallEnd at (ends.Broken d) = at < 2 ^ 63
IsSmallEnd at ends.BadOrder = at < 2 ^ 63
IsSmallEnd at other = Unit {0}

abbrev pub IsSmall : Next → Type 0
IsSmall (next.Record start end) = Unit {0}
IsSmall (next.End at why) = IsSmallEnd at why
IsSmall (next.Fault count) = Unit {0}
IsSmall next.NoMemory = Unit {0}

-- until the reader stops, its offset is the place up to which records were read
pub record IsReader (r : Reader) : Type 0 where
  pub sound : IsSound r.window
  pub behind : r.stopped ≡ None → offset_of r.window ≡ r.place
  pub small : IfSome r.stopped IsSmall

-- the place up to which records were read, after an answer: only a record moves it
abbrev pub PlaceAfter : Reader → Reader → Next → Type 0
PlaceAfter old new (next.Record start end) = new.place ≡ end
PlaceAfter old new (next.End at why) = new.place ≡ old.place
PlaceAfter old new (next.Fault count) = new.place ≡ old.place
PlaceAfter old new next.NoMemory = new.place ≡ old.place

-- a record ends after the place from which it was read, and below 2 ^ 63
abbrev pub GoesForward : ℕ → Next → Type 0
GoesForward place (next.Record start end) = (place < end) × (end < 2 ^ 63)
GoesForward place (next.End at why) = Unit {0}
GoesForward place (next.Fault count) = Unit {0}
GoesForward place next.NoMemory = Unit {0}
