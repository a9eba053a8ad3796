-- What the calls of a leader say that stalls writes.
use Rattle.std.specs.Prelude.{◌≡◌, ℕ, ◌^◌, ◌<◌, ◌≤◌, Option, Some, None, true, false, List, [], ◌∷◌, ◌++◌, reverse, vec_len, vec_capacity}
use Rattle.line_rule.specs.declared.view.QueuedWriter.{QueuedWriter}
use Rattle.line_rule.specs.declared.view.Lead.{Lead}
use Rattle.line_rule.specs.declared.view.Stall.{Stall}
use Rattle.line_rule.specs.declared.view.Stall.TheVariants.{Stopped, Holds, Owes}
use Rattle.line_rule.specs.declared.view.LineEvent.{LineEvent}
use Rattle.line_rule.specs.declared.view.LineStage.TheVariants.{Stalling}
use Rattle.line_rule.specs.declared.words.Older.{Older}
use Rattle.line_rule.specs.declared.content.LineSlot.{LineSlot}
use Rattle.line_rule.specs.declared.content.LineSlot.TheVariants.{Empty, Told}
use Rattle.line_rule.specs.Before.{Carried}
use Rattle.line_rule.specs.Chain.{newest, pairs, Within}
use Rattle.line_rule.specs.Events.{is_hasty, HasBuilt}
use Rattle.line_rule.specs.Grouping.{IsWhole}
use Rattle.line_rule.specs.Plays.{Sat, At, in_hand, blanks}
use Rattle.line_writers.specs.declared.writer.Writer.{Writer}
use Rattle.line_writers.specs.declared.room.Room.{Room}
use Rattle.line_writers.specs.Roles.{bys, lead_with_group, CodesFit}
use Rattle.line_writers.specs.Groups.{Queue, Handled, Answers}

module _ {Request : Type 0} where
  -- each of these writers may be slowed down
  abbrev pub NoneHasty : Queue Request → Type 0
  NoneHasty [] = Unit {0}
  NoneHasty (e ∷ es) = (is_hasty e.code ≡ false) × NoneHasty es

  -- the oldest of these writers is known by its number and its code; or there is none
  abbrev pub EndsWith : Queue Request → Option (ℕ × ℕ) → Type 0
  EndsWith newer None = newer ≡ []
  EndsWith newer (Some known) = (more : Queue Request) × (y : QueuedWriter Request) × (newer ≡ more ++ y ∷ [])
      × (known ≡ (y.by, y.code)) × (y.code < 2 ^ 56)

  -- the same, where there is a writer after them
  abbrev pub EndsBefore : Queue Request → Queue Request → Option (ℕ × ℕ) → Type 0
  EndsBefore [] newer known = Unit {0}
  EndsBefore (e ∷ es) newer known = EndsWith newer known

  -- the room lists the writers that the walk hasn't come to yet: the newest of them is the last of the list
  abbrev pub ListsRest : ℕ → Queue Request → Room → Type 0
  ListsRest n rest room = (room.walk.items ≡ reverse (pairs rest)) × CodesFit room.walk.items
      × (n ≤ vec_capacity room.walk)
      × (vec_len room.members ≡ 0) × (room.members.items ≡ []) × (n ≤ vec_capacity room.members)

  -- of the writers of the queue these stay, the walk comes to these next, and these are the group
  abbrev pub Walks : ℕ → Queue Request → Queue Request → Queue Request → Room → Type 0
  Walks n newer rest members room = ListsRest n rest room × EndsBefore rest newer room.stall.passed
      × (room.stall.newest ≡ newest ((newer ++ rest) ++ members))

  -- the walk is at x, whose link the room has
  abbrev pub WalksAt : ℕ → Queue Request → QueuedWriter Request → Queue Request → Queue Request → Room → Type 0
  WalksAt n newer x rest members room = ListsRest n rest room × EndsWith newer room.stall.passed
      × (room.stall.newest ≡ newest ((newer ++ x ∷ rest) ++ members))
      × (room.stall.held ≡ x.by) × (room.stall.link.client ≡ newest (rest ++ members))
      × (room.stall.link.code ≡ x.code) × (room.stall.link.client < 256) × (x.code < 2 ^ 56)

-- for a list of n clients, where `law` holds of each request, and the group that own leads there, built under the bound
-- `max`, when `left` was left of the queue and `seen` was all that was handled
module _ {Request Reply Log Right : Type 0} (law : Request → ℕ → Type 0) (n max : ℕ) (own : QueuedWriter Request)
    (group left : Queue Request) (seen : Handled Request Reply) (mine : Answers Request Reply) where
  -- the leader is at this point of a stall; these writers are before its group in the queue, which nobody joins; and it
  -- has the slots of its group, and before them these
  pub record IsStalling (stall : Stall Request Reply) (queue : Queue Request) (more : Carried Request Reply Log Right)
      (w : Writer Request Reply Log Right) : Type 0 where
    pub past : List (LineEvent Request Reply)
    pub at : At w.client (Stalling (lead_with_group own seen past queue group) stall) mine w.seat.me
    pub own_by : own.by ≡ w.client
    pub is_client : 0 < w.client
    pub members : Within n group
    pub whole : IsWhole law max own group left
    pub slots : w.seat.me.1 ≡ more ++ blanks (bys group) ((w.client, Empty) ∷ (0, Empty) ∷ [])
    pub built : HasBuilt max own group left seen past
    pub queued : Within n queue

  -- the leader stalls writes; `rest` are the writers of the queue at which it hasn't looked yet, newest first, where it
  -- still looks for those that may not be slowed down
  abbrev pub HasStalled : Queue Request → Room → Writer Request Reply Log Right → Type 0
  HasStalled rest room w = (newer : Queue Request) × Walks n newer rest (group ++ own ∷ []) room
      × IsStalling (Stopped room.stall.newest) (newer ++ rest) [] w

  -- the same, where the leader has looked at no writer yet: this is the whole queue
  abbrev pub HasBegunStall : Queue Request → Room → Writer Request Reply Log Right → Type 0
  HasBegunStall queue room w = Walks n [] queue (group ++ own ∷ []) room
      × IsStalling (Stopped room.stall.newest) queue [] w

  -- the leader stalls writes, and has the request of x, which may not be slowed down, and x's slot with this in it
  abbrev pub HoldsWith : LineSlot Request Reply Log Right → QueuedWriter Request → Queue Request → Room
      → Writer Request Reply Log Right → Type 0
  HoldsWith slot x rest room w = (newer : Queue Request) × WalksAt n newer x rest (group ++ own ∷ []) room
      × IsStalling (Holds room.stall.newest x) (newer ++ x ∷ rest) ((x.by, slot) ∷ []) w
      × (is_hasty x.code ≡ true) × law x.asked x.code

  -- the same, where the request has been taken out
  abbrev pub HoldsOne : QueuedWriter Request → Queue Request → Room → Writer Request Reply Log Right → Type 0
  HoldsOne x rest room w = HoldsWith Empty x rest room w

  -- the leader stalls writes, and x has left the queue: this reply to it is in its slot, and it hasn't been told
  abbrev pub OwesOne : QueuedWriter Request → Queue Request → Reply → Room → Writer Request Reply Log Right → Type 0
  OwesOne x rest p room w = (newer : Queue Request) × Walks n newer rest (group ++ own ∷ []) room
      × IsStalling (Owes room.stall.newest x p) (newer ++ rest) ((x.by, Told p) ∷ []) w
      × (room.stall.held ≡ x.by) × (0 < x.by) × (x.by ≤ n)

  -- where the leader looks on in the rest of the queue, the next writer that may not be slowed down is x, with q, and
  -- the leader has its request; `older` is the rest after x
  abbrev pub TakesNext : Queue Request → Request → Room → Writer Request Reply Log Right → Type 0
  TakesNext rest q room w = (slow : Queue Request) × (x : QueuedWriter Request) × (older : Queue Request)
      × (rest ≡ slow ++ x ∷ older) × NoneHasty slow × (x.asked ≡ q) × HoldsOne x older room w

-- the leader that stalls writes, where `newest` is the newest writer, has taken the request of x out of its slot, which
-- is on top, and has its link: `older` are the writers of the queue after x
abbrev pub HoldsNext : {Request Reply Log Right : Type 0} → (Request → ℕ → Type 0) → ℕ → ℕ → Lead Request Reply
    → Answers Request Reply → Queue Request → QueuedWriter Request → Older × Request
    → Sat Request Reply Log Right → Sat Request Reply Log Right → Type 0
HoldsNext law c newest_writer lead mine older x found m m' =
    At c (Stalling lead (Holds newest_writer x)) mine m' × (m'.1 ≡ (x.by, Empty) ∷ m.1)
    × (found.0.client ≡ newest (older ++ in_hand lead)) × (found.0.code ≡ x.code) × (found.1 ≡ x.asked)
    × law x.asked x.code
