-- What the calls of the second list say of a writer.
use Rattle.std.specs.Prelude.{◌≡◌, ℕ, ◌+◌, ◌≤◌, List, [], ◌∷◌, ◌++◌, vec_len, vec_capacity}
use Rattle.line_rule.specs.declared.view.Handling.{Handling}
use Rattle.line_rule.specs.declared.view.Debt.{Debt}
use Rattle.line_rule.specs.declared.view.Squad.{Squad}
use Rattle.line_rule.specs.declared.view.Back.TheVariants.{Queued, Serving}
use Rattle.line_rule.specs.declared.view.LineStage.TheVariants.{Settling}
use Rattle.line_rule.specs.declared.content.LineSlot.TheVariants.{Empty, Told}
use Rattle.line_rule.specs.Chain.{heads, Within}
use Rattle.line_rule.specs.Plays.{Sat, AtWith, slots_of}
use Rattle.line_writers.specs.declared.writer.Writer.{Writer}
use Rattle.line_writers.specs.declared.writer.Task.{Task}
use Rattle.line_writers.specs.declared.writer.Task.TheVariants.{Awaits, Leads, Helps, Queues, Serves}
use Rattle.line_writers.specs.declared.room.Room.{Room}
use Rattle.line_writers.specs.declared.second.PipelinedRole.{PipelinedRole}
use Rattle.line_writers.specs.declared.second.PipelinedRole.TheVariants.{LogLeader, MemLeader, Parallel, Done}
use Rattle.line_writers.specs.Roles.{bys, Turns}
use Rattle.line_writers.specs.Groups.{HasRightOver}

-- the group of a leader that has given the log on, with what was given runs before it (`from`), and with it (`to`)
abbrev pub squad : {Request Reply : Type 0} → Debt Request Reply → List (Handling Request Reply)
    → List (Handling Request Reply) → Squad Request Reply
squad d from to = record { own = d.own; rest = heads d.rest; from = from; to = to }

module _ {Request Reply Log Right : Type 0} where
  -- the group is in the second list: its leader must wait for the right, or has it, on top of the group's slots
  abbrev pub Sent : (Right → List (Handling Request Reply) → Type 0) → ℕ → ℕ → Task → Debt Request Reply
      → List (Request × Reply) → Squad Request Reply
      → Sat Request Reply Log Right → Type 0
  Sent serves n c Awaits d mine g m = ⊥
  Sent serves n c Leads d mine g m = ⊥
  Sent serves n c Helps d mine g m = ⊥
  Sent serves n c Queues d mine g m = AtWith c (Settling d) mine (Queued g) m
      × (m.1 ≡ slots_of d.rest ((c, Told d.reply) ∷ []))
  Sent serves n c Serves d mine g m =
      HasRightOver serves n c d mine g (slots_of d.rest ((c, Told d.reply) ∷ [])) m

  -- its leader has taken the right out
  abbrev pub Served : ℕ → ℕ → Debt Request Reply → List (Request × Reply) → Squad Request Reply
      → Sat Request Reply Log Right → Type 0
  Served n c d mine g m = AtWith c (Settling d) mine (Serving g []) m
      × (m.1 ≡ (n + 1, Empty) ∷ slots_of d.rest ((c, Told d.reply) ∷ []))

  -- its group, with these replies, is in the second list; `from` is what was given runs before the group, and `to` is
  -- what was given runs with it
  abbrev pub IsSent : (Right → List (Handling Request Reply) → Type 0) → ℕ → Debt Request Reply
      → List (Handling Request Reply) → List (Handling Request Reply)
      → List (Request × Reply) → Writer Request Reply Log Right → Type 0
  IsSent serves n d from to mine w = Sent serves n w.client w.task d mine (squad d from to) w.seat.me

  -- its group is in the second list, whatever group it is
  abbrev pub HasSentGroup : (Right → List (Handling Request Reply) → Type 0) → ℕ → Writer Request Reply Log Right
      → Type 0
  HasSentGroup serves n w = (d : Debt Request Reply) × (from to : List (Handling Request Reply))
      × (mine : List (Request × Reply)) × IsSent serves n d from to mine w

  -- its group is in the second list, and it has taken the right out
  abbrev pub HasRight : ℕ → Debt Request Reply → List (Handling Request Reply) → List (Handling Request Reply)
      → List (Request × Reply) → Writer Request Reply Log Right
      → Type 0
  HasRight n d from to mine w = Served n w.client d mine (squad d from to) w.seat.me

  -- its new role is to serve, with the right, which covers what was given runs before the group
  abbrev pub GetsRight : (Right → List (Handling Request Reply) → Type 0) → ℕ → Debt Request Reply
      → List (Handling Request Reply)
      → List (Handling Request Reply) → List (Request × Reply) → PipelinedRole Log Right Reply
      → Writer Request Reply Log Right → Type 0
  GetsRight serves n d from to mine (LogLeader l) w = ⊥
  GetsRight serves n d from to mine (MemLeader right) w = serves right from × HasRight n d from to mine w
  GetsRight serves n d from to mine Parallel w = ⊥
  GetsRight serves n d from to mine (Done p) w = ⊥

  -- one that leads has the log, which covers all that was handled before; one that is done has its reply, after those
  -- to its earlier requests, or has left the queue; one that works in parallel with its leader is still in the list
  abbrev pub HasPipelinedRole : (Log → List (Handling Request Reply) → Type 0)
      → (List (Handling Request Reply) → Type 0) → (Request → Reply → Type 0) → Request → List (Request × Reply)
      → PipelinedRole Log Right Reply → Writer Request Reply Log Right → Type 0
  HasPipelinedRole stood kept drops q mine role w = Turns stood kept drops w.client w.task q mine role w.seat.me

-- the room lists the members of the group, its leader too, newest first; its walk is empty; and there is room in both
-- for all clients
abbrev pub ListsMembers : {Request Reply : Type 0} → ℕ → Debt Request Reply → Room → Type 0
ListsMembers n d room = (vec_len room.walk ≡ 0) × (room.walk.items ≡ []) × (n ≤ vec_capacity room.walk)
    × (room.members.items ≡ bys (heads d.rest ++ d.own ∷ [])) × Within n (heads d.rest)
    × (n ≤ vec_capacity room.members)
