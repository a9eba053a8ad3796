-- Which clients may call an engine whose table is in memory.
use Rattle.std.specs.Prelude.{◌≡◌, ℕ, ◌+◌, ◌<◌, List, length, slice_index_or}
use Rattle.log_writer.specs.declared.group_log.GroupLog.{Ghosts}
use Rattle.base_devices.specs.declared.stepped_clock.SteppedClock.{SteppedClock}
use Rattle.table_nodes.specs.declared.node.Nodes.{Nodes}
use Rattle.table_memory.specs.declared.memory_table.MemoryTable.{MemoryTable}
use Rattle.table_memory.specs.Meaning.{Seat, Turn, memory_table}
use Rattle.line_writers.specs.Seats.{clients_of}
use Rattle.engine_calls.specs.declared.engine.Clients.{Clients}
use Rattle.engine_calls.specs.declared.gate.OpenGate.{OpenGate}
use Rattle.engine_groups.specs.declared.engine.GroupEngine.{GroupEngine}
use Rattle.engine_groups.specs.declared.engine.EngineClient.{EngineClient}
use Rattle.engine_groups.specs.declared.engine.ClosingRoom.{ClosingRoom}
use Rattle.engine_groups.specs.Clients.{IsClientOf, HasRoomToClose, account_in}

-- an engine over a log, one of its clients, and all of them
abbrev pub Path : (D : Type 0) → Ghosts D → Type 0
Path D ghosts = GroupEngine D MemoryTable SteppedClock OpenGate Seat Turn Nodes ghosts

abbrev pub Member : (D : Type 0) → Ghosts D → Type 0
Member D ghosts = EngineClient D MemoryTable SteppedClock Seat Turn Nodes ghosts

abbrev pub Members : (D : Type 0) → Ghosts D → Type 0
Members D ghosts = Clients (Member D ghosts) (ClosingRoom D MemoryTable SteppedClock Seat Turn Nodes ghosts)

module _ {D : Type 0} {ghosts : Ghosts D} where
  -- the number of a client's account
  abbrev pub number_of : Member D ghosts → ℕ
  number_of c = (account_in memory_table c).number

  -- the client is one of the engine's, and is between two calls
  abbrev pub MayCall : Path D ghosts → Member D ghosts → Type 0
  MayCall e c = IsClientOf memory_table e c

  -- the client is the engine's client with this number, and is between two calls
  pub record IsCaller (e : Path D ghosts) (n : ℕ) (c : Member D ghosts) : Type 0 where
    pub belongs : MayCall e c
    pub number : number_of c ≡ n

  -- all of these clients, who are numbered from 1 on, may call
  pub record AllMayCall (e : Path D ghosts) (cs : List (Member D ghosts)) : Type 0 where
    pub each : (i : ℕ) (d : Member D ghosts) → i < length cs → IsCaller e (i + 1) (slice_index_or cs i d)

  -- these are all clients of the engine, they may call it, and they may close it
  pub record AreAll (e : Path D ghosts) (all : Members D ghosts) : Type 0 where
    pub may : AllMayCall e all.clients.items
    pub len : length all.clients.items ≡ clients_of e.list
    pub room : HasRoomToClose e.controller (clients_of e.list) all.room
