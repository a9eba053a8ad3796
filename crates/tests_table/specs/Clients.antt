-- Which client of a test may do what.
use Rattle.std.specs.Prelude.{◌≡◌, Option, IfSome}
use Rattle.table_calls.specs.Account.{IsReady}
use Rattle.table_memory.specs.declared.memory_table.MemoryTable.{MemoryTable}
use Rattle.table_memory.specs.Meaning.{Seat, Turn, opening_of, account_of, IsOurs, IsTurnAtStart}

-- the seat is of this table, and has nothing to do
abbrev pub IsIdle : MemoryTable → Seat → Type 0
IsIdle table seat = IsOurs table seat × IsReady (account_of seat)

-- the table has four clients, and was opened with the published sequence 7
abbrev pub IsForFour : MemoryTable → Type 0
IsForFour table = ((opening_of table).clients ≡ 4) × ((opening_of table).start ≡ 7)

-- a client with this seat may play; where it has the turn, nothing was launched or published yet
abbrev pub MayPlay : MemoryTable → Seat → Option Turn → Type 0
MayPlay table seat turn = IsIdle table seat × IfSome turn (λ (u : Turn). IsTurnAtStart table u)
