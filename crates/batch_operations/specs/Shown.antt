-- What the bytes of a record show, whatever they are.
use Rattle.std.specs.Prelude.{◌≡◌, ℕ, ◌<◌, ◌≤◌, ◌==◌, List, [], ◌++◌, length, take, drop, Option, Some, None, MatchOption, if◌then◌else◌}
use Rattle.std.specs.List.{AllByRecursion}
use Rattle.std.specs.Int.{w32, w64, from_le_bytes}
use Rattle.model_base.specs.declared.batch.BatchError.{BatchError}
use Rattle.model_base.specs.declared.batch.BatchError.TheVariants.{Short, Count}
use Rattle.batch_operations.specs.Operations.{Operation, body, count_of, IsOperation, NoOperation}
use Rattle.batch_operations.specs.declared.head.Head.{Head}

-- the fields in front of the operations
abbrev pub sequence_in : List ℕ → ℕ
sequence_in bytes = from_le_bytes w64 (take 8 bytes)

abbrev pub count_in : List ℕ → ℕ
count_in bytes = from_le_bytes w32 (take 4 (drop 8 bytes))

-- The bytes are these operations, and then nothing more, or bytes that don't begin with one, and why.
pub record Have (bytes : List ℕ) (operations : List Operation) (fault : Option BatchError) : Type 0 where
  pub rest : List ℕ
  pub are : AllByRecursion IsOperation operations
  pub spelled : bytes ≡ body operations ++ rest
  pub ends : MatchOption fault (rest ≡ []) (NoOperation rest)

-- where the operations have no fault, their number may be another one than the head says
abbrev pub with_count : ℕ → List Operation → Option BatchError → Option BatchError
with_count said operations (Some error) = Some error
with_count said operations None =
    if said == count_of operations then None else Some (Count said (count_of operations))

-- what a record shows: its head, if it has one, the operations up to the first fault, and that fault
pub record ShownRecord : Type 0 where
  pub head : Option Head
  pub operations : List Operation
  pub fault : Option BatchError

-- a record of fewer bytes than a head
abbrev pub shown_short : ShownRecord
shown_short = record { head = None; operations = []; fault = Some Short }

pub data Shows (bytes : List ℕ) : ShownRecord → Type 0 where
  short : length bytes < 12 → Shows bytes shown_short
  whole : {operations : List Operation} {fault : Option BatchError} → 12 ≤ length bytes
      → Have (drop 12 bytes) operations fault
      → Shows bytes (record {
        head = Some (record { sequence = sequence_in bytes; count = count_in bytes });
        operations = operations;
        fault = with_count (count_in bytes) operations fault;
      })
