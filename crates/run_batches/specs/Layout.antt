-- The bytes of accepted batches, as the table at the head of `src/lib.rt` has them.
use Rattle.std.specs.Prelude.{ℕ, ◌+◌, List, [], ◌∷◌, length, flat_map, ◌==◌, if◌then◌else◌}
use Rattle.model_base.specs.declared.history.Flag.{Flag}
use Rattle.model_base.specs.declared.history.Flag.TheVariants.{Log, NoLog, Sync}
use Rattle.log_batch.specs.Contents.{Contents}
use Rattle.run_batches.specs.declared.accepted.AcceptedBatch.{AcceptedBatch}
use Rattle.run_batches.specs.OneBatch.{batch_bytes}

abbrev pub byte_of : Flag → ℕ
byte_of Log = 0
byte_of NoLog = 1
byte_of Sync = 2

-- the flag that is read from a byte
abbrev pub flag_of : ℕ → Flag
flag_of byte = if byte == 0 then Log else (if byte == 1 then NoLog else Sync)

-- a batch after its flag
abbrev pub bytes_of : AcceptedBatch Contents → List ℕ
bytes_of kept = byte_of kept.flag ∷ batch_bytes kept.batch

-- batches one after another
abbrev pub body : List (AcceptedBatch Contents) → List ℕ
body batches = flat_map bytes_of batches

-- where each batch ends, if the first one begins at `begin`
abbrev pub ends_from : ℕ → List (AcceptedBatch Contents) → List ℕ
ends_from begin [] = []
ends_from begin (kept ∷ rest) =
    (begin + length (bytes_of kept)) ∷ ends_from (begin + length (bytes_of kept)) rest
