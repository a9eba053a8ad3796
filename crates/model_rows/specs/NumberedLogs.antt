-- A log with a number that was written over an older one, and what the two of them recover.
use Rattle.std.specs.Prelude.{ℕ, List, [], ◌∷◌, ◌++◌, drop, map, Some}
use Rattle.model_base.specs.declared.log.Damage.TheVariants.{OldLog}
use Rattle.model_base.specs.declared.log.EndReason.TheVariants.{Broken, Clean}
use Rattle.model_base.specs.Batch.{batch}
use Rattle.model_base.specs.Log.{text}
use Rattle.model_base.specs.Recovery.{logged_bytes, Recovered}
use Rattle.model_rows.specs.Examples.{put_a1}
use Rattle.model_rows.specs.TwoBatches.{two_batches}

-- the log 7 of two batches, each in a record of 28 bytes
abbrev pub older_log : List ℕ
older_log = text (Some 7) (map logged_bytes two_batches)

abbrev pub older_recovered : Recovered
older_recovered = record { batches = two_batches; kept = 56; at = 56; why = Clean }

-- the log 8 of one batch, written over the first record of the older log
abbrev pub written_over : List ℕ
written_over = text (Some 8) (batch 1 (put_a1 ∷ []) ∷ []) ++ drop 28 older_log

abbrev pub newer_recovered : Recovered
newer_recovered = record {
  batches = record { first = 1; records = put_a1 ∷ [] } ∷ [];
  kept = 28;
  at = 28;
  why = Broken (OldLog 7);
}
