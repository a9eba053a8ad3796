-- What a crash may leave of several plain logs that are written one after another, each of them synced before the next
-- one is begun.
use Rattle.std.specs.Prelude.{◌≡◌, ℕ, ◌+◌, ◌-◌, ◌<◌, ◌≤◌, List, [], ◌∷◌, length, take, map, flat_map}
use Rattle.std.specs.List.{AllByRecursion, AllZip}
use Rattle.model_base.specs.Log.{plain_log, text}
use Rattle.model_base.specs.Recovery.{logged_bytes, NoChance}
use Rattle.model_base.specs.RecoveredLogs.{RecoveredLogs, AreRecovered}
use Rattle.log_laws.specs.Prefixes.{IsPrefix, BeginsWith}

-- the text of a plain log with these records
abbrev pub plain_text : List (List ℕ) → List ℕ
plain_text records = text plain_log records

-- The images are a front of what these logs have: some whole logs, then one that begins with the text of its first
-- records, and nothing in the logs after that one. The records that are there for certain are `safe` in all.
pub data AreFront : ℕ → List (List (List ℕ)) → List (List ℕ) → Type 0 where
  within : {safe : ℕ} {records : List (List ℕ)} {logs : List (List (List ℕ))} {image : List ℕ} {images : List (List ℕ)}
      → safe ≤ length records → BeginsWith (plain_text (take safe records)) image
      → AllByRecursion (λ other. other ≡ []) images → AreFront safe (records ∷ logs) (image ∷ images)
  whole : {safe : ℕ} {records : List (List ℕ)} {logs : List (List (List ℕ))} {image : List ℕ} {images : List (List ℕ)}
      → image ≡ plain_text records → AreFront safe logs images
      → AreFront (length records + safe) (records ∷ logs) (image ∷ images)

-- the images are a front of these logs, with at least so many records for certain
pub record HaveFront (safe : ℕ) (logs : List (List (List ℕ))) (images : List (List ℕ)) : Type 0 where
  pub certain : ℕ
  pub enough : safe ≤ certain
  pub front : AreFront certain logs images

-- each fragment with a right checksum that recovery of one of the images meets is in that log's text
abbrev pub NoChances : List (List (List ℕ)) → List (List ℕ) → Type 0
NoChances logs images = AllZip (λ records image. NoChance plain_log image (plain_text records)) logs images

-- all records, log by log
abbrev pub records_in : List (List (List ℕ)) → List (List ℕ)
records_in logs = flat_map (λ records. records) logs

-- what these files recover, one log after another, is a prefix of these records
abbrev pub RecoverPrefix : List (List ℕ) → List (List ℕ) → (ℕ → Type 0) → Type 0
RecoverPrefix records files P = (r : RecoveredLogs) → AreRecovered plain_log files r
    → IsPrefix (map logged_bytes r.batches) records P

-- before its last record was written, unless that was its first one, the log was shorter than the limit
abbrev pub HadRoom : ℕ → List (List ℕ) → Type 0
HadRoom limit records = 1 < length records → length (plain_text (take (length records - 1) records)) < limit

-- The records of logs that were filled one after another: each but the last one has as many bytes as the limit, and
-- came to that by its last record. The last one had room for its last record too, unless no log was left after it.
pub data AreFilledTo (limit : ℕ) : ℕ → List (List (List ℕ)) → Type 0 where
  last_one : {left : ℕ} {records : List (List ℕ)} → (0 < left → HadRoom limit records)
      → AreFilledTo limit left (records ∷ [])
  full : {left : ℕ} {records : List (List ℕ)} {logs : List (List (List ℕ))} → limit ≤ length (plain_text records)
      → HadRoom limit records → AreFilledTo limit left logs → AreFilledTo limit left (records ∷ logs)
