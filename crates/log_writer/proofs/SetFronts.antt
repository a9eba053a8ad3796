-- What a crash leaves of a set's disks is a front of its logs.
use Rattle.std.proofs.Common.{◌≡◌, ℕ, ◌+◌, ◌≤◌, List, [], ◌∷◌, length, take, map, arith}
use Rattle.std.specs.List.{AllByRecursion, AllZip}
use Rattle.base_devices.specs.declared.disk.Disk.{Ghosts}
use Rattle.log_laws.specs.Prefixes.{BeginsWith}
use Rattle.log_laws.specs.Fronts.{plain_text, AreFront, within, whole, HaveFront}
use Rattle.log_writer.specs.declared.writer.LogWriter.{LogWriter}
use Rattle.log_writer.specs.Words.{disk_of}
use Rattle.log_writer.specs.SetCrashes.{IsLeftNow, IsLeftBetween, AreLeft, here, later}

module _ {D : Type 0} {ghosts : Ghosts D} where
  -- what a crash leaves of a log's disk, between two states of it, or now
  abbrev pub BeginsBetween : LogWriter D ghosts → LogWriter D ghosts → List (List ℕ) → Type 0
  BeginsBetween old new records = (image : List ℕ) → IsLeftBetween ghosts (disk_of old) (disk_of new) image → BeginsWith (plain_text records) image

  abbrev pub BeginsNow : LogWriter D ghosts → List (List ℕ) → Type 0
  BeginsNow log records = (image : List ℕ) → IsLeftNow ghosts (disk_of log) image → BeginsWith (plain_text records) image

  abbrev pub IsWholeNow : LogWriter D ghosts → List (List ℕ) → Type 0
  IsWholeNow log records = (image : List ℕ) → IsLeftNow ghosts (disk_of log) image → image ≡ plain_text records

  abbrev pub IsWholeStill : LogWriter D ghosts → LogWriter D ghosts → List (List ℕ) → Type 0
  IsWholeStill old new records = (image : List ℕ) → IsLeftBetween ghosts (disk_of old) (disk_of new) image → image ≡ plain_text records

  -- nothing was written to the log, and a crash leaves nothing of it
  pub record IsFresh (log : LogWriter D ghosts) : Type 0 where
    pub now : (image : List ℕ) → IsLeftNow ghosts (disk_of log) image → image ≡ []
    pub still : (image : List ℕ) → IsLeftBetween ghosts (disk_of log) (disk_of log) image → image ≡ []

  -- the logs from the current one on
  pub data FromCurrent : ℕ → List (LogWriter D ghosts) → List (LogWriter D ghosts) → List (List (List ℕ)) → Type 0 where
    filled : {safe : ℕ} {old new : LogWriter D ghosts} {olds news : List (LogWriter D ghosts)} {logs : List (List (List ℕ))} (records : List (List ℕ)) → safe ≤ length records → BeginsNow old (take safe records) → BeginsBetween old new (take safe records)
        → IsWholeNow new records → AllByRecursion IsFresh olds → FromCurrent 0 olds news logs → FromCurrent safe (old ∷ olds) (new ∷ news) (records ∷ logs)
    last : {safe : ℕ} {old new : LogWriter D ghosts} {olds : List (LogWriter D ghosts)} {logs : List (List (List ℕ))} (records : List (List ℕ)) → safe ≤ length records → BeginsNow old (take safe records) → BeginsBetween old new (take safe records)
        → BeginsNow new (take safe records) → AllByRecursion IsFresh olds → FromCurrent safe (old ∷ olds) (new ∷ olds) (records ∷ logs)

  -- all logs: those that were full before, and may have been read since, and then these
  pub data FromFirst : ℕ → List (LogWriter D ghosts) → List (LogWriter D ghosts) → List (List (List ℕ)) → Type 0 where
    done : {safe : ℕ} {old new : LogWriter D ghosts} {olds news : List (LogWriter D ghosts)} {logs : List (List (List ℕ))} (records : List (List ℕ)) → IsWholeNow old records → IsWholeNow new records → IsWholeStill old new records → FromFirst safe olds news logs
        → FromFirst (length records + safe) (old ∷ olds) (new ∷ news) (records ∷ logs)
    current : {safe : ℕ} {olds news : List (LogWriter D ghosts)} {logs : List (List (List ℕ))} → FromCurrent safe olds news logs → FromFirst safe olds news logs

  pub none_now : (logs : List (LogWriter D ghosts)) (images : List (List ℕ)) → AllByRecursion IsFresh logs → AllZip (IsLeftNow ghosts) (map (λ (log : LogWriter D ghosts). disk_of log) logs) images → AllByRecursion (λ (other : List ℕ). other ≡ []) images
  none_now [] [] fresh left = tt
  none_now [] (i ∷ images) fresh left = absurd left
  none_now (log ∷ logs) [] fresh left = tt
  none_now (log ∷ logs) (i ∷ images) fresh left = (fresh.0.now i left.0, none_now logs images fresh.1 left.1)

  pub none_still : (logs : List (LogWriter D ghosts)) (images : List (List ℕ)) → AllByRecursion IsFresh logs → AreLeft ghosts (map (λ (log : LogWriter D ghosts). disk_of log) logs) (map (λ (log : LogWriter D ghosts). disk_of log) logs) images
      → AllByRecursion (λ (other : List ℕ). other ≡ []) images
  none_still [] images fresh left = elim left [ ]
  none_still (log ∷ logs) images fresh (here {image = i} {images = more} left nows) = (fresh.0.still i left, none_now logs more fresh.1 nows)
  none_still (log ∷ logs) images fresh (later {image = i} {images = more} now left) = (fresh.0.now i now, none_still logs more fresh.1 left)

  front_current : (safe : ℕ) (olds news : List (LogWriter D ghosts)) (logs : List (List (List ℕ))) (images : List (List ℕ)) → FromCurrent safe olds news logs
      → AreLeft ghosts (map (λ (log : LogWriter D ghosts). disk_of log) olds) (map (λ (log : LogWriter D ghosts). disk_of log) news) images → HaveFront safe logs images
  front_current safe olds news logs images (filled {olds = more} records some now begins full fresh on) (here {image = i} {images = others} left nows) =
      record { certain = safe; enough = omega arith; front = within some (begins i left) (none_now more others fresh nows) }
  front_current safe olds news logs images (filled {olds = more} {news = newer} {logs = rest} records some now begins full fresh on) (later {image = i} {images = others} left lefts) =
      let t = front_current 0 more newer rest others on lefts in
      record { certain = length records + t.certain; enough = omega (arith, some); front = whole (full i left) t.front }
  front_current safe olds news logs images (last {olds = more} records some now begins begins_now fresh) (here {image = i} {images = others} left nows) =
      record { certain = safe; enough = omega arith; front = within some (begins i left) (none_now more others fresh nows) }
  front_current safe olds news logs images (last {olds = more} records some now begins begins_now fresh) (later {image = i} {images = others} left lefts) =
      record { certain = safe; enough = omega arith; front = within some (begins_now i left) (none_still more others fresh lefts) }

  -- what a crash left before the time began
  front_before : (safe : ℕ) (olds news : List (LogWriter D ghosts)) (logs : List (List (List ℕ))) (images : List (List ℕ)) → FromFirst safe olds news logs → AllZip (IsLeftNow ghosts) (map (λ (log : LogWriter D ghosts). disk_of log) olds) images → AreFront safe logs images
  front_before safe olds news logs [] (done records was full still on) nows = absurd nows
  front_before safe olds news logs (i ∷ images) (done {olds = more} {news = newer} {logs = rest} records was full still on) nows = whole (was i nows.0) (front_before _ more newer rest images on nows.1)
  front_before safe olds news logs images (current c) nows = by_current safe olds news logs images c nows
    where
      by_current : (safe : ℕ) (olds news : List (LogWriter D ghosts)) (logs : List (List (List ℕ))) (images : List (List ℕ)) → FromCurrent safe olds news logs → AllZip (IsLeftNow ghosts) (map (λ (log : LogWriter D ghosts). disk_of log) olds) images → AreFront safe logs images
      by_current safe olds news logs [] (filled records some now begins full fresh on) nows = absurd nows
      by_current safe olds news logs (i ∷ images) (filled {olds = more} records some now begins full fresh on) nows = within some (now i nows.0) (none_now more images fresh nows.1)
      by_current safe olds news logs [] (last records some now begins begins_now fresh) nows = absurd nows
      by_current safe olds news logs (i ∷ images) (last {olds = more} records some now begins begins_now fresh) nows = within some (now i nows.0) (none_now more images fresh nows.1)

  pub front_first : (safe : ℕ) (olds news : List (LogWriter D ghosts)) (logs : List (List (List ℕ))) (images : List (List ℕ)) → FromFirst safe olds news logs
      → AreLeft ghosts (map (λ (log : LogWriter D ghosts). disk_of log) olds) (map (λ (log : LogWriter D ghosts). disk_of log) news) images → HaveFront safe logs images
  front_first safe olds news logs images (done {safe = n} {olds = more} {news = newer} {logs = rest} records was full still on) (here {image = i} {images = others} left nows) =
      record { certain = length records + n; enough = omega arith; front = whole (still i left) (front_before n more newer rest others on nows) }
  front_first safe olds news logs images (done {safe = n} {olds = more} {news = newer} {logs = rest} records was full still on) (later {image = i} {images = others} left lefts) =
      let t = front_first n more newer rest others on lefts in
      record { certain = length records + t.certain; enough = omega (arith, t.enough); front = whole (full i left) t.front }
  front_first safe olds news logs images (current c) left = front_current safe olds news logs images c left

  -- what a crash leaves now
  now_current : (safe : ℕ) (olds news : List (LogWriter D ghosts)) (logs : List (List (List ℕ))) (images : List (List ℕ)) → FromCurrent safe olds news logs → AllZip (IsLeftNow ghosts) (map (λ (log : LogWriter D ghosts). disk_of log) news) images → HaveFront safe logs images
  now_current safe olds news logs [] (filled records some now begins full fresh on) nows = absurd nows
  now_current safe olds news logs (i ∷ images) (filled {olds = more} {news = newer} {logs = rest} records some now begins full fresh on) nows =
      let t = now_current 0 more newer rest images on nows.1 in
      record { certain = length records + t.certain; enough = omega (arith, some); front = whole (full i nows.0) t.front }
  now_current safe olds news logs [] (last records some now begins begins_now fresh) nows = absurd nows
  now_current safe olds news logs (i ∷ images) (last {olds = more} records some now begins begins_now fresh) nows =
      record { certain = safe; enough = omega arith; front = within some (begins_now i nows.0) (none_now more images fresh nows.1) }

  pub front_now : (safe : ℕ) (olds news : List (LogWriter D ghosts)) (logs : List (List (List ℕ))) (images : List (List ℕ)) → FromFirst safe olds news logs → AllZip (IsLeftNow ghosts) (map (λ (log : LogWriter D ghosts). disk_of log) news) images → HaveFront safe logs images
  front_now safe olds news logs [] (done records was full still on) nows = absurd nows
  front_now safe olds news logs (i ∷ images) (done {safe = n} {olds = more} {news = newer} {logs = rest} records was full still on) nows =
      let t = front_now n more newer rest images on nows.1 in
      record { certain = length records + t.certain; enough = omega (arith, t.enough); front = whole (full i nows.0) t.front }
  front_now safe olds news logs images (current c) nows = now_current safe olds news logs images c nows
