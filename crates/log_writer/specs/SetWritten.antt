-- What a set of logs has become since it was opened on some disks.
use Rattle.std.specs.Prelude.{◌≡◌, ℕ, List, [], ◌∷◌, ◌++◌, map, ⊤}
use Rattle.base_devices.specs.declared.disk.Disk.{Ghosts}
use Rattle.model_base.specs.Log.{new_log}
use Rattle.model_base.specs.LogContents.{GroupCall}
use Rattle.log_writer.specs.declared.set.LogSet.{LogSet}
use Rattle.log_writer.specs.Words.{disk_of, len_of}
use Rattle.log_writer.specs.Written.{HoldsSynced}
use Rattle.log_writer.specs.Sets.{logs_of, begun_in, later_of, limit_of, WroteSet}
use Rattle.log_writer.specs.SetCrashes.{AreLeft, HasOpenedSet}
use Rattle.log_writer.specs.SetContents.{HoldLogs}

-- its disks, in their order
abbrev pub disks_of : {D : Type 0} {ghosts : Ghosts D} → LogSet D ghosts → List D
disks_of set = map (λ log. disk_of log) (logs_of set)

-- a set with this limit was opened on these disks, and these calls wrote it
pub record IsSetWritten {D : Type 0} {ghosts : Ghosts D} (limit : ℕ) (disks : List D) (calls : List GroupCall)
    (set : LogSet D ghosts) : Type 0 where
  pub opened : LogSet D ghosts
  pub has_opened : HasOpenedSet disks opened
  pub limit_is : limit_of opened ≡ limit
  pub wrote : WroteSet opened calls set

-- The set that was opened on the disks `begun` was written by these calls. Then the logs that had begun had these
-- lengths, and the disks `ended` were handed back.
abbrev pub IsSetWrittenFrom : {D : Type 0} (ghosts : Ghosts D) → ℕ → List D → List D → List GroupCall → List ℕ → Type 0
IsSetWrittenFrom {D} ghosts limit begun ended calls lens = (set : LogSet D ghosts)
    × IsSetWritten limit begun calls set × (disks_of set ≡ ended) × (lens ≡ map len_of (begun_in set))

-- A crash may have left these images once the calls `before` had all returned, during the calls `after` or after them,
-- and the disk in whose time it came still tells of that time. At the end the logs that had begun had these lengths.
pub record AreLeftSince {D : Type 0} (ghosts : Ghosts D) (limit : ℕ) (begun ended : List D) (lens : List ℕ)
    (before after : List GroupCall) (images : List (List ℕ)) : Type 0 where
  pub between : LogSet D ghosts
  pub written : IsSetWritten limit begun before between
  pub last : LogSet D ghosts
  pub wrote : WroteSet between after last
  pub is_ended : disks_of last ≡ ended
  pub lens_are : lens ≡ map len_of (begun_in last)
  pub left : AreLeft ghosts (disks_of between) ended images

-- the records of each log, those of the last one that was begun with that of the call that failed
abbrev pub begun_logs : {D : Type 0} {ghosts : Ghosts D} {set : LogSet D ghosts} {calls : List GroupCall}
    → HoldLogs set calls → List (List (List ℕ))
begun_logs {set = set} hold = hold.full ++ hold.begun ∷ map (λ log. []) (later_of set)

-- Each image holds what its log's calls synced, as far as it goes past that and past what writes could reach before the
-- log was opened.
abbrev pub HoldEach : List ℕ → List (List GroupCall) → List (List ℕ) → Type 0
HoldEach reached [] images = ⊤
HoldEach [] (calls ∷ parts) images = ⊥
HoldEach (reach ∷ reached) (calls ∷ parts) [] = ⊥
HoldEach (reach ∷ reached) (calls ∷ parts) (image ∷ images) =
    HoldsSynced new_log reach calls image × HoldEach reached parts images
