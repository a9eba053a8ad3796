-- What the disks of a set hold, once calls have written it.
use Rattle.std.specs.Prelude.{◌≡◌, ℕ, ◌≤◌, List, [], ◌∷◌, ◌++◌, length, map, Option, None, IfSome}
use Rattle.std.specs.List.{AllByRecursion, AllZip}
use Rattle.base_devices.specs.Disk.{Disk}
use Rattle.base_devices.specs.declared.disk.Disk.{Ghosts}
use Rattle.model_base.specs.LogContents.{GroupCall}
use Rattle.log_laws.specs.Prefixes.{HoldsFront}
use Rattle.log_laws.specs.Fronts.{plain_text, records_in}
use Rattle.log_writer.specs.declared.set.LogSet.{LogSet}
use Rattle.log_writer.specs.Words.{disk_of, len_of}
use Rattle.log_writer.specs.Written.{first_fault, written_by, begun_by}
use Rattle.log_writer.specs.Sets.{full_of, current_of, later_of, begun_in}

-- What the disk of the current log holds. If no call failed, it is the log's text. Otherwise `begun` has the record
-- whose call failed, and up to the disk's place, which is at the log's end or after it, the disk holds the log's text
-- and a front of that record's text.
pub record HoldsBegun (written begun : List (List ℕ)) (failed : Option ℕ) (d : Disk) : Type 0 where
  pub whole : failed ≡ None → d.content ≡ plain_text written
  pub behind : length (plain_text written) ≤ d.place
  pub front : HoldsFront (plain_text begun) d.place d.content

-- The records of all calls are cut into logs. The disk of each full log holds that log's text and nothing else, that of
-- the current one holds as much as `HoldsBegun` says, and the disks of the later ones hold nothing.
pub record HoldLogs {D : Type 0} {ghosts : Ghosts D} (set : LogSet D ghosts) (calls : List GroupCall) : Type 0 where
  pub full : List (List (List ℕ))
  pub written : List (List ℕ)
  pub begun : List (List ℕ)
  pub all_written : records_in full ++ written ≡ written_by calls
  pub all_begun : records_in full ++ begun ≡ begun_by calls
  pub lens : map len_of (begun_in set) ≡ map (λ records. length (plain_text records)) (full ++ written ∷ [])
  pub full_hold : AllZip (λ log records. IfSome (ghosts.told (disk_of log)) (λ d. d.content ≡ plain_text records))
      (full_of set) full
  pub current_holds : IfSome (ghosts.told (disk_of (current_of set))) (HoldsBegun written begun (first_fault calls))
  pub later_hold : AllByRecursion (λ log. IfSome (ghosts.told (disk_of log)) (λ d. d.content ≡ [])) (later_of set)
