-- What a log writer shows.
use Rattle.std.specs.Prelude.{ℕ, Option, vec_capacity}
use Rattle.base_devices.specs.declared.disk.Disk.{Ghosts}
use Rattle.log_writer.specs.declared.writer.LogWriter.{LogWriter}

abbrev pub disk_of : {D : Type 0} {ghosts : Ghosts D} → LogWriter D ghosts → D
disk_of w = w.disk

-- the log's number, if it has one
abbrev pub number_of : {D : Type 0} {ghosts : Ghosts D} → LogWriter D ghosts → Option ℕ
number_of w = w.number

-- the length of the log: the bytes that it kept, and those of the groups that were written whole
abbrev pub len_of : {D : Type 0} {ghosts : Ghosts D} → LogWriter D ghosts → ℕ
len_of w = w.len

-- the count of the fault that ended the log, if one did
abbrev pub fault_of : {D : Type 0} {ghosts : Ghosts D} → LogWriter D ghosts → Option ℕ
fault_of w = w.fault

-- the memory that it holds for a block, in bytes
abbrev pub room_of : {D : Type 0} {ghosts : Ghosts D} → LogWriter D ghosts → ℕ
room_of w = vec_capacity w.block
