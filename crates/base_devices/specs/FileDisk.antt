-- What a file as a disk shows.
use Rattle.std.specs.Prelude.{ℕ, ◌-◌, ◌<◌, ◌^◌}
use Rattle.std.proofs.Math.Nat.{le_trans, lt_of_le_of_lt, sub-le}
use Rattle.base_devices.specs.declared.system_file.SystemFile.{SystemFile}
use Rattle.base_devices.specs.declared.file_disk.FileDisk.{FileDisk}

-- How many bytes were added to a file of the system: its place, counted from where it was opened, or from the file's
-- start once it was rewound or cut.
abbrev pub added_to : {R : Type 0} → SystemFile R → ℕ
added_to file = file.place - file.start

-- how many bytes the appends of a disk have added
abbrev pub file_added : {R : Type 0} → FileDisk R → ℕ
file_added d = added_to d.file

pub file_added_is_small : {R : Type 0} (d : FileDisk R) → file_added d < 2 ^ 63
file_added_is_small d =
    lt_of_le_of_lt (le_trans (sub-le d.file.place d.file.start) d.file.placed) d.file.small

-- how many of its calls have failed
abbrev pub file_faults : {R : Type 0} → FileDisk R → ℕ
file_faults d = d.faults
