-- Reading one disk of several: the others stay, or are read after it.
use Rattle.std.proofs.Common.{◌≡◌, List, [], ◌∷◌, sym, subst}
use Rattle.std.specs.List.{AllZip}
use Rattle.base_devices.specs.OnlyReads.{OnlyReads, none_read}
use Rattle.base_devices.specs.declared.disk.Disk.{Ghosts}

-- what holds of the first disk before and after, and of the others, holds of all
pub joined : {D : Type 0} (R : D → D → Type 0) (disks : List D) (disk new : D) (rest news : List D) → disks ≡ disk ∷ rest → R disk new → AllZip R rest news → AllZip R disks (new ∷ news)
joined R disks disk new rest news parts first later = subst (λ l. AllZip R l (new ∷ news)) (sym parts) (first, later)

pub all_kept : {D : Type 0} (R : D → D → Type 0) → ((disk : D) → R disk disk) → (disks : List D) → AllZip R disks disks
all_kept R kept [] = tt
all_kept R kept (disk ∷ disks) = (kept disk, all_kept R kept disks)

-- the first of them is read
pub first_read : {D : Type 0} (ghosts : Ghosts D) (disks : List D) (disk new : D) (rest : List D) → disks ≡ disk ∷ rest → OnlyReads ghosts disk new → AllZip (OnlyReads ghosts) disks (new ∷ rest)
first_read ghosts disks disk new rest parts read = joined (OnlyReads ghosts) disks disk new rest rest parts read (all_kept (OnlyReads ghosts) (none_read ghosts) rest)

-- the first of them is read, and then some of the others
pub more_disks_read : {D : Type 0} (ghosts : Ghosts D) (disks : List D) (disk new : D) (rest news : List D) → disks ≡ disk ∷ rest → OnlyReads ghosts disk new → AllZip (OnlyReads ghosts) rest news → AllZip (OnlyReads ghosts) disks (new ∷ news)
more_disks_read ghosts disks disk new rest news parts read later = joined (OnlyReads ghosts) disks disk new rest news parts read later
