-- Why no set of logs was opened on some disks.
use Rattle.std.specs.Prelude.{◌≡◌, ℕ, ◌<◌, List, [], ◌∷◌, ◌++◌, length, None, IfSome}
use Rattle.std.specs.List.{AllByRecursion, AllZip}
use Rattle.base_devices.specs.declared.disk.Disk.{Ghosts}
use Rattle.base_devices.specs.Faults.{Rose, count_in_all}
use Rattle.log_writer.specs.declared.errors.OpenError.{OpenError}
use Rattle.log_writer.specs.declared.errors.OpenError.TheVariants.{Fault, NotEmpty, NoMemory}
use Rattle.log_writer.specs.declared.writer.LogWriter.{LogWriter}
use Rattle.log_writer.specs.Words.{number_of, len_of, fault_of}
use Rattle.log_writer.specs.Opening.{IsLookedAt}

-- the log has no number, no bytes and no fault
abbrev pub IsNew : {D : Type 0} {ghosts : Ghosts D} → LogWriter D ghosts → Type 0
IsNew log = (number_of log ≡ None) × (len_of log ≡ 0) × (fault_of log ≡ None)

-- the same reason; where it is a fault, with this count
abbrev pub with_count : ℕ → OpenError → OpenError
with_count count (Fault n) = Fault count
with_count count (NotEmpty len) = NotEmpty len
with_count count NoMemory = NoMemory

module _ {D : Type 0} (ghosts : Ghosts D) where
  -- the disk is empty, if it tells what it holds
  abbrev pub IsEmpty : D → Type 0
  IsEmpty disk = IfSome (ghosts.told disk) (λ d. d.content ≡ [])

  -- why a look at a disk's length ended the opening: it failed, or the disk isn't empty
  abbrev pub IsWhyNot : D → D → OpenError → Type 0
  IsWhyNot old new (Fault count) = Rose (ghosts.faults old) (ghosts.faults new)
  IsWhyNot old new (NotEmpty len) = (0 < len) × IfSome (ghosts.told old) (λ d. length d.content ≡ len)
      × (ghosts.faults new ≡ ghosts.faults old)
  IsWhyNot old new NoMemory = ⊥

  -- the first of the disks that isn't empty has so many bytes
  pub record HasFirstBytes (disks : List D) (len : ℕ) : Type 0 where
    pub empty : List D
    pub first : D
    pub later : List D
    pub cut : disks ≡ empty ++ first ∷ later
    pub are_empty : AllByRecursion IsEmpty empty
    pub some : 0 < len
    pub len_is : IfSome (ghosts.told first) (λ d. length d.content ≡ len)

  -- A look at the length of a disk failed, and this is the count of all disks; or one of them isn't empty, and no look
  -- failed; or there was no memory, and no disk was asked.
  abbrev pub IsSetCause : List D → List D → OpenError → Type 0
  IsSetCause olds news (Fault count) = Rose (count_in_all ghosts.faults olds) count
      × (count ≡ count_in_all ghosts.faults news)
  IsSetCause olds news (NotEmpty len) = HasFirstBytes olds len
      × AllZip (λ old new. ghosts.faults new ≡ ghosts.faults old) olds news
  IsSetCause olds news NoMemory = news ≡ olds

  -- no set was opened, for this reason; the disks were only looked at
  pub record IsSetOpenError (olds news : List D) (why : OpenError) : Type 0 where
    pub looked_at : AllZip (IsLookedAt ghosts) olds news
    pub cause : IsSetCause olds news why
