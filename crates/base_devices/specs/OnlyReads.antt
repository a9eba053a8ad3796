-- What reading does to a disk: it changes nothing on it.
use Rattle.std.proofs.Common.{◌≡◌, ◌≤◌, inl, inr, ⊎_elim, ℕ, List, Option, Some, None, IfSome, refl, sym, ◌∙◌, ap, subst, arith}
use Rattle.base_devices.specs.Disk.{Disk, IsImage, TimePasses}
use Rattle.base_devices.specs.declared.disk.Disk.{Ghosts}

-- the disk tells the same as before, nothing was added to it, its time went on, and its count of faults hasn't fallen
pub record OnlyReads {D : Type 0} (ghosts : Ghosts D) (old new : D) : Type 0 where
  pub later : ghosts.faults old ≤ ghosts.faults new
  pub same : ghosts.told new ≡ ghosts.told old
  pub adds_none : ghosts.added new ≡ ghosts.added old
  pub time : TimePasses ghosts.told ghosts.moment ghosts.from ghosts.since old new

-- the content, if the disk tells it
abbrev pub content_of : Option Disk → Option (List ℕ)
content_of None = None
content_of (Some d) = Some d.content

-- two stretches of time, one after the other, are one
more_time : {D : Type 0} (told : D → Option Disk) (moment from : D → ℕ) (since : D → ℕ → List ℕ → Type 0) (old mid new : D) → told new ≡ told mid
    → TimePasses told moment from since old mid → TimePasses told moment from since mid new → TimePasses told moment from since old new
more_time told moment from since old mid new same first second =
    let later_first = first.later in
    let later_second = second.later in
    let forgets_first = first.forgets in
    let forgets_second = second.forgets in
    record {
      later = omega (arith, later_first, later_second);
      forgets = omega (arith, forgets_first, forgets_second);
      nothing_else = λ t image known before has. ⊎_elim
          (λ h. ⊎_elim (λ a. inl a) (λ b. inr (subst (λ (d : Option Disk). IfSome d (λ e. IsImage e image)) (sym same) b)) (first.nothing_else t image (omega (arith, known, forgets_second)) before h))
          (λ b. inr b) (second.nothing_else t image known (omega (arith, before, later_first)) has);
      keeps = λ t image known before has. second.keeps t image known (omega (arith, before, later_first)) (first.keeps t image (omega (arith, known, forgets_second)) before has);
    }

-- two stretches of reading, one after the other, are one
pub more_read : {D : Type 0} (ghosts : Ghosts D) (old mid new : D) → OnlyReads ghosts old mid → OnlyReads ghosts mid new → OnlyReads ghosts old new
more_read ghosts old mid new first second =
    let later_first = first.later in
    let later_second = second.later in
    record {
      later = omega (arith, later_first, later_second);
      same = second.same ∙ first.same;
      adds_none = second.adds_none ∙ first.adds_none;
      time = more_time ghosts.told ghosts.moment ghosts.from ghosts.since old mid new second.same first.time second.time;
    }

-- no call at all
pub none_read : {D : Type 0} (ghosts : Ghosts D) (disk : D) → OnlyReads ghosts disk disk
none_read ghosts disk = record {
  later = omega (arith);
  same = refl;
  adds_none = refl;
  time = record {
    later = omega (arith);
    forgets = omega (arith);
    nothing_else = λ t image known before has. inl has;
    keeps = λ t image known before has. has;
  };
}

-- reading keeps the content
pub content_kept : {D : Type 0} (ghosts : Ghosts D) (old new : D) → OnlyReads ghosts old new → content_of (ghosts.told new) ≡ content_of (ghosts.told old)
content_kept ghosts old new only = ap content_of only.same

-- and the count of faults doesn't fall
pub count_goes_on : {D : Type 0} (ghosts : Ghosts D) (old new : D) → OnlyReads ghosts old new → ghosts.faults old ≤ ghosts.faults new
count_goes_on ghosts old new only = only.later
