-- Logs that are read between calls.
use Rattle.std.proofs.Common.{◌≡◌, ⊎_elim, ℕ, List, [], ◌∷◌, ◌++◌, length, map, Option, IfSome, refl, sym, ap, subst, arith, length-append}
use Rattle.std.specs.List.{AllZip}
use Rattle.base_devices.specs.Disk.{Disk, IsImage}
use Rattle.base_devices.specs.declared.disk.Disk.{Ghosts}
use Rattle.log_writer.specs.declared.writer.LogWriter.{LogWriter}
use Rattle.log_writer.specs.declared.set.LogSet.{LogSet}
use Rattle.log_writer.specs.Words.{disk_of, len_of}
use Rattle.log_writer.specs.Adding.{GroupCall}
use Rattle.log_writer.specs.Reads.{WasRead}
use Rattle.log_writer.specs.ReadLaws.{read_on, none_were_read}
use Rattle.log_writer.specs.Sets.{full_of, current_of, later_of, logs_of, begun_in, SetWasRead}
use Rattle.log_writer.specs.SetSplits.{IsFilled, AreFilled}
use Rattle.log_writer.specs.SetCrashes.{IsLeftNow, IsLeftBetween, AreLeft, here, later}
use Rattle.log_writer.proofs.Surviving.{Laws}

-- lists that are paired
pub zip_none : {A B : Type 0} (R : A → B → Type 0) (xs : List A) (ys : List B) → AllZip R xs ys → xs ≡ [] → ys ≡ []
zip_none R [] [] all e = refl
zip_none R [] (y ∷ ys) all e = absurd all
zip_none R (x ∷ xs) ys all e = absurd (cc)

pub zip_many : {A B : Type 0} (R : A → B → Type 0) (xs : List A) (ys : List B) → AllZip R xs ys → length xs ≡ length ys
zip_many R [] [] all = refl
zip_many R [] (y ∷ ys) all = absurd all
zip_many R (x ∷ xs) [] all = absurd all
zip_many R (x ∷ xs) (y ∷ ys) all = let rest = zip_many R xs ys all.1 in omega (arith, rest)

-- the two parts of a list with which two joined lists are paired
pub record AreCut {A B : Type 0} (R : A → B → Type 0) (front back : List A) (ys : List B) : Type 0 where
  pub first : List B
  pub others : List B
  pub cut : ys ≡ first ++ others
  pub of_front : AllZip R front first
  pub of_back : AllZip R back others

pub zip_cut : {A B : Type 0} (R : A → B → Type 0) (front back : List A) (ys : List B) → AllZip R (front ++ back) ys → AreCut R front back ys
zip_cut R [] back ys all = record { first = []; others = ys; cut = refl; of_front = tt; of_back = all }
zip_cut R (x ∷ front) back [] all = absurd all
zip_cut {B = B} R (x ∷ front) back (y ∷ ys) all =
    let p = zip_cut R front back ys all.1 in
    record { first = y ∷ p.first; others = p.others; cut = ap (λ (l : List B). y ∷ l) p.cut; of_front = (all.0, p.of_front); of_back = p.of_back }

zip_joined : {A B : Type 0} (R : A → B → Type 0) (xs more : List A) (ys others : List B) → AllZip R xs ys → AllZip R more others → AllZip R (xs ++ more) (ys ++ others)
zip_joined R [] more [] others first second = second
zip_joined R [] more (y ∷ ys) others first second = absurd first
zip_joined R (x ∷ xs) more [] others first second = absurd first
zip_joined R (x ∷ xs) more (y ∷ ys) others first second = (first.0, zip_joined R xs more ys others first.1 second)

module _ {D : Type 0} {ghosts : Ghosts D} where
  -- a log that was filled, and read after it
  pub filled_then_read : (old : LogWriter D ghosts) (calls : List GroupCall) (mid new : LogWriter D ghosts) → IsFilled old calls mid → WasRead mid new → IsFilled old calls new
  filled_then_read old calls mid new is r = record {
    written = is.written;
    wrote = is.wrote;
    alive = is.alive;
    synced = is.synced;
    syncs = is.syncs;
    was_read = read_on is.synced mid new is.was_read r;
  }

  pub all_filled_then_read : (olds : List (LogWriter D ghosts)) (parts : List (List GroupCall)) (mids news : List (LogWriter D ghosts)) → AreFilled olds parts mids → AllZip WasRead mids news → AreFilled olds parts news
  all_filled_then_read [] [] [] [] are all = tt
  all_filled_then_read [] [] [] (n ∷ news) are all = absurd all
  all_filled_then_read [] [] (m ∷ mids) news are all = absurd are
  all_filled_then_read [] (p ∷ parts) mids news are all = absurd are
  all_filled_then_read (o ∷ olds) [] mids news are all = absurd are
  all_filled_then_read (o ∷ olds) (p ∷ parts) [] news are all = absurd are
  all_filled_then_read (o ∷ olds) (p ∷ parts) (m ∷ mids) [] are all = absurd all
  all_filled_then_read (o ∷ olds) (p ∷ parts) (m ∷ mids) (n ∷ news) are all = (filled_then_read o p m n are.0 all.0, all_filled_then_read olds parts mids news are.1 all.1)

  -- all logs of a set that was read
  pub all_were_read : (old new : LogSet D ghosts) → SetWasRead old new → AllZip WasRead (logs_of old) (logs_of new)
  all_were_read old new r =
      let others : AllZip WasRead (later_of old) (later_of new) = subst (λ (l : List (LogWriter D ghosts)). AllZip WasRead (later_of old) l) (sym r.later) (none_were_read (later_of old)) in
      zip_joined WasRead (full_of old) (current_of old ∷ later_of old) (full_of new) (current_of new ∷ later_of new) r.full (r.current, others)

  pub same_lens : (olds news : List (LogWriter D ghosts)) → AllZip WasRead olds news → map len_of news ≡ map len_of olds
  same_lens [] [] all = refl
  same_lens [] (n ∷ news) all = absurd all
  same_lens (o ∷ olds) [] all = absurd all
  same_lens (o ∷ olds) (n ∷ news) all = λ i. all.0.len i ∷ same_lens olds news all.1 i

  -- as many have begun
  pub as_many_begun : (old new : LogSet D ghosts) → SetWasRead old new → length (begun_in new) ≡ length (begun_in old)
  as_many_begun old new r =
      omega (arith, zip_many WasRead (full_of old) (full_of new) r.full, length-append (full_of new) (current_of new ∷ []), length-append (full_of old) (current_of old ∷ []))

module _ {D : Type 0} {ghosts : Ghosts D} (laws : Laws ghosts) where
  -- what a crash leaves while a log is read it may leave before that
  pub left_while_read : (old new : LogWriter D ghosts) → WasRead old new → (image : List ℕ) → IsLeftBetween ghosts (disk_of old) (disk_of new) image → IsLeftNow ghosts (disk_of old) image
  left_while_read old new r image left =
      let time = r.disk.time in
      ⊎_elim (λ past. laws.only_now (disk_of old) image (omega (arith, left.0, time.forgets)) past)
      (λ is. subst (λ (t : Option Disk). IfSome t (λ d. IsImage d image)) r.disk.same is)
      (time.nothing_else (ghosts.moment (disk_of old)) image left.0 (omega arith) left.1)

  -- and what it may leave after it
  pub left_once_read : (old new : LogWriter D ghosts) → WasRead old new → (image : List ℕ) → IsLeftNow ghosts (disk_of new) image → IsLeftNow ghosts (disk_of old) image
  left_once_read old new r image left = subst (λ (t : Option Disk). IfSome t (λ d. IsImage d image)) r.disk.same left

  -- of several logs
  pub all_left_read : (olds news : List (LogWriter D ghosts)) (images : List (List ℕ)) → AllZip WasRead olds news
      → AreLeft ghosts (map (λ (log : LogWriter D ghosts). disk_of log) olds) (map (λ (log : LogWriter D ghosts). disk_of log) news) images
      → AllZip (IsLeftNow ghosts) (map (λ (log : LogWriter D ghosts). disk_of log) olds) images
  all_left_read [] [] images all left = elim left [ ]
  all_left_read [] (n ∷ news) images all left = absurd all
  all_left_read (o ∷ olds) [] images all left = absurd all
  all_left_read (o ∷ olds) (n ∷ news) images all (here {image = i} {images = more} left nows) = (left_while_read o n all.0 i left, nows)
  all_left_read (o ∷ olds) (n ∷ news) images all (later {image = i} {images = more} now left) = (left_once_read o n all.0 i now, all_left_read olds news more all.1 left)
