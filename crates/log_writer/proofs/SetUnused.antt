-- What a crash leaves of the disks as they were handed in, and of those whose logs were not begun.
use Rattle.std.proofs.Common.{◌≡◌, ◌⊎◌, inl, inr, ⊎_elim, ℕ, ◌+◌, List, [], ◌∷◌, ◌++◌, length, drop, map, Option, Some, None, IfSome, refl, sym, ◌∙◌, ap, subst, arith, append_assoc, length-append}
use Rattle.std.proofs.lemmas.List.{map-append, length-map}
use Rattle.std.specs.List.{AllByRecursion, AllZip}
use Rattle.base_devices.specs.Disk.{Disk, IsImage, IsAllSafe}
use Rattle.base_devices.specs.declared.disk.Disk.{Ghosts}
use Rattle.log_laws.specs.Fronts.{within, whole, HaveFront}
use Rattle.log_writer.specs.declared.writer.LogWriter.{LogWriter}
use Rattle.log_writer.specs.declared.set.LogSet.{LogSet}
use Rattle.log_writer.specs.Words.{disk_of}
use Rattle.log_writer.specs.Opening.{HasOpened}
use Rattle.log_writer.specs.Adding.{GroupCall}
use Rattle.log_writer.specs.Written.{written_by, begun_by}
use Rattle.log_writer.specs.Reads.{WasRead}
use Rattle.log_writer.specs.Sets.{full_of, current_of, later_of, logs_of, begun_in, fault_in, WroteSet}
use Rattle.log_writer.specs.SetSplits.{AreFilled, IsSplit}
use Rattle.log_writer.specs.SetCrashes.{IsLeftNow, IsLeftBetween, AreLeft, here, later, HasOpenedSet, AreSafeAfterFirst}
use Rattle.log_writer.specs.SetContents.{HoldLogs}
use Rattle.log_writer.specs.SetWritten.{disks_of, begun_logs}
use Rattle.log_writer.proofs.Cutting.{one_begun}
use Rattle.log_writer.proofs.Keeping.{only_image}
use Rattle.log_writer.proofs.SetContents.{logs_opened, full_is, hold_logs}
use Rattle.log_writer.proofs.SetCrashes.{all_back, opened_at, opened_unused}
use Rattle.log_writer.proofs.Reading.{as_many_begun, all_were_read, all_left_read}
use Rattle.log_writer.proofs.SetEnd.{dead_calls, wrote_more}
use Rattle.log_writer.proofs.SetFronts.{IsFresh, none_now, none_still}
use Rattle.log_writer.proofs.SetStates.{filled_whole}
use Rattle.log_writer.proofs.Splitting.{split_so}
use Rattle.log_writer.proofs.Surviving.{Laws}

abbrev IsNothing : List ℕ → Type 0
IsNothing image = image ≡ []

-- what holds of the elements after the first ones
zip_drop : {A B : Type 0} (R : A → B → Type 0) (front tail : List A) (ys : List B) → AllZip R (front ++ tail) ys → AllZip R tail (drop (length front) ys)
zip_drop R [] tail ys all = all
zip_drop R (x ∷ front) tail [] all = absurd all
zip_drop R (x ∷ front) tail (y ∷ ys) all = zip_drop R front tail ys all.1

-- the two parts of a list that is paired with two joined lists
record AreParts {A B : Type 0} (R : A → B → Type 0) (xs : List A) (front back : List B) : Type 0 where
  first : List A
  others : List A
  cut : xs ≡ first ++ others
  of_front : AllZip R first front
  of_back : AllZip R others back

zip_parts : {A B : Type 0} (R : A → B → Type 0) (xs : List A) (front back : List B) → AllZip R xs (front ++ back) → AreParts R xs front back
zip_parts R xs [] back all = record { first = []; others = xs; cut = refl; of_front = tt; of_back = all }
zip_parts R [] (y ∷ front) back all = absurd all
zip_parts {A = A} R (x ∷ xs) (y ∷ front) back all =
    let p = zip_parts R xs front back all.1 in
    record { first = x ∷ p.first; others = p.others; cut = ap (λ (l : List A). x ∷ l) p.cut; of_front = (all.0, p.of_front); of_back = p.of_back }

zip_long : {A B : Type 0} (R : A → B → Type 0) (xs : List A) (ys : List B) → AllZip R xs ys → length xs ≡ length ys
zip_long R [] [] all = refl
zip_long R [] (y ∷ ys) all = absurd all
zip_long R (x ∷ xs) [] all = absurd all
zip_long R (x ∷ xs) (y ∷ ys) all = let rest = zip_long R xs ys all.1 in omega (arith, rest)

abbrev IsSafeDisk : {D : Type 0} → Ghosts D → D → Type 0
IsSafeDisk ghosts disk = (d : Disk) × (ghosts.told disk ≡ Some d) × IsAllSafe d

module _ {D : Type 0} {ghosts : Ghosts D} (laws : Laws ghosts) where
  -- a safe disk on which a log was opened, and to which nothing was written
  module _ (disk : D) (log : LogWriter D ghosts) (safe : IsSafeDisk ghosts disk) (opened : HasOpened disk log) where
    nothing_now : (image : List ℕ) → IsLeftNow ghosts disk image → image ≡ []
    nothing_now image left =
        let empty : (safe.0).content ≡ [] = subst (λ (t : Option Disk). IfSome t (λ x. x.content ≡ [])) safe.1 opened.empty in
        only_image safe.0 image safe.2 (subst (λ (t : Option Disk). IfSome t (λ x. IsImage x image)) safe.1 left) ∙ empty

    fresh : IsFresh log
    fresh = (opened_unused laws disk log safe.0 safe.1 safe.2 opened).fresh

    nothing_since : (image : List ℕ) → IsLeftBetween ghosts disk (disk_of log) image → image ≡ []
    nothing_since image between =
        let time = (opened.looked_at).time in
        ⊎_elim (λ past. nothing_now image (laws.only_now disk image (omega (arith, between.0, time.forgets)) past)) (λ is. fresh.now image is) (time.nothing_else (ghosts.moment disk) image between.0 (omega arith) between.1)

  none_safe : (disks : List D) (logs : List (LogWriter D ghosts)) (images : List (List ℕ)) → AllByRecursion (IsSafeDisk ghosts) disks → AllZip HasOpened disks logs → AllZip (IsLeftNow ghosts) disks images → AllByRecursion IsNothing images
  none_safe [] logs [] safe opened nows = tt
  none_safe [] logs (i ∷ images) safe opened nows = absurd nows
  none_safe (disk ∷ disks) logs [] safe opened nows = absurd nows
  none_safe (disk ∷ disks) [] (i ∷ images) safe opened nows = absurd opened
  none_safe (disk ∷ disks) (log ∷ logs) (i ∷ images) safe opened nows = (nothing_now disk log safe.0 opened.0 i nows.0, none_safe disks logs images safe.1 opened.1 nows.1)

  none_since : (disks : List D) (logs : List (LogWriter D ghosts)) (images : List (List ℕ)) → AllByRecursion (IsSafeDisk ghosts) disks → AllZip HasOpened disks logs → AreLeft ghosts disks (map (λ (l : LogWriter D ghosts). disk_of l) logs) images → AllByRecursion IsNothing images
  none_since [] logs images safe opened left = elim left [ ]
  none_since (disk ∷ disks) [] images safe opened left = absurd opened
  none_since (disk ∷ disks) (log ∷ logs) images safe opened (here {image = i} {images = more} between nows) = (nothing_since disk log safe.0 opened.0 i between, none_safe disks logs more safe.1 opened.1 nows)
  none_since (disk ∷ disks) (log ∷ logs) images safe opened (later {image = i} {images = more} now left) = ((fresh disk log safe.0 opened.0).now i now, none_since disks logs more safe.1 opened.1 left)

  all_fresh : (disks : List D) (logs : List (LogWriter D ghosts)) → AllByRecursion (IsSafeDisk ghosts) disks → AllZip HasOpened disks logs → AllByRecursion IsFresh logs
  all_fresh [] [] safe opened = tt
  all_fresh [] (log ∷ logs) safe opened = absurd opened
  all_fresh (disk ∷ disks) [] safe opened = absurd opened
  all_fresh (disk ∷ disks) (log ∷ logs) safe opened = (fresh disk log safe.0 opened.0, all_fresh disks logs safe.1 opened.1)

  safe_after : (disks : List D) → AllByRecursion (IsSafeDisk ghosts) disks → AreSafeAfterFirst ghosts disks
  safe_after [] safe = tt
  safe_after (disk ∷ disks) safe = ((safe.0.0, safe.0.1), safe.1)

  -- at any moment since the disks were handed in
  handed_each : (disks : List D) (started : List (LogWriter D ghosts)) (parts : List (List GroupCall)) (filled : List (LogWriter D ghosts)) (last : LogWriter D ghosts) (own : List GroupCall) (log : LogWriter D ghosts) (others : List (LogWriter D ghosts)) (images : List (List ℕ))
      → AreSafeAfterFirst ghosts disks → AllZip HasOpened disks (started ++ last ∷ others) → AreFilled started parts filled → AreLeft ghosts disks (map (λ (l : LogWriter D ghosts). disk_of l) (filled ++ log ∷ others)) images
      → HaveFront 0 (map written_by parts ++ begun_by own ∷ map (λ (l : LogWriter D ghosts). []) others) images
  handed_each [] started parts filled last own log others images safe opened are left = elim left [ ]
  handed_each (disk ∷ disks) [] [] [] last own log others images safe opened are (here {image = i} {images = more} between nows) =
      record { certain = 0; enough = omega arith; front = within (omega arith) (omega arith, refl) (none_safe disks others more safe.1 opened.1 nows) }
  handed_each (disk ∷ disks) [] [] [] last own log others images safe opened are (later {image = i} {images = more} now left) =
      record { certain = 0; enough = omega arith; front = within (omega arith) (omega arith, refl) (none_since disks others more safe.1 opened.1 left) }
  handed_each (disk ∷ disks) [] [] (n ∷ filled) last own log others images safe opened are left = absurd are
  handed_each (disk ∷ disks) [] (p ∷ parts) filled last own log others images safe opened are left = absurd are
  handed_each (disk ∷ disks) (s ∷ started) [] filled last own log others images safe opened are left = absurd are
  handed_each (disk ∷ disks) (s ∷ started) (p ∷ parts) [] last own log others images safe opened are left = absurd are
  handed_each (disk ∷ disks) (s ∷ started) (p ∷ parts) (n ∷ filled) last own log others images safe opened are (here {image = i} {images = more} between nows) =
      record { certain = 0; enough = omega arith; front = within (omega arith) (omega arith, refl) (none_safe disks (started ++ last ∷ others) more safe.1 opened.1 nows) }
  handed_each (disk ∷ disks) (s ∷ started) (p ∷ parts) (n ∷ filled) last own log others images safe opened are (later {image = i} {images = more} now left) =
      let t = handed_each disks started parts filled last own log others more (safe_after disks safe.1) opened.1 are.1 left in
      record { certain = length (written_by p) + t.certain; enough = omega arith; front = whole (filled_whole laws s (opened_at laws disk s safe.0.0 safe.0.1 opened.0) p n are.0 i now) t.front }

  filled_long : (olds : List (LogWriter D ghosts)) (parts : List (List GroupCall)) (news : List (LogWriter D ghosts)) → AreFilled olds parts news → length olds ≡ length news
  filled_long [] [] [] are = refl
  filled_long [] [] (n ∷ news) are = absurd are
  filled_long [] (p ∷ parts) news are = absurd are
  filled_long (o ∷ olds) [] news are = absurd are
  filled_long (o ∷ olds) (p ∷ parts) [] are = absurd are
  filled_long (o ∷ olds) (p ∷ parts) (n ∷ news) are = let rest = filled_long olds parts news are.1 in omega (arith, rest)

  -- Of two parts of the disks: where the crash came in the first, the others are as they were.
  left_drop : (olds news more_olds more_news : List D) (images : List (List ℕ)) → length olds ≡ length news → AreLeft ghosts (olds ++ more_olds) (news ++ more_news) images
      → (AllZip (IsLeftNow ghosts) more_olds (drop (length news) images)) ⊎ (AreLeft ghosts more_olds more_news (drop (length news) images))
  left_drop [] [] more_olds more_news images same left = inr left
  left_drop [] (n ∷ news) more_olds more_news images same left = absurd (omega (arith, same))
  left_drop (o ∷ olds) [] more_olds more_news images same left = absurd (omega (arith, same))
  left_drop (o ∷ olds) (n ∷ news) more_olds more_news images same (here {image = i} {images = others} between nows) =
      let long : length olds ≡ length news = omega (arith, same) in
      inl (subst (λ (k : ℕ). AllZip (IsLeftNow ghosts) more_olds (drop k others)) long (zip_drop (IsLeftNow ghosts) olds more_olds others nows))
  left_drop (o ∷ olds) (n ∷ news) more_olds more_news images same (later {image = i} {images = others} now left) = left_drop olds news more_olds more_news others (omega (arith, same)) left

  module _ (disks : List D) (opened : LogSet D ghosts) (safe_disks : AreSafeAfterFirst ghosts disks) (has : HasOpenedSet disks opened) where
    pub handed_in : (calls : List GroupCall) (now : LogSet D ghosts) → WroteSet opened calls now → (hold : HoldLogs now calls) → (images : List (List ℕ)) → AreLeft ghosts disks (disks_of now) images → HaveFront 0 (begun_logs hold) images
    unfolding hold_logs
    handed_in calls now wrote hold images left =
        let s : IsSplit opened calls now = split_so opened calls now has.fault wrote in
        let h : HoldLogs now calls = hold_logs laws disks opened now calls has s in
        subst (λ (logs : List (List (List ℕ))). HaveFront 0 logs images) (one_begun now calls h hold)
        (handed_each disks s.started s.parts s.filled s.last s.own (current_of now) (later_of now) images safe_disks
        (subst (λ (l : List (LogWriter D ghosts)). AllZip HasOpened disks l) s.begun (logs_opened laws disks opened now calls has s)) s.are_filled
        (subst (λ (l : List (LogWriter D ghosts)). AreLeft ghosts disks (map (λ (x : LogWriter D ghosts). disk_of x) (l ++ current_of now ∷ later_of now)) images) (full_is laws disks opened now calls has s) left))

    -- The logs of a set that nothing was written to yet, which were opened on the last of the disks.
    module _ (calls : List GroupCall) (now : LogSet D ghosts) (wrote : WroteSet opened calls now) where
      split : IsSplit opened calls now
      split = split_so opened calls now has.fault wrote

      -- the disks of the logs that have begun, and the others
      in_parts : AreParts HasOpened disks (split.started ++ split.last ∷ []) (later_of now)
      in_parts =
          zip_parts HasOpened disks (split.started ++ split.last ∷ []) (later_of now)
          (subst (λ (l : List (LogWriter D ghosts)). AllZip HasOpened disks l) (split.begun ∙ sym (append_assoc split.started (split.last ∷ []) (later_of now))) (logs_opened laws disks opened now calls has split))

      others_safe : AllByRecursion (IsSafeDisk ghosts) in_parts.others
      others_safe = by_first in_parts.first in_parts.others split.started in_parts.of_front (subst (AreSafeAfterFirst ghosts) in_parts.cut safe_disks)
        where
          by_first : (first others : List D) (started : List (LogWriter D ghosts)) → AllZip HasOpened first (started ++ split.last ∷ []) → AreSafeAfterFirst ghosts (first ++ others) → AllByRecursion (IsSafeDisk ghosts) others
          by_first [] others [] paired safe = absurd paired
          by_first [] others (s ∷ started) paired safe = absurd paired
          by_first (disk ∷ first) others started paired safe = all_back (IsSafeDisk ghosts) first others safe.1

      many : length (begun_in now) ≡ length in_parts.first
      many = omega (arith, zip_long HasOpened in_parts.first (split.started ++ split.last ∷ []) in_parts.of_front, length-append split.started (split.last ∷ []), length-append (full_of now) (current_of now ∷ []), ap length (full_is laws disks opened now calls has split), filled_long split.started split.parts split.filled split.are_filled)

      -- the disks in the same two parts
      begun_disks : List D
      begun_disks = map (λ (l : LogWriter D ghosts). disk_of l) (begun_in now)

      other_disks : List D
      other_disks = map (λ (l : LogWriter D ghosts). disk_of l) (later_of now)

      now_parts : disks_of now ≡ begun_disks ++ other_disks
      unfolding begun_disks other_disks
      now_parts =
          ap (λ (l : List (LogWriter D ghosts)). map (λ (x : LogWriter D ghosts). disk_of x) l) (sym (append_assoc (full_of now) (current_of now ∷ []) (later_of now))) ∙ map-append (λ (x : LogWriter D ghosts). disk_of x) (begun_in now) (later_of now)

      begun_many : length begun_disks ≡ length (begun_in now)
      unfolding begun_disks
      begun_many = length-map (begun_in now) (λ (x : LogWriter D ghosts). disk_of x)

      abbrev Unused : List (List ℕ) → Type 0
      Unused images = AllByRecursion IsNothing (drop (length (begun_in now)) images)

      others_fresh : AllByRecursion IsFresh (later_of now)
      others_fresh = all_fresh in_parts.others (later_of now) others_safe in_parts.of_back

      pub unused_now : (images : List (List ℕ)) → AllZip (IsLeftNow ghosts) (disks_of now) images → Unused images
      unfolding other_disks
      unused_now images nows =
          let rest = zip_drop (IsLeftNow ghosts) begun_disks other_disks images (subst (λ (l : List D). AllZip (IsLeftNow ghosts) l images) now_parts nows) in
          none_now (later_of now) (drop (length (begun_in now)) images) others_fresh (subst (λ (k : ℕ). AllZip (IsLeftNow ghosts) other_disks (drop k images)) begun_many rest)

      pub unused_handed_in : (images : List (List ℕ)) → AreLeft ghosts disks (disks_of now) images → Unused images
      unfolding other_disks
      unused_handed_in images left =
          let cut : AreLeft ghosts (in_parts.first ++ in_parts.others) (begun_disks ++ other_disks) images = subst (λ (z : List D × List D). AreLeft ghosts z.0 z.1 images) (λ i. (in_parts.cut i, now_parts i)) left in
          let long : length in_parts.first ≡ length begun_disks = omega (arith, many, begun_many) in
          subst (λ (k : ℕ). AllByRecursion IsNothing (drop k images)) begun_many
          (⊎_elim (λ nows. none_safe in_parts.others (later_of now) (drop (length begun_disks) images) others_safe in_parts.of_back nows)
          (λ lefts. none_since in_parts.others (later_of now) (drop (length begun_disks) images) others_safe in_parts.of_back lefts)
          (left_drop in_parts.first begun_disks in_parts.others other_disks images long cut))

      -- where the crash came between two states, and the later logs are the last ones of the first state too
      unused_since : (front : List (LogWriter D ghosts)) (olds : List D) (images : List (List ℕ)) → olds ≡ map (λ (l : LogWriter D ghosts). disk_of l) (front ++ later_of now) → length front ≡ length (begun_in now) → AreLeft ghosts olds (disks_of now) images → Unused images
      unfolding other_disks
      unused_since front olds images are long left =
          let front_disks : List D = map (λ (l : LogWriter D ghosts). disk_of l) front in
          let old_parts : olds ≡ front_disks ++ other_disks = are ∙ map-append (λ (x : LogWriter D ghosts). disk_of x) front (later_of now) in
          let cut : AreLeft ghosts (front_disks ++ other_disks) (begun_disks ++ other_disks) images = subst (λ (z : List D × List D). AreLeft ghosts z.0 z.1 images) (λ i. (old_parts i, now_parts i)) left in
          let as_many : length front_disks ≡ length begun_disks = omega (arith, long, begun_many, length-map front (λ (x : LogWriter D ghosts). disk_of x)) in
          subst (λ (k : ℕ). AllByRecursion IsNothing (drop k images)) begun_many
          (⊎_elim (λ nows. none_now (later_of now) (drop (length begun_disks) images) others_fresh nows)
          (λ lefts. none_still (later_of now) (drop (length begun_disks) images) others_fresh lefts)
          (left_drop front_disks begun_disks other_disks other_disks images as_many cut))

    module _ (between last : LogSet D ghosts) (before after : List GroupCall) (wrote : WroteSet opened before between) where
      unused_alive : WroteSet between after last → fault_in between ≡ None → (images : List (List ℕ)) → AreLeft ghosts (disks_of between) (disks_of last) images → AllByRecursion IsNothing (drop (length (begun_in last)) images)
      unused_alive more none images left =
          let second : IsSplit between after last = split_so between after last none more in
          let front : List (LogWriter D ghosts) = full_of between ++ (second.started ++ second.last ∷ []) in
          let logs : logs_of between ≡ front ++ later_of last =
          ap (λ (l : List (LogWriter D ghosts)). full_of between ++ l) (second.begun ∙ sym (append_assoc second.started (second.last ∷ []) (later_of last))) ∙ sym (append_assoc (full_of between) (second.started ++ second.last ∷ []) (later_of last)) in
          let long : length front ≡ length (begun_in last) =
          omega (arith, length-append (full_of between) (second.started ++ second.last ∷ []), length-append second.started (second.last ∷ []), length-append (full_of last) (current_of last ∷ []), ap length second.full, length-append second.kept second.filled, zip_long WasRead (full_of between) second.kept second.were_read, filled_long second.started second.parts second.filled second.are_filled) in
          unused_since (before ++ after) last (wrote_more opened between last before after wrote more) front (disks_of between) images (ap (λ (l : List (LogWriter D ghosts)). map (λ (x : LogWriter D ghosts). disk_of x) l) logs) long left

      pub unused_between : WroteSet between after last → (images : List (List ℕ)) → AreLeft ghosts (disks_of between) (disks_of last) images → AllByRecursion IsNothing (drop (length (begun_in last)) images)
      unused_between more = by_fault (fault_in between) refl
        where
          by_fault : (f : Option ℕ) → fault_in between ≡ f → (images : List (List ℕ)) → AreLeft ghosts (disks_of between) (disks_of last) images → AllByRecursion IsNothing (drop (length (begun_in last)) images)
          by_fault None none = unused_alive more none
          by_fault (Some count) dead = λ images left.
              let r = dead_calls between after last count dead more in
              subst (λ (n : ℕ). AllByRecursion IsNothing (drop n images)) (sym (as_many_begun between last r))
              (unused_now before between wrote images (all_left_read laws (logs_of between) (logs_of last) images (all_were_read between last r) left))
