-- What images hold of the calls that have synced, at any moment since the log was opened.
use Rattle.std.proofs.Common.{◌≡◌, ◌⊎◌, inl, inr, ⊎_elim, ℕ, zero, suc, ◌+◌, ◌<◌, ◌≤◌, min, max, true, List, [], ◌∷◌, ◌++◌, length, take, slice_get, Option, Some, None, IfSome, IsSomeAnd, refl, sym, ◌∙◌, ap, subst, arith, length-append}
use Rattle.std.proofs.Math.Seq.{take-take}
use Rattle.std.proofs.lemmas.List.{take-append-le, take_all}
use Rattle.std.proofs.lemmas.Option.{same_Some, slice_get_within}
use Rattle.base_devices.specs.Disk.{Disk, IsImage, Told, LeavesOnly}
use Rattle.base_devices.specs.declared.disk.Disk.{Ghosts}
use Rattle.model_base.specs.Log.{record_text, Beginning, text_after}
use Rattle.log_writer.specs.declared.writer.LogWriter.{LogWriter}
use Rattle.log_writer.specs.Crashes.{KeepsSafe, reach_with, MayBeLeft, HoldsUpTo}
use Rattle.log_writer.specs.Words.{disk_of, number_of, len_of, fault_of}
use Rattle.log_writer.specs.Opening.{MayBeLeftOf, HasKeptBytes, HasBegun}
use Rattle.log_writer.specs.Adding.{GroupCall, record_of_call, Adds}
use Rattle.log_writer.specs.Reads.{WasRead}
use Rattle.log_writer.specs.Written.{Wrote, no_call, one_more, read, IsWritten, if_worked, first_fault, written_by, begun_by, HaveSynced, HoldsCalls, HoldsSynced, Stands}
use Rattle.log_writer.proofs.Calls.{written_more, begun_more, begun_written, written_len, none_more}
use Rattle.log_writer.proofs.Keeping.{after_more, after_front, after_shorter}
use Rattle.log_writer.proofs.Putting.{keeps_image, leaves_so, leaves_more, leaves_time}
use Rattle.log_writer.proofs.Standing.{len_after, stands_first, stands_written}
use Rattle.log_writer.proofs.Surviving.{Laws, safe_begins}

-- What an image holds of the calls so far.

-- a call that worked and was to sync is among the first n, if all such calls are
is_among : (calls : List GroupCall) (n k : ℕ) (c : GroupCall) → HaveSynced calls n → slice_get calls k ≡ Some c → c.failed ≡ None → c.sync ≡ true → k < n
is_among [] n k c have at worked asked = absurd (cc)
is_among (d ∷ calls) zero zero c have at worked asked = absurd (subst (λ (x : GroupCall). x.failed ≡ None → x.sync ≡ true → ⊥) (same_Some d c at) have.0 worked asked)
is_among (d ∷ calls) zero (suc k) c have at worked asked = let before = is_among calls zero k c have.1 at worked asked in omega (arith, before)
is_among (d ∷ calls) (suc n) zero c have at worked asked = omega arith
is_among (d ∷ calls) (suc n) (suc k) c have at worked asked = let before = is_among calls n k c have at worked asked in omega (arith, before)

-- so an image that keeps what was safe begins with the text up to the end of its record
pub holds_synced : (b : Beginning) (reached : ℕ) (d : Disk) (calls : List GroupCall) (safe : ℕ) (image : List ℕ) → HoldsCalls b d calls safe → KeepsSafe d image → HoldsSynced b reached calls image
holds_synced b reached d calls safe image holds keeps = λ k c at worked asked longer past.
    let among : k < safe = is_among calls safe k c holds.have_synced at worked asked in
    let all : List (List ℕ) = take safe (written_by calls) in
    let n : ℕ = length (text_after b all) in
    let m : ℕ = length (text_after b (take (k + 1) all)) in
    let same : take (k + 1) all ≡ take (k + 1) (written_by calls) = take-take (k + 1) safe (written_by calls) (omega (arith, among)) in
    let begins = safe_begins b d calls safe image holds keeps in
    let there : take m image ≡ text_after b (take (k + 1) all) = sym (take-take m n image (after_shorter b all (k + 1))) ∙ (ap (take m) begins.1 ∙ after_front b all (k + 1)) in
    subst (λ (l : List (List ℕ)). take (length (text_after b l)) image ≡ text_after b l) same there

-- What an image holds with one call more.

-- a call among these is one of those before, or the last one
in_more : (calls : List GroupCall) (c : GroupCall) (k : ℕ) (e : GroupCall) → slice_get (calls ++ c ∷ []) k ≡ Some e → (slice_get calls k ≡ Some e) ⊎ ((k ≡ length calls) × (c ≡ e))
in_more [] c zero e at = inr (refl, same_Some c e at)
in_more [] c (suc k) e at = absurd (cc)
in_more (d ∷ calls) c zero e at = inl at
in_more (d ∷ calls) c (suc k) e at = ⊎_elim (λ before. inl before) (λ last. inr (ap (λ (n : ℕ). suc n) last.0, last.1)) (in_more calls c k e at)

-- how far an image may reach: as far as writes could come at first, or to the end of what was begun
abbrev farthest : Beginning → ℕ → List GroupCall → ℕ
farthest b reached calls = max reached (length (text_after b (begun_by calls)))

-- With one call more, an image that reaches no further holds no less.
held_more : (b : Beginning) (reached : ℕ) (calls : List GroupCall) (c : GroupCall) (image : List ℕ) → first_fault calls ≡ None → length image ≤ farthest b reached (calls ++ c ∷ []) → HoldsSynced b reached calls image
    → HoldsSynced b reached (calls ++ c ∷ []) image
held_more b reached calls c image none within holds = λ k e at worked asked longer past. ⊎_elim
    (λ before.
    let some : k + 1 ≤ length (written_by calls) = let k_within = slice_get_within calls k e before in omega (arith, k_within, written_len calls none) in
    let same : take (k + 1) (written_by (calls ++ c ∷ [])) ≡ take (k + 1) (written_by calls) =
    ap (take (k + 1)) (written_more calls c none) ∙ take-append-le (k + 1) (written_by calls) (if_worked c.failed (record_of_call c ∷ []) []) some in
    subst (λ (l : List (List ℕ)). HoldsUpTo reached (text_after b l) image) (sym same) (holds k e before worked asked) longer past)
    (λ last.
    let written : written_by (calls ++ c ∷ []) ≡ begun_by (calls ++ c ∷ []) =
    written_more calls c none ∙ (ap (λ (f : Option ℕ). written_by calls ++ if_worked f (record_of_call c ∷ []) []) (ap (λ (x : GroupCall). x.failed) last.1 ∙ worked) ∙ sym (begun_more calls c none)) in
    let many : length (begun_by (calls ++ c ∷ [])) ≡ k + 1 =
    omega (arith, ap length (begun_more calls c none), length-append (written_by calls) (record_of_call c ∷ []), written_len calls none, last.0) in
    let all : take (k + 1) (written_by (calls ++ c ∷ [])) ≡ begun_by (calls ++ c ∷ []) = ap (take (k + 1)) written ∙ take_all (k + 1) (begun_by (calls ++ c ∷ [])) (omega (arith, many)) in
    absurd (omega (arith, within, longer, past, len_after b (take (k + 1) (written_by (calls ++ c ∷ []))) (begun_by (calls ++ c ∷ [])) all)))
    (in_more calls c k e at)

-- After a fault, one call more gives nothing more to hold.
held_dead : (b : Beginning) (reached : ℕ) (calls : List GroupCall) (c : GroupCall) (count : ℕ) (image : List ℕ) → first_fault calls ≡ Some count → c.failed ≡ Some count → HoldsSynced b reached calls image → HoldsSynced b reached (calls ++ c ∷ []) image
held_dead b reached calls c count image dead failed holds = λ k e at worked asked. ⊎_elim
    (λ before. subst (λ (l : List (List ℕ)). HoldsUpTo reached (text_after b (take (k + 1) l)) image) (sym (none_more calls (c ∷ []) count dead).written) (holds k e before worked asked))
    (λ last. let wrong : ◌≡◌ {A = Option ℕ} None (Some count) = sym worked ∙ (ap (λ (x : GroupCall). x.failed) (sym last.1) ∙ failed) in absurd (cc))
    (in_more calls c k e at)

-- what is known of an image, and is carried on from call to call
record IsHeld (b : Beginning) (reached : ℕ) (calls : List GroupCall) (image : List ℕ) : Type 0 where
  holds : HoldsSynced b reached calls image
  within : length image ≤ farthest b reached calls

-- It is known of each image that a crash may leave now.
held_now : (b : Beginning) (reached : ℕ) (calls : List GroupCall) (a : Option Disk) (image : List ℕ) → IfSome a (λ d. (safe : ℕ) × HoldsCalls b d calls safe) → IsSomeAnd a (λ d. d.reach ≤ farthest b reached calls) → IfSome a (λ d. IsImage d image) → IsHeld b reached calls image
held_now b reached calls None image holds reach is = absurd reach
held_now b reached calls (Some x) image holds reach is =
    let within : length image ≤ farthest b reached calls = omega (arith, is.no_longer, reach) in
    record { holds = holds_synced b reached x calls holds.0 image holds.1 (keeps_image x image is); within = within }

-- A call that puts its record after those of calls that all worked.
module _ (b : Beginning) (reached : ℕ) (calls : List GroupCall) (c : GroupCall) (len : ℕ) (number : Option ℕ) (none : first_fault calls ≡ None) (same : number ≡ b.number) (len_is : len ≡ length (text_after b (written_by calls))) where
  abbrev bytes : List ℕ
  bytes = record_text number len (record_of_call c)

  -- where its record ends
  begun_len : length (text_after b (begun_by (calls ++ c ∷ []))) ≡ length (text_after b (begun_by calls)) + length bytes
  begun_len =
      let front : List ℕ = text_after b (written_by calls) in
      let text_is : text_after b (begun_by (calls ++ c ∷ [])) ≡ front ++ bytes =
      ap (text_after b) (begun_more calls c none) ∙ (after_more b (written_by calls) (record_of_call c)
      ∙ (ap (λ (n : ℕ). front ++ record_text b.number n (record_of_call c)) (sym len_is) ∙ ap (λ (m : Option ℕ). front ++ record_text m len (record_of_call c)) (sym same))) in
      omega (arith, ap length text_is, length-append front bytes, len_after b (begun_by calls) (written_by calls) (begun_written calls none))

  held_before : (image : List ℕ) → IsHeld b reached calls image → IsHeld b reached (calls ++ c ∷ []) image
  held_before image held =
      let within : length image ≤ farthest b reached (calls ++ c ∷ []) = omega (arith, held.within, begun_len) in
      record { holds = held_more b reached calls c image none within held.holds; within = within }

  -- where the disk's place is before the call
  place_is : (x : Disk) (safe : ℕ) → HoldsCalls b x calls safe → x.place ≡ length (text_after b (begun_by calls))
  place_is x safe holds = holds.place none ∙ sym (len_after b (begun_by calls) (written_by calls) (begun_written calls none))

  held_in : (a : Option Disk) (image : List ℕ) → IfSome a (λ d. (safe : ℕ) × HoldsCalls b d calls safe) → IsSomeAnd a (λ d. d.reach ≤ farthest b reached calls) → MayBeLeft a (length bytes) image → IsHeld b reached (calls ++ c ∷ []) image
  held_in None image holds reach left = absurd reach
  held_in (Some x) image holds reach left =
      let within : length image ≤ farthest b reached (calls ++ c ∷ []) = omega (arith, left.no_longer, reach, place_is x holds.0 holds.1, begun_len) in
      record { holds = held_more b reached calls c image none within (holds_synced b reached x calls holds.0 image holds.1 left.safe); within = within }

  reach_in : (a now : Option Disk) → IfSome a (λ d. (safe : ℕ) × HoldsCalls b d calls safe) → IsSomeAnd a (λ d. d.reach ≤ farthest b reached calls) → Told a now (λ x y. y.reach ≤ reach_with x (length bytes))
      → IsSomeAnd now (λ d. d.reach ≤ farthest b reached (calls ++ c ∷ []))
  reach_in None now holds reach told = absurd reach
  reach_in (Some x) None holds reach told = absurd told
  reach_in (Some x) (Some y) holds reach told = omega (arith, told, reach, place_is x holds.0 holds.1, begun_len)

-- From the opening of the log on.

module _ {D : Type 0} {ghosts : Ghosts D} (laws : Laws ghosts) (b : Beginning) (disk : D) (first : Disk) (first_is : ghosts.told disk ≡ Some first) where
  record Held (calls : List GroupCall) (log : LogWriter D ghosts) : Type 0 where
    reach : IsSomeAnd (ghosts.told (disk_of log)) (λ d. d.reach ≤ farthest b first.reach calls)
    leaves : LeavesOnly ghosts.moment ghosts.from ghosts.since disk (disk_of log) (IsHeld b first.reach calls)

  held_image : (a : Option Disk) (image : List ℕ) → a ≡ Some first → MayBeLeftOf a (length b.kept) image → IsHeld b first.reach [] image
  held_image a image e is =
      let of_first : IsImage (record first { synced = min first.synced (length b.kept) }) image = subst (λ (told : Option Disk). MayBeLeftOf told (length b.kept) image) e is in
      record { holds = λ k c at worked asked. absurd (cc); within = omega (arith, of_first.no_longer) }

  reach_first : (a now : Option Disk) → a ≡ Some first → Told a now (HasKeptBytes b) → IsSomeAnd now (λ d. d.reach ≤ farthest b first.reach [])
  reach_first a now e told = by_now now (subst (λ (t : Option Disk). Told t now (HasKeptBytes b)) e told)
    where
      by_now : (now : Option Disk) → Told (Some first) now (HasKeptBytes b) → IsSomeAnd now (λ d. d.reach ≤ farthest b first.reach [])
      by_now None behind = absurd behind
      by_now (Some y) behind = omega (arith, behind.reach)

  held_first : (begun : LogWriter D ghosts) → HasBegun b disk begun → Held [] begun
  held_first begun has = record {
    reach = reach_first (ghosts.told disk) (ghosts.told (disk_of begun)) first_is has.told;
    leaves = leaves_so ghosts.moment ghosts.from ghosts.since (MayBeLeftOf (ghosts.told disk) (length b.kept)) (IsHeld b first.reach []) disk (disk_of begun) has.crash
        (λ image left. held_image (ghosts.told disk) image first_is left);
  }

  held_call : (calls : List GroupCall) (c : GroupCall) (now new : LogWriter D ghosts) → Stands b calls now → Held calls now → Adds c now new → Held (calls ++ c ∷ []) new
  held_call calls c now new stands held adds = by_fault (fault_of now) refl adds.dead
    where
      by_fault : (f : Option ℕ) → fault_of now ≡ f → IfSome f (λ count. (c.failed ≡ Some count) × (new ≡ now)) → Held (calls ++ c ∷ []) new
      by_fault None is_none kept =
          let none : first_fault calls ≡ None = sym stands.fault ∙ is_none in
          let put = adds.put is_none in
          let a : Option Disk = ghosts.told (disk_of now) in
          let P : List ℕ → Type 0 = IsHeld b first.reach (calls ++ c ∷ []) in
          let Q : List ℕ → Type 0 = MayBeLeft a (length (record_text (number_of now) (len_of now) (record_of_call c))) in
          let earlier : LeavesOnly ghosts.moment ghosts.from ghosts.since disk (disk_of now) P =
          leaves_so ghosts.moment ghosts.from ghosts.since (IsHeld b first.reach calls) P disk (disk_of now) held.leaves (held_before b first.reach calls c (len_of now) (number_of now) none stands.number_is stands.len) in
          record {
            reach = reach_in b first.reach calls c (len_of now) (number_of now) none stands.number_is stands.len a (ghosts.told (disk_of new)) stands.told held.reach put.reached;
            leaves = leaves_more ghosts.moment ghosts.from ghosts.since P Q disk (disk_of now) (disk_of new) earlier put.crash
                (λ image left. held_in b first.reach calls c (len_of now) (number_of now) none stands.number_is stands.len a image stands.told held.reach left);
          }
      by_fault (Some count) is_some kept =
          let dead : first_fault calls ≡ Some count = sym stands.fault ∙ is_some in
          let same : begun_by (calls ++ c ∷ []) ≡ begun_by calls = (none_more calls (c ∷ []) count dead).begun in
          let len : length (text_after b (begun_by (calls ++ c ∷ []))) ≡ length (text_after b (begun_by calls)) = len_after b (begun_by (calls ++ c ∷ [])) (begun_by calls) same in
          subst (λ (log : LogWriter D ghosts). Held (calls ++ c ∷ []) log) (sym kept.1) (record {
            reach = subst (λ (l : List (List ℕ)). IsSomeAnd (ghosts.told (disk_of now)) (λ d. d.reach ≤ max first.reach (length (text_after b l)))) (sym same) held.reach;
            leaves = leaves_so ghosts.moment ghosts.from ghosts.since (IsHeld b first.reach calls) (IsHeld b first.reach (calls ++ c ∷ [])) disk (disk_of now) held.leaves
                (λ image h. record { holds = held_dead b first.reach calls c count image dead kept.0 h.holds; within = let h_within = h.within in omega (arith, h_within, len) });
          })

  -- reading changes nothing of it
  held_read : (calls : List GroupCall) (now new : LogWriter D ghosts) → Stands b calls now → Held calls now → WasRead now new → Held calls new
  held_read calls now new stands held r =
      let a : Option Disk = ghosts.told (disk_of now) in
      let Q : List ℕ → Type 0 = λ image. IfSome a (λ d. IsImage d image) in
      let leaves : LeavesOnly ghosts.moment ghosts.from ghosts.since (disk_of now) (disk_of new) Q =
      leaves_time ghosts (disk_of now) (disk_of new) Q (laws.only_now (disk_of now)) r.disk.time (λ image is. is) (λ image is. subst (λ (t : Option Disk). IfSome t (λ d. IsImage d image)) r.disk.same is) in
      record {
        reach = subst (λ (t : Option Disk). IsSomeAnd t (λ d. d.reach ≤ farthest b first.reach calls)) (sym r.disk.same) held.reach;
        leaves = leaves_more ghosts.moment ghosts.from ghosts.since (IsHeld b first.reach calls) Q disk (disk_of now) (disk_of new) held.leaves leaves
            (λ image is. held_now b first.reach calls a image stands.told held.reach is);
      }

  held_calls : (begun : LogWriter D ghosts) (calls : List GroupCall) (new : LogWriter D ghosts) → HasBegun b disk begun → Wrote begun calls new → Held calls new
  held_calls begun calls new has no_call = held_first begun has
  held_calls begun calls new has (one_more {calls = before} {now = now} c wrote adds) =
      held_call before c now new (stands_written laws.is_disk b begun before now (stands_first b disk begun has) wrote) (held_calls begun before now has wrote) adds
  held_calls begun calls new has (read {now = now} wrote r) =
      held_read calls now new (stands_written laws.is_disk b begun calls now (stands_first b disk begun has) wrote) (held_calls begun calls now has wrote) r

  held_all : (calls : List GroupCall) (log : LogWriter D ghosts) → IsWritten b disk calls log → LeavesOnly ghosts.moment ghosts.from ghosts.since disk (disk_of log) (HoldsSynced b first.reach calls)
  held_all calls log is =
      leaves_so ghosts.moment ghosts.from ghosts.since (IsHeld b first.reach calls) (HoldsSynced b first.reach calls) disk (disk_of log) (held_calls is.begun calls log is.has_begun is.wrote).leaves (λ image held. held.holds)

-- the same, if the disk tells its content
pub held_so : {D : Type 0} {ghosts : Ghosts D} (laws : Laws ghosts) (b : Beginning) (disk : D) (calls : List GroupCall) (log : LogWriter D ghosts) → IsWritten b disk calls log
    → IfSome (ghosts.told disk) (λ d. LeavesOnly ghosts.moment ghosts.from ghosts.since disk (disk_of log) (HoldsSynced b d.reach calls))
held_so {ghosts = ghosts} laws b disk calls log is = by_told (ghosts.told disk) refl
  where
    by_told : (told : Option Disk) → ghosts.told disk ≡ told → IfSome told (λ d. LeavesOnly ghosts.moment ghosts.from ghosts.since disk (disk_of log) (HoldsSynced b d.reach calls))
    by_told None e = tt
    by_told (Some d) e = held_all laws b disk d e calls log is
