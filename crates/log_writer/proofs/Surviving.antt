-- What a crash at any moment of many calls leaves.
use Rattle.std.proofs.Common.{◌≡◌, ℕ, ◌≤◌, Bool, List, [], ◌++◌, length, take, Option, Some, None, Result, Ok, Err, IfSome, refl, sym, ◌∙◌, ap, subst, arith, length-append}
use Rattle.std.proofs.Math.Seq.{take-take}
use Rattle.std.proofs.lemmas.List.{take-append-le, append-nil}
use Rattle.base_devices.specs.Disk.{Disk, IsDisk, IsImage, Told, LeavesOnly}
use Rattle.base_devices.specs.declared.disk.Disk.{Ghosts}
use Rattle.model_base.specs.Counts.{Rose}
use Rattle.model_base.specs.Log.{record_text, Beginning, text_after}
use Rattle.log_laws.specs.Prefixes.{BeginsWith}
use Rattle.log_writer.specs.declared.writer.LogWriter.{LogWriter}
use Rattle.log_writer.specs.Crashes.{safe_len, KeepsSafe, KeepsWhatWasSafe, KeepsPrefix}
use Rattle.log_writer.specs.Puts.{StaysInFront, ArePut, Puts}
use Rattle.log_writer.specs.Words.{disk_of, number_of, len_of, fault_of}
use Rattle.log_writer.specs.Adding.{GroupCall, record_of_call, answer_of, Adds}
use Rattle.log_writer.specs.Reads.{WasRead}
use Rattle.log_writer.specs.Written.{Wrote, no_call, one_more, read, IsWritten, written_by, begun_by, HoldsCalls, HasCauseSince}
use Rattle.log_writer.specs.FaultLaws.{Caused, caused_calls}
use Rattle.log_writer.proofs.Calls.{begun_front}
use Rattle.log_writer.proofs.Keeping.{after_front, after_shorter, front_kept, image_keeps, keeps_prefix, leaves_safe, leaves_same}
use Rattle.log_writer.proofs.Putting.{told_more, told_is, leaves_so, leaves_more, leaves_time, stays_more, stays_self, put_stays, keeps_before, keeps_image}

put_stays_so : {T E : Type 0} (x y : Disk) (bytes : List ℕ) (sync : Bool) (r : Result T E) → IsDisk x → ArePut x y bytes sync r → StaysInFront x y
put_stays_so x y bytes sync (Ok t) is put = put_stays x y bytes sync is put
put_stays_so x y bytes sync (Err e) is put = put.stays

told_none : (a : Option Disk) → Told a a StaysInFront
told_none None = tt
told_none (Some x) = stays_self x

pub safe_before : (a b : Option Disk) (image : List ℕ) → Told a b StaysInFront → KeepsWhatWasSafe b image → KeepsWhatWasSafe a image
safe_before None b image stays keeps = tt
safe_before (Some x) None image stays keeps = absurd stays
safe_before (Some x) (Some y) image stays keeps = keeps_before x y image stays keeps

-- what a disk promises
pub record Laws {D : Type 0} (ghosts : Ghosts D) : Type 0 where
  pub is_disk : (disk : D) → IfSome (ghosts.told disk) IsDisk
  pub only_now : (disk : D) (image : List ℕ) → ghosts.from disk ≤ ghosts.moment disk → ghosts.since disk (ghosts.moment disk) image → IfSome (ghosts.told disk) (λ d. IsImage d image)

module _ {D : Type 0} {ghosts : Ghosts D} (laws : Laws ghosts) where
  -- the calls change nothing in front of the place, and a crash leaves what was safe there before them
  pub record Survives (old new : LogWriter D ghosts) : Type 0 where
    pub stays : Told (ghosts.told (disk_of old)) (ghosts.told (disk_of new)) StaysInFront
    pub leaves : LeavesOnly ghosts.moment ghosts.from ghosts.since (disk_of old) (disk_of new) (KeepsWhatWasSafe (ghosts.told (disk_of old)))
    pub later : ghosts.faults (disk_of old) ≤ ghosts.faults (disk_of new)

  survives_none : (log : LogWriter D ghosts) → Survives log log
  survives_none log = record {
    stays = told_none (ghosts.told (disk_of log));
    leaves = leaves_same ghosts (disk_of log) (laws.only_now (disk_of log));
    later = omega arith;
  }

  pub survives_put : (old new : LogWriter D ghosts) (bytes : List ℕ) (sync : Bool) (r : Result (Unit {0}) ℕ) → Puts ghosts (disk_of old) (disk_of new) bytes sync r → Survives old new
  survives_put old new bytes sync r put = record {
    stays = told_is (ghosts.told (disk_of old)) (ghosts.told (disk_of new)) (laws.is_disk (disk_of old)) put.are_put (λ x y d p. put_stays_so x y bytes sync r d p);
    leaves = leaves_safe ghosts.moment ghosts.from ghosts.since (ghosts.told (disk_of old)) (length bytes) (disk_of old) (disk_of new) put.crash;
    later = (put.cause).later;
  }

  survives_call : (c : GroupCall) (old new : LogWriter D ghosts) → Adds c old new → Survives old new
  survives_call c old new adds = by_fault (fault_of old) refl adds.dead
    where
      by_fault : (f : Option ℕ) → fault_of old ≡ f → IfSome f (λ count. (c.failed ≡ Some count) × (new ≡ old)) → Survives old new
      by_fault None is_none kept = survives_put old new (record_text (number_of old) (len_of old) (record_of_call c)) c.sync (answer_of c.failed) (adds.put is_none)
      by_fault (Some count) is_some kept = subst (λ (log : LogWriter D ghosts). Survives old log) (sym kept.1) (survives_none old)

  -- reading changes nothing
  pub survives_read : (old new : LogWriter D ghosts) → WasRead old new → Survives old new
  survives_read old new r =
      let told = ghosts.told (disk_of old) in
      record {
        stays = subst (λ (t : Option Disk). Told told t StaysInFront) (sym r.disk.same) (told_none told);
        leaves = leaves_time ghosts (disk_of old) (disk_of new) (KeepsWhatWasSafe told) (laws.only_now (disk_of old)) r.disk.time (image_keeps told)
            (λ image is. image_keeps told image (subst (λ (t : Option Disk). IfSome t (λ d. IsImage d image)) r.disk.same is));
        later = r.disk.later;
      }

  pub survives_more : (a b c : LogWriter D ghosts) → Survives a b → Survives b c → Survives a c
  survives_more a b c first second = record {
    stays = told_more (ghosts.told (disk_of a)) (ghosts.told (disk_of b)) (ghosts.told (disk_of c)) first.stays second.stays stays_more;
    leaves = leaves_more ghosts.moment ghosts.from ghosts.since (KeepsWhatWasSafe (ghosts.told (disk_of a))) (KeepsWhatWasSafe (ghosts.told (disk_of b))) (disk_of a) (disk_of b) (disk_of c) first.leaves second.leaves
        (λ image keeps. safe_before (ghosts.told (disk_of a)) (ghosts.told (disk_of b)) image first.stays keeps);
    later = omega (arith, first.later, second.later);
  }

  pub survives : (old : LogWriter D ghosts) (calls : List GroupCall) (new : LogWriter D ghosts) → Wrote old calls new → Survives old new
  survives old calls new no_call = survives_none old
  survives old calls new (one_more {calls = before} {now = now} c wrote adds) = survives_more old now new (survives old before now wrote) (survives_call c now new adds)
  survives old calls new (read {now = now} wrote r) = survives_more old now new (survives old calls now wrote) (survives_read now new r)

  -- a fault came in one of the calls since the log was opened
  pub caused : (b : Beginning) (disk : D) (calls : List GroupCall) (log : LogWriter D ghosts) → IsWritten b disk calls log → HasCauseSince disk log
  caused b disk calls log is =
      let first : Caused (ghosts.faults disk) is.begun = record {
        later = omega (arith, (is.has_begun).no_fault);
        rose = subst (λ (f : Option ℕ). IfSome f (λ n. Rose (ghosts.faults disk) n × (n ≤ ghosts.faults (disk_of is.begun)))) (sym (is.has_begun).fault) tt;
      } in
      let since : Caused (ghosts.faults disk) log = caused_calls (ghosts.faults disk) is.begun calls log first is.wrote in
      record { later = since.later; rose = since.rose }

-- Each image begins with the text of the records that were safe.
pub safe_begins : (b : Beginning) (d : Disk) (calls : List GroupCall) (safe : ℕ) (image : List ℕ) → HoldsCalls b d calls safe → KeepsSafe d image → BeginsWith (text_after b (take safe (written_by calls))) image
safe_begins b d calls safe image holds keeps =
    let t : List ℕ = text_after b (take safe (written_by calls)) in
    let all : List ℕ = text_after b (written_by calls) in
    let n : ℕ = length t in
    let below : n ≤ length all = after_shorter b (written_by calls) safe in
    let within : n ≤ safe_len d = omega (arith, below, holds.behind, holds.synced) in (
      omega (arith, within, keeps.no_shorter),
      front_kept d image n within keeps ∙ (sym (take-take n (length all) d.content below) ∙ (ap (take n) (holds.content).1 ∙ after_front b (written_by calls) safe)),
    )

-- What was safe is found, whatever was written or begun after it.
pub holds_calls_keeps : (b : Beginning) (d : Disk) (calls more : List GroupCall) (safe : ℕ) (image : List ℕ) → HoldsCalls b d calls safe → KeepsSafe d image → KeepsPrefix b (begun_by (calls ++ more)) safe image
holds_calls_keeps b d calls more safe image holds keeps =
    let behind = begun_front calls more in
    let all : List (List ℕ) = begun_by (calls ++ more) in
    let same : take safe all ≡ take safe (written_by calls) = ap (take safe) behind.1 ∙ take-append-le safe (written_by calls) behind.0 holds.some in
    keeps_prefix b all safe image (omega (arith, holds.some, ap length behind.1, length-append (written_by calls) behind.0))
    (subst (λ (l : List (List ℕ)). BeginsWith (text_after b l) image) (sym same) (safe_begins b d calls safe image holds keeps))

-- the same at any moment of calls that follow some others
pub told_keeps : {D : Type 0} (moment from : D → ℕ) (since : D → ℕ → List ℕ → Type 0) (told : Option Disk) (old new : D) (b : Beginning) (before after : List GroupCall) → LeavesOnly moment from since old new (KeepsWhatWasSafe told)
    → IfSome told (λ d. (safe : ℕ) → HoldsCalls b d before safe → LeavesOnly moment from since old new (KeepsPrefix b (begun_by (before ++ after)) safe))
told_keeps moment from since None old new b before after leaves = tt
told_keeps moment from since (Some d) old new b before after leaves = λ safe holds.
    leaves_so moment from since (KeepsSafe d) (KeepsPrefix b (begun_by (before ++ after)) safe) old new leaves (λ image keeps. holds_calls_keeps b d before after safe image holds keeps)

pub told_begins : {D : Type 0} (moment from : D → ℕ) (since : D → ℕ → List ℕ → Type 0) (told : Option Disk) (old new : D) (b : Beginning) (before : List GroupCall) → LeavesOnly moment from since old new (KeepsWhatWasSafe told)
    → IfSome told (λ d. (safe : ℕ) → HoldsCalls b d before safe → LeavesOnly moment from since old new (BeginsWith (text_after b (take safe (written_by before)))))
told_begins moment from since None old new b before leaves = tt
told_begins moment from since (Some d) old new b before leaves = λ safe holds.
    leaves_so moment from since (KeepsSafe d) (BeginsWith (text_after b (take safe (written_by before)))) old new leaves (λ image keeps. safe_begins b d before safe image holds keeps)

-- and in each image that a crash may leave now
pub image_now : (told : Option Disk) (b : Beginning) (calls : List GroupCall) → IfSome told (λ d. (safe : ℕ) → HoldsCalls b d calls safe → (image : List ℕ) → IsImage d image → KeepsPrefix b (begun_by calls) safe image)
image_now None b calls = tt
image_now (Some d) b calls = λ safe holds image left.
    subst (λ (l : List GroupCall). KeepsPrefix b (begun_by l) safe image) (append-nil calls) (holds_calls_keeps b d calls [] safe image holds (keeps_image d image left))
