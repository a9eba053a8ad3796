-- What the log holds after a run of many clients, and what a crash leaves of it.
use Rattle.std.proofs.Common.{◌≡◌, ℕ, zero, suc, ◌+◌, ◌-◌, ◌<◌, ◌≤◌, Bool, List, [], ◌∷◌, ◌++◌, length, take, drop, map, flat_map, Option, Some, None, Result, IfSome, slice_get, refl, ap, sym, ◌∙◌, subst, arith, length-append, length-take}
use Rattle.std.proofs.lemmas.List.{take-append-le, append-nil}
use Rattle.std.specs.Prelude.{⊤}
use Rattle.std.specs.List.{AllByRecursion, AllZip}
use Rattle.model_base.specs.declared.limits.TheConstants.{MAX_CLIENTS}
use Rattle.base_devices.specs.Disk.{Disk, Told, IsImage, LeavesOnly}
use Rattle.base_devices.specs.declared.disk.Disk.{Ghosts}
use Rattle.model_base.specs.Log.{Beginning, text_after, SpellsWhole}
use Rattle.model_base.specs.History.{Entry, RunsFollow, IsHistory, last_sequence, logged_entries}
use Rattle.model_base.specs.Attempts.{Attempt}
use Rattle.model_base.specs.Groups.{Group}
use Rattle.model_base.specs.Trace.{Settings, Trace}
use Rattle.model_base.specs.Outcomes.{IsClient}
use Rattle.model_base.specs.Calls.{Outcome}
use Rattle.model_base.specs.LogContents.{records_of, IsLogOf}
use Rattle.model_base.specs.Recovery.{Logged, logged_bytes, NoChance}
use Rattle.log_laws.specs.Prefixes.{RecoversPrefix, BeginsWith}
use Rattle.log_laws.proofs.Placed.{length_map}
use Rattle.log_laws.proofs.Written.{text_spells, spells_on}
use Rattle.log_laws.proofs.Synced.{spells_one}
use Rattle.log_laws.proofs.Recovers.{recovers_front}
use Rattle.log_writer.specs.declared.writer.LogWriter.{LogWriter}
use Rattle.log_writer.specs.Words.{disk_of, len_of, fault_of}
use Rattle.log_writer.specs.Opening.{HasBegun}
use Rattle.log_writer.specs.Crashes.{AreRisingBatches}
use Rattle.log_writer.specs.Puts.{Puts}
use Rattle.log_writer.specs.Adding.{GroupCall, answer_of, text_at_end, Adds}
use Rattle.log_writer.specs.Reads.{WasRead}
use Rattle.log_writer.specs.Written.{Wrote, no_call, one_more, read, IsWritten, IsLeftSince, first_fault, written_by, HaveSynced as HaveCallsSynced, HoldsSynced as HoldsCallsSynced, HoldsCalls, IsTextOver, Stands}
use Rattle.log_writer.proofs.Calls.{synced_later}
use Rattle.log_writer.proofs.Keeping.{keeps_prefix, after_none}
use Rattle.model_runs.specs.Crashes.{IsImageSince, with_failed_record, HasSync, HasAllSafe, KeepsSynced, text_through, over, LeavesPrefix, IsCrashSafe}
use Rattle.run_outcome.specs.declared.log_start.LogStart.{LogStart}
use Rattle.run_outcome.specs.declared.log_start.LogStart.TheVariants.{New}
use Rattle.run_outcome.specs.Running.{Execution, Before, beginning_of, begun_on, IsRunOf, IfGoesOn, RecoversKept, SafeStays, AreReadable, batch_of_group, LeavesSafeLog, GoesOn}
use Rattle.model_runs.specs.Written.{WroteEntries, AreLost, WritesLog}
use Rattle.model_runs.proofs.Acknowledged.{acknowledged_stay}
use Rattle.run_execution.proofs.LoggedGroups.{IsBounded, Suits, each_has_entries, AreKept, rising_groups, readable_groups}
use Rattle.run_execution.proofs.GroupCalls.{written_front, safe_front, written_is, synced_is, held_is, kept_is, failed_write}

-- how the log of an execution begins
abbrev pub own : Execution → Beginning
own execution = beginning_of execution.start execution.before

-- What recovery finds

any_prefix : (b : Beginning) (kept records : List (List ℕ)) (image : List ℕ) → SpellsWhole b.number b.kept kept → NoChance b.number image (text_after b records) → RecoversPrefix b.number (kept ++ records) image (λ n. ⊤)
any_prefix b kept records image spells none r is =
    let front : map logged_bytes r.batches ≡ take (length r.batches) (kept ++ records) = recovers_front b.number image (text_after b records) (kept ++ records) r (spells_on b.number b.kept kept records spells) is none in
    record { many = length r.batches; some = omega (arith, ap length front, length_map logged_bytes r.batches, length-take (length r.batches) (kept ++ records)); same = front; enough = tt }

-- records with one that may have failed begin with the records
begins_with : (records : List (List ℕ)) (x : Option (List ℕ)) → (more : List (List ℕ)) × (with_failed_record records x ≡ records ++ more)
begins_with records None = ([], sym (append-nil records))
begins_with records (Some x) = (x ∷ [], refl)

-- what a log keeps: its bytes spell these batches, whose runs rise, up to a last sequence
pub record KeepsBatches (b : Beginning) (start : ℕ) (batches : List Logged) : Type 0 where
  pub records : List (List ℕ)
  pub spelled : SpellsWhole b.number b.kept records
  pub are : AreKept start records
  pub these : are.batches ≡ batches

-- a log may keep nothing
pub keeps_none : (number : Option ℕ) (start : ℕ) → KeepsBatches (record { number = number; kept = [] }) start []
keeps_none number start = record {
  records = [];
  spelled = text_spells number [];
  are = record { batches = []; same = refl; each = tt; rising = tt; below = omega arith };
  these = refl;
}

-- The calls that wrote the groups of a trace, and perhaps one that failed
module _ (b : Beginning) (trace : Trace) (batches : List Logged) (keeps : KeepsBatches b trace.start batches) (attempts : List (List Attempt)) (group_bytes : ℕ) (o : Outcome) (history : o.history ≡ trace.entries) (end : o.last ≡ last_sequence trace.start trace.entries) (is_history : IsHistory trace.start trace.entries)
    (suit : AllByRecursion Suits trace.entries) (groups : List (List Entry)) (calls lost : List GroupCall) (cut : flat_map (λ group. group) groups ≡ logged_entries trace.entries) (runs : AllByRecursion RunsFollow groups)
    (each : AllZip WroteEntries groups calls) (are : AreLost group_bytes attempts o.fault (last_sequence trace.start trace.entries) lost) where
  abbrev records : List (List ℕ)
  records = records_of groups

  abbrev last : ℕ
  last = last_sequence trace.start trace.entries

  abbrev all : List GroupCall
  all = calls ++ lost

  written : written_by all ≡ records
  written = written_is b group_bytes attempts last groups calls lost each o.fault are

  -- all that the log holds can be recovered
  can_be_read : AreReadable (batches ++ map batch_of_group groups)
  can_be_read = subst (λ (l : List Logged). AreReadable (l ++ map batch_of_group groups)) keeps.these (readable_groups trace.start trace.entries groups calls is_history suit cut runs each keeps.records keeps.are)

  module _ (begun : List ℕ) (d : Disk) (safe : ℕ) (holds : HoldsCalls b d all safe) (whole : first_fault all ≡ None → d.content ≡ over (text_after b (written_by all)) begun) where
    -- all that had to be synced is recovered
    at_end : LeavesPrefix group_bytes attempts o b groups (IsImage d) (HasAllSafe groups)
    at_end x may image is none kept spells r recovered =
        let some : safe ≤ length records = omega (arith, holds.some, ap length written) in
        let more = begins_with records x in
        let same : take safe (with_failed_record records x) ≡ take safe (written_by all) = ap (take safe) more.1 ∙ take-append-le safe records more.0 some ∙ ap (take safe) (sym written) in
        let found = keeps_prefix b (with_failed_record records x) safe image (omega (arith, some, ap length more.1, length-append records more.0))
        (subst (λ (l : List (List ℕ)). BeginsWith (text_after b l) image) (sym same) (safe_front b d all safe image holds is)) in
        let one : kept ≡ keeps.records = spells_one b.number b.kept kept keeps.records spells keeps.spelled in
        let rising = subst AreRisingBatches (sym (ap (λ (l : List (List ℕ)). l ++ take safe (with_failed_record records x)) one ∙ ap (λ (l : List (List ℕ)). keeps.records ++ l) (same ∙ ap (take safe) written)))
        (rising_groups trace.start trace.entries groups calls safe is_history suit cut runs each keeps.records keeps.are) in
        let prefix = found.recovered kept spells rising none r recovered in
        let enough : length kept + safe ≤ prefix.many = prefix.enough in
        record {
          many = prefix.many;
          some = prefix.some;
          same = prefix.same;
          enough = (omega (arith, enough), synced_is b group_bytes attempts last groups calls lost each (prefix.many - length kept) (synced_later all safe (prefix.many - length kept) holds.have_synced (omega (arith, enough))));
        }

    crash_safe : o.log_lens ≡ length (text_after b records) ∷ [] → (reached : ℕ) (any : List ℕ → Type 0) (since : List GroupCall → List GroupCall → List ℕ → Type 0) → ((image : List ℕ) → any image → HoldsCallsSynced b reached all image)
        → ((image : List ℕ) → since [] all image → BeginsWith b.kept image) → KeepsSynced b groups all since
        → IsCrashSafe group_bytes attempts o b groups begun d.content d.place all lost reached any since (IsImage d)
    crash_safe len reached any since held kept kept_since = record {
      failed = failed_write b group_bytes attempts last groups calls lost each begun d safe holds whole o end len o.fault refl are;
      any_moment = λ x may image left none kept spells. any_prefix b kept (with_failed_record records x) image spells none;
      held = λ image left. held_is b group_bytes attempts last groups calls lost each o.fault are reached image (held image left);
      kept = kept;
      kept_since = kept_since;
      at_end = at_end;
    }

    -- and the content up to the log's length is the groups' text
    log_left : o.log_lens ≡ length (text_after b records) ∷ [] → IsLogOf b o d.content groups
    log_left len =
        let same : text_after b (written_by all) ≡ text_after b records = ap (text_after b) written in
        record {
          of_history = record { cut = ap logged_entries history ∙ sym cut; none_empty = each_has_entries groups calls each; runs = runs };
          content_is = ap (λ (l : List ℕ). take (length l) d.content) (sym same) ∙ written_front b d all safe holds ∙ same;
          length_is = len;
        }

-- What was written is over what was there when the log began.
over_begun : (start : LogStart) (before : Before) (t : List ℕ) (a b c : Option Disk) → Told a b (λ x y. y.content ≡ begun_on start before x.content) → Told b c (IsTextOver t) → Told a c (λ x z. z.content ≡ over t (begun_on start before x.content))
over_begun start before t None None c same text = both_none c text
  where
    both_none : (c : Option Disk) → Told None c (IsTextOver t) → Told None c (λ x z. z.content ≡ over t (begun_on start before x.content))
    both_none None text = text
    both_none (Some z) text = text
over_begun start before t None (Some y) c same text = absurd same
over_begun start before t (Some x) None c same text = absurd same
over_begun start before t (Some x) (Some y) None same text = text
over_begun start before t (Some x) (Some y) (Some z) same text = text ∙ ap (λ (l : List ℕ). over t l) same

-- A disk tells its content throughout

both_tell : (a b : Option Disk) (R : Disk → Disk → Type 0) → Told a b R → Told a b (λ x y. ⊤)
both_tell None None R told = tt
both_tell None (Some y) R told = told
both_tell (Some x) None R told = told
both_tell (Some x) (Some y) R told = tt

tells_same : (a : Option Disk) → Told a a (λ x y. ⊤)
tells_same None = tt
tells_same (Some x) = tt

tells_on : (a b c : Option Disk) → Told a b (λ x y. ⊤) → Told b c (λ x y. ⊤) → Told a c (λ x y. ⊤)
tells_on None None c first second = second
tells_on None (Some y) c first second = absurd first
tells_on (Some x) None c first second = absurd first
tells_on (Some x) (Some y) None first second = second
tells_on (Some x) (Some y) (Some z) first second = tt

-- batches of at most 16 MiB, of no more than 64 clients
pub all_suit : (settings : Settings) → settings.clients ≤ MAX_CLIENTS → (entries : List Entry) → AllByRecursion (λ (e : Entry). IsClient settings e.client) entries
    → AllByRecursion IsBounded entries → AllByRecursion Suits entries
all_suit settings few [] clients small = tt
all_suit settings few (e ∷ entries) clients small = ((small.0, let within = clients.0.1 in omega (arith, within, few)), all_suit settings few entries clients.1 small.1)

-- what holds where a disk tells its content later holds where it tells it before
if_told : (P : Type 0) (a b : Option Disk) → Told a b (λ x y. ⊤) → IfSome b (λ d. P) → IfSome a (λ d. P)
if_told P None b told p = tt
if_told P (Some x) None told p = absurd told
if_told P (Some x) (Some y) told p = p

-- what a law says of each image since the log was opened
pub held_images : {D : Type 0} (b : Beginning) (moment from : D → ℕ) (since : D → ℕ → List ℕ → Type 0) (told : Option Disk) (old new : D) (calls : List GroupCall)
    → IfSome told (λ d. LeavesOnly moment from since old new (HoldsCallsSynced b d.reach calls)) → IfSome told (λ d. (image : List ℕ) → IsImageSince moment from since old new image → HoldsCallsSynced b d.reach calls image)
held_images b moment from since None old new calls leaves = tt
held_images b moment from since (Some d) old new calls leaves = λ image left. leaves.each image left.0 left.1

-- and of each image since some calls had returned
since_images : {D : Type 0} (b : Beginning) (moment from : D → ℕ) (since : D → ℕ → List ℕ → Type 0) (told : Option Disk) (old new : D) (before : List GroupCall) (P : List ℕ → Type 0)
    → ((safe : ℕ) → HaveCallsSynced before safe → (image : List ℕ) → BeginsWith (text_after b (take safe (written_by before))) image → P image) → IfSome told (λ d. (safe : ℕ) × HoldsCalls b d before safe)
    → IfSome told (λ d. (safe : ℕ) → HoldsCalls b d before safe → LeavesOnly moment from since old new (BeginsWith (text_after b (take safe (written_by before)))))
    → (image : List ℕ) → from new ≤ moment old → since new (moment old) image → IfSome told (λ d. P image)
since_images b moment from since None old new before P kept holds leaves image known left = tt
since_images b moment from since (Some d) old new before P kept holds leaves image known left =
    let only = leaves holds.0 holds.1 in
    kept holds.0 (holds.1).have_synced image (only.each image known left)

module _ {D : Type 0} {ghosts : Ghosts D} where
  -- No call turns back the disk's time or its count of faults, and a disk that tells its content goes on to tell it.
  pub record GoesFurther (old new : LogWriter D ghosts) : Type 0 where
    pub told : Told (ghosts.told (disk_of old)) (ghosts.told (disk_of new)) (λ x y. ⊤)
    pub time : GoesOn ghosts.moment ghosts.from (disk_of old) (disk_of new)
    pub faults : ghosts.faults (disk_of old) ≤ ghosts.faults (disk_of new)

  pub stays : (log : LogWriter D ghosts) → GoesFurther log log
  stays log = record { told = tells_same (ghosts.told (disk_of log)); time = record { later = omega arith; forgets = omega arith }; faults = omega arith }

  pub put_goes_on : (old new : LogWriter D ghosts) (bytes : List ℕ) (sync : Bool) (result : Result (Unit {0}) ℕ) → Puts ghosts (disk_of old) (disk_of new) bytes sync result → GoesFurther old new
  put_goes_on old new bytes sync result put =
      let crash = put.crash in
      record {
        told = both_tell (ghosts.told (disk_of old)) (ghosts.told (disk_of new)) _ put.are_put;
        time = record { later = crash.later; forgets = crash.forgets };
        faults = (put.cause).later;
      }

  pub call_goes_on : (c : GroupCall) (old new : LogWriter D ghosts) (fault : Option ℕ) → fault_of old ≡ fault → Adds c old new → GoesFurther old new
  call_goes_on c old new None alive adds = put_goes_on old new (text_at_end c old) c.sync (answer_of c.failed) (adds.put alive)
  call_goes_on c old new (Some count) dead adds =
      let kept = subst (λ (f : Option ℕ). IfSome f (λ n. (c.failed ≡ Some n) × (new ≡ old))) dead adds.dead in
      subst (λ (log : LogWriter D ghosts). GoesFurther old log) (sym kept.1) (stays old)

  -- nor does a read
  pub read_goes_on : (old new : LogWriter D ghosts) → WasRead old new → GoesFurther old new
  read_goes_on old new r =
      let disk = r.disk in
      let time = disk.time in
      record {
        told = subst (λ (t : Option Disk). Told (ghosts.told (disk_of old)) t (λ x y. ⊤)) (sym disk.same) (tells_same (ghosts.told (disk_of old)));
        time = record { later = time.later; forgets = time.forgets };
        faults = disk.later;
      }

  one_further : (old now new : LogWriter D ghosts) → GoesFurther old now → GoesFurther now new → GoesFurther old new
  one_further old now new first second =
      let time = first.time in
      let more = second.time in
      record {
        told = tells_on (ghosts.told (disk_of old)) (ghosts.told (disk_of now)) (ghosts.told (disk_of new)) first.told second.told;
        time = record { later = omega (arith, time.later, more.later); forgets = omega (arith, time.forgets, more.forgets) };
        faults = omega (arith, first.faults, second.faults);
      }

  calls_go_on : (old : LogWriter D ghosts) (calls : List GroupCall) (new : LogWriter D ghosts) → Wrote old calls new → GoesFurther old new
  calls_go_on old calls new no_call = stays old
  calls_go_on old calls new (one_more {calls = before} {now = now} c wrote adds) = one_further old now new (calls_go_on old before now wrote) (call_goes_on c now new (fault_of now) refl adds)
  calls_go_on old calls new (read {now = now} wrote was_read) = one_further old now new (calls_go_on old calls now wrote) (read_goes_on now new was_read)

  -- the log was opened on this disk, and these calls wrote it
  pub is_written : (b : Beginning) (disk : D) (opened log : LogWriter D ghosts) (calls : List GroupCall) → HasBegun b disk opened → Wrote opened calls log → IsWritten b disk calls log
  is_written b disk opened log calls begun wrote = record { begun = opened; has_begun = begun; wrote = wrote }

  -- the disk tells its content throughout
  tells_since : (b : Beginning) (disk : D) (opened log : LogWriter D ghosts) (calls : List GroupCall) → HasBegun b disk opened → Wrote opened calls log → Told (ghosts.told disk) (ghosts.told (disk_of log)) (λ x y. ⊤)
  tells_since b disk opened log calls begun wrote =
      tells_on (ghosts.told disk) (ghosts.told (disk_of opened)) (ghosts.told (disk_of log)) (both_tell (ghosts.told disk) (ghosts.told (disk_of opened)) _ begun.told) (calls_go_on opened calls log wrote).told

  -- the disk's time goes on
  pub goes_on : (opened log : LogWriter D ghosts) (calls : List GroupCall) → Wrote opened calls log → GoesOn ghosts.moment ghosts.from (disk_of opened) (disk_of log)
  goes_on opened log calls wrote = (calls_go_on opened calls log wrote).time

  -- and its count of faults doesn't fall
  pub later : (opened log : LogWriter D ghosts) (calls : List GroupCall) → Wrote opened calls log → ghosts.faults (disk_of opened) ≤ ghosts.faults (disk_of log)
  later opened log calls wrote = (calls_go_on opened calls log wrote).faults

  -- the length of the closed log, where its calls wrote the groups of an outcome's trace
  pub len_is : (b : Beginning) (trace : Trace) (attempts : List (List Attempt)) (groups : List Group) (group_bytes : ℕ) (wrote : List GroupCall → Type 0) (log : LogWriter D ghosts) (writes : WritesLog group_bytes wrote trace attempts groups (fault_of log))
      → Stands b (writes.calls ++ writes.lost) log → len_of log ≡ length (text_after b (records_of writes.parts))
  len_is b trace attempts groups group_bytes wrote log writes stands =
      stands.len ∙ ap (λ (l : List (List ℕ)). length (text_after b l)) (written_is b group_bytes attempts (last_sequence trace.start trace.entries) writes.parts writes.calls writes.lost writes.each (fault_of log) writes.none_else)

  -- Once the call that wrote a synced group had returned, each image that a crash left begins with the text up to that
  -- group's end.
  pub left_since : (b : Beginning) (disk ended : D) (group_bytes : ℕ) (attempts : List (List Attempt)) (last : ℕ) (groups : List (List Entry)) (calls lost : List GroupCall) (each : AllZip WroteEntries groups calls) (fault : Option ℕ)
      → AreLost group_bytes attempts fault last lost
      → ((before : List GroupCall) (log : LogWriter D ghosts) → IsWritten b disk before log → Stands b before log)
      → ((before after : List GroupCall) (old new : LogWriter D ghosts) → Wrote old after new → IfSome (ghosts.told (disk_of old)) (λ d. (safe : ℕ) → HoldsCalls b d before safe
      → LeavesOnly ghosts.moment ghosts.from ghosts.since (disk_of old) (disk_of new) (BeginsWith (text_after b (take safe (written_by before))))))
      → (k n : ℕ) (group : List Entry) → slice_get groups k ≡ Some group → HasSync group → k < n
      → (image : List ℕ) → IsLeftSince ghosts b disk ended (take n (calls ++ lost)) (drop n (calls ++ lost)) image → IfSome (ghosts.told disk) (λ d. BeginsWith (text_through b groups k) image)
  left_since b disk ended group_bytes attempts last groups calls lost each fault are stands begins k n group at has within image left =
      let before : List GroupCall = take n (calls ++ lost) in
      let after : List GroupCall = drop n (calls ++ lost) in
      let between : LogWriter D ghosts = left.between in
      let now : LogWriter D ghosts = left.last in
      let written = left.written in
      if_told (BeginsWith (text_through b groups k) image) (ghosts.told disk) (ghosts.told (disk_of between)) (tells_since b disk written.begun between before written.has_begun written.wrote)
      (since_images b ghosts.moment ghosts.from ghosts.since (ghosts.told (disk_of between)) (disk_of between) (disk_of now) before (BeginsWith (text_through b groups k))
      (kept_is b group_bytes attempts last groups calls lost each fault are k n group at has within) (stands before between written).told (begins before after between now left.wrote) image
      (subst (λ (e : D). ghosts.from e ≤ ghosts.moment (disk_of between)) (sym left.is_ended) left.remembered) (subst (λ (e : D). ghosts.since e (ghosts.moment (disk_of between)) image) (sym left.is_ended) left.left))

  -- Once the log had begun, each image that a crash left begins with what the log keeps.
  pub kept_left : (b : Beginning) (disk ended : D) (calls : List GroupCall)
      → ((before : List GroupCall) (log : LogWriter D ghosts) → IsWritten b disk before log → Stands b before log)
      → ((before after : List GroupCall) (old new : LogWriter D ghosts) → Wrote old after new → IfSome (ghosts.told (disk_of old)) (λ d. (safe : ℕ) → HoldsCalls b d before safe
      → LeavesOnly ghosts.moment ghosts.from ghosts.since (disk_of old) (disk_of new) (BeginsWith (text_after b (take safe (written_by before))))))
      → (image : List ℕ) → IsLeftSince ghosts b disk ended [] calls image → IfSome (ghosts.told disk) (λ d. BeginsWith b.kept image)
  kept_left b disk ended calls stands begins image left =
      let between : LogWriter D ghosts = left.between in
      let now : LogWriter D ghosts = left.last in
      let written = left.written in
      if_told (BeginsWith b.kept image) (ghosts.told disk) (ghosts.told (disk_of between)) (tells_since b disk written.begun between [] written.has_begun written.wrote)
      (since_images b ghosts.moment ghosts.from ghosts.since (ghosts.told (disk_of between)) (disk_of between) (disk_of now) [] (BeginsWith b.kept)
      (λ safe have l begun. subst (λ (t : List ℕ). BeginsWith t l) (ap (text_after b) (none_taken safe) ∙ after_none b) begun) (stands [] between written).told (begins [] calls between now left.wrote) image
      (subst (λ (e : D). ghosts.from e ≤ ghosts.moment (disk_of between)) (sym left.is_ended) left.remembered) (subst (λ (e : D). ghosts.since e (ghosts.moment (disk_of between)) image) (sym left.is_ended) left.left))
    where
      none_taken : (n : ℕ) → take n (written_by []) ≡ []
      none_taken zero = refl
      none_taken (suc n) = refl

  -- what the log holds, and what a crash leaves of it
  pub safe_log : (disk : D) (opened log : LogWriter D ghosts) (execution : Execution) (o : Outcome) (run : IsRunOf execution o) → length execution.script ≤ MAX_CLIENTS
      → AllByRecursion IsBounded run.trace.entries
      → IfSome (ghosts.told disk) (λ d. KeepsBatches (own execution) run.trace.start execution.before.batches)
      → (execution.start ≡ New → IfSome (ghosts.told disk) (λ d. d.content ≡ []))
      → Told (ghosts.told disk) (ghosts.told (disk_of opened)) (λ x y. y.content ≡ begun_on execution.start execution.before x.content)
      → HasBegun (own execution) disk opened → Wrote opened (run.writes.calls ++ run.writes.lost) log → Stands (own execution) (run.writes.calls ++ run.writes.lost) log
      → (first_fault (run.writes.calls ++ run.writes.lost) ≡ None → Told (ghosts.told (disk_of opened)) (ghosts.told (disk_of log)) (IsTextOver (text_after (own execution) (written_by (run.writes.calls ++ run.writes.lost)))))
      → IfSome (ghosts.told disk) (λ d. (image : List ℕ) → execution.images image → HoldsCallsSynced (own execution) d.reach (run.writes.calls ++ run.writes.lost) image)
      → ((image : List ℕ) → execution.since [] (run.writes.calls ++ run.writes.lost) image → IfSome (ghosts.told disk) (λ d. BeginsWith execution.before.kept image))
      → ((k n : ℕ) (group : List Entry) → slice_get run.writes.parts k ≡ Some group → HasSync group → k < n
      → (image : List ℕ) → execution.since (take n (run.writes.calls ++ run.writes.lost)) (drop n (run.writes.calls ++ run.writes.lost)) image → IfSome (ghosts.told disk) (λ d. BeginsWith (text_through (own execution) run.writes.parts k) image))
      → IfSome (ghosts.told disk) (λ d. IfGoesOn execution.start (RecoversKept execution.start execution.before d.content execution.images))
      → IfSome (ghosts.told disk) (λ d. IfGoesOn execution.start (SafeStays execution.before d execution.images))
      → Told (ghosts.told disk) (ghosts.told (disk_of log)) (LeavesSafeLog execution o run)
  safe_log disk opened log execution o run few small keeps empty same begun wrote stands content held kept kept_since went stay =
      by_told (ghosts.told disk) (ghosts.told (disk_of log)) keeps empty held kept kept_since
      (λ none. over_begun execution.start execution.before (text_after (own execution) (written_by (run.writes.calls ++ run.writes.lost))) (ghosts.told disk) (ghosts.told (disk_of opened)) (ghosts.told (disk_of log)) same (content none))
      (tells_since (own execution) disk opened log (run.writes.calls ++ run.writes.lost) begun wrote) stands.told went stay
    where
      suit : AllByRecursion Suits run.trace.entries
      suit = all_suit execution.settings (let legal = run.legal in let many = legal.clients in omega (arith, many, few)) run.trace.entries (run.legal.is_trace).clients small

      by_told : (a c : Option Disk) → IfSome a (λ d. KeepsBatches (own execution) run.trace.start execution.before.batches) → (execution.start ≡ New → IfSome a (λ d. d.content ≡ []))
          → IfSome a (λ d. (image : List ℕ) → execution.images image → HoldsCallsSynced (own execution) d.reach (run.writes.calls ++ run.writes.lost) image)
          → ((image : List ℕ) → execution.since [] (run.writes.calls ++ run.writes.lost) image → IfSome a (λ d. BeginsWith execution.before.kept image))
          → ((k n : ℕ) (group : List Entry) → slice_get run.writes.parts k ≡ Some group → HasSync group → k < n
          → (image : List ℕ) → execution.since (take n (run.writes.calls ++ run.writes.lost)) (drop n (run.writes.calls ++ run.writes.lost)) image → IfSome a (λ d. BeginsWith (text_through (own execution) run.writes.parts k) image))
          → (first_fault (run.writes.calls ++ run.writes.lost) ≡ None → Told a c (λ x z. z.content ≡ over (text_after (own execution) (written_by (run.writes.calls ++ run.writes.lost))) (begun_on execution.start execution.before x.content)))
          → Told a c (λ x y. ⊤) → IfSome c (λ d. (safe : ℕ) × HoldsCalls (own execution) d (run.writes.calls ++ run.writes.lost) safe)
          → IfSome a (λ d. IfGoesOn execution.start (RecoversKept execution.start execution.before d.content execution.images)) → IfSome a (λ d. IfGoesOn execution.start (SafeStays execution.before d execution.images)) → Told a c (LeavesSafeLog execution o run)
      by_told None None keeps empty held kept kept_since text told holds went stay = tt
      by_told None (Some y) keeps empty held kept kept_since text told holds went stay = told
      by_told (Some x) None keeps empty held kept kept_since text told holds went stay = told
      by_told (Some x) (Some y) keeps empty held kept kept_since text told holds went stay =
          let begun : List ℕ = begun_on execution.start execution.before x.content in
          record {
            found_empty = empty;
            safe = record {
              log = log_left (own execution) run.trace execution.before.batches keeps run.attempts execution.settings.group_bytes o run.legal.history run.legal.last (run.legal.is_trace).entries suit run.writes.parts run.writes.calls run.writes.lost run.writes.cut run.writes.runs run.writes.each run.writes.none_else begun y holds.0 holds.1 text run.length_is;
              crash = crash_safe (own execution) run.trace execution.before.batches keeps run.attempts execution.settings.group_bytes o run.legal.history run.legal.last (run.legal.is_trace).entries suit run.writes.parts run.writes.calls run.writes.lost run.writes.cut run.writes.runs run.writes.each run.writes.none_else begun y holds.0 holds.1 text run.length_is x.reach execution.images execution.since held kept kept_since;
              acknowledged = acknowledged_stay execution.settings _ execution.script run.trace run.attempts o run.legal _ run.legal.groups run.writes execution.since (λ k image. BeginsWith (text_through (own execution) run.writes.parts k) image) kept_since;
            };
            went_on = went;
            stays = stay;
            readable = can_be_read (own execution) run.trace execution.before.batches keeps run.attempts execution.settings.group_bytes o run.legal.history run.legal.last (run.legal.is_trace).entries suit run.writes.parts run.writes.calls run.writes.lost run.writes.cut run.writes.runs run.writes.each run.writes.none_else;
          }
