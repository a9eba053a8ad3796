-- What a crash leaves of a set, once its calls have returned and at any moment of them, by the one way in which its
-- records are cut into logs.
use Rattle.std.proofs.Common.{◌≡◌, ℕ, List, [], ◌∷◌, ◌++◌, map, Option, Some, None, IfSome, refl, sym, ◌∙◌, ap, subst, append_assoc, append-nil}
use Rattle.std.specs.List.{AllByRecursion, AllZip}
use Rattle.base_devices.specs.Disk.{Disk}
use Rattle.base_devices.specs.declared.disk.Disk.{Ghosts}
use Rattle.model_base.specs.Log.{new_log}
use Rattle.log_laws.specs.Fronts.{plain_text, HaveFront}
use Rattle.log_writer.specs.declared.writer.LogWriter.{LogWriter}
use Rattle.log_writer.specs.declared.set.LogSet.{LogSet}
use Rattle.log_writer.specs.Words.{disk_of}
use Rattle.log_writer.specs.Adding.{GroupCall}
use Rattle.log_writer.specs.Reads.{WasRead}
use Rattle.log_writer.specs.ReadLaws.{none_were_read, set_not_read, set_read_on, set_begun_read}
use Rattle.log_writer.specs.Written.{no_call, first_fault, written_by, begun_by, HaveSynced, HoldsCalls}
use Rattle.log_writer.specs.Sets.{full_of, current_of, later_of, logs_of, begun_in, fault_in, SetWasRead, WroteSet}
use Rattle.log_writer.specs.Sets as sets
use Rattle.log_writer.specs.SetSplits.{until_fault, IsSplit}
use Rattle.log_writer.specs.SetCrashes.{IsLeftNow, HasOpenedSet, AreSafeAfterFirst, LeavesFront}
use Rattle.log_writer.specs.SetContents.{HoldsBegun, HoldLogs}
use Rattle.log_writer.specs.SetWritten.{disks_of, begun_logs}
use Rattle.log_writer.proofs.Calls.{none_more, synced_more}
use Rattle.log_writer.proofs.Cutting.{one_begun}
use Rattle.log_writer.proofs.Reading.{same_lens, all_were_read, all_left_read}
use Rattle.log_writer.proofs.Surviving.{Laws}
use Rattle.log_writer.proofs.SetFronts.{IsFresh, FromFirst, current, front_now}
use Rattle.log_writer.proofs.SetStates.{IsAt, IsUnused, is_on, holds, all_fresh, current_last}
use Rattle.log_writer.proofs.SetRecords.{certain_in, joined, until_all, synced_same, synced_parts}
use Rattle.log_writer.proofs.SetCrashes.{all_back, all_front, all_later, all_at, IsOpen, open_from, chain, certain, certain_synced, contents, leaves_front}
use Rattle.log_writer.proofs.SetContents.{logs_opened, parts_alive, full_is, hold_logs}
use Rattle.log_writer.proofs.SetJoining.{join}
use Rattle.log_writer.proofs.Splitting.{until_more, until_none, split_so}

-- With one call more: after a fault it failed too.
module _ {D : Type 0} {ghosts : Ghosts D} where
  -- calls that come after a fault change nothing, but the logs may be read
  pub dead_calls : (old : LogSet D ghosts) (calls : List GroupCall) (new : LogSet D ghosts) (count : ℕ) → fault_in old ≡ Some count → WroteSet old calls new → SetWasRead old new
  dead_calls old calls new count dead sets.no_call = set_not_read old
  dead_calls old calls new count dead (sets.one_more {calls = before} {now = now} c wrote adds) =
      let r : SetWasRead old now = dead_calls old before now count dead wrote in
      let kept = subst (λ (f : Option ℕ). IfSome f (λ n. (c.failed ≡ Some n) × (new ≡ now))) (r.fault ∙ dead) adds.dead in
      subst (λ (set : LogSet D ghosts). SetWasRead old set) (sym kept.1) r
  dead_calls old calls new count dead (sets.read {now = now} wrote r) = set_read_on old now new (dead_calls old calls now count dead wrote) r

  pub wrote_more : (a b c : LogSet D ghosts) (calls more : List GroupCall) → WroteSet a calls b → WroteSet b more c → WroteSet a (calls ++ more) c
  wrote_more a b c calls more first sets.no_call = subst (λ (l : List GroupCall). WroteSet a l b) (sym (append-nil calls)) first
  wrote_more a b c calls more first (sets.one_more {calls = before} {now = now} call wrote adds) =
      subst (λ (l : List GroupCall). WroteSet a l c) (append_assoc calls before (call ∷ [])) (sets.one_more call (wrote_more a b now calls before first wrote) adds)
  wrote_more a b c calls more first (sets.read {now = now} wrote r) = sets.read (wrote_more a b now calls more first wrote) r

  -- so those that synced are among those up to the first that failed
  synced_set : (old : LogSet D ghosts) (calls : List GroupCall) (new : LogSet D ghosts) (n : ℕ) → fault_in old ≡ None → WroteSet old calls new → HaveSynced (until_fault calls) n → HaveSynced calls n
  synced_set old calls new n none sets.no_call have = have
  synced_set old calls new n none (sets.one_more {calls = before} {now = now} c wrote adds) have = by_fault (λ earlier. synced_set old before now n none wrote earlier) (fault_in now) refl adds.dead
    where
      fault : fault_in now ≡ first_fault before
      fault = (split_so old before now none wrote).fault

      by_fault : (HaveSynced (until_fault before) n → HaveSynced before n) → (f : Option ℕ) → fault_in now ≡ f → IfSome f (λ count. (c.failed ≡ Some count) × (new ≡ now)) → HaveSynced (before ++ c ∷ []) n
      by_fault so_far None alive kept =
          let worked : first_fault before ≡ None = sym fault ∙ alive in
          let same : until_fault (before ++ c ∷ []) ≡ before ++ c ∷ [] = until_more before c worked ∙ ap (λ (l : List GroupCall). l ++ c ∷ []) (until_all before worked) in
          subst (λ (l : List GroupCall). HaveSynced l n) same have
      by_fault so_far (Some count) dead kept =
          let same : until_fault (before ++ c ∷ []) ≡ until_fault before = until_none before c count (sym fault ∙ dead) in
          synced_more before c n (so_far (subst (λ (l : List GroupCall). HaveSynced l n) same have))
          (λ ok asked. let wrong : ◌≡◌ {A = Option ℕ} None (Some count) = sym ok ∙ kept.0 in absurd (cc))
  synced_set old calls new n none (sets.read {now = now} wrote r) have = synced_set old calls now n none wrote have

  -- what the disks of full logs hold they held before they were read
  texts_back : (olds news : List (LogWriter D ghosts)) (texts : List (List (List ℕ))) → AllZip WasRead olds news → AllZip (λ (log : LogWriter D ghosts) (records : List (List ℕ)). IfSome (ghosts.told (disk_of log)) (λ d. d.content ≡ plain_text records)) news texts
      → AllZip (λ (log : LogWriter D ghosts) (records : List (List ℕ)). IfSome (ghosts.told (disk_of log)) (λ d. d.content ≡ plain_text records)) olds texts
  texts_back [] [] texts all hold = hold
  texts_back [] (n ∷ news) texts all hold = absurd all
  texts_back (o ∷ olds) [] texts all hold = absurd all
  texts_back (o ∷ olds) (n ∷ news) [] all hold = absurd hold
  texts_back (o ∷ olds) (n ∷ news) (t ∷ texts) all hold = (subst (λ (told : Option Disk). IfSome told (λ d. d.content ≡ plain_text t)) all.0.disk.same hold.0, texts_back olds news texts all.1 hold.1)

module _ {D : Type 0} {ghosts : Ghosts D} (laws : Laws ghosts) where
  module _ (disks : List D) (opened : LogSet D ghosts) (safe_disks : AreSafeAfterFirst ghosts disks) (has : HasOpenedSet disks opened) where
    -- at the end of calls, whether one failed or not
    module _ (calls : List GroupCall) (now : LogSet D ghosts) (s : IsSplit opened calls now) where
      all_open : IsOpen laws (current_of opened) (later_of opened)
      all_open = open_from laws disks (current_of opened) (later_of opened) safe_disks (logs_opened laws disks opened now calls has s)

      at_all : AllByRecursion (IsAt laws []) (s.started ++ s.last ∷ later_of now)
      at_all = subst (AllByRecursion (IsAt laws [])) s.begun (all_open.first, all_at laws (later_of opened) all_open.others)

      at : IsAt laws s.own (current_of now)
      at = is_on laws [] s.own s.last (current_of now) (all_back (IsAt laws []) s.started (s.last ∷ later_of now) at_all).0 s.wrote

      held : (safe : ℕ) × HoldsCalls new_log at.d s.own safe
      held = holds laws s.own (current_of now) at

      fresh : AllByRecursion IsFresh (later_of now)
      fresh = all_fresh laws (later_of now) (all_later (IsUnused laws) (current_of opened) (later_of opened) s.started s.last (later_of now) s.begun all_open.others)

      here_now : FromFirst (certain_in s.parts held.0) (logs_of now) (logs_of now) (begun_logs (hold_logs laws disks opened now calls has s))
      unfolding hold_logs
      here_now =
          let unused : List (List (List ℕ)) = map (λ (log : LogWriter D ghosts). []) (later_of now) in
          let one = current_last laws s.own (current_of now) at held.0 held.1 [] (current_of now) (later_of now) unused no_call fresh in
          let all = chain laws held.0 s.started s.parts s.filled s.filled (current_of now ∷ later_of now) (current_of now ∷ later_of now) (begun_by (s.own ++ []) ∷ unused) s.are_filled (none_were_read s.filled) (all_front (IsAt laws []) s.started (s.last ∷ later_of now) at_all) (current one) in
          let logs : s.filled ++ current_of now ∷ later_of now ≡ logs_of now = ap (λ (l : List (LogWriter D ghosts)). l ++ current_of now ∷ later_of now) (sym (full_is laws disks opened now calls has s)) in
          let same : map written_by s.parts ++ begun_by (s.own ++ []) ∷ unused ≡ map written_by s.parts ++ begun_by s.own ∷ unused = ap (λ (l : List GroupCall). map written_by s.parts ++ begun_by l ∷ unused) (append-nil s.own) in
          subst (λ (z : List (LogWriter D ghosts) × List (List (List ℕ))). FromFirst (certain_in s.parts held.0) z.0 z.0 z.1) (λ i. (logs i, same i)) all

    -- Once the calls have returned, each that synced is certain.
    pub at_end : (calls : List GroupCall) (now : LogSet D ghosts) → WroteSet opened calls now → (hold : HoldLogs now calls)
        → (safe : ℕ) × HaveSynced calls safe × ((images : List (List ℕ)) → AllZip (IsLeftNow ghosts) (disks_of now) images → HaveFront safe (begun_logs hold) images)
    at_end calls now wrote hold =
        let s : IsSplit opened calls now = split_so opened calls now has.fault wrote in
        let h : HoldLogs now calls = hold_logs laws disks opened now calls has s in
        let held_there = held calls now s in
        let n : ℕ = certain_in s.parts held_there.0 in (
          n,
          synced_set opened calls now n has.fault wrote (synced_same n (until_fault calls) (joined s.parts ++ s.own) s.same (synced_parts s.parts s.own held_there.0 (parts_alive laws disks opened now calls has s) held_there.1.have_synced)),
          λ images nows. subst (λ (logs : List (List (List ℕ))). HaveFront n logs images) (one_begun now calls h hold) (front_now n (logs_of now) (logs_of now) (begun_logs h) images (here_now calls now s) nows),
        )

    -- at any moment of later calls
    module _ (between last : LogSet D ghosts) (before after : List GroupCall) (wrote : WroteSet opened before between) where
      alive_front : WroteSet between after last → fault_in between ≡ None → (hold : HoldLogs last (before ++ after)) → (safe : ℕ) × HaveSynced before safe × LeavesFront between last safe (begun_logs hold)
      unfolding hold_logs contents
      alive_front more none hold =
          let first : IsSplit opened before between = split_so opened before between has.fault wrote in
          let second : IsSplit between after last = split_so between after last none more in
          let j = join laws opened between last before after first none second in
          let h : HoldLogs last (before ++ after) = hold_logs laws disks opened last (before ++ after) has j.split in
          let n : ℕ = certain laws disks opened between last before after safe_disks has first second in (
            n,
            certain_synced laws disks opened between last before after safe_disks has first second none,
            subst (λ (logs : List (List (List ℕ))). LeavesFront between last n logs) (j.logs ∙ one_begun last (before ++ after) h hold) (leaves_front laws disks opened between last before after safe_disks has first second),
          )

      -- after a fault the logs are only read
      dead_front : (count : ℕ) → fault_in between ≡ Some count → (set : LogSet D ghosts) → SetWasRead between set → (hold : HoldLogs set (before ++ after)) → (safe : ℕ) × HaveSynced before safe × LeavesFront between set safe (begun_logs hold)
      dead_front count dead set r hold =
          let fault : first_fault before ≡ Some count = sym (split_so opened before between has.fault wrote).fault ∙ dead in
          let same = none_more before after count fault in
          let h : HoldLogs between before = record {
            full = hold.full;
            written = hold.written;
            begun = hold.begun;
            all_written = hold.all_written ∙ same.written;
            all_begun = hold.all_begun ∙ same.begun;
            lens = sym (same_lens (begun_in between) (begun_in set) (set_begun_read between set r)) ∙ hold.lens;
            full_hold = texts_back (full_of between) (full_of set) hold.full r.full hold.full_hold;
            current_holds = subst (λ (z : Option ℕ × Option Disk). IfSome z.1 (HoldsBegun hold.written hold.begun z.0)) (λ i. (same.fault i, r.current.disk.same i)) hold.current_holds;
            later_hold = subst (AllByRecursion (λ (log : LogWriter D ghosts). IfSome (ghosts.told (disk_of log)) (λ d. d.content ≡ []))) r.later hold.later_hold;
          } in
          let end = at_end before between wrote h in (
            end.0,
            end.1,
            λ images left. subst (λ (l : List (LogWriter D ghosts)). HaveFront end.0 (hold.full ++ hold.begun ∷ map (λ (log : LogWriter D ghosts). []) l) images) (sym r.later)
                (end.2 images (all_left_read laws (logs_of between) (logs_of set) images (all_were_read between set r) left)),
          )

      pub any_moment : WroteSet between after last → (hold : HoldLogs last (before ++ after)) → (safe : ℕ) × HaveSynced before safe × LeavesFront between last safe (begun_logs hold)
      any_moment more = by_fault (fault_in between) refl
        where
          by_fault : (f : Option ℕ) → fault_in between ≡ f → (hold : HoldLogs last (before ++ after)) → (safe : ℕ) × HaveSynced before safe × LeavesFront between last safe (begun_logs hold)
          by_fault None none = alive_front more none
          by_fault (Some count) dead = dead_front count dead last (dead_calls between after last count dead more)
