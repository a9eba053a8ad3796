-- Why a log's fault came in one of the calls that wrote it.
use Rattle.std.proofs.Common.{◌≡◌, ℕ, ◌≤◌, List, Option, None, Some, IfSome, MatchOption, refl, sym, subst, arith}
use Rattle.base_devices.specs.declared.disk.Disk.{Ghosts}
use Rattle.model_base.specs.Counts.{Rose}
use Rattle.log_writer.specs.declared.writer.LogWriter.{LogWriter}
use Rattle.log_writer.specs.Words.{disk_of, fault_of}
use Rattle.log_writer.specs.Puts.{Puts}
use Rattle.log_writer.specs.Adding.{GroupCall, answer_of, text_at_end, Grows, Stops, Adds}
use Rattle.log_writer.specs.Reads.{WasRead}
use Rattle.log_writer.specs.GroupLogs.{CameInCall, CameInCalls}
use Rattle.log_writer.specs.Written.{Wrote, no_call, one_more, read}

-- a count that was reached is still reached later
pub reached_later : (before now later : ℕ) (fault : Option ℕ) → now ≤ later → IfSome fault (λ count. Rose before count × (count ≤ now)) → IfSome fault (λ count. Rose before count × (count ≤ later))
reached_later before now later None le rose = tt
reached_later before now later (Some count) le rose = (rose.0, omega (arith, rose.1, le))

module _ {D : Type 0} {ghosts : Ghosts D} where
  -- what one call does to the count of the log's disk
  pub came_in_call : (c : GroupCall) (old new : LogWriter D ghosts) → fault_of old ≡ None → Adds c old new → CameInCall (ghosts.faults (disk_of old)) (ghosts.faults (disk_of new)) c.failed
  came_in_call c old new alive adds = by_answer c.failed (adds.put alive) (adds.kept alive)
    where
      by_answer : (f : Option ℕ) → Puts ghosts (disk_of old) (disk_of new) (text_at_end c old) c.sync (answer_of f) → MatchOption f (Grows (text_at_end c old) old new) (Stops old new)
          → CameInCall (ghosts.faults (disk_of old)) (ghosts.faults (disk_of new)) f
      by_answer None put grows = record { later = (put.cause).later; rose = tt; no_fault = λ none. (put.cause).worked }
      by_answer (Some count) put stops = record {
        later = (put.cause).later;
        rose = (omega (arith, (put.cause).failed, stops.count_is), omega (arith, stops.count_is));
        no_fault = λ none. let wrong : ◌≡◌ {A = Option ℕ} (Some count) None = none in absurd (cc);
      }

module _ {D : Type 0} {ghosts : Ghosts D} (before : ℕ) where
  -- the fault of this log, if it has one, came since its disk had counted this many
  abbrev pub Caused : LogWriter D ghosts → Type 0
  Caused log = CameInCalls before (ghosts.faults (disk_of log)) (fault_of log)

  -- if there is a fault, the disk's count of faults has risen to it since then
  abbrev RoseTo : LogWriter D ghosts → Option ℕ → Type 0
  RoseTo now fault = IfSome fault (λ count. Rose before count × (count ≤ ghosts.faults (disk_of now)))

  pub caused_call : (c : GroupCall) (now new : LogWriter D ghosts) → Caused now → Adds c now new → Caused new
  caused_call c now new since adds = by_fault (fault_of now) refl adds.dead
    where
      by_answer : (f : Option ℕ) → Puts ghosts (disk_of now) (disk_of new) (text_at_end c now) c.sync (answer_of f) → MatchOption f (Grows (text_at_end c now) now new) (Stops now new) → Caused new
      by_answer None put grows = record { later = omega (arith, since.later, (put.cause).later); rose = subst (RoseTo new) (sym grows.fault) tt }
      by_answer (Some count) put stops = record {
        later = omega (arith, since.later, (put.cause).later);
        rose = subst (RoseTo new) (sym stops.fault) (omega (arith, since.later, (put.cause).failed, stops.count_is), omega (arith, stops.count_is));
      }

      by_fault : (f : Option ℕ) → fault_of now ≡ f → IfSome f (λ count. (c.failed ≡ Some count) × (new ≡ now)) → Caused new
      by_fault None is_none kept = by_answer c.failed (adds.put is_none) (adds.kept is_none)
      by_fault (Some count) is_some kept = subst (λ (log : LogWriter D ghosts). Caused log) (sym kept.1) since

  pub caused_read : (now new : LogWriter D ghosts) → Caused now → WasRead now new → Caused new
  caused_read now new since r = record {
    later = omega (arith, since.later, r.disk.later);
    rose = subst (RoseTo new) (sym r.fault) (reached_later before (ghosts.faults (disk_of now)) (ghosts.faults (disk_of new)) (fault_of now) r.disk.later since.rose);
  }

  pub caused_calls : (old : LogWriter D ghosts) (calls : List GroupCall) (new : LogWriter D ghosts) → Caused old → Wrote old calls new → Caused new
  caused_calls old calls new first no_call = first
  caused_calls old calls new first (one_more {calls = before} {now = now} c wrote adds) = caused_call c now new (caused_calls old before now first wrote) adds
  caused_calls old calls new first (read {now = now} wrote r) = caused_read now new (caused_calls old calls now first wrote) r

-- If a log had no fault before these calls wrote it, a fault that it has after them came in one of them.
pub caused_in_calls : {D : Type 0} {ghosts : Ghosts D} (old : LogWriter D ghosts) (calls : List GroupCall) (new : LogWriter D ghosts) → fault_of old ≡ None → Wrote old calls new
    → CameInCalls (ghosts.faults (disk_of old)) (ghosts.faults (disk_of new)) (fault_of new)
caused_in_calls {ghosts = ghosts} old calls new alive wrote =
    caused_calls (ghosts.faults (disk_of old)) old calls new (record {
      later = omega arith;
      rose = subst (RoseTo (ghosts.faults (disk_of old)) old) (sym alive) tt;
    }) wrote
