-- Which phase the log or the memtable is in.
use Rattle.std.specs.Prelude.{ℕ, Bool, true, false, ◌==◌, Option, Some, None, if◌then◌else◌}
use Rattle.model_base.specs.declared.write.Refusal.{Refusal}
use Rattle.model_base.specs.declared.write.WriteOptions.{WriteOptions}
use Rattle.model_core.specs.Core.{stall_refusal}
use Rattle.replay_core.specs.declared.phases.LogPhase.{LogPhase}
use Rattle.replay_core.specs.declared.phases.LogPhase.TheVariants.{Free, Led, Built, Stalled, InLog, Marked, Handed}
use Rattle.replay_core.specs.declared.phases.TablePhase.{TablePhase}
use Rattle.replay_core.specs.declared.phases.TablePhase.TheVariants.{Still, Launched, Published}
use Rattle.replay_core.specs.declared.phases.Mark.{Mark}
use Rattle.replay_core.specs.declared.phases.Mark.TheVariants.{Out, Inserted, Finished}

abbrev pub is_free : LogPhase → Bool
is_free Free = true
is_free (Led d) = false
is_free Built = false
is_free Stalled = false
is_free InLog = false
is_free Marked = false
is_free (Handed d) = false

abbrev pub is_led_by : ℕ → LogPhase → Bool
is_led_by c (Led d) = c == d
is_led_by c Free = false
is_led_by c Built = false
is_led_by c Stalled = false
is_led_by c InLog = false
is_led_by c Marked = false
is_led_by c (Handed d) = false

abbrev pub is_built : LogPhase → Bool
is_built Built = true
is_built Free = false
is_built (Led d) = false
is_built Stalled = false
is_built InLog = false
is_built Marked = false
is_built (Handed d) = false

abbrev pub is_stalled : LogPhase → Bool
is_stalled Stalled = true
is_stalled Free = false
is_stalled (Led d) = false
is_stalled Built = false
is_stalled InLog = false
is_stalled Marked = false
is_stalled (Handed d) = false

-- why a batch is refused at once, by its options and by what the checks say of it
abbrev pub refusal_at : WriteOptions → Option Refusal → LogPhase → Option Refusal
refusal_at how (Some why) log = Some why
refusal_at how None Stalled = if how.no_slowdown then Some (stall_refusal 1 0) else None
refusal_at how None Free = None
refusal_at how None (Led d) = None
refusal_at how None Built = None
refusal_at how None InLog = None
refusal_at how None Marked = None
refusal_at how None (Handed d) = None

-- a client may link, if it is refused or if writes aren't stalled
abbrev pub may_link_at : Option Refusal → LogPhase → Bool
may_link_at (Some why) log = true
may_link_at None Stalled = false
may_link_at None Free = true
may_link_at None (Led d) = true
may_link_at None Built = true
may_link_at None InLog = true
may_link_at None Marked = true
may_link_at None (Handed d) = true

abbrev pub is_in_log : LogPhase → Bool
is_in_log InLog = true
is_in_log Free = false
is_in_log (Led d) = false
is_in_log Built = false
is_in_log Stalled = false
is_in_log Marked = false
is_in_log (Handed d) = false

abbrev pub is_marked : LogPhase → Bool
is_marked Marked = true
is_marked Free = false
is_marked (Led d) = false
is_marked Built = false
is_marked Stalled = false
is_marked InLog = false
is_marked (Handed d) = false

abbrev pub is_handed_by : ℕ → LogPhase → Bool
is_handed_by c (Handed d) = c == d
is_handed_by c Free = false
is_handed_by c (Led d) = false
is_handed_by c Built = false
is_handed_by c Stalled = false
is_handed_by c InLog = false
is_handed_by c Marked = false

-- the phases with a group in hand
abbrev pub has_group : LogPhase → Bool
has_group Built = true
has_group Stalled = true
has_group InLog = true
has_group Marked = true
has_group Free = false
has_group (Led d) = false
has_group (Handed d) = false

abbrev pub is_still : TablePhase → Bool
is_still Still = true
is_still Launched = false
is_still Published = false

abbrev pub is_launched : TablePhase → Bool
is_launched Launched = true
is_launched Still = false
is_launched Published = false

abbrev pub is_published : TablePhase → Bool
is_published Published = true
is_published Still = false
is_published Launched = false

abbrev pub is_inserted : Mark → Bool
is_inserted Out = false
is_inserted Inserted = true
is_inserted Finished = true

abbrev pub is_finished : Mark → Bool
is_finished Out = false
is_finished Inserted = false
is_finished Finished = true
