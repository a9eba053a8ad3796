-- How a run ends, from its result over its opened log.
use Rattle.std.proofs.Common.{◌≡◌, inr, ℕ, ◌^◌, ◌<◌, ◌≤◌, max, List, [], ◌∷◌, ◌++◌, length, take, IfSome, Option, None, Vec, Global, refl, ap, sym, ◌∙◌, subst, arith, length-append}
use Rattle.model_base.specs.declared.limits.TheConstants.{MAX_CLIENTS, MAX_SIZE}
use Rattle.base_devices.specs.declared.disk.Disk.{Ghosts}
use Rattle.base_devices.specs.Disk as dev
use Rattle.base_devices.specs.Disk.{LeavesOnly}
use Rattle.model_base.specs.Log.{Beginning, text_after}
use Rattle.model_base.specs.LogContents.{GroupCall}
use Rattle.model_base.specs.Trace.{Settings}
use Rattle.model_base.specs.Groups.{Group}
use Rattle.model_base.specs.Calls.{Command}
use Rattle.model_base.specs.Outcomes.{outcome_of}
use Rattle.model_base.specs.Map.{Pairs}
use Rattle.log_batch.specs.Contents.{Contents}
use Rattle.log_laws.specs.Prefixes.{BeginsWith}
use Rattle.run_outcome.specs.declared.history_entry.HistoryEntry.{HistoryEntry}
use Rattle.run_outcome.specs.declared.reply.Reply.{Reply}
use Rattle.run_outcome.specs.Shows.{ShowsOutcome}
use Rattle.model_base.specs.declared.options.Options.{Options}
use Rattle.model_base.specs.Recovery.{Logged}
use Rattle.model_base.specs.Settings.{settings_of, with_kept}
use Rattle.log_writer.specs.declared.writer.LogWriter.{LogWriter}
use Rattle.log_writer.specs.Words.{disk_of, len_of, fault_of}
use Rattle.log_writer.specs.Opening.{HasBegun}
use Rattle.log_writer.specs.Written.{Wrote, no_call, one_more, read, IsWritten, first_fault, written_by, HoldsSynced, HoldsCalls, IsTextOver, Stands}
use Rattle.log_writer.specs.Reads.{WasRead}
use Rattle.log_writer.specs.ReadLaws.{not_read, read_on}
use Rattle.model_runs.specs.Written.{WritesLog}
use Rattle.run_outcome.specs.declared.log_start.LogStart.{LogStart}
use Rattle.run_outcome.specs.Running.{Execution, Before, GoesOnFrom, batches_told, beginning_of, IsRunOf, HasRun, IsAsFound, GoesOn}
use Rattle.run_threads.specs.declared.run.ClientsEnd.{ClientsEnd}
use Rattle.run_threads.specs.declared.run.ClientsEnd.TheVariants.{NotRun, Untold, Told}
use Rattle.run_threads.specs.Runs.{HaveRun, ComesTo, log_of, outcome_with}
use Rattle.run_execution.specs.declared.opening.Opened.{Opened}
use Rattle.run_execution.specs.declared.end.RunEnd.{RunEnd}
use Rattle.run_execution.specs.declared.end.RunEnd.TheVariants.{NoMemory}
use Rattle.log_recovery.specs.declared.modes.Mode.{Mode}
use Rattle.run_execution.specs.Ends.{HasFewFamilies, HasOutcome, HasOpenedAs, IsOpenedFor, IsAccepted, IsRefused, options_behind, execution_on, EndsOn, IsEndOfRun}
use Rattle.run_execution.proofs.LegalRuns.{small_entries, refused_for_themselves}
use Rattle.run_execution.proofs.Openings.{OnlyNow, IsCountedNow, ImageLaw, keeps_as, recovers_as, content_as, empty_as, found_as, no_fault_as, crash_as, crash_read}
use Rattle.run_execution.proofs.Staying.{stays_as}
use Rattle.run_execution.proofs.SafeLogs.{len_is, safe_log, left_since, kept_left, held_images, is_written, goes_on, later}

-- the same result for equal settings, scripts and calls
pub comes_to : {L : Type 0} (fault : L → Option ℕ) (faults : L → ℕ) (ran : ClientsEnd L) (s t : Settings) (xs ys : List (List Command)) (v w : List GroupCall → L → Type 0)
    → s ≡ t → xs ≡ ys → v ≡ w → ComesTo s xs v fault faults ran → ComesTo t ys w fault faults ran
comes_to fault faults ran s t xs ys v w same_settings same_script same_calls comes =
    subst (λ (z : Settings). ComesTo z ys w fault faults ran) same_settings
    (subst (λ (zs : List (List Command)). ComesTo s zs w fault faults ran) same_script
    (subst (λ (u : List GroupCall → _ → Type 0). ComesTo s xs u fault faults ran) same_calls comes))

-- The settings of an engine over what was opened are those of a run that goes on from it.
pub settings_behind : {D : Type 0} {ghosts : Ghosts D} (start : LogStart) (disk : D) (opened : Opened D ghosts) (options : Options) (last families n m : ℕ) (is : IsOpenedFor ghosts start disk opened) → last ≡ max options.last opened.last
    → families ≡ max options.families opened.families → n ≡ m
    → settings_of (record options { last = last; families = families }) opened.map n (ghosts.faults (disk_of opened.log)) ≡ settings_of (options_behind options is.before) is.before.map m (ghosts.faults disk)
settings_behind {ghosts = ghosts} start disk opened options last families n m is last_is families_are same =
    ap (λ (l : ℕ). settings_of (record options { last = l; families = families }) opened.map n (ghosts.faults (disk_of opened.log))) (last_is ∙ ap (max options.last) is.last)
    ∙ (ap (λ (f : ℕ). settings_of (record options { last = max options.last is.before.last; families = f }) opened.map n (ghosts.faults (disk_of opened.log)))
    (families_are ∙ ap (max options.families) is.families)
    ∙ (ap (λ (p : Pairs). settings_of (options_behind options is.before) p n (ghosts.faults (disk_of opened.log))) is.map
    ∙ (ap (λ (k : ℕ). settings_of (options_behind options is.before) is.before.map k (ghosts.faults (disk_of opened.log))) same
    ∙ ap (settings_of (options_behind options is.before) is.before.map m) (no_fault_as start is.before disk opened.log is.is_opened))))

-- What the laws say of a log with this beginning, and of its calls
module _ {D : Type 0} (ghosts : Ghosts D) (b : Beginning) where
  module _ (disk : D) where
    abbrev StandsBy : Type 0
    StandsBy = (calls : List GroupCall) (log : LogWriter D ghosts) → IsWritten b disk calls log → Stands b calls log

    abbrev HasContent : Type 0
    HasContent = (calls : List GroupCall) (begun log : LogWriter D ghosts) → HasBegun b disk begun → Wrote begun calls log → first_fault calls ≡ None
        → dev.Told (ghosts.told (disk_of begun)) (ghosts.told (disk_of log)) (IsTextOver (text_after b (written_by calls)))

    abbrev Holds : Type 0
    Holds = (calls : List GroupCall) (log : LogWriter D ghosts) → IsWritten b disk calls log → IfSome (ghosts.told disk) (λ d. LeavesOnly ghosts.moment ghosts.from ghosts.since disk (disk_of log) (HoldsSynced b d.reach calls))

  abbrev Begins : Type 0
  Begins = (before after : List GroupCall) (old new : LogWriter D ghosts) → Wrote old after new → IfSome (ghosts.told (disk_of old)) (λ d. (safe : ℕ) → HoldsCalls b d before safe
      → LeavesOnly ghosts.moment ghosts.from ghosts.since (disk_of old) (disk_of new) (BeginsWith (text_after b (take safe (written_by before)))))

module _ {D : Type 0} {ghosts : Ghosts D} where
  -- a log that no call wrote was only read
  only_read : (old : LogWriter D ghosts) (calls : List GroupCall) (new : LogWriter D ghosts) → Wrote old calls new → calls ≡ [] → WasRead old new
  only_read old calls new no_call none = not_read old
  only_read old calls new (one_more {calls = before} c wrote adds) none = absurd (omega (arith, ap length none, length-append before (c ∷ [])))
  only_read old calls new (read {now = now} wrote was_read) none = read_on old now new (only_read old calls now wrote none) was_read

  module _ (start : LogStart) (before : Before) (disk : D) (opened : LogWriter D ghosts) (options : Options) (script : List (List Command)) (goes : GoesOnFrom start (ghosts.told disk) before)
      (has_opened : HasOpenedAs start before disk opened) (begun : HasBegun (beginning_of start before) disk opened) (few : length script ≤ MAX_CLIENTS) (bounded : options.batch_bytes ≤ MAX_SIZE) (families : (options_behind options before).families < 2 ^ 32) (recovers : ImageLaw)
      (stands : StandsBy ghosts (beginning_of start before) disk) (content : HasContent ghosts (beginning_of start before) disk) (held : Holds ghosts (beginning_of start before) disk) (begins : Begins ghosts (beginning_of start before)) where
    abbrev settings : Settings
    settings = with_kept (batches_told (ghosts.told disk) before) (settings_of (options_behind options before) before.map (length script) (ghosts.faults disk))

    module _ (log : LogWriter D ghosts) (last : ℕ) where
      abbrev execution : Execution
      execution = execution_on ghosts options start before script disk (disk_of log)

      abbrev Ran : Type 0
      Ran = HaveRun settings script (Wrote opened) fault_of (λ l. ghosts.faults (disk_of l)) log last

      -- all clients have run: there is an outcome
      has_outcome : Ran → HasOutcome execution (ghosts.told disk) (ghosts.told (disk_of log))
      has_outcome ran =
          let o = outcome_of ran.trace ran.transcripts last (len_of log ∷ []) (fault_of log) in
          let b = beginning_of start before in
          let ended = ghosts.faults (disk_of log) in
          let legal = ran.legal (len_of log ∷ []) in
          let writes : WritesLog settings.group_bytes (λ cs. Wrote opened cs log) ran.trace ran.attempts legal.groups (fault_of log) =
          subst (λ (groups : List Group). WritesLog settings.group_bytes (λ cs. Wrote opened cs log) ran.trace ran.attempts groups (fault_of log)) (sym (ran.of_groups (len_of log ∷ []))) ran.writes in
          let calls = writes.calls ++ writes.lost in
          let written = is_written b disk opened log calls begun writes.by in
          let stands_begun = stands [] opened (is_written b disk opened opened [] begun no_call) in
          let run : IsRunOf execution o = record {
            trace = ran.trace;
            attempts = ran.attempts;
            legal = legal;
            writes = record {
              parts = writes.parts;
              calls = writes.calls;
              lost = writes.lost;
              cut = writes.cut;
              runs = writes.runs;
              each = writes.each;
              logged = writes.logged;
              none_else = writes.none_else;
              by = (log, written, refl);
              log = writes.log;
              rise = writes.rise;
              in_turn = writes.in_turn;
              by_leaders = writes.by_leaders;
              made = writes.made;
              are_made = writes.are_made;
              by_groups = writes.by_groups;
              of_first = writes.of_first;
              dead = writes.dead;
            };
            length_is = ap (λ (n : ℕ). n ∷ []) (len_is b ran.trace ran.attempts legal.groups settings.group_bytes (λ cs. Wrote opened cs log) log writes (stands calls log written));
          } in
          record {
            outcome = o;
            run = run;
            refusals = refused_for_themselves settings ended script ran.trace ran.attempts o legal;
            log = safe_log disk opened log execution o run few (small_entries settings ended script ran.trace ran.attempts o legal bounded families)
                (keeps_as start before (ghosts.told disk) ran.trace.start goes (let first = (legal.is_trace).start in omega (arith, first))) (empty_as start before disk opened has_opened) (content_as start before disk opened has_opened) begun writes.by
                (stands calls log written) (content calls opened log begun writes.by) (held_images b ghosts.moment ghosts.from ghosts.since (ghosts.told disk) disk (disk_of log) calls (held calls log written))
                (kept_left b disk (disk_of log) calls stands begins)
                (left_since b disk (disk_of log) settings.group_bytes ran.attempts _ writes.parts writes.calls writes.lost writes.each (fault_of log) writes.none_else stands begins)
                (recovers_as recovers start before (ghosts.told disk) execution.images goes)
                (stays_as ghosts start before disk opened log has_opened stands_begun.told (begins [] calls opened log writes.by));
          }

      -- and the values show it, where they are at hand
      module _ (transcripts : Vec (Vec Reply Global) Global) (history : List (HistoryEntry Contents)) (state : Pairs) where
        has_run : (full_lens : Vec ℕ Global) → full_lens.items ≡ [] → (ran : Ran)
            → ((lens : Vec ℕ Global) (log_len : ℕ) → ShowsOutcome (outcome_with transcripts history last state lens log_len (fault_of log)) (outcome_of ran.trace ran.transcripts last (lens.items ++ log_len ∷ []) (fault_of log)))
            → HasRun execution (ghosts.told disk) (ghosts.told (disk_of log)) (outcome_with transcripts history last state full_lens (len_of log) (fault_of log))
        unfolding has_outcome
        has_run full_lens none ran shows =
            let there = has_outcome ran in
            record {
              outcome = there.outcome;
              shows = subst (λ (l : List ℕ). ShowsOutcome (outcome_with transcripts history last state full_lens (len_of log) (fault_of log)) (outcome_of ran.trace ran.transcripts last (l ++ len_of log ∷ []) (fault_of log))) none (shows full_lens (len_of log));
              run = there.run;
              refusals = there.refusals;
              log = there.log;
            }

    -- how the run ends, from its result
    pub is_end : (mode : Mode) → IsAccepted start mode (ghosts.told disk) → HasFewFamilies start (ghosts.told disk) → OnlyNow ghosts disk → IsCountedNow ghosts (disk_of opened) → (ran : ClientsEnd (LogWriter D ghosts)) → ComesTo settings script (Wrote opened) fault_of (λ l. ghosts.faults (disk_of l)) ran
        → (told : RunEnd) → IsEndOfRun ran told → EndsOn ghosts options start mode script disk (disk_of (log_of ran)) told
    is_end mode accepted in_range only counts (NotRun log) wrote told e =
        let was_read = only_read opened [] log wrote.0 refl in
        let found : IsAsFound start (ghosts.told disk) (ghosts.told (disk_of log)) = subst (IsAsFound start (ghosts.told disk)) (sym was_read.disk.same) (found_as start before disk opened goes has_opened) in
        let crash = crash_as start mode before disk opened only goes accepted in_range has_opened in
        let refused : IsRefused ghosts start mode disk (disk_of log) NoMemory = (inr (accepted, in_range, found), wrote.1, crash_read start mode before disk opened (disk_of log) has_opened crash counts was_read.disk) in
        subst (λ (r : RunEnd). EndsOn ghosts options start mode script disk (disk_of log) r) (sym e) refused
    is_end mode accepted in_range only counts (Untold log last) ran told e =
        subst (λ (r : RunEnd). EndsOn ghosts options start mode script disk (disk_of log) r) (sym e) (before, goes, has_outcome log last ran)
    is_end mode accepted in_range only counts (Told log last transcripts history state) both told e =
        subst (λ (r : RunEnd). EndsOn ghosts options start mode script disk (disk_of log) r) (sym e.2) (before, goes, has_run log last transcripts history state e.0 e.1 both.0 both.1)

  -- the disk's time has gone on, and its count of faults hasn't fallen, whether calls wrote the log or none did
  abbrev WentOn : LogWriter D ghosts → LogWriter D ghosts → Type 0
  WentOn opened log = GoesOn ghosts.moment ghosts.from (disk_of opened) (disk_of log) × (ghosts.faults (disk_of opened) ≤ ghosts.faults (disk_of log))

  pub went_on : (opened : LogWriter D ghosts) (options : Options) (map : Pairs) (script : List (List Command)) (counted : ℕ) (kept : Option (List Logged)) (ran : ClientsEnd (LogWriter D ghosts))
      → ComesTo (with_kept kept (settings_of options map (length script) counted)) script (Wrote opened) fault_of (λ l. ghosts.faults (disk_of l)) ran → WentOn opened (log_of ran)
  went_on opened options map script counted kept (NotRun log) wrote = (goes_on opened log [] wrote.0, later opened log [] wrote.0)
  went_on opened options map script counted kept (Untold log last) ran = (goes_on opened log (ran.writes.calls ++ ran.writes.lost) ran.writes.by, later opened log (ran.writes.calls ++ ran.writes.lost) ran.writes.by)
  went_on opened options map script counted kept (Told log last transcripts history state) told =
      let ran = told.0 in (goes_on opened log (ran.writes.calls ++ ran.writes.lost) ran.writes.by, later opened log (ran.writes.calls ++ ran.writes.lost) ran.writes.by)
