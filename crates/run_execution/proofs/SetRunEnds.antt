-- How a run over a set of logs ends, from its result over its opened set.
use Rattle.std.proofs.Common.{◌≡◌, ℕ, ◌+◌, ◌-◌, ◌^◌, ◌<◌, ◌≤◌, min, List, [], ◌∷◌, ◌++◌, length, map, take, sum_by, IfSome, Vec, Global, refl, ap, sym, ◌∙◌, subst, arith, length-append}
use Rattle.std.proofs.lemmas.List.Sums.{sum_by-cons}
use Rattle.std.specs.List.{AllByRecursion, AllZip}
use Rattle.model_base.specs.declared.limits.TheConstants.{MAX_CLIENTS, MAX_SIZE}
use Rattle.base_devices.specs.declared.disk.Disk.{Ghosts}
use Rattle.base_devices.specs.Faults.{count_in_all}
use Rattle.model_base.specs.LogContents.{GroupCall}
use Rattle.model_base.specs.Groups.{Group}
use Rattle.model_base.specs.Trace.{Settings}
use Rattle.model_base.specs.Calls.{Command}
use Rattle.model_base.specs.Calls as calls
use Rattle.model_base.specs.Outcomes.{IsLegalIn, outcome_of}
use Rattle.model_base.specs.History.{Entry, IsHistory}
use Rattle.model_base.specs.Map.{Pairs}
use Rattle.model_base.specs.declared.options.Options.{Options}
use Rattle.model_base.specs.Settings.{settings_of, with_kept}
use Rattle.log_batch.specs.Contents.{Contents}
use Rattle.run_outcome.specs.declared.history_entry.HistoryEntry.{HistoryEntry}
use Rattle.run_outcome.specs.declared.reply.Reply.{Reply}
use Rattle.run_outcome.specs.declared.outcome.Outcome.{Outcome}
use Rattle.run_outcome.specs.Shows.{ShowsOutcome}
use Rattle.log_writer.specs.declared.errors.OpenError.{OpenError}
use Rattle.log_writer.specs.declared.errors.OpenError.TheVariants.{Fault, NotEmpty, NoMemory}
use Rattle.log_writer.specs.declared.writer.LogWriter.{LogWriter}
use Rattle.log_writer.specs.declared.set.LogSet.{LogSet}
use Rattle.log_writer.specs.Words.{disk_of}
use Rattle.log_writer.specs.Opening.{HasOpened, IsLookedAt}
use Rattle.log_writer.specs.SetOpening.{IsSetCause, IsSetOpenError}
use Rattle.log_writer.specs.Sets.{begun_in, count_in, fault_in, limit_of, logs_of, WroteSet, no_call, one_more, read}
use Rattle.log_writer.specs.Reads.{WasRead}
use Rattle.log_writer.specs.ReadLaws.{none_were_read, were_read_on}
use Rattle.log_writer.proofs.Reading.{all_were_read}
use Rattle.log_writer.specs.SetCrashes.{HasOpenedSet}
use Rattle.log_writer.specs.SetWritten.{disks_of}
use Rattle.model_runs.specs.Crashes.{HaveSynced}
use Rattle.model_runs.specs.Written.{WritesLog}
use Rattle.model_runs.proofs.Acknowledged.{acknowledged_stay}
use Rattle.run_execution.proofs.GroupCalls.{synced_in}
use Rattle.run_threads.specs.declared.run.ClientsEnd.{ClientsEnd}
use Rattle.run_threads.specs.declared.run.ClientsEnd.TheVariants.{NotRun, Untold, Told}
use Rattle.run_threads.specs.Runs.{HaveRun, ComesTo, log_of, outcome_with}
use Rattle.run_execution.specs.declared.end.RunEnd.{RunEnd}
use Rattle.run_execution.specs.Ends.{end_of}
use Rattle.run_execution.specs.SetEnds.{SetExecution, IsEndOfSet, nothing_told, set_execution_on, IsRunOfSet, HasSetOutcome, AreLeftAlone, EndsOnSet}
use Rattle.run_execution.proofs.LegalRuns.{small_entries, refused_for_themselves}
use Rattle.run_execution.proofs.Openings.{OnlyNow, leaves_looked, time_on}
use Rattle.run_execution.proofs.SafeLogs.{all_suit}
use Rattle.run_execution.proofs.RunEnds.{comes_to}
use Rattle.run_execution.proofs.SetShapes.{Further}
use Rattle.run_execution.proofs.SafeSets.{SetLaws, DisksOf, lens_of, in_logs, lens_are, some_log, few_logs, are_filled, crash_safe, of_history}

sum_map : {A B : Type 0} (f : B → ℕ) (g : A → B) (xs : List A) → sum_by f (map g xs) ≡ sum_by (λ (x : A). f (g x)) xs
sum_map f g [] = refl
sum_map f g (x ∷ xs) = sum_by-cons f (g x) (map g xs) ∙ (ap (λ (n : ℕ). f (g x) + n) (sum_map f g xs) ∙ sym (sum_by-cons (λ y. f (g y)) x xs))

-- Disks that were only looked at, or whose set was opened
module _ {D : Type 0} (ghosts : Ghosts D) where
  pub opened_further : (disks : List D) (logs : List (LogWriter D ghosts)) → AllZip HasOpened disks logs → AllZip (Further ghosts) disks (DisksOf logs)
  opened_further [] [] opened = tt
  opened_further [] (log ∷ logs) opened = absurd opened
  opened_further (disk ∷ disks) [] opened = absurd opened
  opened_further (disk ∷ disks) (log ∷ logs) opened =
      let looked = (opened.0).looked_at in
      let time = looked.time in
      ((record { later = time.later; forgets = time.forgets }, looked.later), opened_further disks logs opened.1)

  pub looked_further : (olds news : List D) → AllZip (IsLookedAt ghosts) olds news → AllZip (Further ghosts) olds news
  looked_further [] [] looked = tt
  looked_further [] (new ∷ news) looked = absurd looked
  looked_further (old ∷ olds) [] looked = absurd looked
  looked_further (old ∷ olds) (new ∷ news) looked =
      let one = looked.0 in
      let time = one.time in
      ((record { later = time.later; forgets = time.forgets }, one.later), looked_further olds news looked.1)

  module _ (only_now : (disk : D) → OnlyNow ghosts disk) where
    looked_alone : (olds news : List D) → AllZip (IsLookedAt ghosts) olds news → AreLeftAlone ghosts olds news
    looked_alone [] [] looked = tt
    looked_alone [] (new ∷ news) looked = absurd looked
    looked_alone (old ∷ olds) [] looked = absurd looked
    looked_alone (old ∷ olds) (new ∷ news) looked = let one = looked.0 in ((one, leaves_looked ghosts old new (only_now old) one.same one.time), looked_alone olds news looked.1)

    -- logs that were opened, and then only read
    opened_alone : (disks : List D) (logs news : List (LogWriter D ghosts)) → AllZip HasOpened disks logs → AllZip WasRead logs news → AreLeftAlone ghosts disks (DisksOf news)
    opened_alone [] [] [] opened were_read = tt
    opened_alone [] [] (new ∷ news) opened were_read = absurd were_read
    opened_alone [] (log ∷ logs) news opened were_read = absurd opened
    opened_alone (disk ∷ disks) [] news opened were_read = absurd opened
    opened_alone (disk ∷ disks) (log ∷ logs) [] opened were_read = absurd were_read
    opened_alone (disk ∷ disks) (log ∷ logs) (new ∷ news) opened were_read =
        let one = (opened.0).looked_at in
        let then = (were_read.0).disk in
        let same : ghosts.told (disk_of new) ≡ ghosts.told disk = then.same ∙ one.same in
        let time = time_on ghosts disk (disk_of log) (disk_of new) then.same one.time then.time in
        let first = one.later in
        let second = then.later in
        ((record { same = same; later = omega (arith, first, second); time = time }, leaves_looked ghosts disk (disk_of new) (only_now disk) same time), opened_alone disks logs news opened.1 were_read.1)

    -- no set was opened
    pub refused_set : (options : Options) (limit : ℕ) (script : List (List Command)) (olds news : List D) (why : OpenError) → IsSetOpenError ghosts olds news why → EndsOnSet ghosts options limit script olds news (end_of why)
    refused_set options limit script olds news why error = by_cause why error.cause
      where
        alone : AreLeftAlone ghosts olds news
        alone = looked_alone olds news error.looked_at

        by_cause : (why : OpenError) → IsSetCause ghosts olds news why → EndsOnSet ghosts options limit script olds news (end_of why)
        by_cause (Fault count) cause = (alone, cause.0, cause.1)
        by_cause (NotEmpty len) cause = (cause.0, alone, cause.1)
        by_cause NoMemory cause = (alone, ap (count_in_all ghosts.faults) cause)

module _ {D : Type 0} {ghosts : Ghosts D} where
  -- the count of the logs is that of their disks
  count_is : (logs : List (LogWriter D ghosts)) → count_in logs ≡ count_in_all ghosts.faults (DisksOf logs)
  count_is logs = ap (λ (n : ℕ). min n (2 ^ 64 - 1)) (sym (sum_map ghosts.faults (λ (log : LogWriter D ghosts). disk_of log) logs))

  -- A set that was opened

  opened_sum : (disks : List D) (logs : List (LogWriter D ghosts)) → AllZip HasOpened disks logs → sum_by ghosts.faults (DisksOf logs) ≡ sum_by ghosts.faults disks
  opened_sum [] [] opened = refl
  opened_sum [] (log ∷ logs) opened = absurd opened
  opened_sum (disk ∷ disks) [] opened = absurd opened
  opened_sum (disk ∷ disks) (log ∷ logs) opened =
      sum_by-cons ghosts.faults (disk_of log) (DisksOf logs) ∙ ((λ i. (opened.0).no_fault i + opened_sum disks logs opened.1 i) ∙ sym (sum_by-cons ghosts.faults disk disks))

  opened_count : (disks : List D) (opened : LogSet D ghosts) → HasOpenedSet disks opened → count_in (logs_of opened) ≡ count_in_all ghosts.faults disks
  opened_count disks opened has = count_is (logs_of opened) ∙ ap (λ (n : ℕ). min n (2 ^ 64 - 1)) (opened_sum disks (logs_of opened) has.opened)

  opened_empty : (disks : List D) (logs : List (LogWriter D ghosts)) → AllZip HasOpened disks logs → AllByRecursion (λ (disk : D). IfSome (ghosts.told disk) (λ d. d.content ≡ [])) disks
  opened_empty [] logs opened = tt
  opened_empty (disk ∷ disks) [] opened = absurd opened
  opened_empty (disk ∷ disks) (log ∷ logs) opened = ((opened.0).empty, opened_empty disks logs opened.1)

  -- a set that no call wrote was only read
  only_read : (old : LogSet D ghosts) (calls : List GroupCall) (new : LogSet D ghosts) → WroteSet old calls new → calls ≡ [] → AllZip WasRead (logs_of old) (logs_of new)
  only_read old calls new no_call none = none_were_read (logs_of old)
  only_read old calls new (one_more {calls = before} c wrote adds) none = absurd (omega (arith, ap length none, length-append before (c ∷ [])))
  only_read old calls new (read {now = now} wrote was_read) none = were_read_on (logs_of old) (logs_of now) (logs_of new) (only_read old calls now wrote none) (all_were_read now new was_read)

  module _ (laws : SetLaws ghosts) (only_now : (disk : D) → OnlyNow ghosts disk) (disks : List D) (opened : LogSet D ghosts) (options : Options) (limit : ℕ) (script : List (List Command)) (has : HasOpenedSet disks opened) (limit_is : limit_of opened ≡ limit)
      (few : length script ≤ MAX_CLIENTS) (bounded : options.batch_bytes ≤ MAX_SIZE) (families : options.families < 2 ^ 32) where
    abbrev settings : Settings
    settings = with_kept (nothing_told ghosts disks) (settings_of options [] (length script) (count_in_all ghosts.faults disks))

    abbrev faults : LogSet D ghosts → ℕ
    faults set = count_in (logs_of set)

    module _ (set : LogSet D ghosts) (last : ℕ) (ran : HaveRun settings script (WroteSet opened) fault_in faults set last) where
      abbrev execution : SetExecution
      execution = set_execution_on ghosts options limit script disks (disks_of set)

      abbrev outcome : calls.Outcome
      outcome = outcome_of ran.trace ran.transcripts last (lens_of (begun_in set)) (fault_in set)

      -- it is legal, in the groups by which the log was written
      abbrev InGroups : ℕ → Type 0
      InGroups n = (is : IsLegalIn settings n script ran.trace ran.attempts outcome) × (is.groups ≡ ran.groups)

      in_groups : InGroups (count_in_all ghosts.faults (disks_of set))
      in_groups = subst InGroups (count_is (logs_of set)) (ran.legal (lens_of (begun_in set)), ran.of_groups (lens_of (begun_in set)))

      legal : IsLegalIn settings (count_in_all ghosts.faults (disks_of set)) script ran.trace ran.attempts outcome
      legal = in_groups.0

      abbrev Writes : List Group → Type 0
      Writes groups = WritesLog settings.group_bytes (λ calls. WroteSet opened calls set) ran.trace ran.attempts groups (fault_in set)

      writes : Writes in_groups.0.groups
      writes = subst Writes (sym in_groups.1) ran.writes

      history : IsHistory (ran.trace).start (ran.trace).entries
      history = (legal.is_trace).entries

      -- all clients have run: there is an outcome
      has_outcome : HasSetOutcome ghosts disks (disks_of set) execution outcome
      has_outcome =
          let w = writes in
          let run : IsRunOfSet execution outcome = record {
            trace = ran.trace;
            attempts = ran.attempts;
            legal = in_groups.0;
            writes = record {
              parts = w.parts;
              calls = w.calls;
              lost = w.lost;
              cut = w.cut;
              runs = w.runs;
              each = w.each;
              logged = w.logged;
              none_else = w.none_else;
              by = (set, record { opened = opened; has_opened = has; limit_is = limit_is; wrote = w.by }, refl, refl);
              log = w.log;
              rise = w.rise;
              in_turn = w.in_turn;
              by_leaders = w.by_leaders;
              made = w.made;
              are_made = w.are_made;
              by_groups = w.by_groups;
              of_first = w.of_first;
              dead = w.dead;
            };
            logs = (in_logs laws limit disks opened has limit_is ran.trace ran.attempts settings.group_bytes (fault_in set) history w.parts w.calls w.lost w.cut w.runs w.each w.none_else set w.by).logs;
            cut = (in_logs laws limit disks opened has limit_is ran.trace ran.attempts settings.group_bytes (fault_in set) history w.parts w.calls w.lost w.cut w.runs w.each w.none_else set w.by).all;
            some = some_log laws limit disks opened has limit_is ran.trace ran.attempts settings.group_bytes (fault_in set) history w.parts w.calls w.lost w.cut w.runs w.each w.none_else set w.by;
            within = few_logs laws limit disks opened has limit_is ran.trace ran.attempts settings.group_bytes (fault_in set) history w.parts w.calls w.lost w.cut w.runs w.each w.none_else set w.by;
            filled = are_filled laws limit disks opened has limit_is ran.trace ran.attempts settings.group_bytes (fault_in set) history w.parts w.calls w.lost w.cut w.runs w.each w.none_else set w.by;
            lens_are = lens_are laws limit disks opened has limit_is ran.trace ran.attempts settings.group_bytes (fault_in set) history w.parts w.calls w.lost w.cut w.runs w.each w.none_else set w.by;
          } in
          let ended : ℕ = count_in_all ghosts.faults (disks_of set) in
          let small = small_entries settings ended script ran.trace ran.attempts outcome legal bounded families in
          let suit = all_suit settings (let many = legal.clients in omega (arith, many, few)) (ran.trace).entries (legal.is_trace).clients small in
          record {
            run = run;
            refusals = refused_for_themselves settings ended script ran.trace ran.attempts outcome legal;
            counted = legal.counted;
            logs = record {
              found_empty = opened_empty disks (logs_of opened) has.opened;
              safe = λ safe_disks held tells reached reach. record {
                of_history = of_history laws limit disks opened has limit_is ran.trace ran.attempts settings.group_bytes (fault_in set) history w.parts w.calls w.lost w.cut w.runs w.each w.none_else set w.by outcome legal.history;
                crash = crash_safe laws limit disks opened has limit_is ran.trace ran.attempts settings.group_bytes (fault_in set) history w.parts w.calls w.lost w.cut w.runs w.each w.none_else set w.by safe_disks suit outcome legal.last refl held tells reached reach;
                -- the group of a batch that was to be synced is among the records that are there for certain
                acknowledged = acknowledged_stay settings ended script ran.trace ran.attempts outcome in_groups.0 _ in_groups.0.groups run.writes (execution.since outcome.log_lens) _
                    (λ k n group there to_sync less images left.
                    let front = (crash_safe laws limit disks opened has limit_is ran.trace ran.attempts settings.group_bytes (fault_in set) history w.parts w.calls w.lost w.cut w.runs w.each w.none_else set w.by safe_disks suit outcome legal.last refl held tells reached reach).fronts n images left in
                    (front.0, synced_in w.parts n front.0 k group there to_sync less (subst (λ (l : List (List Entry)). HaveSynced (take n l) front.0) run.cut front.1), front.2));
              };
            };
          }

      -- and the values show it, where they are at hand
      shown_so : (transcripts : Vec (Vec Reply Global) Global) (history : List (HistoryEntry Contents)) (state : Pairs) (shown : Outcome Pairs)
          → ((full_lens : Vec ℕ Global) (log_len : ℕ) → ShowsOutcome (outcome_with transcripts history last state full_lens log_len (fault_in set)) (outcome_of ran.trace ran.transcripts last ((full_lens).items ++ log_len ∷ []) (fault_in set)))
          → (shown.full_lens).items ++ shown.log_len ∷ [] ≡ lens_of (begun_in set) → shown ≡ outcome_with transcripts history last state shown.full_lens shown.log_len (fault_in set) → ShowsOutcome shown outcome
      shown_so transcripts history state shown shows lens is =
          let these : ShowsOutcome (outcome_with transcripts history last state shown.full_lens shown.log_len (fault_in set)) outcome =
          subst (λ (l : List ℕ). ShowsOutcome (outcome_with transcripts history last state shown.full_lens shown.log_len (fault_in set)) (outcome_of ran.trace ran.transcripts last l (fault_in set))) lens (shows shown.full_lens shown.log_len) in
          subst (λ (s : Outcome Pairs). ShowsOutcome s outcome) (sym is) these

    by_run : (ran : ClientsEnd (LogSet D ghosts)) → ComesTo settings script (WroteSet opened) fault_in faults ran → (told : RunEnd) → IsEndOfSet ran told → EndsOnSet ghosts options limit script disks (disks_of (log_of ran)) told
    by_run (NotRun set) wrote told e =
        subst (λ (r : RunEnd). EndsOnSet ghosts options limit script disks (disks_of set) r) (sym e)
        (opened_alone ghosts only_now disks (logs_of opened) (logs_of set) has.opened (only_read opened [] set wrote.0 refl), sym (count_is (logs_of set)) ∙ wrote.1)
    by_run (Untold set last) ran told e =
        subst (λ (r : RunEnd). EndsOnSet ghosts options limit script disks (disks_of set) r) (sym e) (outcome set last ran, has_outcome set last ran)
    by_run (Told set last transcripts history state) both told e =
        let shown : Outcome Pairs = e.0 in
        subst (λ (r : RunEnd). EndsOnSet ghosts options limit script disks (disks_of set) r) (sym e.1)
        (outcome set last both.0, has_outcome set last both.0, shown_so set last both.0 transcripts history state shown both.1 e.2 e.3)

    -- how the run ends, from its result
    pub is_set_end : (ran : ClientsEnd (LogSet D ghosts)) → ComesTo (with_kept (nothing_told ghosts disks) (settings_of options [] (length script) (count_in (logs_of opened)))) script (WroteSet opened) fault_in faults ran → (told : RunEnd) → IsEndOfSet ran told
        → EndsOnSet ghosts options limit script disks (disks_of (log_of ran)) told
    is_set_end ran comes told e =
        let counting : ℕ → Settings = λ n. with_kept (nothing_told ghosts disks) (settings_of options [] (length script) n) in
        let same : counting (count_in (logs_of opened)) ≡ settings = ap counting (opened_count disks opened has) in
        by_run ran (comes_to fault_in faults ran (counting (count_in (logs_of opened))) settings script script (WroteSet opened) (WroteSet opened) same refl refl comes) told e

  -- the calls of a run over a set
  pub calls_of : (set_up : Settings) (commands : List (List Command)) (opened : LogSet D ghosts) (ran : ClientsEnd (LogSet D ghosts)) → ComesTo set_up commands (WroteSet opened) fault_in (λ set. count_in (logs_of set)) ran
      → (made : List GroupCall) × WroteSet opened made (log_of ran)
  calls_of set_up commands opened (NotRun set) wrote = ([], wrote.0)
  calls_of set_up commands opened (Untold set last) ran = let w = ran.writes in (w.calls ++ w.lost, w.by)
  calls_of set_up commands opened (Told set last transcripts entries state) both = let ran = both.0 in let w = ran.writes in (w.calls ++ w.lost, w.by)
