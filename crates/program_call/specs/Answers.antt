-- What a call promises of each command, by its status and by what the devices tell. Of the logs it is said by a record
-- of what is known of them (`Logs`), so it is said of one log and of several in the same words.
use Rattle.std.specs.Prelude.{◌≡◌, ◌≢◌, ◌⊎◌, ℕ, ◌<◌, List, [], Ok, Err, IfSome}
use Rattle.std.specs.Io.KnownBytes.{Appends}
use Rattle.base_devices.specs.declared.source.Source as source
use Rattle.base_devices.specs.declared.sink.Sink as sink
use Rattle.model_base.specs.Counts.{Rose}
use Rattle.model_base.specs.Script.{Script, Fault, script_of, whole_grammar}
use Rattle.model_base.specs.Generator.{script_of_seed}
use Rattle.model_base.specs.declared.log.EndReason.{EndReason}
use Rattle.model_core.specs.Schedule.{Schedule, schedule_of}
use Rattle.run_scripts.specs.ReplayLanguage.{replay_grammar, event_words}
use Rattle.replay_core.specs.declared.state.CoreOptions.{CoreOptions}
use Rattle.program_text.specs.Refusals.{usage, script_fault, source_fault, disk_fault, not_empty}
use Rattle.run_outcome.specs.Running.{IsReached}
use Rattle.run_laws.specs.Summaries.{summary_of}
use Rattle.program_call.specs.declared.report.Form.TheVariants as form
use Rattle.program_call.specs.Logs.{LogsOfRun, LogsToRecover}
use Rattle.program_call.specs.Outcomes.{Observation, observation_of, SaysScript, IsGenerated, IsSaid, RanWhole, DiskFailed, RanToSinkFault, RanOutOfMemory, MetDamage, MetHighFamily}
use Rattle.program_call.specs.Replays.{Replays, ReplaysFront}
use Rattle.program_call.specs.Texts.{NoFault, SaysTo, TakesPrefix}

-- no log that should go on has an end of its recovery that the mode doesn't accept
abbrev pub MeetsNoDamage : LogsOfRun → Type 0
MeetsNoDamage logs = (at : ℕ) (why : EndReason) → logs.damaged at why → ⊥

-- no log that should go on recovers a key in a family that no run is set up for
abbrev pub MeetsNoHighFamily : LogsOfRun → Type 0
MeetsNoHighFamily logs = (family : ℕ) → logs.high_family family → ⊥

-- A script was run over logs, or would have been.
pub record RunsScript (seen : Observation) (status : ℕ) : Type 0 where
  -- 0: no device failed. 3, 5: one did. 6: the sink has counted no fault.
  pub no_fault : status ≡ 0 → (seen.logs.fails ≡ seen.logs.failed) × (seen.fails ≡ seen.failed)
  pub no_sink_fault : status ≡ 6 → seen.fails ≡ seen.failed
  pub disk_failed : status ≡ 3 → Rose seen.logs.failed seen.logs.fails
  pub sink_failed : status ≡ 5 → Rose seen.failed seen.fails
  -- 7: The log should be a new one, but isn't empty, and stays as it was; a crash leaves no less. Over such a log no
  -- other status comes, except where the disk failed or there was no memory.
  pub not_empty : status ≡ 7 → (len : ℕ) × seen.logs.not_empty len × IsSaid seen (not_empty len)
  pub fit : (status ≡ 0) ⊎ (status ≡ 5) → seen.logs.fit
  -- 8: The log should be resumed, but the mode doesn't accept where its recovery ends. The log stays as it was. A
  -- script is run only where the mode accepts that end, and what isn't run leaves the log alone.
  pub damaged : status ≡ 8 → MetDamage seen
  -- 9: The log should be resumed, and the mode accepts where its recovery ends, but a key that it recovers is in a
  -- family that no run is set up for. The log stays as it was. A script is run only where there is no such key.
  pub high_family : status ≡ 9 → MetHighFamily seen
  -- 7, 8, 9: the disk has counted no fault
  pub no_disk_fault : (status ≡ 7) ⊎ (status ≡ 8) ⊎ (status ≡ 9) → seen.logs.fails ≡ seen.logs.failed
  -- However the clients' threads interleave, every reply in the output is that of a plain map at its point of one
  -- printed history of whole batches, which has each client's acknowledged batches once, in the client's order, each
  -- under its own run of sequences; and a crash at any moment of the run leaves a log that recovers a prefix of the
  -- logged batches, with every acknowledged synced batch that the log left by the crash goes past, and at the run's
  -- end with all of them. A run whose log is resumed begins from the map and the last sequence that the log recovers.
  -- Its map, its sequences and its log come after these: the prefix is one of the records that recovery keeps,
  -- followed by the run's own. Once the run has begun to write, the prefix has all of the kept records; before that
  -- it has them too, where recovery of what the crash leaves meets no fragment that recovery of the log doesn't
  -- meet. Of several logs the prefix is one of the batches of all of them, in the order in which they were written.
  pub ran : status ≡ 0 → RanWhole seen
  pub ran_to_fault : status ≡ 3 → DiskFailed seen
  pub ran_to_sink_fault : status ≡ 5 → RanToSinkFault seen
  pub out_of_memory : status ≡ 6 → RanOutOfMemory seen

-- The script that a seed makes was run over logs, or would have been, and the summary of its outcome is printed.
pub record RunsGenerated {K : Type 0} (sink : sink.Ghosts K) (before after : K) (logs : LogsOfRun)
    (seed clients batches status : ℕ) : Type 0 where
  pub one : (status ≡ 0) ⊎ (status ≡ 3) ⊎ (status ≡ 5) ⊎ (status ≡ 6) ⊎ (status ≡ 7)
  pub runs : RunsScript (observation_of sink (IsGenerated seed clients batches) form.Summary logs before after) status
  -- where no device fails, a run over an empty log ends well, unless memory runs out
  pub completes : NoFault (sink.faults before) (sink.faults after) → NoFault logs.failed logs.fails
      → logs.told → logs.fit → (status ≡ 0) ⊎ (status ≡ 6)
  -- the printed summary is the same however the clients' threads interleave
  pub one_summary : status ≡ 0
      → Appends (sink.taken before) (sink.taken after) (summary_of (script_of_seed seed clients batches))

-- What logs recover is printed, whatever their bytes are, if the mode accepts its end. The disks are only read.
pub record RecoversLogs {K : Type 0} (sink : sink.Ghosts K) (before after : K) (logs : LogsToRecover) (status : ℕ)
    : Type 0 where
  pub one : (status ≡ 0) ⊎ (status ≡ 3) ⊎ (status ≡ 5) ⊎ (status ≡ 6) ⊎ (status ≡ 8)
  pub only_read : logs.only_read
  -- 0, 6: the sink has counted no fault. 5: it failed.
  pub no_fault : (status ≡ 0) ⊎ (status ≡ 6) → sink.faults after ≡ sink.faults before
  pub sink_failed : status ≡ 5 → Rose (sink.faults before) (sink.faults after)
  -- 3: the disk failed. At each other status it has counted no fault.
  pub disk_failed : status ≡ 3 → Rose logs.failed logs.fails
  pub fault_is_told : status ≢ 3 → logs.no_fault
  pub recovered : status ≡ 0 → (text : List ℕ) × logs.recover text
      × Appends (sink.taken before) (sink.taken after) text
  pub recovered_prefix : status ≡ 5 → (text : List ℕ) × logs.recover text
      × TakesPrefix (sink.taken before) (sink.taken after) text
  pub refused : status ≡ 3 → (count : ℕ) × IsReached logs.failed count logs.fails
      × SaysTo (sink.taken before) (sink.taken after) (disk_fault count) (sink.faults before) (sink.faults after)
  -- 8: the mode doesn't accept where recovery ends, and a refusal that says so was printed
  pub damaged : status ≡ 8 → (text : List ℕ) × logs.damaged text
      × SaysTo (sink.taken before) (sink.taken after) text (sink.faults before) (sink.faults after)
  pub silent : status ≡ 6 → sink.taken after ≡ sink.taken before
  -- where no device fails and no damage is met, it ends well, unless memory runs out
  pub completes : NoFault (sink.faults before) (sink.faults after) → NoFault logs.failed logs.fails
      → ((text : List ℕ) → logs.damaged text → ⊥) → (status ≡ 0) ⊎ (status ≡ 6)

module _ {S K : Type 0} (source : source.Ghosts S) (sink : sink.Ghosts K) (had has : S) (before after : K) where
  -- this text of a refusal was printed
  abbrev Says : List ℕ → Type 0
  Says text = SaysTo (sink.taken before) (sink.taken after) text (sink.faults before) (sink.faults after)

  -- the source failed, and a refusal that says so was printed
  pub record SourceFailed : Type 0 where
    pub failed : Rose (source.faults had) (source.faults has)
    pub count : ℕ
    pub reached : IsReached (source.faults had) count (source.faults has)
    pub said : Says (source_fault count)

  -- The words aren't lawful: 1, or 6 and the sink isn't touched. No other device was touched; `opened` is the disk, or
  -- all disks, and `ended` what was handed back.
  pub record AnswersNothing {D : Type 0} (opened ended : D) (status : ℕ) : Type 0 where
    pub one : (status ≡ 1) ⊎ (status ≡ 6)
    pub said : status ≡ 1 → Says usage
    pub silent : status ≡ 6 → after ≡ before
    pub source_untouched : has ≡ had
    pub disk_untouched : ended ≡ opened

  -- `run`, over these logs
  pub record AnswersRun (logs : LogsOfRun) (status : ℕ) : Type 0 where
    pub other : (status < 10) × (status ≢ 1)
    -- 2: the text isn't a script, and its first fault is printed
    pub script : status ≡ 2 → (f : Fault)
        × IfSome (source.left had) (λ text. script_of whole_grammar text ≡ Err f) × Says (script_fault f)
    pub other_script : status ≢ 6 → NoFault (source.faults had) (source.faults has)
        → IfSome (source.left had) (λ text. (f : Fault) → script_of whole_grammar text ≡ Err f → status ≡ 2)
    -- 4: the source failed. At each other status it has counted no fault.
    pub source_failed : status ≡ 4 → SourceFailed
    pub source_fault_is_told : status ≢ 4 → source.faults has ≡ source.faults had
    -- where the script was run, or would have been, the source was read to its end
    pub read_to_end : (status ≡ 0) ⊎ (status ≡ 3) ⊎ (status ≡ 5) ⊎ (status ≡ 7) ⊎ (status ≡ 8) ⊎ (status ≡ 9)
        → IfSome (source.left has) (λ left. left ≡ [])
    -- 2, 4: The disk isn't touched. Nor is it, at any status, if the text is no script.
    pub disk_untouched : (status ≡ 2) ⊎ (status ≡ 4) → logs.untouched
    pub no_script : IfSome (source.left had) (λ text. (f : Fault)
        → script_of whole_grammar text ≡ Err f → logs.untouched)
    pub runs : RunsScript (observation_of sink (SaysScript (source.left had)) form.Whole logs before after) status
    -- where no device fails, no damage is met and no such family, a script over an empty log ends well, and so does one
    -- whose log is written over or resumed, unless memory runs out
    pub completes : NoFault (source.faults had) (source.faults has) → NoFault (sink.faults before) (sink.faults after)
        → NoFault logs.failed logs.fails → MeetsNoDamage logs → MeetsNoHighFamily logs → logs.told → logs.fit
        → IfSome (source.left had) (λ text. (script : Script) → script_of whole_grammar text ≡ Ok script
        → (status ≡ 0) ⊎ (status ≡ 6))

  -- `gen`, over these logs. The source isn't touched.
  abbrev pub AnswersGenerate : LogsOfRun → ℕ → ℕ → ℕ → ℕ → Type 0
  AnswersGenerate logs seed clients batches status =
      (has ≡ had) × RunsGenerated sink before after logs seed clients batches status

  -- `recover`, of these logs. The source isn't touched.
  abbrev pub AnswersRecover : LogsToRecover → ℕ → Type 0
  AnswersRecover logs status = (has ≡ had) × RecoversLogs sink before after logs status

  -- `replay`: the result of a schedule on the core is printed, and no disk is looked at
  pub record AnswersReplay {D : Type 0} (opened ended : D) (options : CoreOptions) (status : ℕ) : Type 0 where
    pub one : (status ≡ 0) ⊎ (status ≡ 2) ⊎ (status ≡ 4) ⊎ (status ≡ 5) ⊎ (status ≡ 6)
    pub disk_untouched : ended ≡ opened
    pub schedule : status ≡ 2 → (f : Fault)
        × IfSome (source.left had) (λ text. schedule_of replay_grammar event_words text ≡ Err f) × Says (script_fault f)
    pub other_schedule : status ≢ 6 → NoFault (source.faults had) (source.faults has) → IfSome (source.left had)
        (λ text. (f : Fault) → schedule_of replay_grammar event_words text ≡ Err f → status ≡ 2)
    -- 4: the source failed. At each other status it has counted no fault.
    pub source_failed : status ≡ 4 → SourceFailed
    pub source_fault_is_told : status ≢ 4 → source.faults has ≡ source.faults had
    -- 0, 6: the sink has counted no fault. 5: it failed.
    pub no_fault : (status ≡ 0) ⊎ (status ≡ 6) → sink.faults after ≡ sink.faults before
    pub sink_failed : status ≡ 5 → Rose (sink.faults before) (sink.faults after)
    pub read_to_end : (status ≡ 0) ⊎ (status ≡ 5) → IfSome (source.left has) (λ left. left ≡ [])
    pub replayed : status ≡ 0 → Replays options (source.left had) (sink.taken before) (sink.taken after)
    pub replayed_prefix : status ≡ 5 → ReplaysFront options (source.left had) (sink.taken before) (sink.taken after)
    pub silent : status ≡ 6 → sink.taken after ≡ sink.taken before
    -- where no device fails, a schedule ends well, unless memory runs out
    pub completes : NoFault (source.faults had) (source.faults has) → NoFault (sink.faults before) (sink.faults after)
        → IfSome (source.left had) (λ text. (schedule : Schedule)
        → schedule_of replay_grammar event_words text ≡ Ok schedule → (status ≡ 0) ⊎ (status ≡ 6))
