-- From what is promised of an invocation to what is promised of the words that ask for it; and where there was no memory.
use Rattle.std.proofs.Common.{◌≡◌, ◌⊎◌, inl, inr, ℕ, ◌<◌, min, List, [], ◌∷◌, length, take, Option, Some, None, IfSome, refl, sym, subst, arith}
use Rattle.std.specs.Prelude.{String, MatchOption, ⊤}
use Rattle.std.specs.declared.alloc.Global.{Global}
use Rattle.base_devices.specs.declared.source.Source as source
use Rattle.base_devices.specs.declared.disk.Disk as disk
use Rattle.base_devices.specs.declared.sink.Sink as sink
use Rattle.model_base.specs.declared.options.Options.{Options}
use Rattle.log_recovery.specs.declared.modes.Mode.{Mode}
use Rattle.log_recovery.specs.declared.modes.Mode.TheVariants.{Point}
use Rattle.replay_core.specs.declared.state.CoreOptions.{CoreOptions}
use Rattle.run_outcome.specs.declared.log_start.LogStart.{LogStart}
use Rattle.run_outcome.specs.declared.log_start.LogStart.TheVariants.{New}
use Rattle.program_words.specs.declared.invocation.Invocation.{Invocation}
use Rattle.program_words.specs.declared.invocation.Invocation.TheVariants.{Run, Generate, Recover, Replay}
use Rattle.program_words.specs.Meaning.{invocation_of}
use Rattle.program_call.specs.declared.report.Form.TheVariants as form
use Rattle.program_call.specs.Answers.{AnswersReplay, RunsGenerated}
use Rattle.program_call.specs.Asking.{AreAtOdds, AskNothing, Ask, IsAsked, IsToRun, IsToRunLogs, IsToGenerate, IsToRecover, IsToRecoverLogs, IsToReplay, start_of, used_of, usual_options}
use Rattle.program_call.specs.Carrying.{AnswersAsked, RunsOne, RunsSeveral, GeneratesOne, RecoversOne, RecoversSeveral, RunsSchedule}
use Rattle.program_call.specs.Logs.{LogsOfRun}
use Rattle.program_call.specs.OneLog.{log_of_generated, log_of_run, log_to_recover}
use Rattle.program_call.specs.Outcomes.{IsGenerated, observation_of}
use Rattle.program_call.specs.SeveralDisks.{OverFirst}
use Rattle.program_call.specs.SeveralLogs.{logs_of_run, logs_to_recover}
use Rattle.program_call.proofs.Answering.{none_answers}
use Rattle.program_call.proofs.Leaving.{OnlyNow, all_unread, all_untouched, none_counted, untouched_alone}
use Rattle.program_call.proofs.Recoveries.{recovers_none}
use Rattle.program_call.proofs.Runs.{runs_none}
use Rattle.log_writer.proofs.Beginning.{leaves_before}

-- words ask for one thing at most

same_asked : (found : Option Invocation) (x y : Invocation) → found ≡ Some x → found ≡ Some y → x ≡ y
same_asked found x y is also = cc (is, also)

pub of_asked : (words : List (String Global)) (asked : Invocation) (P : Invocation → Type 0) → IsAsked words asked → Ask words P → P asked
of_asked words asked P is ask = subst P (same_asked (invocation_of words) ask.0 asked ask.1.0 is.0) ask.2

pub not_nothing : (words : List (String Global)) (asked : Invocation) → IsAsked words asked → AskNothing words → ⊥
not_nothing words asked is nothing = is.1 (subst (λ found. MatchOption found ⊤ AreAtOdds) is.0 nothing)

pub nothing_else : (words : List (String Global)) (P : Invocation → Type 0) → AskNothing words → Ask words P → ⊥
nothing_else words P nothing ask = not_nothing words ask.0 ask.1 nothing

-- what is not lawful
pub no_words : (words : List (String Global)) → invocation_of words ≡ None → AskNothing words
no_words words none = subst (λ found. MatchOption found ⊤ AreAtOdds) (sym none) tt

pub at_odds : (words : List (String Global)) (asked : Invocation) → invocation_of words ≡ Some asked → AreAtOdds asked → AskNothing words
at_odds words asked is odds = subst (λ found. MatchOption found ⊤ AreAtOdds) (sym is) odds

module _ {S D K : Type 0} (source : source.Ghosts S) (disk : disk.Ghosts D) (sink : sink.Ghosts K) (had has : S) (before after : K) (olds news : List D) (n : ℕ) (asked : Invocation)
    (answers : AnswersAsked source disk sink had has before after olds news n asked) where
  pub asked_run : (options : Options) (start : LogStart) (mode : Mode) → IsToRun asked (length olds) options start mode → RunsOne source disk sink had has before after olds news n options start mode
  asked_run options start mode ask =
      let of_run = subst (AnswersAsked source disk sink had has before after olds news n) ask.6 answers in
      subst (λ s. RunsOne source disk sink had has before after olds news n options s mode) (sym ask.8) (of_run.0 ask.7)

  pub asked_run_logs : (options : Options) (used limit : ℕ) → IsToRunLogs asked (length olds) options used limit → RunsSeveral source disk sink had has before after olds news n options limit used
  asked_run_logs options used limit ask =
      let of_run = subst (AnswersAsked source disk sink had has before after olds news n) ask.4 answers in
      let is = ask.5 in
      let some = ask.6 in
      subst (λ u. RunsSeveral source disk sink had has before after olds news n options limit u) (sym is) (of_run.1 (subst (λ u. 1 < u) is some))

  pub asked_generate : (seed clients batches families : ℕ) → IsToGenerate asked seed clients batches families → GeneratesOne source disk sink had has before after olds news n seed clients batches families
  asked_generate seed clients batches families ask = subst (AnswersAsked source disk sink had has before after olds news n) ask.2 answers

  recovers_one : (number : Option ℕ) (mode : Mode) (logs : Option ℕ) → AnswersAsked source disk sink had has before after olds news n (Recover number mode logs) → IfSome logs (λ m. m ≡ 1)
      → RecoversOne source disk sink had has before after olds news n number mode
  recovers_one number mode logs of_recover one = of_recover.0 one

  pub asked_recover : (number : Option ℕ) (mode : Mode) → IsToRecover asked number mode → RecoversOne source disk sink had has before after olds news n number mode
  asked_recover number mode ask =
      recovers_one number mode ask.0 (subst (AnswersAsked source disk sink had has before after olds news n) ask.1 answers) ask.2

  pub asked_recover_logs : (mode : Mode) (used : ℕ) → IsToRecoverLogs asked (length olds) mode used → RecoversSeveral source disk sink had has before after olds news n mode used
  asked_recover_logs mode used ask =
      let of_recover = subst (AnswersAsked source disk sink had has before after olds news n) ask.1 answers in
      subst (λ u. RecoversSeveral source disk sink had has before after olds news n mode u) (sym ask.3) (of_recover.1 ask.2)

  pub asked_replay : (options : CoreOptions) → IsToReplay asked options → RunsSchedule source disk sink had has before after olds news n options
  asked_replay options ask = subst (AnswersAsked source disk sink had has before after olds news n) ask answers

-- the first of the disks is there, and all are as they were
first_same : {D : Type 0} (disks : List D) (P : D → D → Type 0) → 0 < length disks → ((d : D) → P d d) → OverFirst disks disks P
first_same [] P some each = absurd (omega (arith, some))
first_same (d ∷ disks) P some each = (each d, refl)

-- There was no memory, and no device was touched.
pub none_generated : {D K : Type 0} (disk : disk.Ghosts D) (sink : sink.Ghosts K) (before : K) (n : ℕ) → n ≡ 6 → OnlyNow disk → (opened : D) (families seed clients batches : ℕ)
    → RunsGenerated sink before before (log_of_generated disk families opened opened) seed clients batches n
none_generated disk sink before n six only opened families seed clients batches =
    let logs : LogsOfRun = log_of_generated disk families opened opened in
    record {
      one = inr (inr (inr (inl six)));
      runs = runs_none (observation_of sink (IsGenerated seed clients batches) form.Summary logs before before) n six refl refl (untouched_alone disk only (usual_options families) New Point opened) refl;
      completes = λ a b told fit. inr six;
      one_summary = λ e. absurd (omega (arith, six, e));
    }

module _ {S D K : Type 0} (source : source.Ghosts S) (disk : disk.Ghosts D) (sink : sink.Ghosts K) (had : S) (before : K) (n : ℕ) (six : n ≡ 6) (only : OnlyNow disk) where
  pub none_replayed : {E : Type 0} (opened : E) (options : CoreOptions) → AnswersReplay source sink had had before before opened opened options n
  none_replayed opened options = record {
    one = inr (inr (inr (inr six)));
    disk_untouched = refl;
    schedule = λ e. absurd (omega (arith, six, e));
    other_schedule = λ memory worked. absurd (memory six);
    source_failed = λ e. absurd (omega (arith, six, e));
    source_fault_is_told = λ other. refl;
    no_fault = λ either. refl;
    sink_failed = λ e. absurd (omega (arith, six, e));
    read_to_end = λ e. absurd (no_text e);
    replayed = λ e. absurd (omega (arith, six, e));
    replayed_prefix = λ e. absurd (omega (arith, six, e));
    silent = λ e. refl;
    completes = λ a b. if_some _ (source.left had) (λ text schedule said. inr six);
  }
    where
      no_text : (n ≡ 0) ⊎ (n ≡ 5) → ⊥
      no_text (inl e) = omega (arith, six, e)
      no_text (inr e) = omega (arith, six, e)

      if_some : {T : Type 0} (P : T → Type 0) (o : Option T) → ((x : T) → P x) → IfSome o P
      if_some P None all = tt
      if_some P (Some x) all = all x

  module _ (disks : List D) (some : 0 < length disks) where
    pub none_run : (options : Options) (start : LogStart) (mode : Mode) → RunsOne source disk sink had had before before disks disks n options start mode
    none_run options start mode = first_same disks _ some
        (λ d. none_answers source sink had had before before (log_of_run disk options start mode d d) n six refl refl refl (untouched_alone disk only options start mode d) refl)

    pub none_run_logs : (options : Options) (limit used : ℕ) → RunsSeveral source disk sink had had before before disks disks n options limit used
    none_run_logs options limit used =
        let front = take used disks in
        (none_answers source sink had had before before (logs_of_run disk options limit front front) n six refl refl refl (all_untouched disk only front) refl, refl)

    recovers_all : (mode : Mode) (used : ℕ) → 0 < used → RecoversSeveral source disk sink had had before before disks disks n mode used
    recovers_all mode used more =
        let front = take used disks in
        ((refl, recovers_none sink before before (logs_to_recover disk mode front front) n six refl (all_unread disk only disks used some more) (none_counted disk.faults front)), refl)

    several : (mode : Mode) (logs : Option ℕ) → IfSome logs (λ m. 1 < m → RecoversSeveral source disk sink had had before before disks disks n mode (min m (length disks)))
    several mode None = tt
    several mode (Some m) = λ more. recovers_all mode (min m (length disks)) (omega (arith, more, some))

    pub none_asked : (asked : Invocation) → AnswersAsked source disk sink had had before before disks disks n asked
    none_asked (Run pipelined shards group_bytes batch_bytes last number resume mode logs limit families) =
        let options : Options = record { last = last; group_bytes = group_bytes; batch_bytes = batch_bytes; families = families } in
        (λ one. none_run options (start_of number resume) mode, λ more. none_run_logs options limit (used_of logs (length disks)))
    none_asked (Generate pipelined shards seed clients batches families) = first_same disks _ some (λ d. (refl, none_generated disk sink before n six only d families seed clients batches))
    none_asked (Recover number mode logs) =
        (λ one. first_same disks _ some (λ d. (refl, recovers_none sink before before (log_to_recover disk number mode d d) n six refl (refl, leaves_before disk d (only d)) refl)), several mode logs)
    none_asked (Replay pipelined group_bytes batch_bytes last families) =
        none_replayed disks (record { pipelined = pipelined; families = families; group_bytes = group_bytes; batch_bytes = batch_bytes; last = last })
