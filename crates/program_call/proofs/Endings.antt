-- How a run ended: what is printed at each status, and what is known of the logs and of the sink.
use Rattle.std.proofs.Common.{◌≡◌, inl, inr, ℕ, Bool, true, false, eqb, List, Option, refl, sym, subst}
use Rattle.std.specs.Prelude.{⊤}
use Rattle.model_base.specs.Counts.{Rose}
use Rattle.model_base.specs.Calls as calls
use Rattle.model_base.specs.History.{IsHistory}
use Rattle.model_base.specs.Map.{Pairs}
use Rattle.model_base.specs.Script.{Script}
use Rattle.run_outcome.specs.declared.outcome.Outcome.{Outcome}
use Rattle.run_outcome.specs.Running.{IsReached}
use Rattle.run_outcome.specs.Shows.{ShowsOutcome}
use Rattle.run_execution.specs.declared.end.RunEnd.{RunEnd}
use Rattle.run_execution.specs.declared.end.RunEnd.TheVariants as end
use Rattle.program_text.specs.Refusals.{damage, high_family, not_empty, disk_fault}
use Rattle.program_call.specs.declared.reading.ReadError.{ReadError}
use Rattle.program_call.specs.declared.reading.ReadError.TheVariants as read
use Rattle.program_call.specs.declared.report.Status.{Status}
use Rattle.program_call.specs.declared.report.Status.TheVariants as status
use Rattle.program_call.specs.Reports.{SaysNothing, Refuses, PrintsRefusal, EndsWithOutcome, TellsEnd, TellsReadError, HasRunStatus, text_of, code}
use Rattle.program_call.specs.Logs.{LogsOfRun}
use Rattle.program_call.specs.Outcomes.{Observation, IsSaid, IsUnharmed, RanScript, RanWhole, DiskFailed, RanToSinkFault, RanOutOfMemory, MetDamage, MetHighFamily}
use Rattle.program_call.proofs.Memory.{all_whole, short_of}
use Rattle.program_call.proofs.ReadFaults.{unharmed, harmed}

abbrev either : Bool → Type 0 → Type 0 → Type 0
either true A B = A
either false A B = B

-- How a run of a script over logs ended, whether there is one log or several.
module _ (logs : LogsOfRun) (script : Script) where
  -- the script was run, with this outcome
  pub record RanSo (o : calls.Outcome) : Type 0 where
    pub ran : logs.ran script o
    pub begun : ℕ
    pub history : IsHistory begun o.history
    pub fit : logs.fit
    pub counted : IsUnharmed o → logs.fails ≡ logs.failed
    pub rose : (IsUnharmed o → ⊥) → Rose logs.failed logs.fails

  abbrev pub EndsOver : RunEnd → Type 0
  EndsOver (end.DiskFault count) = logs.left_alone × IsReached logs.failed count logs.fails
  EndsOver (end.NotEmpty len) = logs.not_empty len × logs.left_alone × (logs.fails ≡ logs.failed)
  EndsOver (end.Damage at why) = logs.damaged at why × logs.left_alone × (logs.fails ≡ logs.failed)
  EndsOver (end.Family family) = logs.high_family family × logs.left_alone × (logs.fails ≡ logs.failed)
  EndsOver end.NoMemory = logs.left_alone × (logs.fails ≡ logs.failed)
  EndsOver end.NoOutcome = (o : calls.Outcome) × RanSo o
  EndsOver (end.Ran shown) = (o : calls.Outcome) × RanSo o × ShowsOutcome shown o

module _ (seen : Observation) where
  -- What is known at each status of a run.
  pub record AtWhole : Type 0 where
    pub whole : RanWhole seen
    pub fit : seen.logs.fit
    pub disk : seen.logs.fails ≡ seen.logs.failed
    pub sink : seen.fails ≡ seen.failed

  pub record AtFault : Type 0 where
    pub told : DiskFailed seen
    pub rose : Rose seen.logs.failed seen.logs.fails

  pub record AtSinkFault : Type 0 where
    pub front : RanToSinkFault seen
    pub fit : seen.logs.fit
    pub rose : Rose seen.failed seen.fails

  pub record AtMemory : Type 0 where
    pub told : RanOutOfMemory seen
    pub stood : seen.fails ≡ seen.failed

  pub record AtNotEmpty : Type 0 where
    pub len : ℕ
    pub found : seen.logs.not_empty len
    pub says : IsSaid seen (not_empty len)
    pub stood : seen.logs.fails ≡ seen.logs.failed

  pub record AtDamage : Type 0 where
    pub met : MetDamage seen
    pub stood : seen.logs.fails ≡ seen.logs.failed

  pub record AtHighFamily : Type 0 where
    pub met : MetHighFamily seen
    pub stood : seen.logs.fails ≡ seen.logs.failed

  -- nothing is said of a status with which no run ends
  abbrev pub AtStatus : ℕ → Type 0
  AtStatus n = either (eqb n 0) AtWhole (either (eqb n 3) AtFault (either (eqb n 5) AtSinkFault (either (eqb n 6) AtMemory (either (eqb n 7) AtNotEmpty (either (eqb n 8) AtDamage (either (eqb n 9) AtHighFamily ⊤))))))

  -- there was no memory, and nothing was run or printed
  pub nothing : (given : Status) → SaysNothing seen.before seen.after seen.failed seen.fails given → seen.logs.left_alone → seen.logs.fails ≡ seen.logs.failed → AtStatus (code given)
  nothing given says alone stood =
      let there : AtMemory = record { told = inl (record { untouched = alone; counted = stood; silent = says.1 }); stood = says.2 } in
      subst (λ s. AtStatus (code s)) (sym says.0) there

  -- a refusal was printed, or there was no memory for its text
  refused : (text : List ℕ) (wanted given : Status) → (IsSaid seen text → AtStatus (code wanted)) → seen.logs.left_alone → seen.logs.fails ≡ seen.logs.failed → Refuses seen.before seen.after seen.failed seen.fails text wanted given → AtStatus (code given)
  refused text wanted given there alone stood (inl said) = subst (λ s. AtStatus (code s)) (sym said.0) (there said.1)
  refused text wanted given there alone stood (inr none) = nothing given none alone stood

  pub unread : (why : ReadError) (given : Status) → seen.logs.left_alone → seen.logs.fails ≡ seen.logs.failed → TellsReadError seen.before seen.after seen.failed seen.fails why given → AtStatus (code given)
  unread (read.Fault count) given alone stood tells = subst (λ s. AtStatus (code s)) (sym tells.0) tt
  unread (read.Script line kind) given alone stood tells = refused _ status.Script given (λ said. tt) alone stood tells
  unread read.NoMemory given alone stood tells = nothing given tells alone stood

  -- the call should run this script
  module _ (script : Script) (said : seen.says script) where
    ran_script : (o : calls.Outcome) → RanSo seen.logs script o → RanScript seen o
    ran_script o so = record { script = script; said = said; ran = so.ran }

    ran_so : (shown : Outcome Pairs) (o : calls.Outcome) → RanSo seen.logs script o → ShowsOutcome shown o → (given : Status) → EndsWithOutcome seen.before seen.after seen.failed seen.fails shown (text_of seen.form o) given → AtStatus (code given)
    ran_so shown o so shows status.Done e = record {
      whole = record {
        outcome = o;
        ran = ran_script o so;
        printed = e.0;
        no_fault = unharmed shown o shows e.1;
        whole = all_whole shown.transcripts.items o.transcripts shows.transcripts e.2;
      };
      fit = so.fit;
      disk = so.counted (unharmed shown o shows e.1);
      sink = e.3;
    }
    ran_so shown o so shows status.Disk e =
        let fault : IsUnharmed o → ⊥ = harmed shown o shows e.1 in
        record {
          told = inr (record { outcome = o; ran = ran_script o so; printed = e.0; fault = fault; sink_counted = e.2 });
          rose = so.rose fault;
        }
    ran_so shown o so shows status.Sink e = record {
      front = record { outcome = o; ran = ran_script o so; printed = (e.1, e.2) };
      fit = so.fit;
      rose = e.0;
    }
    ran_so shown o so shows status.Memory (inl none, stood) = record {
      told = inr (inl (record { outcome = o; ran = ran_script o so; silent = none }));
      stood = stood;
    }
    ran_so shown o so shows status.Memory (inr e, stood) = record {
      told = inr (inr (record {
        outcome = o;
        ran = ran_script o so;
        printed = e.0;
        no_fault = unharmed shown o shows e.1;
        short = short_of shown o shows e.2;
      }));
      stood = stood;
    }
    ran_so shown o so shows other e = absurd e

    disk_refused : (count : ℕ) (given : Status) → seen.logs.left_alone → IsReached seen.logs.failed count seen.logs.fails → PrintsRefusal seen.before seen.after seen.failed seen.fails (disk_fault count) status.Disk given → AtStatus (code given)
    disk_refused count given alone reached told =
        let there : AtFault = record {
          told = inl (record { script = script; said = said; count = count; reached = reached; untouched = alone; refused = told.1 });
          rose = subst (Rose seen.logs.failed) reached.1 reached.0;
        } in
        subst (λ s. AtStatus (code s)) (sym told.0) there

    pub ended_so : (e : RunEnd) (given : Status) → EndsOver seen.logs script e → TellsEnd seen.form seen.before seen.after seen.failed seen.fails e given → AtStatus (code given)
    ended_so (end.DiskFault count) given ends tells = disk_refused count given ends.0 ends.1 tells
    ended_so (end.NotEmpty len) given ends tells =
        let there : IsSaid seen (not_empty len) → AtNotEmpty = λ told. record { len = len; found = ends.0; says = told; stood = ends.2 } in
        refused (not_empty len) status.NotEmpty given there ends.1 ends.2 tells
    ended_so (end.Damage at why) given ends tells =
        let there : IsSaid seen (damage at why) → AtDamage = λ told. record {
          met = record { at = at; why = why; damaged = ends.0; refused = told };
          stood = ends.2;
        } in
        refused (damage at why) status.Damage given there ends.1 ends.2 tells
    ended_so (end.Family family) given ends tells =
        let there : IsSaid seen (high_family family) → AtHighFamily = λ told. record {
          met = record { family = family; high = ends.0; refused = told };
          stood = ends.2;
        } in
        refused (high_family family) status.Family given there ends.1 ends.2 tells
    ended_so end.NoMemory given ends tells = nothing given tells ends.0 ends.1
    ended_so end.NoOutcome given (o, so) tells =
        let there : AtMemory = record { told = inr (inl (record { outcome = o; ran = ran_script o so; silent = tells.1 })); stood = tells.2 } in
        subst (λ s. AtStatus (code s)) (sym tells.0) there
    ended_so (end.Ran shown) given (o, so, shows) tells = ran_so shown o so shows given (tells o so.begun so.history shows)

-- The status with which a run ends.

refusal_status : (old new : Option (List ℕ)) (failed fails : ℕ) (text : List ℕ) (wanted given : Status) → HasRunStatus (code wanted) → Refuses old new failed fails text wanted given → HasRunStatus (code given)
refusal_status old new failed fails text wanted given one (inl said) = subst (λ s. HasRunStatus (code s)) (sym said.0) one
refusal_status old new failed fails text wanted given one (inr none) = subst (λ s. HasRunStatus (code s)) (sym none.0) (inr (inr (inr (inl refl))))

outcome_status : (old new : Option (List ℕ)) (failed fails : ℕ) (shown : Outcome Pairs) (text : List ℕ) (given : Status) → EndsWithOutcome old new failed fails shown text given → HasRunStatus (code given)
outcome_status old new failed fails shown text status.Done e = inl refl
outcome_status old new failed fails shown text status.Disk e = inr (inl refl)
outcome_status old new failed fails shown text status.Sink e = inr (inr (inl refl))
outcome_status old new failed fails shown text status.Memory e = inr (inr (inr (inl refl)))
outcome_status old new failed fails shown text other e = absurd e

pub ended_status : (seen : Observation) (script : Script) (e : RunEnd) (given : Status) → EndsOver seen.logs script e → TellsEnd seen.form seen.before seen.after seen.failed seen.fails e given → HasRunStatus (code given)
ended_status seen script (end.DiskFault count) given ends tells = subst (λ s. HasRunStatus (code s)) (sym tells.0) (inr (inl refl))
ended_status seen script (end.NotEmpty len) given ends tells =
    refusal_status seen.before seen.after seen.failed seen.fails _ status.NotEmpty given (inr (inr (inr (inr (inl refl))))) tells
ended_status seen script (end.Damage at why) given ends tells =
    refusal_status seen.before seen.after seen.failed seen.fails _ status.Damage given (inr (inr (inr (inr (inr (inl refl)))))) tells
ended_status seen script (end.Family family) given ends tells =
    refusal_status seen.before seen.after seen.failed seen.fails _ status.Family given (inr (inr (inr (inr (inr (inr refl)))))) tells
ended_status seen script end.NoMemory given ends tells = subst (λ s. HasRunStatus (code s)) (sym tells.0) (inr (inr (inr (inl refl))))
ended_status seen script end.NoOutcome given ends tells = subst (λ s. HasRunStatus (code s)) (sym tells.0) (inr (inr (inr (inl refl))))
ended_status seen script (end.Ran shown) given (o, so, shows) tells =
    outcome_status seen.before seen.after seen.failed seen.fails shown (text_of seen.form o) given (tells o so.begun so.history shows)
