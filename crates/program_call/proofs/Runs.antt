-- What a run of a script promises, put together from what is known at its status.
use Rattle.std.proofs.Common.{◌≡◌, ◌⊎◌, inl, inr, ℕ, refl, sym, subst}
use Rattle.model_base.specs.Calls as calls
use Rattle.model_base.specs.Script.{Script}
use Rattle.program_call.specs.declared.report.Status.TheVariants as status
use Rattle.program_call.specs.Answers.{MeetsNoDamage, MeetsNoHighFamily, RunsScript}
use Rattle.program_call.specs.Outcomes.{Observation, RanScript, RanWhole, DiskFailed, RanOutOfMemory}
use Rattle.program_call.specs.Reports.{HasRunStatus}
use Rattle.program_call.specs.Texts.{NoFault}
use Rattle.program_call.proofs.Endings.{AtStatus, AtWhole, AtFault, AtSinkFault, AtMemory, AtNotEmpty, AtDamage, AtHighFamily, nothing}

module _ (seen : Observation) (n : ℕ) (at : AtStatus seen n) where
  at_whole : n ≡ 0 → AtWhole seen
  at_whole is = subst (AtStatus seen) is at

  at_fault : n ≡ 3 → AtFault seen
  at_fault is = subst (AtStatus seen) is at

  at_sink_fault : n ≡ 5 → AtSinkFault seen
  at_sink_fault is = subst (AtStatus seen) is at

  at_memory : n ≡ 6 → AtMemory seen
  at_memory is = subst (AtStatus seen) is at

  at_not_empty : n ≡ 7 → AtNotEmpty seen
  at_not_empty is = subst (AtStatus seen) is at

  at_damage : n ≡ 8 → AtDamage seen
  at_damage is = subst (AtStatus seen) is at

  at_high_family : n ≡ 9 → AtHighFamily seen
  at_high_family is = subst (AtStatus seen) is at

  at_refusal : (n ≡ 7) ⊎ (n ≡ 8) ⊎ (n ≡ 9) → seen.logs.fails ≡ seen.logs.failed
  at_refusal (inl is) = (at_not_empty is).stood
  at_refusal (inr (inl is)) = (at_damage is).stood
  at_refusal (inr (inr is)) = (at_high_family is).stood

  at_text : (n ≡ 0) ⊎ (n ≡ 5) → seen.logs.fit
  at_text (inl is) = (at_whole is).fit
  at_text (inr is) = (at_sink_fault is).fit

  -- what is known at the status gives all that is promised
  pub runs_script : RunsScript seen n
  runs_script = record {
    no_fault = λ e. let whole = at_whole e in (whole.disk, whole.sink);
    no_sink_fault = λ e. (at_memory e).stood;
    disk_failed = λ e. (at_fault e).rose;
    sink_failed = λ e. (at_sink_fault e).rose;
    not_empty = λ e. let told = at_not_empty e in (told.len, told.found, told.says);
    fit = λ e. at_text e;
    damaged = λ e. (at_damage e).met;
    high_family = λ e. (at_high_family e).met;
    no_disk_fault = λ e. at_refusal e;
    ran = λ e. (at_whole e).whole;
    ran_to_fault = λ e. (at_fault e).told;
    ran_to_sink_fault = λ e. (at_sink_fault e).front;
    out_of_memory = λ e. (at_memory e).told;
  }

-- all that is promised holds where there was no memory and nothing was done
pub runs_none : (seen : Observation) (n : ℕ) → n ≡ 6 → seen.after ≡ seen.before → seen.fails ≡ seen.failed → seen.logs.left_alone → seen.logs.fails ≡ seen.logs.failed → RunsScript seen n
runs_none seen n six silent sink_stood alone stood =
    let none : AtStatus seen 6 = nothing seen status.Memory (refl, silent, sink_stood) alone stood in
    runs_script seen n (subst (AtStatus seen) (sym six) none)

-- where no device fails and nothing is refused, a run ends well, unless memory runs out
pub completes : (seen : Observation) (n : ℕ) → RunsScript seen n → HasRunStatus n → NoFault seen.failed seen.fails → NoFault seen.logs.failed seen.logs.fails → MeetsNoDamage seen.logs → MeetsNoHighFamily seen.logs
    → ((len : ℕ) → seen.logs.not_empty len → ⊥) → (n ≡ 0) ⊎ (n ≡ 6)
completes seen n runs (inl e) sink_stood disk_stood no_damage no_family no_bytes = inl e
completes seen n runs (inr (inl e)) sink_stood disk_stood no_damage no_family no_bytes = absurd (disk_stood (runs.disk_failed e))
completes seen n runs (inr (inr (inl e))) sink_stood disk_stood no_damage no_family no_bytes = absurd (sink_stood (runs.sink_failed e))
completes seen n runs (inr (inr (inr (inl e)))) sink_stood disk_stood no_damage no_family no_bytes = inr e
completes seen n runs (inr (inr (inr (inr (inl e))))) sink_stood disk_stood no_damage no_family no_bytes = absurd (let told = runs.not_empty e in no_bytes told.0 told.1)
completes seen n runs (inr (inr (inr (inr (inr (inl e)))))) sink_stood disk_stood no_damage no_family no_bytes = absurd (let met = runs.damaged e in no_damage met.at met.why met.damaged)
completes seen n runs (inr (inr (inr (inr (inr (inr e)))))) sink_stood disk_stood no_damage no_family no_bytes = absurd (let met = runs.high_family e in no_family met.family met.high)

-- If what a call says of a script gives a further statement, this one holds of the script that was run.
module _ (seen : Observation) (says : Script → Type 0) (tells : (s : Script) → seen.says s → says s) where
  abbrev retold : Observation
  retold = record seen { says = says }

  ran_script : (o : calls.Outcome) → RanScript seen o → RanScript retold o
  ran_script o ran = record { script = ran.script; said = tells ran.script ran.said; ran = ran.ran }

  ran_whole : RanWhole seen → RanWhole retold
  ran_whole r = record { outcome = r.outcome; ran = ran_script r.outcome r.ran; printed = r.printed; no_fault = r.no_fault; whole = r.whole }

  disk_failed : DiskFailed seen → DiskFailed retold
  disk_failed (inl r) = inl (record {
    script = r.script;
    said = tells r.script r.said;
    count = r.count;
    reached = r.reached;
    untouched = r.untouched;
    refused = r.refused;
  })
  disk_failed (inr r) = inr (record { outcome = r.outcome; ran = ran_script r.outcome r.ran; printed = r.printed; fault = r.fault; sink_counted = r.sink_counted })

  ran_out : RanOutOfMemory seen → RanOutOfMemory retold
  ran_out (inl r) = inl (record { untouched = r.untouched; counted = r.counted; silent = r.silent })
  ran_out (inr (inl r)) = inr (inl (record { outcome = r.outcome; ran = ran_script r.outcome r.ran; silent = r.silent }))
  ran_out (inr (inr r)) = inr (inr (record { outcome = r.outcome; ran = ran_script r.outcome r.ran; printed = r.printed; no_fault = r.no_fault; short = r.short }))

  pub runs_retold : (n : ℕ) → RunsScript seen n → RunsScript retold n
  runs_retold n runs = record {
    no_fault = runs.no_fault;
    no_sink_fault = runs.no_sink_fault;
    disk_failed = runs.disk_failed;
    sink_failed = runs.sink_failed;
    not_empty = runs.not_empty;
    fit = runs.fit;
    damaged = λ e. let met = runs.damaged e in record { at = met.at; why = met.why; damaged = met.damaged; refused = met.refused };
    high_family = λ e. let met = runs.high_family e in record { family = met.family; high = met.high; refused = met.refused };
    no_disk_fault = runs.no_disk_fault;
    ran = λ e. ran_whole (runs.ran e);
    ran_to_fault = λ e. disk_failed (runs.ran_to_fault e);
    ran_to_sink_fault = λ e. let r = runs.ran_to_sink_fault e in record { outcome = r.outcome; ran = ran_script r.outcome r.ran; printed = r.printed };
    out_of_memory = λ e. ran_out (runs.out_of_memory e);
  }
