-- The run's promises, for the script that the seed makes. It has as many clients as are asked for, and its outcome's
-- summary is that of all legal outcomes.
use Rattle.std.proofs.Common.{◌≡◌, ◌⊎◌, inl, inr, ◌≤◌, ℕ, max, List, [], length, Option, refl, ap, subst, ◌∙◌, arith}
use Rattle.std.proofs.lemmas.List.{length-map}
use Rattle.std.proofs.lemmas.List.FromFn.{length-range_with_len}
use Rattle.std.specs.List.{range_with_len}
use Rattle.std.specs.Io.KnownBytes.{Appends}
use Rattle.model_base.specs.Generator.{script_of_seed, batches_drawn, first_state}
use Rattle.model_base.specs.Calls.{Outcome}
use Rattle.model_base.specs.Script.{Script as Said}
use Rattle.model_base.specs.Outcomes.{IsLegal}
use Rattle.model_base.specs.Recovery.{Logged}
use Rattle.model_base.specs.Settings.{settings_of, with_kept}
use Rattle.model_base.specs.declared.options.Options.{Options}
use Rattle.run_laws.specs.Summaries.{summary_of}
use Rattle.run_scripts.specs.declared.script.Script.{Script}
use Rattle.run_scripts.specs.Scripts.{commands_of}
use Rattle.run_outcome.specs.Running.{Before, batches_told, nothing}
use Rattle.run_execution.specs.Ends.{options_behind}
use Rattle.run_outcome.specs.declared.log_start.LogStart.TheVariants.{New}
use Rattle.log_recovery.specs.declared.modes.Mode.TheVariants.{Point}
use Rattle.program_call.specs.declared.report.Form.TheVariants as form
use Rattle.program_call.specs.Answers.{MeetsNoDamage, MeetsNoHighFamily, RunsScript}
use Rattle.program_call.specs.Asking.{usual_options}
use Rattle.program_call.specs.OneLog.{log_of_generated}
use Rattle.program_call.specs.Outcomes.{IsGenerated, IsScript, Observation, observation_of}
use Rattle.program_call.specs.Reports.{HasRunStatus}
use Rattle.program_call.proofs.Carried.{none_generated}
use Rattle.program_call.proofs.EndsOne.{no_bytes}
use Rattle.program_call.proofs.Runs.{runs_retold, completes}
use Rattle.program_call.proofs.generating.run_generated.Goals as goal

has_clients : (script : Script) (seed clients batches : ℕ) → commands_of script ≡ script_of_seed seed clients batches → length script.clients.items ≡ clients
has_clients script seed clients batches e =
    ap length e ∙ length-map (range_with_len 1 clients) (λ client. batches_drawn batches client (first_state seed client)) ∙ length-range_with_len 1 clients

-- a run that goes on from nothing has as many families as its options say
as_many : (families : ℕ) → 1 ≤ families → options_behind (usual_options families) nothing ≡ usual_options families
as_many families some = let most : max families 1 ≡ families = omega (arith, some) in ap usual_options most

-- the outcome of this script, by a run that goes on from nothing
from_nothing : (families : ℕ) → 1 ≤ families → (kept : Option (List Logged)) (opened ended : ℕ) (script this : Said) (before : Before) (o : Outcome) → before ≡ nothing → script ≡ this
    → IsLegal (with_kept kept (settings_of (options_behind (usual_options families) before) before.map (length script) opened)) ended script o
    → IsLegal (with_kept kept (settings_of (usual_options families) [] (length this) opened)) ended this o
from_nothing families some kept opened ended script this before o none same legal =
    subst (λ (options : Options). IsLegal (with_kept kept (settings_of options [] (length this) opened)) ended this o) (as_many families some)
    (subst (λ (b : Before). IsLegal (with_kept kept (settings_of (options_behind (usual_options families) b) b.map (length this) opened)) ended this o) none
    (subst (λ (s : Said). IsLegal (with_kept kept (settings_of (options_behind (usual_options families) before) before.map (length s) opened)) ended s o) same legal))

-- a new log doesn't go on, so no end of a recovery is refused, and no family that one needs
undamaged : (seen : Observation) (n : ℕ) → RunsScript seen n → MeetsNoDamage seen.logs → MeetsNoHighFamily seen.logs → HasRunStatus n → (n ≡ 0) ⊎ (n ≡ 3) ⊎ (n ≡ 5) ⊎ (n ≡ 6) ⊎ (n ≡ 7)
undamaged seen n runs none few (inl e) = inl e
undamaged seen n runs none few (inr (inl e)) = inr (inl e)
undamaged seen n runs none few (inr (inr (inl e))) = inr (inr (inl e))
undamaged seen n runs none few (inr (inr (inr (inl e)))) = inr (inr (inr (inl e)))
undamaged seen n runs none few (inr (inr (inr (inr (inl e))))) = inr (inr (inr (inr e)))
undamaged seen n runs none few (inr (inr (inr (inr (inr (inl e)))))) = absurd (let met = runs.damaged e in none met.at met.why met.damaged)
undamaged seen n runs none few (inr (inr (inr (inr (inr (inr e)))))) = absurd (let met = runs.high_family e in few met.family met.high)

pub run_and_tell-requires-clause-clients : goal.run_and_tell-requires-clause-clients
run_and_tell-requires-clause-clients g c κs within =
    let count = has_clients c.in-Ok.script c.args.seed c.args.clients c.args.batches c.in-Ok.ensures.ok in
    (omega (arith, count), omega (arith, count))

-- The disk's laws hold wherever a thread may run, and so in this one.
pub returns-in_default : goal.returns-in_default
returns-in_default g c =
    let disk = c.args.disk in
    let laws = g.met.D.Disk g.world.𝓛 g.world.𝓜 g.world.𝓡 ((λ s x. x), (λ x. x), (λ x. x), λ x. x) in
    rw c.end_with.ensures.disk (none_generated g.D.Disk g.K.Sink c.args.sink.now _ c.end_with.ensures.status laws.only_now disk c.args.families c.args.seed c.args.clients c.args.batches)

pub returns : goal.returns
returns g c =
    let seed = c.args.seed in
    let clients = c.args.clients in
    let batches = c.args.batches in
    let families = c.args.families in
    let was = c.args.disk in
    let disk = c.run_and_tell.result.disk in
    let before = c.args.sink.now in
    let after = c.run_and_tell.new.sink in
    let n = c.run_and_tell.result.status in
    let log = log_of_generated g.D.Disk families was disk in
    let seen = observation_of g.K.Sink (IsGenerated seed clients batches) form.Summary log before after in
    let runs : RunsScript seen n = runs_retold (observation_of g.K.Sink (IsScript (commands_of c.in-Ok.script)) form.Summary log before after) (IsGenerated seed clients batches) (λ s is. is ∙ c.in-Ok.ensures.ok) n c.run_and_tell.ensures.runs in
    let summary : n ≡ 0 → Appends (g.K.Sink.taken before) (g.K.Sink.taken after) (summary_of (script_of_seed seed clients batches)) = λ zero.
    let whole = runs.ran zero in
    let o = whole.outcome in
    let opened = g.D.Disk.faults was in
    let ended = g.D.Disk.faults disk in
    let ran = whole.ran.ran in
    let run = ran.is_outcome.run in
    let kept = batches_told (g.D.Disk.told was) ran.before in
    let legal = from_nothing families c.requires.families kept opened ended whole.ran.script (script_of_seed seed clients batches) ran.before o ran.goes_on whole.ran.said
    (record { trace = run.trace; attempts = run.attempts; legal = run.legal }) in
    let one = c.summaries_are_one.ensures.one_summary seed clients batches ended (with_kept kept (settings_of (usual_options families) [] (length (script_of_seed seed clients batches)) opened)) o
    (omega arith) (omega arith) refl refl refl c.requires.families legal whole.no_fault.0 whole.whole in
    subst (λ text. Appends (g.K.Sink.taken before) (g.K.Sink.taken after) text) one whole.printed in
    record {
      one = undamaged seen n runs (λ at why damage. damage.is_damaged) (λ family high. high.is_high) c.run_and_tell.ensures.status;
      runs = runs;
      completes = λ sink_stood disk_stood told fit. completes seen n runs c.run_and_tell.ensures.status sink_stood disk_stood (λ at why damage. damage.is_damaged) (λ family high. high.is_high)
          (λ len bytes. no_bytes g.D.Disk (usual_options families) New Point was disk len bytes told fit);
      one_summary = summary;
    }
