-- The engine and its clients may go to threads; and the result of the run over the engine is its result over the log.
use denote.Exit.{yes}
use denote.Param.{param}
use denote.Param.Send.{param_send, arg_send}
use Rattle.std.proofs.Common.{ℕ, [], length, refl, ap, sym, ◌∙◌, subst}
use Rattle.model_base.specs.Settings.{settings_of, with_kept}
use Rattle.engine_parts.specs.declared.log.OpenLog.{OpenLog}
use Rattle.engine_parts.specs.Logs.{fault_of, faults_of, Wrote}
use Rattle.engine_memory.proofs.Crossing.{client_send, engine_sync}
use Rattle.run_execution.proofs.Bare.{bare_comes, had_on}
use Rattle.run_execution.proofs.RunEnds.{comes_to}
use Rattle.run_execution.proofs.over_log.run_on.Goals as goal

pub run_engine-requires-send-E-Client : goal.run_engine-requires-send-E-Client
run_engine-requires-send-E-Client g c κs within = param_send 3 _ (arg_send _ yes _ (client_send (param 0 g.row.L) (param 1 g.row.C) (param 2 g.row.H) g.L.GroupLog c.type_bounds.send-L c.type_bounds.send-C))

pub run_engine-requires-sync-E : goal.run_engine-requires-sync-E
run_engine-requires-sync-E g c κs within = record { shared = (engine_sync (param 0 g.row.L) (param 1 g.row.C) (param 2 g.row.H) g.L.GroupLog c.type_bounds.send-L c.type_bounds.send-C c.type_bounds.sync-H).shared }

pub returns-in-Ok : goal.returns-in-Ok
returns-in-Ok g c = λ kept has.
    let opened : OpenLog g.row.L.Denot g.L.GroupLog = record { log = c.args.log; knows = refl } in
    let ran = c.run_engine.result in
    let value = c.as_slice-commands.ensures.value in
    let settings = c.in-Ok.ensures.engine.1 ∙ ap (λ (n : ℕ). settings_of c.args.options c.args.map n (g.L.GroupLog.faults c.args.log)) (ap length value) in
    let had = had_on kept c.args.log _ (settings_of c.args.options c.args.map _ _) _ (ap (λ (l : OpenLog g.row.L.Denot g.L.GroupLog). l.log) c.in-Ok.ensures.engine.0) c.in-Ok.ensures.engine.1 has in
    let comes = comes_to fault_of faults_of ran _ _ _ _ _ _ (ap (with_kept kept) settings) value (ap Wrote c.in-Ok.ensures.engine.0) (c.run_engine.ensures kept had) in
    rw c.bare.ensures (bare_comes _ _ opened ran comes)

pub returns-in-Err : goal.returns-in-Err
returns-in-Err g c = λ kept has. (
  subst (λ (l : OpenLog g.row.L.Denot g.L.GroupLog). g.L.GroupLog.wrote c.args.log [] l.log) (sym c.in-Err.ensures.err.0) ((g.met.L.GroupLog g.world.𝓛 g.world.𝓜 g.world.𝓡 (λ s allowed. allowed, λ waits. waits, λ alone. alone, λ cuts. cuts)).no_call c.args.log),
  ap (λ (l : OpenLog g.row.L.Denot g.L.GroupLog). g.L.GroupLog.faults l.log) c.in-Err.ensures.err.0,
)
