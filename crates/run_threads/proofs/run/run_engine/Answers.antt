use Rattle.std.proofs.Common.{◌≡◌, ◌∙◌, ℕ, sym, ap, map, List, arith}
use Rattle.std.proofs.lemmas.List.{length-map}
use Rattle.model_base.specs.Map.{Pairs}
use Rattle.model_base.specs.History.{map_over}
use Rattle.model_base.specs.Calls.{Call}
use Rattle.model_accounts.specs.ClientRuns.{HaveRun}
use Rattle.model_accounts.specs.Closing.{AreOurs}
use Rattle.run_threads.specs.Jobs.{AreNew}
use Rattle.run_threads.proofs.NotRun.{handed_back, newcomers, log_untouched}
use Rattle.run_threads.proofs.Whole.{as_many, number_at, makes_up, have_run, have_told}
use Rattle.run_threads.proofs.run.run_engine.Goals as goal

-- there are as many lists of batches as clients
pub history_and_map-requires : goal.history_and_map-requires
history_and_map-requires g c =
    let E = g.E.Engine in
    let clients = c.run_clients-ran.new.clients.items in
    let as_accounts = as_many c.in-Ok.batches.items (map E.account clients) c.in-Ok.ensures.accepted in
    omega (arith, as_accounts, length-map clients E.account, c.run_clients-ran.ensures.ours.number_of, c.requires.script, c.requires.few)

-- all clients have run, and the outcome is put together
pub returns : goal.returns
returns g c kept known =
    let E = g.E.Engine in
    let engine = c.args.engine in
    let settings = E.settings engine in
    let own = c.run_clients-ran.new.clients.items in
    let ours = c.run_clients-ran.ensures.ours in
    let accounts = map E.account own in
    let last = c.close-log.result.last in
    let log = c.close-log.result.log in
    let script = c.args.script.now in
    let closed = c.close-log.ensures kept known in
    let trace = closed.0 in
    let make = makes_up settings kept (E.wrote engine) E.fault E.faults log trace closed.1 accounts last closed.2 c.in-Ok.batches.items c.in-Ok.ensures.accepted (length-map own E.account ∙ ours.number_of)
    (number_at (E.belongs engine) E.account settings.clients own ours) in
    let legal = λ (transcripts : List (List Call)) (log_lens : List ℕ) (run : HaveRun settings script transcripts accounts).
    c.closed_runs_are_legal.ensures.legal settings kept (E.faults log) script transcripts accounts trace closed.1 last log_lens (E.fault log) (sym c.requires.script) run closed.2 in
    have_told settings kept (E.wrote engine) E.fault E.faults log trace closed.1 accounts last closed.2 script c.in-Ok.transcripts c.in-Ok.ensures.run legal closed.3
    c.in-Ok-history_and_map.history c.in-Ok-history_and_map.state (c.in-Ok-history_and_map.ensures.history trace.start trace.entries make)
    (c.in-Ok-history_and_map.ensures.state trace.start trace.entries make ∙ ap (λ (m : Pairs). map_over m trace.entries) (c.requires.opening ∙ sym closed.2.is_trace.opening))

-- all clients have run, and there was no memory to put the outcome together
pub returns-in_default-history_and_map : goal.returns-in_default-history_and_map
returns-in_default-history_and_map g c kept known =
    let E = g.E.Engine in
    let engine = c.args.engine in
    let settings = E.settings engine in
    let accounts = map E.account c.run_clients-ran.new.clients.items in
    let last = c.close-log.result.last in
    let log = c.close-log.result.log in
    let script = c.args.script.now in
    let closed = c.close-log.ensures kept known in
    let trace = closed.0 in
    let legal = λ (transcripts : List (List Call)) (log_lens : List ℕ) (run : HaveRun settings script transcripts accounts).
    c.closed_runs_are_legal.ensures.legal settings kept (E.faults log) script transcripts accounts trace closed.1 last log_lens (E.fault log) (sym c.requires.script) run closed.2 in
    have_run settings kept (E.wrote engine) E.fault E.faults log trace closed.1 accounts last closed.2 script c.in-Ok.transcripts c.in-Ok.ensures.run legal closed.3

-- the clients are as they came
pub returns-in_default : goal.returns-in_default
returns-in_default g c kept known =
    let E = g.E.Engine in
    let engine = c.args.engine in
    let settings = E.settings engine in
    let clients = c.run_clients-ran.new.clients in
    let back : clients ≡ c.args.clients.clients = c.in_default.ensures.err in
    let new = handed_back (AreNew E.account settings.start settings.opening) c.args.clients.clients clients back c.requires.new in
    let ours = handed_back (AreOurs (E.belongs engine) E.account settings.clients) c.args.clients.clients clients back c.requires.ours in
    let closed = c.close-log.ensures kept known in
    let log = c.close-log.result.log in
    log_untouched settings kept (E.faults log) closed.0 closed.1 (map E.account clients.items) c.close-log.result.last (E.fault log) closed.2
    settings.start settings.opening (length-map clients.items E.account ∙ ours.number_of) (newcomers E.account settings.start settings.opening clients.items new) (λ calls. E.wrote engine calls log) closed.3
