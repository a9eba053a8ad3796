use Rattle.std.proofs.Common.{◌∙◌, ap, sym, subst, map}
use Rattle.std.specs.List.{AllByRecursion}
use Rattle.run_threads.specs.Jobs.{AreNone}
use Rattle.run_threads.specs.Parts.{client_of, replies_of, batches_of}
use Rattle.run_threads.proofs.Moves.{ready_all, done_ours, done_told, done_entries, whole_slice, jobs_count}
use Rattle.run_threads.proofs.clients.run_clients.Goals as goal

pub work_all-requires-after_bounds : goal.work_all-requires-after_bounds
work_all-requires-after_bounds g c κs within =
    let v = c.as_mut_slice.ensures.value in
    let e = c.args.engine.now in
    let none = subst (AllByRecursion AreNone) (sym c.fill.ensures.batches) c.in_ok-batches.ensures.none in
    rw v (ready_all (g.E.Engine.belongs e) g.E.Engine.account (g.E.Engine.settings e) c.args.script.now c.args.clients.now.items _ c.fill.new.jobs.items
    c.requires.ours c.requires.new c.requires.script c.requires.few c.requires.fits c.in_ok-replies.ensures none c.fill.ensures.clients c.fill.ensures.replies)

pub returns-clause-ours : goal.returns-clause-ours
returns-clause-ours g c =
    let e = c.args.engine.now in
    let jobs = c.work_all.new.jobs in
    let len = c.work_all.auto.jobs ∙ c.as_mut_slice.ensures.len in
    let whole = whole_slice c.fill.new.jobs.len jobs c.fill.new.jobs.items len in
    let count = len ∙ (c.fill.new.jobs.ok.0 ∙ (jobs_count c.fill.new.jobs.items c.args.clients.now.items c.fill.ensures.clients ∙ c.requires.ours.number_of)) in
    done_ours (g.E.Engine.belongs e) g.E.Engine.account (g.E.Engine.settings e) c.args.script.now jobs c.empty.new.clients.items c.work_all.ensures count (c.empty.ensures.clients ∙ ap (map client_of) whole)

pub returns-clause-run : goal.returns-clause-run
returns-clause-run g c =
    let e = c.args.engine.now in
    let jobs = c.work_all.new.jobs in
    let len = c.work_all.auto.jobs ∙ c.as_mut_slice.ensures.len in
    let whole = whole_slice c.fill.new.jobs.len jobs c.fill.new.jobs.items len in
    let count = len ∙ (c.fill.new.jobs.ok.0 ∙ (jobs_count c.fill.new.jobs.items c.args.clients.now.items c.fill.ensures.clients ∙ (c.requires.ours.number_of ∙ sym c.requires.script))) in
    done_told (g.E.Engine.belongs e) g.E.Engine.account (g.E.Engine.settings e) c.args.script.now jobs c.empty.new.clients.items c.empty.new.replies.items c.work_all.ensures count
    (c.empty.ensures.clients ∙ ap (map client_of) whole) (c.empty.ensures.replies ∙ ap (map replies_of) whole)

pub returns-clause-accepted : goal.returns-clause-accepted
returns-clause-accepted g c =
    let e = c.args.engine.now in
    let jobs = c.work_all.new.jobs in
    let len = c.work_all.auto.jobs ∙ c.as_mut_slice.ensures.len in
    let whole = whole_slice c.fill.new.jobs.len jobs c.fill.new.jobs.items len in
    done_entries (g.E.Engine.belongs e) g.E.Engine.account (g.E.Engine.settings e) c.args.script.now jobs c.empty.new.clients.items c.empty.new.batches.items c.work_all.ensures
    (c.empty.ensures.clients ∙ ap (map client_of) whole) (c.empty.ensures.batches ∙ ap (map batches_of) whole)
