use Rattle.std.proofs.Common.{ℕ, inl, sym, subst}
use Rattle.line_rule.specs.declared.view.LineStage.TheVariants.{Helping}
use Rattle.line_rule.specs.Plays.{At}
use Rattle.line_rule.specs.Rule.{logs_picked, kept_picked, drops_picked}
use Rattle.line_writers.specs.Roles.{HasReply}
use Rattle.line_writers.proofs.Alone.{no_other, helps_now}
use Rattle.line_writers.proofs.line_writers.WriterList.await_alone.Goals as goal

pub unreachable-requires : goal.unreachable-requires
unreachable-requires g c =
    let stood = logs_picked g.Reply.GivesRun.run_of g.Log.LogOfGroups g.About.PickedAbout.number g.About.PickedAbout.about in
    let w = c.requires.waits in let f = c.await_from.ensures in
    no_other stood (kept_picked g.Log.LogOfGroups.kept g.About.PickedAbout.about) (drops_picked g.Log.LogOfGroups.drops g.About.PickedAbout.about) c.args.writer.now.client c.await_from.new.writer.task w.0 w.2 c.await_from.new.writer.seat.me c.await_from.result c.in_default.not-Parallel c.in_default.not-LogLeader c.in_default.not-Done (f.role w.0 w.1 w.2 w.3 w.4)

pub await_reply-requires-clause-helps : goal.await_reply-requires-clause-helps
await_reply-requires-clause-helps g c =
    let stood = logs_picked g.Reply.GivesRun.run_of g.Log.LogOfGroups g.About.PickedAbout.number g.About.PickedAbout.about in
    let w = c.requires.waits in let f = c.await_from.ensures in let m = c.await_from.new.writer.seat.me in
    let h = helps_now stood (kept_picked g.Log.LogOfGroups.kept g.About.PickedAbout.about) (drops_picked g.Log.LogOfGroups.drops g.About.PickedAbout.about) c.args.writer.now.client c.await_from.new.writer.task w.0 w.2 m c.await_from.result c.in-Parallel.is (f.parallel c.in-Parallel.is) (f.role w.0 w.1 w.2 w.3 w.4) in
    (w.0, w.2, subst (λ (j : ℕ). At j (Helping w.0) w.2 m) (sym f.seat.1) h.0, h.1)

pub returns-in-Parallel-clause-role : goal.returns-in-Parallel-clause-role
returns-in-Parallel-clause-role g c q past mine at slots =
    let stood = logs_picked g.Reply.GivesRun.run_of g.Log.LogOfGroups g.About.PickedAbout.number g.About.PickedAbout.about in
    let kept = kept_picked g.Log.LogOfGroups.kept g.About.PickedAbout.about in
    let f = c.await_from.ensures in let m = c.await_from.new.writer.seat.me in
    let h = helps_now stood kept (drops_picked g.Log.LogOfGroups.drops g.About.PickedAbout.about) c.args.writer.now.client c.await_from.new.writer.task q mine m c.await_from.result c.in-Parallel.is (f.parallel c.in-Parallel.is) (f.role q past mine at slots) in
    inl (subst (λ (j : ℕ). HasReply kept j q mine c.await_reply.result c.await_reply.new.writer.seat.me) f.seat.1 (c.await_reply.ensures.reply q mine (subst (λ (j : ℕ). At j (Helping q) mine m) (sym f.seat.1) h.0) h.1))
