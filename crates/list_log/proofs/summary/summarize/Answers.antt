use Rattle.list_log.proofs.Counting.{summarized}
use Rattle.list_log.proofs.summary.summarize.Goals as goal

pub returns-in-Ok-clause-shown : goal.returns-in-Ok-clause-shown
returns-in-Ok-clause-shown g c =
    summarized (g.R.ReadAt.held c.args.disk.now) c.args.settings c.args.number c.new-totals.result c.count.new.totals c.in-Ok.field-0 (g.K.Sink.taken c.args.sink.now) (g.K.Sink.taken c.write_totals.new.sink)
    (g.K.Sink.faults c.args.sink.now) (g.K.Sink.faults c.write_totals.new.sink) c.write_totals.result c.new-totals.ensures c.in-Ok.ensures.counted c.write_totals.ensures
