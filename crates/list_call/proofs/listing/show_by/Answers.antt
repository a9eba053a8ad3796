use Rattle.std.proofs.Common.{refl}
use Rattle.list_call.proofs.Showing.{counts_written, records_written}
use Rattle.list_call.proofs.listing.show_by.Goals as goal

pub returns-then-words-clause-written : goal.returns-then-words-clause-written
returns-then-words-clause-written g c keyed =
    counts_written c.args.words c.args.number (g.K.Sink.taken c.args.sink.now) (g.K.Sink.taken c.summarize.new.sink) _ (record { form = refl; from = refl; to = refl; key = keyed; scan = refl })
    (g.R.ReadAt.held c.args.file.now) c.summarize.result c.if-words.true c.summarize.ensures.shown

pub returns-else-words-clause-written : goal.returns-else-words-clause-written
returns-else-words-clause-written g c keyed =
    records_written c.args.words c.args.number (g.K.Sink.taken c.args.sink.now) (g.K.Sink.taken c.show.new.sink) _ (record { form = refl; from = refl; to = refl; key = keyed; scan = refl })
    (g.R.ReadAt.held c.args.file.now) c.show.result c.if-words.false c.show.ensures.shown
