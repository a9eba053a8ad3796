-- What the scanner finds, as it was written.
use Rattle.list_log.proofs.Stepped.{next_record, next_passed, next_end}
use Rattle.list_log.proofs.listing.Listing.next.Goals as goal

pub returns-in-Record-clause-shown : goal.returns-in-Record-clause-shown
returns-in-Record-clause-shown g c =
    let s = c.self.inside in
    next_record (g.R.ReadAt.held c.args.disk.now) c.args.self.now c.write_record.new.self s.settings s.scanner c.next.new.self s.last s.text c.in-Record.unread c.in-Record.start c.in-Record.end
    (g.K.Sink.taken c.args.sink.now) (g.K.Sink.taken c.write_record.new.sink) (g.K.Sink.faults c.args.sink.now) (g.K.Sink.faults c.write_record.new.sink) c.write_record.result
    c.self.view_is c.in-Record.ensures.found c.in-Record.ensures.is_at c.write_record.ensures.scanner c.write_record.ensures.written

pub returns-in-Passed-clause-shown : goal.returns-in-Passed-clause-shown
returns-in-Passed-clause-shown g c =
    let s = c.self.inside in
    next_passed (g.R.ReadAt.held c.args.disk.now) c.args.self.now s.settings s.scanner c.next.new.self s.last s.text (g.K.Sink.taken c.args.sink.now) c.self.view_is c.in-Passed.ensures.found c.in-Passed.ensures.is_at

pub returns-in-End-clause-shown : goal.returns-in-End-clause-shown
returns-in-End-clause-shown g c =
    let s = c.self.inside in
    next_end (g.R.ReadAt.held c.args.disk.now) c.args.self.now c.write_end.new.self s.settings s.scanner s.last s.text c.in-End.at c.in-End.why
    (g.K.Sink.taken c.args.sink.now) (g.K.Sink.taken c.write_end.new.sink) (g.K.Sink.faults c.args.sink.now) (g.K.Sink.faults c.write_end.new.sink) c.write_end.result
    c.self.view_is c.in-End.ensures.found c.write_end.ensures.written
