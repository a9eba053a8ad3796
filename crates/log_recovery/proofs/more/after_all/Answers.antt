use Rattle.log_recovery.proofs.OneMore.{more_recovered}
use Rattle.log_recovery.proofs.more.after_all.Goals as goal

pub returns-clause-recovered : goal.returns-clause-recovered
returns-clause-recovered g c =
    rw c.answer_of.ensures (more_recovered c.args.number (g.R.ReadAt.held c.args.disk.now) (record { groups = c.new.result; map = c.args.pairs; last = c.args.last; end = 0 }) c.keep_log.new.kept c.in_ok-end.end c.new.ensures.items c.in_ok-end.ensures.recovered)
