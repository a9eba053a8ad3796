use Rattle.log_writer.proofs.set.LogSet.fill.Goals as goal

pub returns-in-Ok-clause-filled : goal.returns-in-Ok-clause-filled
returns-in-Ok-clause-filled g c = record {
  is_full = c.requires.full;
  synced = c.sync.new.self;
  syncs = c.in-Ok.ensures.synced (c.args.self.now.alive c.requires.alive);
  full = c.go_on.ensures.full;
  later = c.go_on.ensures.later;
  limit = c.go_on.ensures.limit;
  fault = c.go_on.ensures.alive;
}
