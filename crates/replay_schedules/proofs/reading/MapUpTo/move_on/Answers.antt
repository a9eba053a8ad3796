use Rattle.std.proofs.Common.{◌+◌, length, refl, arith}
use Rattle.replay_core.specs.Shown.{plans_in}
use Rattle.replay_schedules.proofs.MapLemmas.{moved_on}
use Rattle.replay_schedules.proofs.reading.MapUpTo.move_on.Goals as goal

pub returns-clause-map : goal.returns-clause-map
returns-clause-map c = λ o s is_core shows is later.
    (moved_on (plans_in c.args.state.now) c.entries-entries.result.now s.entries c.args.self.now
    (record { alloc = c.args.self.now.alloc; map = c.write_entries.new.map; at = c.args.at; count = c.min-written.result + length c.up_to-more.result.now })
    c.args.at c.min-written.result c.up_to-more.result.now (c.entries-entries.ensures.within o s is_core shows) (c.entries-entries.ensures.shown o s shows) is later
    (omega arith) c.up_to-more.ensures.items c.in_ok-write_entries.ensures refl refl).0

pub returns-clause-kept : goal.returns-clause-kept
returns-clause-kept c = λ o s is_core shows is later.
    (moved_on (plans_in c.args.state.now) c.entries-entries.result.now s.entries c.args.self.now
    (record { alloc = c.args.self.now.alloc; map = c.write_entries.new.map; at = c.args.at; count = c.min-written.result + length c.up_to-more.result.now })
    c.args.at c.min-written.result c.up_to-more.result.now (c.entries-entries.ensures.within o s is_core shows) (c.entries-entries.ensures.shown o s shows) is later
    (omega arith) c.up_to-more.ensures.items c.in_ok-write_entries.ensures refl refl).1
