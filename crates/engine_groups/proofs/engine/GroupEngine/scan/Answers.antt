use Rattle.std.proofs.Common.{◌≡◌}
use Rattle.model_base.specs.Map.{rows_within}
use Rattle.engine_groups.proofs.ClientMoves.{seat_keeps, seat_moved, seat_reads}
use Rattle.engine_groups.proofs.engine.GroupEngine.scan.Goals as goal

pub returns-clause-belongs : goal.returns-clause-belongs
returns-clause-belongs g c = seat_moved g.Versions.Table c.args.self.now c.args.client.now c.requires c.scan_in.new.seat c.scan_in.ensures.ours c.scan_in.ensures.seen

pub returns-clause-keeps : goal.returns-clause-keeps
returns-clause-keeps g c = seat_keeps g.Versions.Table c.args.self.now c.args.client.now c.requires c.scan_in.new.seat c.scan_in.ensures.seen.seen

pub returns-clause-ok : goal.returns-clause-ok
returns-clause-ok g c = seat_reads g.Versions.Table c.args.self.now c.args.client.now c.requires c.scan_in.result (λ rows. rows.at) (λ rows m. rows.rows ≡ rows_within 0 c.args.lo.now c.args.hi.now m) c.scan_in.new.seat c.scan_in.ensures.at c.scan_in.ensures.rows
