use Rattle.std.proofs.Common.{◌≡◌, None}
use Rattle.base_bytes.specs.Answers.{found_value}
use Rattle.model_base.specs.Map.{key_in, value_at}
use Rattle.engine_groups.proofs.ClientMoves.{seat_keeps, seat_moved, seat_reads}
use Rattle.engine_groups.proofs.engine.GroupEngine.get.Goals as goal

pub returns-clause-belongs : goal.returns-clause-belongs
returns-clause-belongs g c = seat_moved g.Versions.Table c.args.self.now c.args.client.now c.requires c.read_in.new.seat c.read_in.ensures.ours c.read_in.ensures.seen

pub returns-clause-keeps : goal.returns-clause-keeps
returns-clause-keeps g c = seat_keeps g.Versions.Table c.args.self.now c.args.client.now c.requires c.read_in.new.seat c.read_in.ensures.seen.seen

pub returns-clause-ok : goal.returns-clause-ok
returns-clause-ok g c = seat_reads g.Versions.Table c.args.self.now c.args.client.now c.requires c.read_in.result (λ read. read.at) (λ read m. found_value read.value ≡ value_at m (key_in None c.args.key.now)) c.read_in.new.seat c.read_in.ensures.at c.read_in.ensures.value
