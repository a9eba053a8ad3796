use Rattle.std.proofs.Common.{◌≤◌, length, sym, subst}
use Rattle.log_reader.specs.Opens.{starts_at}
use Rattle.log_reader.specs.Windows.{IsOn}
use Rattle.log_reader.specs.Reader.{Reader, Follows}
use Rattle.log_reader.proofs.FromDisk.{if_one}
use Rattle.log_reader.proofs.reader.LogReader.move_to.Goals as goal

pub returns-in-Ok-clause-follows : goal.returns-in-Ok-clause-follows
returns-in-Ok-clause-follows g c =
    if_one (g.R.ReadAt.held c.args.disk.now) (λ file. IsOn file c.self.inside.window → starts_at c.args.place ≤ length file → IsOn file c.move_to.new.self) _ c.in-Ok.ensures.on
    (λ file on follows inside. on (subst (λ (r : Reader). Follows file r) (sym c.self.view_is) follows) inside)

pub returns-in-Err-clause-follows : goal.returns-in-Err-clause-follows
returns-in-Err-clause-follows g c =
    if_one (g.R.ReadAt.held c.args.disk.now) (λ file. IsOn file c.self.inside.window → starts_at c.args.place ≤ length file → IsOn file c.move_to.new.self) _ c.in-Err.ensures.on
    (λ file on follows inside. on (subst (λ (r : Reader). Follows file r) (sym c.self.view_is) follows) inside)
