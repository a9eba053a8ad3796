use Rattle.std.proofs.Common.{ℕ, nat_lt, sym, ◌∙◌, ap, subst}
use Rattle.log_reader.specs.Windows.{IsSound, IsMovedTo, HasBytes}
use Rattle.log_reader.specs.Reader.{Reader, Follows}
use Rattle.log_reader.proofs.FromDisk.{if_one}
use Rattle.log_reader.proofs.Looking.{is_there, has_there}
use Rattle.log_reader.proofs.reader.LogReader.go_to.Goals as goal

pub returns-clause-has : goal.returns-clause-has
returns-clause-has g c =
    let new = c.move_to.new.self in
    let place = c.args.place in
    let moved = subst (λ (r : Reader). IsMovedTo place r.window) (sym c.self.view_is) c.in_ok-move_to.ensures.moved in
    if_one (g.R.ReadAt.held c.args.disk.now) (λ file. Follows file c.args.self.now → HasBytes file new.window) _ c.in_ok-move_to.ensures.bytes
    (λ file bytes follows.
    ap (λ (end : ℕ). nat_lt place end) c.end.ensures
    ∙ has_there file c.self.inside.window place c.self.invariant.sound moved (subst (λ (r : Reader). HasBytes file r.window) (sym c.self.view_is) (bytes follows)))

pub returns-clause-there : goal.returns-clause-there
returns-clause-there g c =
    let new = c.move_to.new.self in
    let place = c.args.place in
    let sound = subst (λ (r : Reader). IsSound r.window) c.self.view_is c.self.invariant.sound in
    if_one (g.R.ReadAt.held c.args.disk.now) (λ file. Follows file c.args.self.now → HasBytes file new.window) _ c.in_ok-move_to.ensures.bytes
    (λ file bytes follows inside.
    c.in_ok-move_to.ensures.place ∙ is_there file new.window place sound c.in_ok-move_to.ensures.moved (bytes follows) inside)
