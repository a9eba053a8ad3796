use Rattle.std.proofs.Common.{ℕ, Option, sym, ◌∙◌, ap, subst}
use Rattle.log_reader.specs.Damaged.{is_damage, is_damaged}
use Rattle.log_reader.specs.Windows.{IsMovedTo, HasBytes}
use Rattle.log_reader.specs.Reader.{Reader, Follows}
use Rattle.log_reader.proofs.FromDisk.{if_one}
use Rattle.log_reader.proofs.Looking.{seen_here}
use Rattle.log_reader.proofs.reader.LogReader.is_damaged_at.Goals as goal

pub returns-clause-is : goal.returns-clause-is
returns-clause-is g c =
    let new = c.move_to.new.self in
    let inside = c.self.inside in
    let place = c.args.place in
    let moved = subst (λ (r : Reader). IsMovedTo place r.window) (sym c.self.view_is) c.in_ok-move_to.ensures.moved in
    if_one (g.R.ReadAt.held c.args.disk.now) (λ file. Follows file c.args.self.now → HasBytes file new.window) _ c.in_ok-move_to.ensures.bytes
    (λ file bytes follows.
    c.is_damaged.ensures
    ∙ (ap is_damage (seen_here inside.number file inside.window place c.self.invariant.sound moved (subst (λ (r : Reader). HasBytes file r.window) (sym c.self.view_is) (bytes follows)))
    ∙ ap (λ (number : Option ℕ). is_damaged number file place) (ap (λ (r : Reader). r.number) c.self.view_is ∙ c.in_ok-move_to.ensures.number)))
