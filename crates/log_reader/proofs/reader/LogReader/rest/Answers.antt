use Rattle.std.proofs.Common.{take, drop, sym, ◌∙◌, ap, subst}
use Rattle.model_base.specs.Log.{room}
use Rattle.log_reader.specs.Reader.{Reader, Follows, HasBlock}
use Rattle.log_reader.proofs.Looking.{rest_is}
use Rattle.log_reader.proofs.reader.LogReader.rest.Goals as goal

pub returns-clause-bytes : goal.returns-clause-bytes
returns-clause-bytes c = λ file follows block going.
    let inside = c.self.inside in
    let on = subst (λ (r : Reader). Follows file r) (sym c.self.view_is) follows in
    let has = subst HasBlock (sym c.self.view_is) block in
    let there = c.self.invariant.behind (ap (λ (r : Reader). r.stopped) c.self.view_is ∙ going) in
    c.part.ensures
    ∙ (rest_is file inside.window inside.place c.self.invariant.sound on has.0 has.1 there
    ∙ ap (λ (r : Reader). take (room r.place) (drop r.place file)) c.self.view_is)
