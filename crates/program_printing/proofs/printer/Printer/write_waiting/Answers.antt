-- What waited was written, or a prefix of it.
use Rattle.std.proofs.Common.{◌≡◌, [], cond, Some, None, append-nil, ◌∙◌, sym, subst}
use Rattle.program_printing.specs.Printing.{Puts}
use Rattle.program_printing.proofs.Putting.{after, after_is, wrote}
use Rattle.program_printing.proofs.printer.Printer.write_waiting.Goals as goal

pub returns-clause-puts : goal.returns-clause-puts
returns-clause-puts g c =
    let before = c.args.sink.now in
    let now = c.write_all.new.sink in
    let waiting = c.self.inside.waiting.items in
    let then = cond c.is_err-self-inside.result None (Some c.clear.new.self.items) in
    let was : Some waiting ≡ c.args.self.now = rw c.if-self.false at c.self.view_is in
    let is : then ≡ after c.write_all.result = after_is c.write_all.result c.is_err-self-inside.result c.clear.new.self.items c.is_err-self-inside.ensures.value c.clear.ensures.items in
    let puts : Puts g.K.Sink (Some waiting) before (after c.write_all.result) now [] =
    wrote g.K.Sink before now waiting [] c.deref.result.now c.write_all.result (append-nil waiting ∙ sym c.deref.ensures.value) c.write_all.ensures.bytes c.write_all.ensures.cause in
    subst (λ p. Puts g.K.Sink p before then now []) was (subst (λ p. Puts g.K.Sink (Some waiting) before p now []) (sym is) puts)
