-- Once a write has failed, the sink has a prefix of the text.
use Rattle.std.proofs.Common.{◌≡◌, None, sym, subst}
use Rattle.program_printing.specs.Printing.{IsPrinted}
use Rattle.program_printing.proofs.Putting.{only_front, with_nothing}
use Rattle.program_printing.proofs.printer.Printer.finish.Goals as goal

pub returns-then-self : goal.returns-then-self
returns-then-self g c = λ start text is.
    let now = c.write_waiting.new.sink in
    let failed : None ≡ c.write_waiting.new.self = rw c.if-self.true at c.self.view_is in
    only_front g.K.Sink start now text
    (subst (λ p. IsPrinted g.K.Sink start p now text) (sym failed) (with_nothing g.K.Sink start now c.write_waiting.new.self text (c.write_waiting.ensures.puts start text is)))
