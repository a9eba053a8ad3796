-- After what waited nothing waits, and the bytes are written.
use Rattle.std.proofs.Common.{◌≡◌, [], cond, Some, None, refl, sym, subst}
use Rattle.program_printing.specs.Printing.{Puts}
use Rattle.program_printing.proofs.Putting.{after, after_is, failed_put, nothing_then, nothing_waits, wrote}
use Rattle.program_printing.proofs.printer.Printer.write_through.Goals as goal

pub returns-then-self : goal.returns-then-self
returns-then-self g c =
    let now = c.write_waiting.new.sink in
    let bytes = c.args.bytes.now in
    let failed : None ≡ c.write_waiting.new.self = rw c.if-self.true at c.self.view_is in
    nothing_then g.K.Sink c.args.self.now c.write_waiting.new.self c.write_waiting.new.self c.args.sink.now now now bytes c.write_waiting.ensures.puts
    (subst (λ p. Puts g.K.Sink p now p now bytes) failed (failed_put g.K.Sink now bytes))

pub returns : goal.returns
returns g c =
    let mid = c.write_waiting.new.sink in
    let now = c.write_all.new.sink in
    let bytes = c.args.bytes.now in
    let waiting = c.self.inside.waiting.items in
    let then = cond c.is_err-self-inside.result None (Some waiting) in
    let was : Some waiting ≡ c.write_waiting.new.self = rw c.if-self.false at c.self.view_is in
    let none : c.write_waiting.new.self ≡ Some [] = nothing_waits c.write_waiting.new.self waiting was c.write_waiting.ensures.none in
    let empty : waiting ≡ [] = cc (was, none) in
    let is : then ≡ after c.write_all.result = after_is c.write_all.result c.is_err-self-inside.result waiting c.is_err-self-inside.ensures.value empty in
    let puts : Puts g.K.Sink (Some []) mid (after c.write_all.result) now bytes = wrote g.K.Sink mid now [] bytes bytes c.write_all.result refl c.write_all.ensures.bytes c.write_all.ensures.cause in
    nothing_then g.K.Sink c.args.self.now c.write_waiting.new.self then c.args.sink.now mid now bytes c.write_waiting.ensures.puts
    (subst (λ p. Puts g.K.Sink p mid then now bytes) (sym none) (subst (λ p. Puts g.K.Sink (Some []) mid p now bytes) (sym is) puts))
