-- The words, the digits and the line feed are written one after another.
use Rattle.std.proofs.Common.{◌≡◌, ◌∷◌, [], ◌++◌, ◌∙◌, subst}
use Rattle.std.proofs.KnownBytes.{Appends-trans}
use Rattle.std.specs.Prelude.{decimal}
use Rattle.std.specs.Io.KnownBytes.{Appends}
use Rattle.program_call.proofs.Lines.{TakesPart, all_after, second_fails}
use Rattle.program_call.proofs.report.write_line.Goals as goal

pub returns-in_err-write_all-2-clause-bytes : goal.returns-in_err-write_all-2-clause-bytes
returns-in_err-write_all-2-clause-bytes g c =
    let mid = g.K.Sink.taken c.write_all.new.sink in
    let new = g.K.Sink.taken c.write_all-2.new.sink in
    let digits : c.as_bytes.result.now ≡ decimal c.args.number = c.as_bytes.ensures.value ∙ c.format.ensures.text in
    second_fails (g.K.Sink.taken c.args.sink.now) mid new c.args.words.now (decimal c.args.number) (10 ∷ []) c.from_residual-in_err-write_all-2.result c.from_residual-in_err-write_all-2.ensures.0
    c.in_ok-write_all.ensures.bytes.bytes (subst (TakesPart mid new) digits c.in_err-write_all-2.ensures.bytes.bytes)

pub returns-clause-bytes : goal.returns-clause-bytes
returns-clause-bytes g c =
    let old = g.K.Sink.taken c.args.sink.now in
    let mid = g.K.Sink.taken c.write_all.new.sink in
    let then = g.K.Sink.taken c.write_all-2.new.sink in
    let words = c.args.words.now in
    let number = decimal c.args.number in
    let digits : c.as_bytes.result.now ≡ number = c.as_bytes.ensures.value ∙ c.format.ensures.text in
    let both = Appends-trans old mid then words number c.in_ok-write_all.ensures.bytes.bytes (subst (Appends mid then) digits c.in_ok-write_all-2.ensures.bytes.bytes) in
    all_after old then (g.K.Sink.taken c.write_all-3.new.sink) (words ++ number) (10 ∷ []) c.write_all-3.result both c.write_all-3.ensures.bytes
