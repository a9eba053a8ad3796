use Rattle.line_rule.specs.Chain.{older_at}
use Rattle.std.proofs.Common.{◌≡◌, ℕ, [], refl, sym, ap, inl, arith, ◌∙◌}
use Rattle.line_rule.specs.declared.view.LineStage.TheVariants.{Leading}
use Rattle.line_rule.specs.Chain.{pack}
use Rattle.line_rule.proofs.Leads.{traces}
use Rattle.line_writers.proofs.line_writers.WriterList.own_code.Goals as goal

pub load-word-requires : goal.load-word-requires
load-word-requires g c = let z = c.args.self.now.sized in let q = c.requires.seat in let w = c.older_word.ensures in (q.0, omega arith, traces _ _ _ _ _ _)

pub returns-clause-code : goal.returns-clause-code
returns-clause-code g c lead mine newer at walk by =
    let k : ℕ = c.args.writer.now.client in
    let read : c.load-word.result ≡ pack 0 lead.own.code = c.load-word.ensures.2.1 0 k lead.walk newer lead.own [] (inl (refl, (Leading lead, mine, at, refl))) walk (c.older_word.ensures ∙ ap older_at (sym by)) in let whole = c.of.ensures.whole in let byte = c.of.ensures.byte in omega arith
