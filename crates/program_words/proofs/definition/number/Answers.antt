use Rattle.std.proofs.Common.{◌≡◌, ◌∙◌, Some, ap}
use Rattle.clap.specs.Words.{Rule, rule_of}
use Rattle.clap.specs.declared.builder.arg.Arg.{Arg}
use Rattle.program_words.proofs.Additions.{with_parser}
use Rattle.program_words.proofs.definition.number.Goals as goal

pub returns : goal.returns
returns c =
    let parser = c.value_parser.ensures in
    let named : rule_of c.long.result ≡ _ = ap rule_of c.long.ensures ∙ ap (λ (r : Rule). record r { long = Some c.args.name.now }) c.new.ensures.rule in
    record {
      rule = with_parser _ _ _ _ _ _ _ parser.others parser.given.1 parser.given.2 c.unsigned.ensures named;
      local = ap (λ (a : Arg). a.global) parser.others ∙ ap (λ (a : Arg). a.global) c.long.ensures ∙ c.new.ensures.optional.1;
    }
