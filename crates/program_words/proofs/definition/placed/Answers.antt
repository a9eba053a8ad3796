use Rattle.std.proofs.Common.{◌≡◌, ◌∙◌, true, ap}
use Rattle.clap.specs.Words.{Rule, rule_of}
use Rattle.clap.specs.declared.builder.arg.Arg.{Arg}
use Rattle.program_words.proofs.Additions.{with_parser}
use Rattle.program_words.proofs.definition.placed.Goals as goal

pub returns : goal.returns
returns c =
    let parser = c.value_parser.ensures in
    let required : rule_of c.required.result ≡ _ = ap rule_of c.required.ensures ∙ ap (λ (r : Rule). record r { required = true }) c.new.ensures.rule in
    record {
      rule = with_parser _ _ _ _ _ _ _ parser.others parser.given.1 parser.given.2 c.unsigned.ensures required;
      local = ap (λ (a : Arg). a.global) parser.others ∙ ap (λ (a : Arg). a.global) c.required.ensures ∙ c.new.ensures.optional.1;
    }
