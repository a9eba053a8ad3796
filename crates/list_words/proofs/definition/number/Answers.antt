use Rattle.std.proofs.Common.{◌∙◌, ap}
use Rattle.clap.specs.declared.builder.arg.Arg.{Arg}
use Rattle.list_words.proofs.Additions.{with_parser}
use Rattle.list_words.proofs.definition.number.Goals as goal

pub returns : goal.returns
returns c =
    let parser = c.value_parser.ensures in
    record {
      rule = with_parser _ _ _ _ _ _ _ parser.others parser.given.1 parser.given.2 c.unsigned.ensures c.option.ensures.rule;
      local = ap (λ (a : Arg). a.global) parser.others ∙ c.option.ensures.local;
    }
