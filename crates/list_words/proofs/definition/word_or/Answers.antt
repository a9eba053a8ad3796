use Rattle.std.proofs.Common.{◌∙◌, [], ◌∷◌, ap}
use Rattle.clap.specs.Words.{Rule, rule_of}
use Rattle.clap.specs.declared.builder.arg.Arg.{Arg}
use Rattle.list_words.proofs.definition.word_or.Goals as goal

pub returns : goal.returns
returns c = record {
  rule = ap rule_of c.default_value.ensures ∙ ap (λ (r : Rule). record r { defaults = c.args.word.now ∷ [] }) c.option.ensures.rule;
  local = ap (λ (a : Arg). a.global) c.default_value.ensures ∙ c.option.ensures.local;
}
