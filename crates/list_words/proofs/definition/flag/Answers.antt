use Rattle.std.proofs.Common.{◌∙◌, Some, ap}
use Rattle.clap.specs.Words.{Rule, rule_of}
use Rattle.clap.specs.declared.builder.action.ArgAction.TheVariants.{SetTrue}
use Rattle.clap.specs.declared.builder.arg.Arg.{Arg}
use Rattle.list_words.proofs.definition.flag.Goals as goal

pub returns : goal.returns
returns c = record {
  rule = ap rule_of c.action.ensures ∙ ap (λ (r : Rule). record r { action = Some SetTrue }) c.option.ensures.rule;
  local = ap (λ (a : Arg). a.global) c.action.ensures ∙ c.option.ensures.local;
}
