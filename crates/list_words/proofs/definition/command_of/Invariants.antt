use Rattle.std.proofs.Common.{◌≡◌, false, fold, take}
use Rattle.clap.specs.Words.{app_of, with_rule}
use Rattle.clap.specs.declared.builder.command.Command.TheViews.{out-Command}
use Rattle.list_words.specs.Definition.{listed_rule}
use Rattle.list_words.proofs.definition.command_of.Given as goal

-- the command has the arguments so far
abbrev pub invariant-loop-argument : goal.invariant-loop-argument
invariant-loop-argument l = (app_of l.command ≡ fold (λ a x. with_rule a (listed_rule x)) (app_of l.initial.command) (take l.argument-index l.arguments))
    × ((out-Command l.command).has_globals ≡ false)
