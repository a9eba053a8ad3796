-- The command of `clap` that reads the words of a call: what clap's parse looks at in a command.
use Rattle.std.specs.Prelude.{List, [], ◌∷◌, ◌++◌, Option, Some, None, true, codes, fold, map, option_to_list}
use Rattle.clap.specs.declared.builder.action.ArgAction.{ArgAction}
use Rattle.clap.specs.declared.builder.action.ArgAction.TheVariants.{SetTrue}
use Rattle.clap.specs.Simple.{new_shape}
use Rattle.clap.specs.Words.{App, Rule, Shape, Text, new_app, new_rule, with_subcommand}
use Rattle.clap.specs.declared.builder.value_parser.ValueParser.{ValueParser}
use Rattle.clap.specs.declared.builder.value_parser.ValueParser.TheVariants.{Unsigned}
use Rattle.program_words.specs.Commands.{Command, commands}
use Rattle.program_words.specs.Options.{Kind, Known, Place, no_value, number_within, word_among}
use Rattle.program_words.specs.declared.definition.Argument.{Argument}
use Rattle.program_words.specs.declared.definition.Argument.TheVariants.{Flag, Number, NumberOr, Placed, Word}

-- a flag takes no value; every other option takes one, as it does in clap if nothing is said
abbrev pub action_for : Kind → Option ArgAction
action_for no_value = Some SetTrue
action_for _ = None

-- the matches may have any word as the value of an option that takes one of some words
abbrev pub parser_for : Kind → Option ValueParser
parser_for (number_within least most unless_given) = Some (Unsigned least most)
parser_for _ = None

abbrev pub defaults_for : Kind → List Text
defaults_for no_value = []
defaults_for (number_within least most unless_given) = option_to_list unless_given
defaults_for (word_among words unless_given) = unless_given ∷ []

-- an option `--name`
abbrev pub option_rule : Known → Rule
option_rule option = record (new_rule option.name) {
  long = Some option.name;
  action = action_for option.kind;
  parser = parser_for option.kind;
  defaults = defaults_for option.kind;
}

-- a number in a fixed place, which may not be left out
abbrev pub place_rule : Place → Rule
place_rule place =
    record (new_rule place.name) { required = true; parser = Some (Unsigned place.least place.most) }

-- an option or a number in its place, as the code lists it
abbrev pub listed_rule : Argument → Rule
listed_rule (Flag name) = option_rule (record { name = name.now; kind = no_value })
listed_rule (Number name least most) =
    option_rule (record { name = name.now; kind = number_within least most None })
listed_rule (NumberOr name least most unless_given) =
    option_rule (record { name = name.now; kind = number_within least most (Some unless_given.now) })
listed_rule (Word name unless_given) =
    option_rule (record { name = name.now; kind = word_among [] unless_given.now })
listed_rule (Placed name least most) = place_rule (record { name = name.now; least = least; most = most })

-- a command, with its options and its numbers in their order
abbrev pub shape : Command → Shape
shape command = record (new_shape command.name) {
  rules = map option_rule command.options ++ map place_rule command.places;
}

-- the program, which requires a command, and has no help
abbrev pub program : App
program = record (new_app (codes "writepath")) {
  top = record (new_app (codes "writepath")).top {
    subcommand_required = true;
    disable_help_flag = true;
    disable_help_subcommand = true;
  };
}

abbrev pub writepath : App
writepath = fold with_subcommand program (map shape commands)
