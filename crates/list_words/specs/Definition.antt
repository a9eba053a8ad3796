-- The command of `clap` that reads the words of a call: what clap's parse looks at in a command.
use Rattle.std.specs.Prelude.{ℕ, ◌-◌, ◌^◌, List, [], ◌∷◌, Some, true, codes, fold}
use Rattle.clap.specs.declared.builder.action.ArgAction.TheVariants.{SetTrue}
use Rattle.clap.specs.declared.builder.value_parser.ValueParser.TheVariants.{Unsigned}
use Rattle.clap.specs.Simple.{new_shape}
use Rattle.clap.specs.Words.{App, Rule, Shape, Text, new_app, new_rule, with_subcommand}
use Rattle.list_words.specs.declared.definition.Argument.{Argument}
use Rattle.list_words.specs.declared.definition.Argument.TheVariants.{Flag, Number, NumberOr, Word, WordOr, Place}

-- an option `--name`, which takes any word
abbrev pub named_rule : Text → Rule
named_rule name = record (new_rule name) { long = Some name }

abbrev pub flag : Text → Rule
flag name = record (named_rule name) { action = Some SetTrue }

abbrev pub number : Text → ℕ → ℕ → Rule
number name least most = record (named_rule name) { parser = Some (Unsigned least most) }

abbrev pub with_default : Text → Rule → Rule
with_default word rule = record rule { defaults = word ∷ [] }

-- a word in a place of its own, which may not be left out
abbrev pub place : Text → Rule
place name = record (new_rule name) { required = true }

-- an option or a word in its place, as the code lists it
abbrev pub listed_rule : Argument → Rule
listed_rule (Flag name help) = flag name.now
listed_rule (Number name least most help) = number name.now least most
listed_rule (NumberOr name least most digits help) = with_default digits.now (number name.now least most)
listed_rule (Word name help) = named_rule name.now
listed_rule (WordOr name word help) = with_default word.now (named_rule name.now)
listed_rule (Place name help) = place name.now

-- ---- the commands

abbrev log_number : Rule
log_number = number (codes "number") 1 (2 ^ 32 - 1)

abbrev pub list_rules : List Rule
list_rules = place (codes "LOG") ∷ log_number ∷ with_default (codes "0") (number (codes "from") 0 (2 ^ 64 - 1))
    ∷ with_default (codes "18446744073709551615") (number (codes "to") 0 (2 ^ 64 - 1)) ∷ named_rule (codes "key")
    ∷ flag (codes "text") ∷ flag (codes "json") ∷ flag (codes "summary") ∷ []

abbrev pub state_rules : List Rule
state_rules = place (codes "LOG") ∷ log_number ∷ with_default (codes "point") (named_rule (codes "mode"))
    ∷ flag (codes "text") ∷ flag (codes "json") ∷ []

abbrev pub shape : Text → List Rule → Shape
shape name rules = record (new_shape name) { rules = rules }

-- the program, which requires a command, and has help and a version
abbrev pub program : App
program = record (new_app (codes "wzlog")) {
  top = record (new_app (codes "wzlog")).top {
    subcommand_required = true;
    disable_help_subcommand = true;
    has_version = true;
  };
}

abbrev pub wzlog : App
wzlog = fold with_subcommand program
    (shape (codes "list") list_rules ∷ shape (codes "scan") list_rules ∷ shape (codes "state") state_rules ∷ [])
