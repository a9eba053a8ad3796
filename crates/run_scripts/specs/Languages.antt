-- The languages of scripts, and the commands of each.
use Rattle.std.specs.Prelude.{◌≡◌, Bool, true, false, List, [], ◌++◌, if◌then◌else◌}
use Rattle.std.specs.List.{AllByRecursion}
use Rattle.model_base.specs.Script as model
use Rattle.model_base.specs.Script.{Grammar, whole_grammar}
use Rattle.model_base.specs.Calls.{Command, stop, unstop, slow, unslow}
use Rattle.run_scripts.specs.declared.language.Language.{Language}
use Rattle.run_scripts.specs.declared.language.Language.TheVariants.{Replay, Whole}
use Rattle.run_scripts.specs.declared.script.Script.{Script}
use Rattle.run_scripts.specs.Scripts.{commands_of, IsClientsCommand}

-- whether a language has the lines of the write controller's tokens
abbrev pub has_tokens : Language → Bool
has_tokens Replay = false
has_tokens Whole = true

-- the forms of a language's lines in addition to those that every language has
abbrev pub more_forms : Language → List model.CommandForm
more_forms language = if has_tokens language then model.token_forms else []

-- the grammar of a language: its lines, for up to sixty-four clients
abbrev pub grammar_of : Language → Grammar
grammar_of language = record whole_grammar { forms = model.client_forms ++ more_forms language }

-- what a line of a language may say: a command that the language has, with short words
abbrev pub IsCommandOf : Language → Command → Type 0
IsCommandOf language stop = has_tokens language ≡ true
IsCommandOf language unstop = has_tokens language ≡ true
IsCommandOf language (slow rate) = has_tokens language ≡ true
IsCommandOf language unslow = has_tokens language ≡ true
IsCommandOf language said = IsClientsCommand said

-- each command is one that a line may say
abbrev pub HasCommandsOf : Language → Script → Type 0
HasCommandsOf language script = AllByRecursion (AllByRecursion (IsCommandOf language)) (commands_of script)
