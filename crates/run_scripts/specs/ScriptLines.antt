-- What a line of a script says, as the parser holds it.
use Rattle.std.specs.Prelude.{◌≡◌, ◌&&◌, ℕ, List, [], ◌∷◌, Option, Some, None, Result, Ok, Err, map, option_map, if◌then◌else◌}
use Rattle.std.specs.List.{list_all}
use Rattle.model_base.specs.declared.script.ScriptFault.TheVariants.{Form}
use Rattle.model_base.specs.declared.key.Key.{Key}
use Rattle.model_base.specs.Map.{key_at}
use Rattle.model_base.specs.Calls.{many}
use Rattle.model_base.specs.Script as model
use Rattle.model_base.specs.Script.{Grammar, section, command, line_of, with_line, ◌>>=◌}
use Rattle.run_scripts.specs.declared.script.ScriptError.{ScriptError}
use Rattle.run_scripts.specs.declared.script.ScriptError.TheVariants as script_error
use Rattle.run_scripts.specs.declared.lines.Line.{Line}
use Rattle.run_scripts.specs.declared.lines.Line.TheVariants as line
use Rattle.run_scripts.specs.declared.lines.LineError.{LineError}
use Rattle.run_scripts.specs.declared.lines.LineError.TheVariants.{Fault, NoMemory}
use Rattle.run_command_list.specs.Views.{command_of}
use Rattle.run_scripts.specs.declared.language.Language.{Language}
use Rattle.run_scripts.specs.Languages.{IsCommandOf}
use Rattle.run_scripts.specs.ScriptWords.{alone}
use Rattle.run_scripts.specs.Scripts.{line_len}

-- what a line says, in the definition's words
abbrev pub line_said : Line → model.Line
line_said (line.Section n) = section n
line_said (line.Command c) = command (command_of c)
line_said (line.Many keys) = command (many keys)

-- the length of the line with its line feed, if it adds a record, and 0 if it doesn't
abbrev pub said_len : Line → ℕ
said_len (line.Section n) = 0
said_len (line.Command c) = line_len (command_of c)
said_len (line.Many keys) = 0

-- a command is one that a line of the language may say
abbrev pub MayBeSaid : Language → Line → Type 0
MayBeSaid language (line.Section n) = Unit {0}
MayBeSaid language (line.Command c) = IsCommandOf language (command_of c)
MayBeSaid language (line.Many keys) = IsCommandOf language (many keys)

-- What is read is what the definition gives, and so is a fault. That there was no memory says nothing of the text.
abbrev pub Reads : {A B : Type 0} → (A → B) → model.Read B → Result A LineError → Type 0
Reads view given (Ok x) = given ≡ Ok (view x)
Reads view given (Err (Fault kind)) = given ≡ Err kind
Reads view given (Err NoMemory) = Unit {0}

-- keys of the default family, if each of these parts is a word
abbrev pub default_keys : List (List ℕ) → model.Read (List Key)
default_keys ws = if list_all model.is_word ws then Ok (map (key_at 0) ws) else Err Form

-- keys, each after its family's number, if each of these parts is a word
abbrev pub family_keys : List (List ℕ) → model.Read (List Key)
family_keys ws = if list_all model.is_word ws then model.or_form (model.keys_in_families ws) else Err Form

-- the family whose number comes first, and the parts behind it
abbrev pub family_first : List (List ℕ) → Option (ℕ × List (List ℕ))
family_first [] = None
family_first (w ∷ ws) = if model.is_word w then option_map (λ family. (family, ws)) (model.family_number w) else None

-- the key that comes first after its family's number, and the parts behind it
abbrev pub key_first : List (List ℕ) → Option (Key × List (List ℕ))
key_first [] = None
key_first (f ∷ []) = None
key_first (f ∷ w ∷ ws) = if model.is_word f && model.is_word w
    then option_map (λ family. (key_at family w, ws)) (model.family_number f) else None

-- the number that the one word spells, where there is no other word
abbrev pub number_alone : List (List ℕ) → model.Read ℕ
number_alone ws = model.or_form (alone ws) >>= λ w. model.or_form (model.number_of w)

-- what `rest` reads of the words after the first word of a form; where one of them is no word, the form is wrong
abbrev pub behind_word : (List (List ℕ) → model.Read model.Line) → List (List ℕ) → model.Read model.Line
behind_word rest ws = if list_all model.is_word ws then rest ws else Err Form

-- a script in this grammar, and one more line, which isn't passed over
abbrev pub said_added : Grammar → model.Script → List ℕ → model.Read model.Script
said_added g script l = line_of g.forms l >>= with_line g.client_limit script

-- a script in this grammar, and one more line of any kind
abbrev pub line_added : Grammar → model.Script → List ℕ → model.Read model.Script
line_added g script l = if model.is_passed_over l then Ok script else said_added g script l

-- the script's error, where this is the error of its line with this number
abbrev pub error_at : ℕ → LineError → ScriptError
error_at n (Fault kind) = script_error.Fault n kind
error_at n NoMemory = script_error.NoMemory
