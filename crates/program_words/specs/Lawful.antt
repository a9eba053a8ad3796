-- The lawful words of a call, defined without clap: the program's name, a command, and its options in any order, each
-- at most once, and with its value, if it has one, in a word of its own. The three numbers of `gen` come after its
-- options.
use Rattle.std.specs.Prelude.{ℕ, ◌-◌, ◌++◌, ◌&&◌, Bool, true, false, List, [], ◌∷◌, Option, Some, None, String, string_bytes, map, find, length, take, drop, codes, bytes_eq, nat_le, if◌then◌else◌, is_some, option_and_then, option_map}
use Rattle.std.specs.List.{list_any}
use Rattle.std.specs.Option.{option_or}
use Rattle.std.specs.declared.alloc.Global.{Global}
use Rattle.model_base.specs.Script.{number_of}
use Rattle.program_words.specs.Commands.{Command, Texts, asked_by, commands}
use Rattle.program_words.specs.Options.{Kind, Known, Place, Word, no_value, number_within, word_among}
use Rattle.program_words.specs.declared.invocation.Invocation.{Invocation}

-- a number in its shortest decimal digits, and within its range
abbrev pub within : ℕ → ℕ → Word → Option ℕ
within least most word = option_and_then
    (λ n. if nat_le least n && nat_le n most then Some n else None) (number_of word)

-- ---- the options

abbrev pub is_flag : Kind → Bool
is_flag no_value = true
is_flag _ = false

-- which words may be the value of an option; a flag has none
abbrev pub takes : Kind → Word → Bool
takes no_value word = false
takes (number_within least most unless_given) word = is_some (within least most word)
takes (word_among words unless_given) word = list_any (λ w. bytes_eq word w) words

-- what stands for the value of an option unless it is given; a flag means `true` if it is given
abbrev pub unless_given : Kind → Option Word
unless_given no_value = Some (codes "false")
unless_given (number_within least most digits) = digits
unless_given (word_among words word) = Some word

abbrev pub word_of : Known → Word
word_of option = codes "--" ++ option.name

-- ---- the options that words give

-- the options and numbers that were given, each with its name and its value
abbrev pub Given : Type 0
Given = List (Word × Word)

-- the value of an option, if it was given
abbrev pub value_of : Word → Given → Option Word
value_of name given = option_map (λ g. g.1) (find (λ g. bytes_eq g.0 name) given)

-- one more value, after those that were given before; nothing is given twice
abbrev pub with_value : Word → Word → Given → Option Given
with_value name value given =
    if is_some (value_of name given) then None else Some (given ++ (name, value) ∷ [])

-- If the words are some of these options and nothing else, they are added after those that were given before. Of one of
-- these the value may still be to come.
abbrev pub with_options : List Known → Option Known → List Word → Given → Option Given
with_options known None [] given = Some given
with_options known (Some option) [] given = None
with_options known None (word ∷ words) given =
    option_and_then (λ option. if is_flag option.kind
    then option_and_then (with_options known None words) (with_value option.name (codes "true") given)
    else with_options known (Some option) words given)
    (find (λ option. bytes_eq (word_of option) word) known)
with_options known (Some option) (value ∷ words) given =
    if takes option.kind value
    then option_and_then (with_options known None words) (with_value option.name value given) else None

-- if the words are the numbers in these places and nothing else, they are added too
abbrev pub with_places : List Place → List Word → Given → Option Given
with_places [] [] given = Some given
with_places (place ∷ places) (word ∷ words) given =
    if is_some (within place.least place.most word)
    then option_and_then (with_places places words) (with_value place.name word given) else None
with_places _ _ given = None

-- what the words after a command give: its options, and behind these its numbers
abbrev pub given_by : Command → List Word → Option Given
given_by command words =
    let before = length words - length command.places in
    option_and_then (with_places command.places (drop before words))
    (with_options command.options None (take before words) [])

-- the text of an option: what was given, or what stands for it otherwise
abbrev pub text_of : List Known → Given → Word → Option Word
text_of known given name = option_or (value_of name given)
    (option_and_then (λ option. unless_given option.kind) (find (λ option. bytes_eq option.name name) known))

abbrev pub texts_of : List Known → Given → Texts
texts_of known given = record { written = text_of known given; typed = text_of known given }

-- ---- what words ask for

-- what a command asks for with the words after it
abbrev pub command_asked : Command → List Word → Option Invocation
command_asked command words =
    option_and_then (λ given. asked_by (texts_of command.options given) command.made) (given_by command words)

-- the program's name comes first, whatever it is
abbrev pub lawful_in : List Word → Option Invocation
lawful_in [] = None
lawful_in (name ∷ []) = None
lawful_in (name ∷ word ∷ words) =
    option_and_then (λ command. command_asked command words) (find (λ command. bytes_eq word command.name) commands)

-- what lawful words ask for
abbrev pub lawful_of : List (String Global) → Option Invocation
lawful_of words = lawful_in (map (λ w. string_bytes w) words)
