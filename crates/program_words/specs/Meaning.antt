-- What the words of a call ask for, by what clap makes of them.
use Rattle.std.specs.Prelude.{Bool, true, false, List, [], ◌∷◌, Option, None, String, string_bytes, map, codes, bytes_eq, if◌then◌else◌, option_and_then}
use Rattle.std.specs.declared.alloc.Global.{Global}
use Rattle.clap.specs.Words.{Kinds, Row, Text, fault_of, first_of, one_of, subcommand_of}
use Rattle.clap.specs.declared.error.kind.ErrorKind.{ErrorKind}
use Rattle.clap.specs.declared.error.kind.ErrorKind.TheVariants.{OutOfMemory}
use Rattle.program_words.specs.Commands.{Texts, asked_by, generate, recover, replay, run}
use Rattle.program_words.specs.Definition.{writepath}
use Rattle.program_words.specs.declared.invocation.Invocation.{Invocation}
use Rattle.program_words.specs.declared.invocation.WordsError.{WordsError}
use Rattle.program_words.specs.declared.invocation.WordsError.TheVariants.{Usage, NoMemory}

-- every refusal by clap is a refusal of the words, except where there was no memory
abbrev pub refusal_of : ErrorKind → WordsError
refusal_of OutOfMemory = NoMemory
refusal_of _ = Usage

-- the texts that the matches have for options, and for words in their places
abbrev pub texts_in : List Row → Texts
texts_in rows = record { written = λ id. first_of id rows; typed = λ id. one_of id rows }

-- what a command and its matches ask for
abbrev pub invocation_by : Text → List Row → Option Invocation
invocation_by name rows =
    if bytes_eq name (codes "run") then asked_by (texts_in rows) run.made
    else if bytes_eq name (codes "recover") then asked_by (texts_in rows) recover.made
    else if bytes_eq name (codes "replay") then asked_by (texts_in rows) replay.made
    else if bytes_eq name (codes "gen") then asked_by (texts_in rows) generate.made
    else None

-- clap takes the words: no step of its parse fails
abbrev pub is_taken : Kinds → Bool
is_taken [] = true
is_taken (kind ∷ kinds) = false

-- what the matches ask for, where clap takes the words
unfoldable pub invocation_in : List Text → Option Invocation
invocation_in words =
    if is_taken (fault_of writepath words)
    then option_and_then (λ p. invocation_by p.0 p.1) (subcommand_of writepath words) else None

-- what the words ask for: the program's name, and the command with its options
abbrev pub invocation_of : List (String Global) → Option Invocation
invocation_of words = invocation_in (map (λ w. string_bytes w) words)
