-- The texts that are read for options, and the values that they have.
use Rattle.std.specs.Prelude.{ℕ, ◌^◌, ◌&&◌, Bool, true, false, List, [], ◌∷◌, Option, Some, None, codes, bytes_eq, nat_lt, option_and_then, if◌then◌else◌}
use Rattle.std.specs.Str.Parse.{digits_value, without_leading_plus}
use Rattle.clap.specs.ValueTests.{is_numeral}
use Rattle.clap.specs.Words.{Kinds, Row, Text, first_of, one_of}
use Rattle.log_recovery.specs.declared.modes.Mode.{Mode}
use Rattle.log_recovery.specs.declared.modes.Mode.TheVariants.{Point, Tail, Absolute}

-- the text that was read for each name, as it was written and as a typed reading takes it
pub record Texts : Type 0 where
  pub written : Text → Option Text
  pub typed : Text → Option Text

-- the texts that the matches have for options, and for words in their places
abbrev pub texts_in : List Row → Texts
texts_in rows = record { written = λ id. first_of id rows; typed = λ id. one_of id rows }

-- clap takes the words: no step of its parse fails
abbrev pub is_taken : Kinds → Bool
is_taken [] = true
is_taken (kind ∷ kinds) = false

-- the number that an unsigned type of this number of bits reads from a text
abbrev pub whole_number : ℕ → Text → Option ℕ
whole_number bits text =
    let ds = without_leading_plus text in
    if is_numeral ds && nat_lt (digits_value 10 ds) (2 ^ bits) then Some (digits_value 10 ds) else None

abbrev pub number_in : Text → Texts → Option ℕ
number_in name texts = option_and_then (whole_number 64) (texts.typed name)

-- the number of the log, of 32 bits, if it is said
abbrev pub log_number_in : Texts → Option ℕ
log_number_in texts = option_and_then (whole_number 32) (texts.typed (codes "number"))

-- what `bool` reads from a text
abbrev pub bool_of : Text → Option Bool
bool_of text = if bytes_eq text (codes "true") then Some true
    else if bytes_eq text (codes "false") then Some false else None

abbrev pub flag_in : Text → Texts → Option Bool
flag_in name texts = option_and_then bool_of (texts.typed name)

-- the mode of this name
abbrev pub mode_of : Text → Option Mode
mode_of name = if bytes_eq name (codes "point") then Some Point
    else if bytes_eq name (codes "tail") then Some Tail
    else if bytes_eq name (codes "absolute") then Some Absolute else None
