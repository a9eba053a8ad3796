-- A key as it is given on the command line.
use Rattle.std.specs.Prelude.{ℕ, ◌+◌, ◌*◌, ◌==◌, List, [], ◌∷◌, Option, Some, None, Result, Ok, Err, bytes_eq, codes, option_and_then, option_map, if◌then◌else◌}
use Rattle.hex.specs.Hex.{decode_of, hex_digit_value}
use Rattle.hex.specs.declared.error.FromHexError.{FromHexError}
use Rattle.list_text.specs.declared.form.Form.{Form}

abbrev if_decoded : Result (List ℕ) FromHexError → Option (List ℕ)
if_decoded (Ok bytes) = Some bytes
if_decoded (Err error) = None

-- the bytes of hexadecimal digits, two for each
abbrev pub digits_key : List ℕ → Option (List ℕ)
digits_key digits = if_decoded (decode_of digits)

-- the byte of two hexadecimal digits
abbrev pub byte_of : ℕ → ℕ → Option ℕ
byte_of high low = option_and_then (λ h. option_map (λ l. h * 16 + l) (hex_digit_value low)) (hex_digit_value high)

-- What comes next in a text: any byte; after a backslash, what it escapes; or one of the two digits after `x`.
pub data Next : Type 0 where
  anything : Next
  escaped : Next
  high_digit : Next
  low_digit : ℕ → Next

-- The bytes that a text spells where this comes next. After a backslash is another one, or `x` and the two digits of a
-- byte; each other byte is itself.
abbrev pub spelled : Next → List ℕ → Option (List ℕ)
spelled anything [] = Some []
spelled escaped [] = None
spelled high_digit [] = None
spelled (low_digit high) [] = None
spelled anything (byte ∷ text) =
    if byte == 92 then spelled escaped text else option_map (λ bytes. byte ∷ bytes) (spelled anything text)
spelled escaped (byte ∷ text) =
    if byte == 92 then option_map (λ bytes. 92 ∷ bytes) (spelled anything text)
    else if byte == 120 then spelled high_digit text
    else None
spelled high_digit (high ∷ text) = spelled (low_digit high) text
spelled (low_digit high) (low ∷ text) =
    option_and_then (λ byte. option_map (λ bytes. byte ∷ bytes) (spelled anything text)) (byte_of high low)

-- the bytes of a text with escapes
abbrev pub text_key : List ℕ → Option (List ℕ)
text_key text = spelled anything text

-- the key of a word as the plain form shows it: `-` if it is empty
abbrev pub hex_key : List ℕ → Option (List ℕ)
hex_key word = if bytes_eq word (codes "-") then Some [] else digits_key word

-- the key that a word spells in this form
abbrev pub key_in : Form → List ℕ → Option (List ℕ)
key_in form word = if form.text then text_key word else hex_key word
