-- Bytes as they are shown.
use Rattle.std.specs.Prelude.{ℕ, ◌&&◌, ◌==◌, not, List, [], ◌∷◌, ◌++◌, flat_map, nat_le, codes, if◌then◌else◌}
use Rattle.model_base.specs.Text.{hex, hex_word}
use Rattle.list_text.specs.declared.form.Form.{Form}

-- A printable byte as it is, and the backslash twice. Others, and the quote, as two digits after the escape.
abbrev pub escaped_byte : List ℕ → ℕ → List ℕ
escaped_byte escape byte =
    if byte == 92 then 92 ∷ 92 ∷ []
    else if nat_le 32 byte && nat_le byte 126 && not (byte == 34) then byte ∷ []
    else escape ++ hex (byte ∷ [])

abbrev pub escaped : List ℕ → List ℕ → List ℕ
escaped escape bytes = flat_map (escaped_byte escape) bytes

abbrev pub in_quotes : List ℕ → List ℕ
in_quotes text = codes "\"" ++ text ++ codes "\""

-- what comes before the two digits of a byte that isn't printed as it is; in JSON the string then has a character of
-- that number
abbrev pub escape : List ℕ
escape = codes "\\x"

abbrev pub json_escape : List ℕ
json_escape = codes "\\u00"

-- bytes in this form
abbrev pub word : Form → List ℕ → List ℕ
word form bytes =
    if form.json then (if form.text then in_quotes (escaped json_escape bytes) else in_quotes (hex bytes))
    else if form.text then in_quotes (escaped escape bytes) else hex_word bytes
