-- A text of a document as a person is shown it: a JSON string of printable ASCII (RFC 8259, section 7), and no more than its
-- first 64 characters. So no control byte of a document reaches a terminal: a law of the crate.
use Rattle.std.specs.Prelude.{ℕ, ◌+◌, ◌/◌, ◌%◌, ◌==◌, ◌&&◌, List, [], ◌∷◌, ◌++◌, take, length, flat_map, codes, chars, nat_lt, nat_le, if◌then◌else◌}
use Rattle.std.specs.Char.Escape.{encode_utf16}

-- the last hexadecimal digit of a number
abbrev pub hex_digit : ℕ → ℕ
hex_digit n = if nat_lt (n % 16) 10 then 48 + n % 16 else 87 + n % 16

-- `\u` and the four digits of a unit of UTF-16
unfoldable pub unit_text : ℕ → List ℕ
unit_text unit = codes "\\u" ++ hex_digit (unit / 4096) ∷ hex_digit (unit / 256) ∷ hex_digit (unit / 16) ∷ hex_digit unit ∷ []

-- a character of the string: itself if it is printable ASCII, else its escape
unfoldable pub char_text : ℕ → List ℕ
char_text c =
    if c == 34 then codes "\\\""
    else if c == 92 then codes "\\\\"
    else if nat_le 32 c && nat_le c 126 then c ∷ []
    else flat_map unit_text (encode_utf16 c)

-- what ends a string, and tells that there is more
abbrev pub closing : List ℕ → List ℕ
closing text = if nat_le (length (chars text)) 64 then codes "\"" else codes "\"..."

unfoldable pub quoted : List ℕ → List ℕ
quoted text = codes "\"" ++ flat_map char_text (take 64 (chars text)) ++ closing text
