-- How a request is read from a line.
use Rattle.std.specs.Prelude.{ℕ, ◌^◌, List, [], ◌∷◌, length, codes, decimal, nat_lt, bytes_eq, ◌==◌, ◌&&◌, if◌then◌else◌, Option, Some, None, option_map, Result, Ok, Err}
use Rattle.std.specs.Str.Parse.{digits_value}
use Rattle.hex.specs.declared.error.FromHexError.{FromHexError}
use Rattle.hex.specs.Hex.{encode_lower, decode_sized}
use Rattle.map_core.specs.declared.op.Expect.{Expect}
use Rattle.map_core.specs.declared.op.Expect.TheVariants.{Absent, Sequence, Unnumbered}
use Rattle.wire.specs.declared.version.Version.{Version}
use Rattle.wire.specs.declared.version.Version.TheVariants.{One, Two, Three}
use Rattle.wire.specs.RequestForm.{Request, Set, SetIf, Append, Remove, Get, Fetch, FetchUnless, Stats, Speak}
use Rattle.wire.specs.PayloadReading.{◌>>=◌, of_both}

abbrev pub after_byte : ℕ → Option (List ℕ × List ℕ) → Option (List ℕ × List ℕ)
after_byte byte None = None
after_byte byte (Some parts) = Some (byte ∷ parts.0, parts.1)

-- the bytes up to the first space, and those after it
unfoldable pub split_word : List ℕ → Option (List ℕ × List ℕ)
split_word [] = None
split_word (byte ∷ bytes) = if byte == 32 then Some ([], bytes) else after_byte byte (split_word bytes)

abbrev pub unless_split : {A : Type 0} → A → Option (List ℕ × List ℕ) → Option A
unless_split value None = Some value
unless_split value (Some parts) = None

-- bytes with no space
unfoldable pub lone_word : List ℕ → Option (List ℕ)
lone_word bytes = unless_split bytes (split_word bytes)

-- at most 255 bytes
unfoldable pub short_name : List ℕ → Option (List ℕ)
short_name name = if nat_lt (length name) 256 then Some name else None

-- a name that a space ends, and what follows it
unfoldable pub split_name : List ℕ → Option (List ℕ × List ℕ)
split_name bytes = do
  parts ← split_word bytes
  name ← short_name parts.0
  Some (name, parts.1)

-- a name, and nothing after it
unfoldable pub lone_name : List ℕ → Option (List ℕ)
lone_name bytes = do
  word ← lone_word bytes
  short_name word

-- the number that a word writes in decimal
unfoldable pub number_of : List ℕ → Option ℕ
number_of word =
    if nat_lt (digits_value 10 word) (2 ^ 64) && bytes_eq (decimal (digits_value 10 word)) word then Some (digits_value 10 word)
    else None

unfoldable pub expect_of : List ℕ → Option Expect
expect_of word =
    if bytes_eq word (codes "absent") then Some Absent
    else if bytes_eq word (codes "none") then Some Unnumbered
    else if bytes_eq word (codes "unnumbered") then Some Unnumbered
    else option_map Sequence (number_of word)

unfoldable pub version_of : List ℕ → Option Version
version_of word =
    if bytes_eq word (codes "1") then Some One
    else if bytes_eq word (codes "2") then Some Two
    else if bytes_eq word (codes "3") then Some Three
    else None

-- what these bytes were decoded from, if it is how they are written
abbrev pub written_as : List ℕ → Result (List ℕ) FromHexError → Option (List ℕ)
written_as word (Ok digest) = if bytes_eq (encode_lower digest) word then Some digest else None
written_as word (Err why) = None

-- the digest that a word writes in lower-case hexadecimal digits
unfoldable pub digest_of : List ℕ → Option (List ℕ)
digest_of word = written_as word (decode_sized word 32)

unfoldable pub fetch_unless_of : List ℕ → Option Request
fetch_unless_of bytes = do
  parts ← split_word bytes
  if bytes_eq parts.0 (codes "unless") then option_map FetchUnless (digest_of parts.1) else None

unfoldable pub set_if_of : List ℕ → Option Request
set_if_of bytes = do
  parts ← split_name bytes
  rest ← split_word parts.1
  expect ← expect_of rest.0
  Some (SetIf parts.0 expect rest.1)

unfoldable pub request_by_verb : List ℕ → List ℕ → Option Request
request_by_verb verb rest =
    if bytes_eq verb (codes "set") then option_map (of_both Set) (split_name rest)
    else if bytes_eq verb (codes "get") then option_map Get (lone_name rest)
    else if bytes_eq verb (codes "append") then option_map (of_both Append) (split_name rest)
    else if bytes_eq verb (codes "remove") then option_map Remove (lone_name rest)
    else if bytes_eq verb (codes "setif") then set_if_of rest
    else if bytes_eq verb (codes "fetch") then fetch_unless_of rest
    else if bytes_eq verb (codes "version") then option_map Speak (version_of rest)
    else None

abbrev pub request_by_split : List ℕ → Option (List ℕ × List ℕ) → Option Request
request_by_split line None =
    if bytes_eq line (codes "fetch") then Some Fetch
    else if bytes_eq line (codes "stats") then Some Stats
    else None
request_by_split line (Some parts) = request_by_verb parts.0 parts.1

-- the request of a line
unfoldable pub read_line : List ℕ → Option Request
read_line line = request_by_split line (split_word line)
