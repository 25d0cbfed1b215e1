-- Requests as lines of text, and as the payloads of frames.
use Rattle.std.specs.Prelude.{◌≡◌, ◌⊎◌, ℕ, ◌<◌, ◌≤◌, ◌^◌, List, [], ◌∷◌, ◌++◌, length, codes, decimal, Bool, false, ◌==◌}
use Rattle.std.specs.List.{list_any}
use Rattle.map_core.specs.declared.op.Expect.{Expect}
use Rattle.map_core.specs.declared.op.Expect.TheVariants.{Absent, Sequence, Unnumbered}
use Rattle.wire.specs.declared.version.Version.{Version}
use Rattle.wire.specs.declared.version.Version.TheVariants.{One, Two, Three}
use Rattle.wire.specs.Frame.{most_payload}
use Rattle.hex.specs.Hex.{encode_lower, IsBytes}
use Rattle.wire.specs.Fields.{expect_bytes, version_number}
use Rattle.wire.specs.declared.request.RequestForm.{RequestForm}
use Rattle.wire.specs.declared.request.RequestForm.TheVariants as borrowed
-- the length of a name in one byte, and the name
pub use Rattle.map_core.specs.Dump.{named}

-- what a request says, wherever its name and its text lie
pub data Request : Type 0 where
  Set : (name text : List ℕ) → Request
  SetIf : (name : List ℕ) (expect : Expect) (text : List ℕ) → Request
  Append : (name text : List ℕ) → Request
  Remove : (name : List ℕ) → Request
  Get : (name : List ℕ) → Request
  Fetch : Request
  FetchUnless : (known : List ℕ) → Request
  Stats : Request
  Speak : (version : Version) → Request

-- what a form says
abbrev pub request : RequestForm → Request
request (borrowed.Set name text) = Set name.now text.now
request (borrowed.SetIf name expect text) = SetIf name.now expect text.now
request (borrowed.Append name text) = Append name.now text.now
request (borrowed.Remove name) = Remove name.now
request (borrowed.Get name) = Get name.now
request borrowed.Fetch = Fetch
request (borrowed.FetchUnless known) = FetchUnless known
request borrowed.Stats = Stats
request (borrowed.Speak version) = Speak version

-- ---- as a line

-- absent, or none for a bundle without a sequence, or the sequence in decimal
abbrev pub expect_word : Expect → List ℕ
expect_word Absent = codes "absent"
expect_word Unnumbered = codes "none"
expect_word (Sequence sequence) = decimal sequence

abbrev pub version_word : Version → List ℕ
version_word One = codes "1"
version_word Two = codes "2"
version_word Three = codes "3"

-- two words with a space between them
infixr 30 ◌then◌
abbrev pub ◌then◌ : List ℕ → List ℕ → List ℕ
word then rest = word ++ 32 ∷ rest

-- the line of a request, without its line feed: words with single spaces between, of which a document is the last
abbrev pub line_of : Request → List ℕ
line_of (Set name text) = codes "set" then name then text
line_of (SetIf name expect text) = codes "setif" then name then expect_word expect then text
line_of (Append name text) = codes "append" then name then text
line_of (Remove name) = codes "remove" then name
line_of (Get name) = codes "get" then name
line_of Fetch = codes "fetch"
line_of (FetchUnless known) = codes "fetch" then codes "unless" then encode_lower known
line_of Stats = codes "stats"
line_of (Speak version) = codes "version" then version_word version

-- its word, or unnumbered in place of none
abbrev pub SpellsExpect : Expect → List ℕ → Type 0
SpellsExpect Unnumbered word = (word ≡ expect_word Unnumbered) ⊎ (word ≡ codes "unnumbered")
SpellsExpect expect word = word ≡ expect_word expect

-- A line that says the request: its line, or one that spells the expectation otherwise.
abbrev pub Spells : Request → List ℕ → Type 0
Spells (SetIf name expect text) line = (word : List ℕ) × SpellsExpect expect word × (line ≡ codes "setif" then name then word then text)
Spells request line = line ≡ line_of request

-- no space is in it
abbrev pub IsWord : List ℕ → Type 0
IsWord bytes = list_any (λ byte. byte == 32) bytes ≡ false

-- a sequence of 8 bytes
abbrev pub IsExpect : Expect → Type 0
IsExpect (Sequence sequence) = sequence < 2 ^ 64
IsExpect expect = Unit {0}

-- a word of at most 255 bytes
abbrev pub IsNameWord : List ℕ → Type 0
IsNameWord name = IsWord name × (length name < 256)

-- a digest is 32 bytes
abbrev pub IsDigest : List ℕ → Type 0
IsDigest digest = (length digest ≡ 32) × IsBytes digest

-- its name is a word, and its numbers fit
abbrev pub HasLine : Request → Type 0
HasLine (Set name text) = IsNameWord name
HasLine (SetIf name expect text) = IsNameWord name × IsExpect expect
HasLine (Append name text) = IsNameWord name
HasLine (Remove name) = IsNameWord name
HasLine (Get name) = IsNameWord name
HasLine Fetch = Unit {0}
HasLine (FetchUnless known) = IsDigest known
HasLine Stats = Unit {0}
HasLine (Speak version) = Unit {0}

-- ---- as the payload of a frame

-- the letter, the name, the expectation, and the document
abbrev pub payload_of : Request → List ℕ
payload_of (Set name text) = 83 ∷ named name ++ text
payload_of (SetIf name expect text) = 67 ∷ named name ++ (expect_bytes expect ++ text)
payload_of (Append name text) = 65 ∷ named name ++ text
payload_of (Remove name) = 82 ∷ named name
payload_of (Get name) = 71 ∷ named name
payload_of Fetch = 70 ∷ []
payload_of (FetchUnless known) = 85 ∷ known
payload_of Stats = 77 ∷ []
payload_of (Speak version) = 86 ∷ version_number version ∷ []

-- the name's length is one byte, and numbers fit
abbrev pub HasPayload : Request → Type 0
HasPayload (Set name text) = length name < 256
HasPayload (SetIf name expect text) = (length name < 256) × IsExpect expect
HasPayload (Append name text) = length name < 256
HasPayload (Remove name) = length name < 256
HasPayload (Get name) = length name < 256
HasPayload Fetch = Unit {0}
HasPayload (FetchUnless known) = IsDigest known
HasPayload Stats = Unit {0}
HasPayload (Speak version) = Unit {0}

-- ---- written

-- the document or the JWK at the end, if there is one
abbrev pub text_of : Request → List ℕ
text_of (Set name text) = text
text_of (SetIf name expect text) = text
text_of (Append name text) = text
text_of request = []

-- the name, if there is one
abbrev pub name_of : Request → List ℕ
name_of (Set name text) = name
name_of (SetIf name expect text) = name
name_of (Append name text) = name
name_of (Remove name) = name
name_of (Get name) = name
name_of request = []

-- the length of its name is one byte, and a frame may carry its payload
abbrev pub IsFramed : Request → Type 0
IsFramed request = (length (name_of request) < 256) × (length (payload_of request) ≤ most_payload)

-- no line feed is in it
abbrev pub IsOneLine : List ℕ → Type 0
IsOneLine bytes = list_any (λ byte. byte == 10) bytes ≡ false

-- in a line, a text that begins with @ names another
abbrev pub is_text_name : List ℕ → Bool
is_text_name [] = false
is_text_name (byte ∷ bytes) = byte == 64

-- the same request with another text, if it has one
abbrev pub with_text : Request → List ℕ → Request
with_text (Set name text) other = Set name other
with_text (SetIf name expect text) other = SetIf name expect other
with_text (Append name text) other = Append name other
with_text request other = request

-- its name is a word, its line is one line, and its text names no other
abbrev pub IsLined : Request → Type 0
IsLined request = IsNameWord (name_of request) × IsOneLine (line_of request) × (is_text_name (text_of request) ≡ false)
