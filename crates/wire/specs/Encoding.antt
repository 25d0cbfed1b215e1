-- Lines of requests on a stream, and the frames that they become.
use Rattle.std.specs.Prelude.{◌≡◌, ◌⊎◌, ℕ, ◌<◌, ◌≤◌, Bool, true, false, List, [], ◌∷◌, ◌++◌, drop, length, ◌==◌, Option, Some, None, Result, Ok, Err}
use Rattle.std.specs.List.{flat_map}
use Rattle.wire.specs.Counted.{next_count}
use Rattle.wire.specs.Frame.{frame}
use Rattle.wire.specs.RequestForm.{Request, HasLine, IsFramed, IsOneLine, Spells, payload_of, text_of, with_text, is_text_name}
use Rattle.wire.specs.declared.encoder.EncodeError.{EncodeError}
use Rattle.wire.specs.declared.encoder.EncodeError.TheVariants.{BadLine, Unreadable, Memory}

-- a line that is empty or begins with # asks nothing
abbrev pub is_comment : List ℕ → Bool
is_comment [] = true
is_comment (byte ∷ bytes) = byte == 35

-- what is given for the name of a text, or None if it cannot be read
abbrev pub Gives : Type 1
Gives = List ℕ → Option (List ℕ) → Type 0

-- what the text of a line stands for: behind @ is the name of another, and else it stands for itself
abbrev pub StandsFor : Gives → List ℕ → List ℕ → Type 0
StandsFor gives text whole =
    ((is_text_name text ≡ true) × gives (drop 1 text) (Some whole)) ⊎ ((is_text_name text ≡ false) × (whole ≡ text))

-- the frame of the line's request, with the text that its own stands for
abbrev pub IsFrameOf : Gives → List ℕ → List ℕ → Type 0
IsFrameOf gives line bytes =
    (request : Request) × (text : List ℕ) × HasLine request × Spells request line × StandsFor gives (text_of request) text
    × IsFramed (with_text request text) × (bytes ≡ frame (payload_of (with_text request text)))

-- a line, and what it becomes: nothing, or the frame of its request
abbrev pub Becomes : Gives → List ℕ × List ℕ → Type 0
Becomes gives item = ((is_comment item.0 ≡ true) × (item.1 ≡ [])) ⊎ ((is_comment item.0 ≡ false) × IsFrameOf gives item.0 item.1)

-- the same, of one line
abbrev pub EncodesLine : Gives → List ℕ × List ℕ → Type 0
EncodesLine gives item = IsOneLine item.0 × Becomes gives item

-- it asks something, and is not the line of a request; or it is, and the text is one with which no frame carries the request
abbrev pub IsBadLine : Gives → List ℕ → Type 0
IsBadLine gives line = (is_comment line ≡ false) × ((request : Request) → HasLine request → Spells request line
    → (text : List ℕ) × StandsFor gives (text_of request) text × (IsFramed (with_text request text) → ⊥))

-- it is the line of a request, and the text that it names cannot be read
abbrev pub NamesUnreadable : Gives → List ℕ → Type 0
NamesUnreadable gives line =
    (request : Request) × HasLine request × Spells request line × (is_text_name (text_of request) ≡ true) × gives (drop 1 (text_of request)) None

-- lines one after another, each with a line feed behind it
abbrev pub lines_of : List (List ℕ × List ℕ) → List ℕ
lines_of items = flat_map (λ item. item.0 ++ 10 ∷ []) items

-- what they become, one after another
abbrev pub frames_of : List (List ℕ × List ℕ) → List ℕ
frames_of items = flat_map (λ item. item.1) items

-- the bytes that belong to no line yet, and how many lines there were
pub record EncoderState : Type 0 where
  pub kept : List ℕ
  pub lines : ℕ

-- how many there were after these
abbrev pub count_after : ℕ → List (List ℕ × List ℕ) → ℕ
count_after count [] = count
count_after count (item ∷ items) = count_after (next_count count) items

-- the first line of these bytes, which a line feed ends, is such a line
abbrev pub BeginsWith : (List ℕ → Type 0) → List ℕ → Type 0
BeginsWith Is bytes = (line : List ℕ) × (rest : List ℕ) × (bytes ≡ line ++ 10 ∷ rest) × IsOneLine line × Is line

-- the most bytes of a line
abbrev pub most_line : ℕ
most_line = 1049300

-- the first line has not ended, and is too long already
abbrev pub BeginsLong : List ℕ → Type 0
BeginsLong bytes = IsOneLine bytes × (most_line < length bytes)

-- why the bytes after so many lines become nothing: the next is bad or too long, or the text that it names cannot be read
abbrev pub StopsAt : Gives → EncodeError → ℕ → List ℕ → Type 0
StopsAt gives (BadLine number) lines bytes = (number ≡ next_count lines) × (BeginsWith (IsBadLine gives) bytes ⊎ BeginsLong bytes)
StopsAt gives (Unreadable number) lines bytes = (number ≡ next_count lines) × BeginsWith (NamesUnreadable gives) bytes
StopsAt gives Memory lines bytes = Unit {0}

-- What encoding the next line of the bytes that are kept does to them, and what is written.
abbrev pub EncodesNext : Gives → Result Bool EncodeError → EncoderState → EncoderState → List ℕ → Type 0
-- the first line is taken out, and what it becomes is written
EncodesNext gives (Ok true) old new written =
    (line : List ℕ) × (old.kept ≡ line ++ 10 ∷ new.kept) × EncodesLine gives (line, written) × (new.lines ≡ next_count old.lines)
-- no line is whole
EncodesNext gives (Ok false) old new written = IsOneLine old.kept × (length old.kept ≤ most_line) × (new ≡ old) × (written ≡ [])
EncodesNext gives (Err error) old new written = StopsAt gives error old.lines old.kept × (new ≡ old) × (written ≡ [])

-- The stream has ended, so what is left is its last line, if it is not empty.
abbrev pub Finishes : Gives → Result (Unit {0}) EncodeError → EncoderState → List ℕ → Type 0
Finishes gives (Ok done) old written = Becomes gives (old.kept, written)
Finishes gives (Err (BadLine number)) old written = (number ≡ next_count old.lines) × IsBadLine gives old.kept × (written ≡ [])
Finishes gives (Err (Unreadable number)) old written = (number ≡ next_count old.lines) × NamesUnreadable gives old.kept × (written ≡ [])
Finishes gives (Err Memory) old written = written ≡ []
