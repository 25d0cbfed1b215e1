-- What a server counts: the names in their order, under which of them something is counted, and the line that tells all.
use Rattle.std.specs.Prelude.{ℕ, List, [], ◌∷◌, ◌++◌, map, codes, decimal, Bool, true, false, Option, Some, None, ◌==◌, ◌&&◌, if◌then◌else◌}
use Rattle.wire.specs.ReplyForm.{is_one_of}
use Rattle.server.specs.declared.counts.Count.{Count}
use Rattle.server.specs.declared.counts.Count.TheVariants.{ConnectionsOpen, ConnectionsOpened, BytesRead, BytesWritten, AskedAgain, Changes, Domains, Marks, Requests, Refused}

-- the numbers of replies that refuse a request or tell an error
abbrev pub refused_numbers : List ℕ
refused_numbers =
    1 ∷ 3 ∷ 10 ∷ 11 ∷ 12 ∷ 13 ∷ 14 ∷ 15 ∷ 16 ∷ 17 ∷ 18 ∷ 19 ∷ 20 ∷ 21 ∷ 22 ∷ 23 ∷ 30 ∷ 31 ∷ 32 ∷ 33 ∷ 34 ∷ 35 ∷ 36 ∷ 40 ∷ 41 ∷ 42 ∷ 51 ∷ 56 ∷ []

abbrev pub refused_name : ℕ → List ℕ
refused_name number = codes "refused_" ++ decimal number

-- all names, in their order
abbrev pub names : List (List ℕ)
names =
    codes "connections_open" ∷ codes "connections_opened" ∷ codes "bytes_read" ∷ codes "bytes_written" ∷ codes "asked_again" ∷ codes "changes"
    ∷ codes "domains" ∷ codes "marks"
    ∷ codes "requests_set" ∷ codes "requests_set_if" ∷ codes "requests_append" ∷ codes "requests_remove" ∷ codes "requests_get"
    ∷ codes "requests_fetch" ∷ codes "requests_fetch_unless" ∷ codes "requests_version" ∷ codes "requests_stats" ∷ codes "requests_other"
    ∷ map refused_name refused_numbers

-- under which name a request of a letter is counted: `S`, `C`, `A`, `R`, `G`, `F`, `U`, `V`, `M`, or another one
unfoldable pub request_name : ℕ → List ℕ
request_name letter =
    if letter == 83 then codes "requests_set"
    else if letter == 67 then codes "requests_set_if"
    else if letter == 65 then codes "requests_append"
    else if letter == 82 then codes "requests_remove"
    else if letter == 71 then codes "requests_get"
    else if letter == 70 then codes "requests_fetch"
    else if letter == 85 then codes "requests_fetch_unless"
    else if letter == 86 then codes "requests_version"
    else if letter == 77 then codes "requests_stats"
    else codes "requests_other"

-- under which name a reply of a number is counted; none if no refusal or error has the number
unfoldable pub reply_name : ℕ → Option (List ℕ)
reply_name number = if is_one_of refused_numbers number then Some (refused_name number) else None

-- under which name something is counted, if it is
abbrev pub count_name : Count → Option (List ℕ)
count_name ConnectionsOpen = Some (codes "connections_open")
count_name ConnectionsOpened = Some (codes "connections_opened")
count_name BytesRead = Some (codes "bytes_read")
count_name BytesWritten = Some (codes "bytes_written")
count_name AskedAgain = Some (codes "asked_again")
count_name Changes = Some (codes "changes")
count_name Domains = Some (codes "domains")
count_name Marks = Some (codes "marks")
count_name (Requests letter) = Some (request_name letter)
count_name (Refused number) = reply_name number

-- A change is a request `S`, `C`, `A` or `R` that was answered by `s`, `p` or `d`.
unfoldable pub is_change : ℕ → ℕ → Bool
is_change letter code = is_one_of (83 ∷ 67 ∷ 65 ∷ 82 ∷ []) letter && is_one_of (115 ∷ 112 ∷ 100 ∷ []) code

-- as what a reply of a code to a request of a letter is counted, beside the request
abbrev pub reply_count : ℕ → ℕ → Count
reply_count letter code = if is_change letter code then Changes else Refused code

-- a name with its number, and a space before it
abbrev pub word : List ℕ → ℕ → List ℕ
word name number = codes " " ++ name ++ codes "=" ++ decimal number

-- each name with its own number, in their order
abbrev pub words : List (List ℕ) → List ℕ → List ℕ
words [] values = []
words (name ∷ others) [] = []
words (name ∷ others) (number ∷ values) = word name number ++ words others values

-- such as `seconds=12 connections_open=3 connections_opened=5`, and so on
abbrev pub counts_line : ℕ → List ℕ → List ℕ
counts_line seconds numbers = codes "seconds=" ++ decimal seconds ++ words names numbers
