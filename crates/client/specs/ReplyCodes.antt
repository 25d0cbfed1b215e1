-- Which codes the reply to a request may have, by the letter of the request.
use Rattle.std.specs.Prelude.{ℕ, List, [], ◌∷◌, ◌++◌, Bool, ◌==◌, ◌||◌, if◌then◌else◌}
use Rattle.wire.specs.ReplyForm.{is_error_code, is_one_of}

-- What comes of a request, or why the map refuses it: of S, C, A, R, G, F and U; of M the counts, and of V the version.
abbrev pub answer_codes : ℕ → List ℕ
answer_codes letter =
    if letter == 83 then 115 ∷ 117 ∷ 31 ∷ []
    else if letter == 67 then 115 ∷ 117 ∷ 31 ∷ 36 ∷ []
    else if letter == 65 then 112 ∷ 117 ∷ 30 ∷ 32 ∷ 33 ∷ 34 ∷ 35 ∷ []
    else if letter == 82 then 100 ∷ 30 ∷ []
    else if letter == 71 then 102 ∷ 30 ∷ []
    else if letter == 70 then 97 ∷ []
    else if letter == 85 then 97 ∷ 101 ∷ []
    else if letter == 77 then 109 ∷ []
    else if letter == 86 then 118 ∷ []
    else []

-- why a name is refused, and why a document is
abbrev pub name_codes : List ℕ
name_codes = 1 ∷ 3 ∷ []

abbrev pub document_codes : List ℕ
document_codes = 10 ∷ 11 ∷ 12 ∷ 13 ∷ 14 ∷ 15 ∷ 16 ∷ 17 ∷ 18 ∷ 19 ∷ 20 ∷ 21 ∷ []

-- why a request is refused before anybody is asked: S and C have a name and a document, A an entry of one, R and G a name
abbrev pub judged_codes : ℕ → List ℕ
judged_codes letter =
    if is_one_of (83 ∷ 67 ∷ []) letter then name_codes ++ document_codes
    else if letter == 65 then name_codes ++ (23 ∷ document_codes)
    else if is_one_of (82 ∷ 71 ∷ []) letter then name_codes
    else []

-- Those; that it is no request of the version; and the numbers of errors.
abbrev pub may_come : ℕ → ℕ → Bool
may_come letter code = is_error_code code || ((code == 51) || (is_one_of (answer_codes letter) code || is_one_of (judged_codes letter) code))
