-- How a text is matched piece by piece, for private contracts.
use Rattle.std.specs.Prelude.{ℕ, List, [], ◌∷◌, Bool, false, cond, ◌==◌, length, codes, Option, Some, None, is_some}
use Rattle.json.specs.Print.{escape}

-- what follows the piece, in a text that begins with it
unfoldable pub strip : List ℕ → List ℕ → Option (List ℕ)
strip [] text = Some text
strip (x ∷ piece) [] = None
strip (x ∷ piece) (y ∷ text) = cond (y == x) (strip piece text) None

-- what follows the next quotation mark
unfoldable pub strip_quote : List ℕ → Option (List ℕ)
strip_quote [] = None
strip_quote (x ∷ text) = cond (x == 34) (Some text) (strip_quote text)

-- both for what is left of a text, or nothing once it differed
unfoldable pub after : List ℕ → Option (List ℕ) → Option (List ℕ)
after piece None = None
after piece (Some text) = strip piece text

unfoldable pub after_quote : Option (List ℕ) → Option (List ℕ)
after_quote None = None
after_quote (Some text) = strip_quote text

-- nothing differed, and no bytes are left
abbrev pub is_whole : Option (List ℕ) → Bool
is_whole None = false
is_whole (Some rest) = length rest == 0

-- what is left behind the first member of an entry, which is a text: its name and it stand between quotation marks
abbrev pub behind_member : List ℕ → Option (List ℕ)
behind_member text = after_quote (after_quote (after_quote (after_quote (Some text))))

-- the next member is this key id
abbrev pub is_kid_next : List ℕ → Option (List ℕ) → Bool
is_kid_next kid left = is_some (after (codes "\"") (after (escape kid) (after (codes ",\"kid\":\"") left)))
