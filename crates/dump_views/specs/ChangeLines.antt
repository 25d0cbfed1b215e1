-- Changes as lines of text.
use Rattle.std.specs.Prelude.{ℕ, ◌==◌, ◌&&◌, List, [], ◌∷◌, ◌++◌, length, codes, decimal, Bool, not, nat_eq, if◌then◌else◌, Option, Some, None}
use Rattle.std.specs.List.{flat_map, count_by, list_all}
use Rattle.std.specs.Option.{option_eq}
use Rattle.std.specs.Cmp.Lexicographic.{pointwise}
use Rattle.spiffe_doc.specs.declared.authority.Authority.{Authority}
use Rattle.spiffe_doc.specs.Authority.{BundleValue}
use Rattle.spiffe_doc.specs.Equal.{authority_eq}
use Rattle.spiffe_doc.specs.Bundle.{is_x509, is_among}
use Rattle.map_core.specs.Name.{Name}
use Rattle.dump_views.specs.Changes.{Change, Added, Removed, Changed}

-- a number, or `none`
abbrev pub number_word : Option ℕ → List ℕ
number_word None = codes "none"
number_word (Some n) = decimal n

-- from one number to another, if they differ: the label, and as in `3 to none`
unfoldable pub number_words : List ℕ → Option ℕ → Option ℕ → List ℕ
number_words label old new =
    if option_eq nat_eq old new then []
    else label ++ (number_word old ++ (codes " to " ++ number_word new))

-- how many X.509 authorities these have that the others have not
abbrev pub x509_beyond : List Authority → List Authority → ℕ
x509_beyond others these = count_by (λ authority. is_x509 authority && not (is_among others authority)) these

-- how many JWT authorities these have that the others have not
abbrev pub jwt_beyond : List Authority → List Authority → ℕ
jwt_beyond others these = count_by (λ authority. not (is_x509 authority) && not (is_among others authority)) these

-- how many were added and removed, if any: the label, and as in `+1 -0`
unfoldable pub count_words : List ℕ → ℕ → ℕ → List ℕ
count_words label added removed =
    if (added == 0) && (removed == 0) then []
    else label ++ (codes " +" ++ (decimal added ++ (codes " -" ++ decimal removed)))

-- each is among the others
unfoldable pub have_same : List Authority → List Authority → Bool
have_same old new = list_all (is_among old) new && list_all (is_among new) old

-- that the same authorities stand in another order
unfoldable pub order_words : List Authority → List Authority → List ℕ
order_words old new = if have_same old new && not (pointwise authority_eq old new) then codes " order" else []

-- what changed of the authorities
unfoldable pub authority_words : List Authority → List Authority → List ℕ
authority_words old new =
    count_words (codes " x509") (x509_beyond old new) (x509_beyond new old)
    ++ (count_words (codes " jwt") (jwt_beyond old new) (jwt_beyond new old) ++ order_words old new)

-- what changed of a bundle
unfoldable pub bundle_words : BundleValue → BundleValue → List ℕ
bundle_words old new =
    number_words (codes " sequence ") old.sequence new.sequence
    ++ (number_words (codes " hint ") old.refresh_hint new.refresh_hint ++ authority_words old.authorities new.authorities)

-- what a bundle is told by that was added
unfoldable pub added_words : BundleValue → List ℕ
added_words bundle =
    codes " authorities " ++ (decimal (length bundle.authorities) ++ (codes " sequence " ++ number_word bundle.sequence))

-- a change as a line: + and what was added, - and what was removed, or ~ and what changed of it
unfoldable pub line_of : Name × Change → List ℕ
line_of (name, Added bundle) = codes "+ " ++ (name ++ (added_words bundle ++ 10 ∷ []))
line_of (name, Removed) = codes "- " ++ (name ++ 10 ∷ [])
line_of (name, Changed old new) = codes "~ " ++ (name ++ (bundle_words old new ++ 10 ∷ []))

-- a line for each change
abbrev pub lines_of : List (Name × Change) → List ℕ
lines_of changes = flat_map line_of changes
