-- Trust domain names (SPIFFE-ID, section 2).
use Rattle.std.specs.Prelude.{ℕ, ◌<◌, ◌≤◌, ◌==◌, ◌||◌, List, length, Bool, not, nat_lt, if◌then◌else◌, Option, Some, option_map, Result, position}
use Rattle.std.specs.List.{AllPass}
use Rattle.std.specs.Char.{is_ascii_lowercase, is_ascii_digit}
use Rattle.spiffe_doc.specs.declared.name.NameError.{NameError}
use Rattle.spiffe_doc.specs.declared.name.NameError.TheVariants.{Empty, TooLong, BadChar}
use Rattle.spiffe_doc.specs.Answer.{unless}

-- `a-z`, `0-9`, `.`, `-` and `_`
abbrev pub is_name_byte : ℕ → Bool
is_name_byte x = is_ascii_lowercase x || is_ascii_digit x || x == 46 || x == 45 || x == 95

-- a trust domain name
pub record IsName (text : List ℕ) : Type 0 where
  pub some : 0 < length text
  pub short : length text ≤ 255
  pub allowed : AllPass is_name_byte text

-- why a text is not a name: the first reason in this order
abbrev pub name_fault : List ℕ → Option NameError
name_fault text =
    if length text == 0 then Some Empty
    else if nat_lt 255 (length text) then Some TooLong
    else option_map BadChar (position (λ x. not (is_name_byte x)) text)

-- the name that a text is, or why it is not one
abbrev pub trust_domain : List ℕ → Result (List ℕ) NameError
trust_domain text = unless (name_fault text) text
