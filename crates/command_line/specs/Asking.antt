-- What goes together in `ask`, and how the replies are written.
use Rattle.std.specs.Prelude.{◌≡◌, ℕ, List, [], ◌∷◌, codes, Bool, true, false, Option, Some, None}
use Rattle.command_line.specs.declared.wanted.ReplyStyle.{ReplyStyle}
use Rattle.command_line.specs.declared.wanted.ReplyStyle.TheVariants.{Lines, Raw, Text}

-- by whether --raw and --text are given, which exclude each other
abbrev pub style : Bool → Bool → Option ReplyStyle
style false false = Some Lines
style true false = Some Raw
style false true = Some Text
style true true = None

-- with a dump that is known the words of the request are those of a fetch-all
abbrev pub GoWithDump : {A : Type 0} → Option A → List (List ℕ) → Type 0
GoWithDump None words = Unit {0}
GoWithDump (Some dump) words = words ≡ codes "fetch" ∷ []
