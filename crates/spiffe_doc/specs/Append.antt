-- A bundle with one more authority.
use Rattle.std.specs.Prelude.{ℕ, ◌+◌, ◌==◌, [], ◌∷◌, ◌++◌, length, nat_le, if◌then◌else◌, Option, Some, None, Result, Ok, Err}
use Rattle.std.specs.Option.{ok_or}
use Rattle.spiffe_doc.specs.declared.authority.Authority.{Authority}
use Rattle.spiffe_doc.specs.declared.error.AppendError.{AppendError}
use Rattle.spiffe_doc.specs.declared.error.AppendError.TheVariants.{Present, KidTaken, TooMany, SequenceFull, TooLong}
use Rattle.spiffe_doc.specs.Answer.{◌>>=◌}
use Rattle.spiffe_doc.specs.Authority.{BundleValue}
use Rattle.spiffe_doc.specs.Bundle.{is_among, is_kid_taken}
use Rattle.spiffe_doc.specs.Text.{text_of}

-- The sequence after a change: one more, if there is one. The greatest can't rise.
abbrev pub next_sequence : Option ℕ → Option (Option ℕ)
next_sequence None = Some None
next_sequence (Some n) = if n == 18446744073709551615 then None else Some (Some (n + 1))

-- under this sequence, with one more authority at the end
abbrev pub with_authority : BundleValue → Option ℕ → Authority → BundleValue
with_authority bundle sequence authority =
    record { sequence = sequence; refresh_hint = bundle.refresh_hint; authorities = bundle.authorities ++ authority ∷ [] }

abbrev pub unless_long : BundleValue → Result BundleValue AppendError
unless_long bundle = if nat_le (length (text_of bundle)) 1048576 then Ok bundle else Err TooLong

-- the bundle with one more authority, or the first reason against it
unfoldable pub appended : BundleValue → Authority → Result BundleValue AppendError
appended bundle authority =
    if is_among bundle.authorities authority then Err Present
    else if is_kid_taken bundle.authorities authority then Err KidTaken
    else if nat_le 1024 (length bundle.authorities) then Err TooMany
    else ok_or (next_sequence bundle.sequence) SequenceFull >>= (λ sequence. unless_long (with_authority bundle sequence authority))
