-- Where a text lies.
use Rattle.std.specs.Prelude.{◌<◌, length, string_bytes}
use Rattle.spiffe_doc.specs.declared.short_text.ShortText.{ShortText}
use Rattle.spiffe_doc.specs.declared.short_text.ShortText.TheVariants.{Inline, Allocated}

-- only a text of over 24 bytes lies in memory of its own
abbrev pub IsPlaced : ShortText → Type 0
IsPlaced (Inline text) = Unit {0}
IsPlaced (Allocated text) = 24 < length (string_bytes text)
