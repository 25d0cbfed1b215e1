-- A text that lies in the value itself if it is short.
use Rattle.std.specs.Prelude.{ℕ, List, string_bytes}
use Rattle.spiffe_doc.specs.declared.short_text.ShortText.{ShortText}
use Rattle.spiffe_doc.specs.declared.short_text.ShortText.TheVariants.{Inline, Allocated}

-- its bytes, wherever they lie
abbrev pub bytes_of : ShortText → List ℕ
bytes_of (Inline text) = text.bytes
bytes_of (Allocated text) = string_bytes text
