-- Why an entry of a document is ignored: its `kty` is unknown or missing, or its `use` is, or its curve is unknown (SPIFFE
-- Trust Domain and Bundle, section 4.2; RFC 7517, sections 4.1, 4.2 and 5). That `judge` ignores an entry if and only if there is
-- a reason is a law of the crate.
use Rattle.std.specs.Prelude.{ℕ, List, codes, bytes_eq, Bool, false, not, ◌||◌, is_some, if◌then◌else◌, Option, Some, None}
use Rattle.serde_json.specs.Data.{Data, string}
use Rattle.serde_json.specs.Find.{get, as_object}
use Rattle.spiffe_doc.specs.Entry.{member_text}
use Rattle.doc_report.specs.declared.ignored.Held.{Held}
use Rattle.doc_report.specs.declared.ignored.Held.TheVariants.{Missing, Other, Text}
use Rattle.doc_report.specs.declared.ignored.Reason.{Reason}
use Rattle.doc_report.specs.declared.ignored.Reason.TheVariants.{OtherType, OtherUse, OtherCurve}

-- what an entry has under a name
abbrev pub held_as : Option Data → Held
held_as None = Missing
held_as (Some (string text)) = Text text
held_as (Some other) = Other

abbrev pub held : List ℕ → Data → Held
held name entry = held_as (get name entry)

-- ---- what is known

abbrev pub is_known_type : Option (List ℕ) → Bool
is_known_type None = false
is_known_type (Some text) = bytes_eq text (codes "EC") || bytes_eq text (codes "RSA")

abbrev pub is_known_use : Option (List ℕ) → Bool
is_known_use None = false
is_known_use (Some text) = bytes_eq text (codes "x509-svid") || bytes_eq text (codes "jwt-svid")

abbrev pub is_known_curve : List ℕ → Bool
is_known_curve text = bytes_eq text (codes "P-256") || bytes_eq text (codes "P-384") || bytes_eq text (codes "P-521")

-- ---- the reason

-- of an EC key, by its `crv`; without a text there it is malformed
abbrev pub curve_reason : Option (List ℕ) → Option Reason
curve_reason None = None
curve_reason (Some text) = if is_known_curve text then None else Some (OtherCurve text)

abbrev pub is_ec : Option (List ℕ) → Bool
is_ec None = false
is_ec (Some text) = bytes_eq text (codes "EC")

-- of an object: its type, then its use, then its curve
abbrev pub object_reason : Data → Option Reason
object_reason entry =
    if not (is_known_type (member_text (codes "kty") entry)) then Some (OtherType (held (codes "kty") entry))
    else if not (is_known_use (member_text (codes "use") entry)) then Some (OtherUse (held (codes "use") entry))
    else if is_ec (member_text (codes "kty") entry) then curve_reason (member_text (codes "crv") entry)
    else None

-- the first reason why the entry is ignored; what is not an object is malformed
unfoldable pub reason : Data → Option Reason
reason entry = if is_some (as_object entry) then object_reason entry else None
