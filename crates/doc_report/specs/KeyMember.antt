-- Which member of a key is malformed (RFC 7518, sections 6.2.1 and 6.3.1).
use Rattle.std.specs.Prelude.{List, ℕ, codes, is_some, if◌then◌else◌, Option, Some, None, option_and_then}
use Rattle.serde_json.specs.Data.{Data}
use Rattle.spiffe_doc.specs.declared.key.Curve.{Curve}
use Rattle.spiffe_doc.specs.Key.{IsCoordinate, IsRsaMember}
use Rattle.spiffe_doc.specs.Entry.{member_text, HasText, HasBytes, HasCurve}
use Rattle.spiffe_doc.specs.Judgement.{curve_named, coordinate, rsa_member}
use Rattle.doc_report.specs.declared.key_member.KeyMember.{KeyMember}
use Rattle.doc_report.specs.declared.key_member.KeyMember.TheVariants.{Crv, X, Y, N, E}
use Rattle.doc_report.specs.Ignored.{is_ec}

-- ---- of an entry whose key is malformed, the first member that is

-- the curve that an entry names, if it is known
abbrev pub curve_in : Data → Option Curve
curve_in entry = option_and_then curve_named (member_text (codes "crv") entry)

abbrev pub faulty_point : Data → Option Curve → KeyMember
faulty_point entry None = Crv
faulty_point entry (Some curve) = if is_some (coordinate curve (codes "x") entry) then Y curve else X curve

abbrev pub faulty_rsa : Data → KeyMember
faulty_rsa entry = if is_some (rsa_member (codes "n") entry) then E else N

unfoldable pub faulty_member : Data → KeyMember
faulty_member entry = if is_ec (member_text (codes "kty") entry) then faulty_point entry (curve_in entry) else faulty_rsa entry

-- ---- that it is the first: a law of the crate

abbrev pub HasCoordinate : Data → Curve → List ℕ → Type 0
HasCoordinate entry curve name = (bytes : List ℕ) × IsCoordinate curve bytes × HasBytes entry name bytes

abbrev pub HasRsaMember : Data → List ℕ → Type 0
HasRsaMember entry name = (bytes : List ℕ) × IsRsaMember bytes × HasBytes entry name bytes

-- this is the first member of its key that is missing or malformed
abbrev pub LacksMember : Data → KeyMember → Type 0
LacksMember entry Crv = HasText entry (codes "kty") (codes "EC") × ¬ ((text : List ℕ) × HasText entry (codes "crv") text)
LacksMember entry (X curve) = HasCurve entry curve × ¬ (HasCoordinate entry curve (codes "x"))
LacksMember entry (Y curve) = HasCurve entry curve × HasCoordinate entry curve (codes "x") × ¬ (HasCoordinate entry curve (codes "y"))
LacksMember entry N = HasText entry (codes "kty") (codes "RSA") × ¬ (HasRsaMember entry (codes "n"))
LacksMember entry E = HasText entry (codes "kty") (codes "RSA") × HasRsaMember entry (codes "n") × ¬ (HasRsaMember entry (codes "e"))
