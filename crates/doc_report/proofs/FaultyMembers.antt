-- The member that is told of an entry with a malformed key is the first that is missing or malformed.
use Rattle.std.proofs.Common.{◌≡◌, ℕ, List, codes, Option, Some, None, Err, refl, sym, ap, ◌∙◌, inl, inr}
use Rattle.std.specs.Prelude.{option_and_then, is_some, if◌then◌else◌}
use Rattle.serde_json.specs.Data.{Data}
use Rattle.spiffe_doc.specs.declared.key.Curve.{Curve}
use Rattle.spiffe_doc.specs.declared.key.PublicKey.TheVariants.{Ec, Rsa}
use Rattle.spiffe_doc.specs.declared.error.DocError.TheVariants.{BadKey}
use Rattle.spiffe_doc.specs.Entry.{member_text, HasText, HasCurve, HasSomeKey, IsKnown}
use Rattle.spiffe_doc.specs.Judgement.{curve_named, coordinate, rsa_member, judge}
use Rattle.spiffe_doc.proofs.Members.{coordinate-some, coordinate-encoded, rsa_member-some, rsa_member-encoded, curve_named-some, no_curve}
use Rattle.spiffe_doc.proofs.EntryLaws.{outcome_of}
use Rattle.doc_report.specs.declared.key_member.KeyMember.TheVariants.{X, Y, N, E}
use Rattle.doc_report.specs.KeyMember.{faulty_point, faulty_rsa, faulty_member, LacksMember}

-- over a known curve
point_lacks : (entry : Data) (curve : Curve) (x : Option (List ℕ)) → HasCurve entry curve → ¬ (HasSomeKey entry) → coordinate curve (codes "x") entry ≡ x
    → LacksMember entry (if is_some x then Y curve else X curve)
point_lacks entry curve None over none is = (over, λ has. cc (sym is ∙ coordinate-encoded curve (codes "x") entry has.0 has.1 has.2))
point_lacks entry curve (Some x) over none is =
    let px = coordinate-some curve (codes "x") entry x is in
    (over, (x, px.0, px.1), λ has. none (Ec (record { curve = curve; x = x; y = has.0 }), record { x = px.0; y = has.1 }, (over, px.1, has.2)))

ec_lacks : (entry : Data) → HasText entry (codes "kty") (codes "EC") → IsKnown entry → ¬ (HasSomeKey entry) → (crv : Option (List ℕ)) → member_text (codes "crv") entry ≡ crv
    → LacksMember entry (faulty_point entry (option_and_then curve_named crv))
ec_lacks entry ec known none None is = (ec, λ has. cc (sym is ∙ has.1))
ec_lacks entry ec known none (Some text) is = curved (curve_named text) refl
  where
    curved : (o : Option Curve) → curve_named text ≡ o → LacksMember entry (faulty_point entry o)
    curved None named = absurd (known.no_other_curve (ec, (text, is, no_curve text named)))
    curved (Some curve) named = point_lacks entry curve (coordinate curve (codes "x") entry) (ec, is ∙ ap Some (curve_named-some text curve named)) none refl

rsa_lacks : (entry : Data) (n : Option (List ℕ)) → HasText entry (codes "kty") (codes "RSA") → ¬ (HasSomeKey entry) → rsa_member (codes "n") entry ≡ n
    → LacksMember entry (if is_some n then E else N)
rsa_lacks entry None rsa none is = (rsa, λ has. cc (sym is ∙ rsa_member-encoded (codes "n") entry has.0 has.1 has.2))
rsa_lacks entry (Some n) rsa none is =
    let pn = rsa_member-some (codes "n") entry n is in
    (rsa, (n, pn.0, pn.1), λ has. none (Rsa (record { n = n; e = has.0 }), record { n = pn.0; e = has.1 }, (rsa, pn.1, has.2)))

pub faulty_member-LacksMember : (place at : ℕ) (entry : Data) → judge place entry ≡ Err (BadKey at) → LacksMember entry (faulty_member entry)
unfolding faulty_member
faulty_member-LacksMember place at entry h =
    let why = outcome_of place entry (Err (BadKey at)) h in
    elim why.1.has_type [
      | inl ec ↦ rw ec (ec_lacks entry ec why.1 why.2 (member_text (codes "crv") entry) refl)
      | inr rsa ↦ rw rsa (rsa_lacks entry (rsa_member (codes "n") entry) rsa why.2 refl)
    ]
