-- There is a reason why an entry is ignored just if it is ignored.
use Rattle.std.proofs.Common.{◌≡◌, ℕ, List, codes, bytes_eq, true, false, Option, Some, None, Result, Ok, refl, sym, ap, ◌∙◌, inl, inr}
use Rattle.std.specs.Prelude.{◌↔◌, ◌⊎◌, ◌||◌, is_some, IsSome}
use Rattle.std.specs.Cmp.Lexicographic.{bytes_decides}
use Rattle.std.proofs.lemmas.Bool.{cases_Bool}
use Rattle.serde_json.specs.Data.{Data}
use Rattle.serde_json.specs.Find.{as_object}
use Rattle.spiffe_doc.specs.declared.key.Curve.{Curve}
use Rattle.spiffe_doc.specs.declared.key.Curve.TheVariants.{P256, P384, P521}
use Rattle.spiffe_doc.specs.declared.authority.Authority.{Authority}
use Rattle.spiffe_doc.specs.declared.error.DocError.{DocError}
use Rattle.spiffe_doc.specs.Key.{curve_text}
use Rattle.spiffe_doc.specs.Entry.{member_text, IsIgnored}
use Rattle.spiffe_doc.specs.Judgement.{judge}
use Rattle.spiffe_doc.proofs.EntryLaws.{outcome_of, of_outcome}
use Rattle.doc_report.specs.declared.ignored.Reason.{Reason}
use Rattle.doc_report.specs.Ignored.{is_known_type, is_known_use, is_known_curve, is_ec, curve_reason, reason}

-- ---- what is known

-- one of two texts
either : (text a b : List ℕ) → (bytes_eq text a || bytes_eq text b) ≡ true → (text ≡ a) ⊎ (text ≡ b)
either text a b h = elim (cases_Bool (bytes_eq text a)) [
  | inl first ↦ inl ((bytes_decides _ _).0 first)
  | inr other ↦ inr ((bytes_decides _ _).0 (rw other at h))
]

type_known : (o : Option (List ℕ)) → is_known_type o ≡ true → (o ≡ Some (codes "EC")) ⊎ (o ≡ Some (codes "RSA"))
type_known None h = cc h
type_known (Some text) h = elim (either text _ _ h) [ inl ec ↦ inl (ap Some ec) | inr rsa ↦ inr (ap Some rsa) ]

known_type : (o : Option (List ℕ)) → (o ≡ Some (codes "EC")) ⊎ (o ≡ Some (codes "RSA")) → is_known_type o ≡ true
known_type o h = elim h [ inl ec ↦ rw ec refl | inr rsa ↦ rw rsa refl ]

use_known : (o : Option (List ℕ)) → is_known_use o ≡ true → (o ≡ Some (codes "x509-svid")) ⊎ (o ≡ Some (codes "jwt-svid"))
use_known None h = cc h
use_known (Some text) h = elim (either text _ _ h) [ inl x509 ↦ inl (ap Some x509) | inr jwt ↦ inr (ap Some jwt) ]

known_use : (o : Option (List ℕ)) → (o ≡ Some (codes "x509-svid")) ⊎ (o ≡ Some (codes "jwt-svid")) → is_known_use o ≡ true
known_use o h = elim h [ inl x509 ↦ rw x509 refl | inr jwt ↦ rw jwt refl ]

ec_named : (o : Option (List ℕ)) → is_ec o ≡ true → o ≡ Some (codes "EC")
ec_named None h = cc h
ec_named (Some text) h = ap Some ((bytes_decides _ _).0 h)

known_curve : (curve : Curve) → is_known_curve (curve_text curve) ≡ true
known_curve P256 = refl
known_curve P384 = refl
known_curve P521 = refl

curve_known : (text : List ℕ) → is_known_curve text ≡ true → (curve : Curve) × (text ≡ curve_text curve)
curve_known text h = elim (cases_Bool (bytes_eq text (codes "P-256"))) [
  | inl a ↦ (P256, (bytes_decides _ _).0 a)
  | inr a ↦ elim (cases_Bool (bytes_eq text (codes "P-384"))) [
    | inl b ↦ (P384, (bytes_decides _ _).0 b)
    | inr b ↦ (P521, (bytes_decides _ _).0 (rw (a, b) at h))
  ]
]

-- ---- the reason

pub reason-IsIgnored : (entry : Data) → IsSome (reason entry) → IsIgnored entry
unfolding reason
reason-IsIgnored entry h = elim (cases_Bool (is_some (as_object entry))) [
  | inr other ↦ cc (rw other at h)
  | inl object ↦ elim (cases_Bool (is_known_type kty)) [
    | inr unknown ↦ (object, inl (λ known. cc (sym unknown ∙ known_type kty known)))
    | inl known ↦ elim (cases_Bool (is_known_use (member_text (codes "use") entry))) [
      | inr unused ↦ (object, inr (inl (λ used. cc (sym unused ∙ known_use _ used))))
      | inl used ↦ elim (cases_Bool (is_ec kty)) [
        | inr rsa ↦ cc (rw (object, known, used, rsa) at h)
        | inl ec ↦ of_curve (object) (ec_named kty ec) (member_text (codes "crv") entry) refl (rw (object, known, used, ec) at h)
      ]
    ]
  ]
]
  where
    kty : Option (List ℕ)
    kty = member_text (codes "kty") entry

    of_curve : is_some (as_object entry) ≡ true → kty ≡ Some (codes "EC") → (crv : Option (List ℕ)) → member_text (codes "crv") entry ≡ crv → IsSome (curve_reason crv) → IsIgnored entry
    of_curve object ec None is h = cc h
    of_curve object ec (Some text) is h = elim (cases_Bool (is_known_curve text)) [
      | inl known ↦ cc (rw known at h)
      | inr other ↦ (object, inr (inr (ec, (text, is, λ curve same. cc (sym other ∙ ap is_known_curve same ∙ known_curve curve)))))
    ]

pub IsIgnored-reason : (entry : Data) → IsIgnored entry → IsSome (reason entry)
unfolding reason
IsIgnored-reason entry h = elim (cases_Bool (is_known_type (member_text (codes "kty") entry))) [
  | inr unknown ↦ rw (h.0, unknown) refl
  | inl known ↦ elim (cases_Bool (is_known_use (member_text (codes "use") entry))) [
    | inr unused ↦ rw (h.0, known, unused) refl
    | inl used ↦ elim h.1 [
      | inl no_type ↦ absurd (no_type (type_known _ known))
      | inr more ↦ elim more [
        | inl no_use ↦ absurd (no_use (use_known _ used))
        | inr curve ↦
            let other = not_known curve.1.0 curve.1.2 in
            rw (h.0, known, used, curve.0, curve.1.1, other) refl
      ]
    ]
  ]
]
  where
    not_known : (text : List ℕ) → ((curve : Curve) → text ≡ curve_text curve → ⊥) → is_known_curve text ≡ false
    not_known text none = elim (cases_Bool (is_known_curve text)) [
      | inl known ↦ let curve = curve_known text known in absurd (none curve.0 curve.1)
      | inr other ↦ other
    ]

-- what is judged gives nothing just if there is a reason
abbrev pub Agree : Result (Option Authority) DocError → Option Reason → Type 0
Agree verdict reason = (verdict ≡ Ok None) ↔ IsSome reason

pub judge-reason : (place : ℕ) (entry : Data) → Agree (judge place entry) (reason entry)
judge-reason place entry =
    (λ h. IsIgnored-reason entry (outcome_of place entry (Ok None) h), λ h. of_outcome place entry (Ok None) (reason-IsIgnored entry h))
