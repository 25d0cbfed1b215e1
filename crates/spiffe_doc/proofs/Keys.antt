-- The key of an entry is read as what its members encode, or it is malformed.
use Rattle.std.proofs.Common.{◌≡◌, ℕ, List, codes, Option, Some, None, Result, Ok, Err, refl, sym, ap, ◌∙◌}
use Rattle.std.specs.Option.{ok_or}
use Rattle.serde_json.specs.Data.{Data}
use Rattle.spiffe_doc.specs.declared.key.Curve.{Curve}
use Rattle.spiffe_doc.specs.declared.key.PublicKey.{PublicKey}
use Rattle.spiffe_doc.specs.declared.key.PublicKey.TheVariants.{Ec, Rsa}
use Rattle.spiffe_doc.specs.declared.entry.KeyType.{KeyType}
use Rattle.spiffe_doc.specs.declared.entry.KeyType.TheVariants as types
use Rattle.spiffe_doc.specs.declared.error.DocError.{DocError}
use Rattle.spiffe_doc.specs.declared.error.DocError.TheVariants.{BadKey}
use Rattle.spiffe_doc.specs.Answer.{◌>>=◌}
use Rattle.spiffe_doc.specs.Key.{EcKeyValue, RsaKeyValue, curve_text, IsEcKey, IsRsaKey}
use Rattle.spiffe_doc.specs.Authority.{IsPublicKey}
use Rattle.spiffe_doc.specs.Entry.{member_text, HasText, HasBytes, HasCurve, HasKey, HasOtherCurve, HasSomeKey}
use Rattle.spiffe_doc.specs.Judgement.{curve_named, key_type, coordinate, rsa_member, point_key, rsa_key, key_on, key_of}
use Rattle.spiffe_doc.proofs.Members.{coordinate-some, coordinate-encoded, rsa_member-some, rsa_member-encoded, curve_named-some, curve_named-text, other_curve, no_curve, type_of, of_type}

-- a key of two members is refused for this reason only
two_members : (place : ℕ) (e : DocError) (key : List ℕ → List ℕ → PublicKey) (x y : Option (List ℕ))
    → (ok_or x (BadKey place) >>= (λ x. ok_or y (BadKey place) >>= (λ y. Ok (key x y)))) ≡ Err e → e ≡ BadKey place
two_members place e key None y h = cc h
two_members place e key (Some x) None h = cc h
two_members place e key (Some x) (Some y) h = cc h

-- ---- over a curve

ec_key_with : (place : ℕ) (curve : Curve) (entry : Data) (x y : Option (List ℕ)) → coordinate curve (codes "x") entry ≡ x → coordinate curve (codes "y") entry ≡ y
    → point_key place curve entry ≡ (ok_or x (BadKey place) >>= (λ x. ok_or y (BadKey place) >>= (λ y. Ok (Ec (record { curve = curve; x = x; y = y })))))
unfolding point_key
ec_key_with place curve entry x y ex ey = rw (ex, ey) refl

-- what is read as a point's key is made of the members
point_key-ok : (place : ℕ) (curve : Curve) (entry : Data) (k : PublicKey) → HasCurve entry curve → point_key place curve entry ≡ Ok k → IsPublicKey k × HasKey entry k
point_key-ok place curve entry k over h = go (coordinate curve (codes "x") entry) (coordinate curve (codes "y") entry) refl refl
  where
    go : (x y : Option (List ℕ)) → coordinate curve (codes "x") entry ≡ x → coordinate curve (codes "y") entry ≡ y → IsPublicKey k × HasKey entry k
    go None y ex ey = cc (sym (ec_key_with place curve entry None y ex ey) ∙ h)
    go (Some x) None ex ey = cc (sym (ec_key_with place curve entry (Some x) None ex ey) ∙ h)
    go (Some x) (Some y) ex ey =
        let key : EcKeyValue = record { curve = curve; x = x; y = y } in
        let same : Ec key ≡ k = cc (sym (ec_key_with place curve entry (Some x) (Some y) ex ey) ∙ h) in
        let px = coordinate-some curve (codes "x") entry x ex in
        let py = coordinate-some curve (codes "y") entry y ey in
        rw (← same) (record { x = px.0; y = py.0 }, (over, px.1, py.1))

point_key-err : (place : ℕ) (curve : Curve) (entry : Data) (e : DocError) → point_key place curve entry ≡ Err e → e ≡ BadKey place
unfolding point_key
point_key-err place curve entry e h =
    two_members place e (λ x y. Ec (record { curve = curve; x = x; y = y })) (coordinate curve (codes "x") entry) (coordinate curve (codes "y") entry) h

pub key_of-ec : (place : ℕ) (key : EcKeyValue) (entry : Data) → IsEcKey key → HasText entry (codes "crv") (curve_text key.curve)
    → HasBytes entry (codes "x") key.x → HasBytes entry (codes "y") key.y → key_of place types.Ec entry ≡ Ok (Some (Ec key))
unfolding key_of point_key
key_of-ec place key entry h crv x y =
    rw (crv, curve_named-text key.curve, coordinate-encoded key.curve (codes "x") entry key.x h.x x, coordinate-encoded key.curve (codes "y") entry key.y h.y y) refl

-- ---- RSA

rsa_key_with : (place : ℕ) (entry : Data) (n e : Option (List ℕ)) → rsa_member (codes "n") entry ≡ n → rsa_member (codes "e") entry ≡ e
    → rsa_key place entry ≡ (ok_or n (BadKey place) >>= (λ n. ok_or e (BadKey place) >>= (λ e. Ok (Rsa (record { n = n; e = e })))))
unfolding rsa_key
rsa_key_with place entry n e en ee = rw (en, ee) refl

rsa_key-ok : (place : ℕ) (entry : Data) (k : PublicKey) → HasText entry (codes "kty") (codes "RSA") → rsa_key place entry ≡ Ok k → IsPublicKey k × HasKey entry k
rsa_key-ok place entry k kty h = go (rsa_member (codes "n") entry) (rsa_member (codes "e") entry) refl refl
  where
    go : (n e : Option (List ℕ)) → rsa_member (codes "n") entry ≡ n → rsa_member (codes "e") entry ≡ e → IsPublicKey k × HasKey entry k
    go None e en ee = cc (sym (rsa_key_with place entry None e en ee) ∙ h)
    go (Some n) None en ee = cc (sym (rsa_key_with place entry (Some n) None en ee) ∙ h)
    go (Some n) (Some e) en ee =
        let key : RsaKeyValue = record { n = n; e = e } in
        let same : Rsa key ≡ k = cc (sym (rsa_key_with place entry (Some n) (Some e) en ee) ∙ h) in
        let pn = rsa_member-some (codes "n") entry n en in
        let pe = rsa_member-some (codes "e") entry e ee in
        rw (← same) (record { n = pn.0; e = pe.0 }, (kty, pn.1, pe.1))

rsa_key-err : (place : ℕ) (entry : Data) (e : DocError) → rsa_key place entry ≡ Err e → e ≡ BadKey place
unfolding rsa_key
rsa_key-err place entry e h = two_members place e (λ n x. Rsa (record { n = n; e = x })) (rsa_member (codes "n") entry) (rsa_member (codes "e") entry) h

pub key_of-rsa : (place : ℕ) (key : RsaKeyValue) (entry : Data) → IsRsaKey key
    → HasBytes entry (codes "n") key.n → HasBytes entry (codes "e") key.e → key_of place types.Rsa entry ≡ Ok (Some (Rsa key))
unfolding key_of rsa_key
key_of-rsa place key entry h n e =
    rw (rsa_member-encoded (codes "n") entry key.n h.n n, rsa_member-encoded (codes "e") entry key.e h.e e) refl

-- ---- of either type

-- an entry with the members of a valid key has this key
pub key_of-HasKey : (place : ℕ) (entry : Data) (kind : KeyType) (key : PublicKey) → key_type entry ≡ Some kind → IsPublicKey key → HasKey entry key → key_of place kind entry ≡ Ok (Some key)
key_of-HasKey place entry types.Ec (Ec key) kty valid has = key_of-ec place key entry valid has.0.1 has.1 has.2
key_of-HasKey place entry types.Rsa (Rsa key) kty valid has = key_of-rsa place key entry valid has.1 has.2
key_of-HasKey place entry types.Ec (Rsa key) kty valid has = cc (sym kty ∙ of_type entry types.Rsa has.0)
key_of-HasKey place entry types.Rsa (Ec key) kty valid has = cc (sym kty ∙ of_type entry types.Ec has.0.0)

-- an entry of another curve has no key, and is not malformed
pub key_of-other_curve : (place : ℕ) (entry : Data) (kind : KeyType) → key_type entry ≡ Some kind → HasOtherCurve entry → key_of place kind entry ≡ Ok None
unfolding key_of
key_of-other_curve place entry types.Ec kty other = rw (other.1.1, other_curve other.1.0 other.1.2) refl
key_of-other_curve place entry types.Rsa kty other = cc (sym kty ∙ of_type entry types.Ec other.0)

-- what holds of an entry whose key is read so
abbrev pub TellsKey : ℕ → Data → Result (Option PublicKey) DocError → Type 0
TellsKey place entry (Ok (Some key)) = IsPublicKey key × HasKey entry key
TellsKey place entry (Ok None) = HasOtherCurve entry
TellsKey place entry (Err e) = e ≡ BadKey place

with_some : (place : ℕ) (entry : Data) (r : Result PublicKey DocError) → ((key : PublicKey) → r ≡ Ok key → IsPublicKey key × HasKey entry key) → ((e : DocError) → r ≡ Err e → e ≡ BadKey place)
    → TellsKey place entry (r >>= (λ key. Ok (Some key)))
with_some place entry (Ok key) ok err = ok key refl
with_some place entry (Err e) ok err = err e refl

pub key_of-tells : (place : ℕ) (entry : Data) (kind : KeyType) → key_type entry ≡ Some kind → TellsKey place entry (key_of place kind entry)
unfolding key_of
key_of-tells place entry types.Rsa kty =
    let text = type_of entry types.Rsa kty in
    with_some place entry (rsa_key place entry) (λ key is. rsa_key-ok place entry key text is) (λ e is. rsa_key-err place entry e is)
key_of-tells place entry types.Ec kty = named (member_text (codes "crv") entry) refl
  where
    curved : (text : List ℕ) (o : Option Curve) → member_text (codes "crv") entry ≡ Some text → curve_named text ≡ o → TellsKey place entry (key_on place entry o)
    curved text None crv is = (type_of entry types.Ec kty, (text, crv, no_curve text is))
    curved text (Some curve) crv is =
        let over : HasCurve entry curve = (type_of entry types.Ec kty, crv ∙ ap Some (curve_named-some text curve is)) in
        with_some place entry (point_key place curve entry) (λ key read. point_key-ok place curve entry key over read) (λ e read. point_key-err place curve entry e read)

    named : (o : Option (List ℕ)) → member_text (codes "crv") entry ≡ o → TellsKey place entry (ok_or o (BadKey place) >>= (λ text. key_on place entry (curve_named text)))
    named None crv = refl
    named (Some text) crv = curved text (curve_named text) crv refl

-- an entry of a known curve that has no key is malformed
pub key_of-no_key : (place : ℕ) (entry : Data) (kind : KeyType) → key_type entry ≡ Some kind → ¬ (HasOtherCurve entry) → ¬ (HasSomeKey entry) → key_of place kind entry ≡ Err (BadKey place)
key_of-no_key place entry kind kty known none = go (key_of place kind entry) (key_of-tells place entry kind kty)
  where
    go : (r : Result (Option PublicKey) DocError) → TellsKey place entry r → r ≡ Err (BadKey place)
    go (Ok (Some key)) tells = absurd (none (key, tells.0, tells.1))
    go (Ok None) tells = absurd (known tells)
    go (Err e) tells = ap Err tells
