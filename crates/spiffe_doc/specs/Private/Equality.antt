-- The tests of equality decide it: what the laws of `==` rest on. Lemmas only.
use Rattle.std.proofs.Common.{◌≡◌, ℕ, ◌==◌, List, nat_eq, Option, None, Some, refl, ap, arith, ◌∙◌}
use Rattle.std.specs.Option.{option_eq}
use Rattle.std.specs.Bool.{Decides}
use Rattle.std.specs.Cmp.{unsigned_Decides}
use Rattle.std.specs.Cmp.Lexicographic.{bytes_decides, pointwise_decides}
use Rattle.std.proofs.lemmas.Bool.Decides.{Decides-and, Decides-like}
use Rattle.spiffe_doc.specs.declared.key.Curve.{Curve}
use Rattle.spiffe_doc.specs.declared.key.Curve.TheVariants.{P256, P384, P521}
use Rattle.spiffe_doc.specs.declared.key.PublicKey.{PublicKey}
use Rattle.spiffe_doc.specs.declared.key.PublicKey.TheVariants.{Ec, Rsa}
use Rattle.spiffe_doc.specs.declared.authority.Authority.{Authority}
use Rattle.spiffe_doc.specs.declared.authority.Authority.TheVariants.{X509, Jwt}
use Rattle.spiffe_doc.specs.Key.{EcKeyValue, RsaKeyValue, coordinate_len}
use Rattle.spiffe_doc.specs.Authority.{BundleValue}
use Rattle.spiffe_doc.specs.Equal.{ec_eq, rsa_eq, key_eq, authority_eq, bundle_eq}

curve_from_len : (a b : Curve) → coordinate_len a ≡ coordinate_len b → a ≡ b
curve_from_len P256 P256 h = refl
curve_from_len P256 P384 h = absurd (omega arith)
curve_from_len P256 P521 h = absurd (omega arith)
curve_from_len P384 P256 h = absurd (omega arith)
curve_from_len P384 P384 h = refl
curve_from_len P384 P521 h = absurd (omega arith)
curve_from_len P521 P256 h = absurd (omega arith)
curve_from_len P521 P384 h = absurd (omega arith)
curve_from_len P521 P521 h = refl

curve_decides : (a b : Curve) → Decides (coordinate_len a == coordinate_len b) (a ≡ b)
curve_decides a b = Decides-like _ (curve_from_len a b) (λ e. ap coordinate_len e) (unsigned_Decides (coordinate_len a) (coordinate_len b))

abbrev ec_value : Curve → List ℕ → List ℕ → EcKeyValue
ec_value c m n = record { curve = c; x = m; y = n }

abbrev rsa_value : List ℕ → List ℕ → RsaKeyValue
rsa_value m k = record { n = m; e = k }

abbrev bundle_value : Option ℕ → Option ℕ → List Authority → BundleValue
bundle_value s h l = record { sequence = s; refresh_hint = h; authorities = l }

ec_from : (a b : EcKeyValue) → ((a.curve ≡ b.curve) × (a.x ≡ b.x)) × (a.y ≡ b.y) → a ≡ b
ec_from a b h =
    ap (λ c. ec_value c a.x a.y) h.0.0 ∙ ap (λ x. ec_value b.curve x a.y) h.0.1 ∙ ap (λ y. ec_value b.curve b.x y) h.1

pub ec_decides : (a b : EcKeyValue) → Decides (ec_eq a b) (a ≡ b)
ec_decides a b =
    Decides-like _ (ec_from a b) (λ e. ((ap (λ k. k.curve) e, ap (λ k. k.x) e), ap (λ k. k.y) e))
    (Decides-and _ _ (Decides-and _ _ (curve_decides a.curve b.curve) (bytes_decides a.x b.x)) (bytes_decides a.y b.y))

pub rsa_decides : (a b : RsaKeyValue) → Decides (rsa_eq a b) (a ≡ b)
rsa_decides a b =
    Decides-like _ (λ h. ap (λ m. rsa_value m a.e) h.0 ∙ ap (λ m. rsa_value b.n m) h.1) (λ e. (ap (λ k. k.n) e, ap (λ k. k.e) e))
    (Decides-and _ _ (bytes_decides a.n b.n) (bytes_decides a.e b.e))

pub key_decides : (a b : PublicKey) → Decides (key_eq a b) (a ≡ b)
key_decides (Ec a) (Ec b) = Decides-like _ (λ e. ap Ec e) (λ e. cc e) (ec_decides a b)
key_decides (Ec a) (Rsa b) = (λ h. cc h, λ h. cc h)
key_decides (Rsa a) (Ec b) = (λ h. cc h, λ h. cc h)
key_decides (Rsa a) (Rsa b) = Decides-like _ (λ e. ap Rsa e) (λ e. cc e) (rsa_decides a b)

pub authority_decides : (a b : Authority) → Decides (authority_eq a b) (a ≡ b)
authority_decides (X509 key der) (X509 other_key other_der) =
    Decides-like _ (λ h. let k = h.0 in let d = h.1 in cc) (λ e. (cc e, cc e)) (Decides-and _ _ (key_decides key other_key) (bytes_decides der other_der))
authority_decides (X509 key der) (Jwt other_kid other_key) = (λ h. cc h, λ h. cc h)
authority_decides (Jwt kid key) (X509 other_key other_der) = (λ h. cc h, λ h. cc h)
authority_decides (Jwt kid key) (Jwt other_kid other_key) =
    Decides-like _ (λ h. let i = h.0 in let k = h.1 in cc) (λ e. (cc e, cc e)) (Decides-and _ _ (bytes_decides kid other_kid) (key_decides key other_key))

number_decides : (a b : Option ℕ) → Decides (option_eq nat_eq a b) (a ≡ b)
number_decides None None = (λ _. refl, λ _. refl)
number_decides None (Some n) = (λ h. cc h, λ h. cc h)
number_decides (Some m) None = (λ h. cc h, λ h. cc h)
number_decides (Some m) (Some n) = Decides-like _ (λ e. ap Some e) (λ e. cc e) (unsigned_Decides m n)

pub bundle_decides : (a b : BundleValue) → Decides (bundle_eq a b) (a ≡ b)
bundle_decides a b =
    Decides-like _
    (λ h. ap (λ s. bundle_value s a.refresh_hint a.authorities) h.0.0 ∙ ap (λ n. bundle_value b.sequence n a.authorities) h.0.1 ∙ ap (λ l. bundle_value b.sequence b.refresh_hint l) h.1)
    (λ e. ((ap (λ p. p.sequence) e, ap (λ p. p.refresh_hint) e), ap (λ p. p.authorities) e))
    (Decides-and _ _ (Decides-and _ _ (number_decides a.sequence b.sequence) (number_decides a.refresh_hint b.refresh_hint)) (pointwise_decides authority_decides a.authorities b.authorities))
