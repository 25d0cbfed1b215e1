-- Texts with no byte to escape, and what each of the four forms of an entry is put together from.
use Rattle.std.proofs.Common.{◌≡◌, ℕ, zero, suc, ◌+◌, ◌/◌, ◌%◌, ◌*◌, ◌<◌, ◌==◌, ◌||◌, true, List, [], ◌∷◌, ◌++◌, length, replicate, slice_index, codes, append_assoc, Result, Ok, Err, String, refl, sym, ap, ◌∙◌, arith}
use Rattle.std.specs.Prelude.{IfOk, string_bytes}
use Rattle.std.specs.List.{list_all, concat}
use Rattle.std.proofs.lemmas.Bool.{eqb-false, ltb-false, not-true, or_parts, and_parts}
use Rattle.std.proofs.lemmas.List.Sums.{AllPass-from_list_all}
use Rattle.json.specs.Print.{escape_byte, escape, quoted}
use Rattle.json.specs.Run.{is_plain}
use Rattle.json.proofs.Printed.Strings.{escape_byte_plain}
use Rattle.serde_json.specs.Written.{compact_text}
use Rattle.serde_json.proofs.OnLiterals.{serde_json_on_literals}
use Rattle.base64.specs.Engines.{standard, url_safe_no_pad}
use Rattle.base64.specs.GeneralPurpose.{IsBytes, encode_of}
use Rattle.base64.specs.Rfc4648.{encode_symbols, padding_len}
use Rattle.spiffe_doc.specs.declared.key.Curve.{Curve}
use Rattle.spiffe_doc.specs.declared.key.Curve.TheVariants.{P256, P384, P521}
use Rattle.spiffe_doc.specs.Key.{curve_text}
use Rattle.spiffe_doc.specs.Private.Writing.{NeedsNoEscape, x509_point_tree, x509_rsa_tree, jwt_point_tree, jwt_rsa_tree}

-- ---- plain text, which needs no escape

plain_byte : (x : ℕ) → is_plain x ≡ true → escape_byte x ≡ x ∷ []
plain_byte x h =
    let none = or_parts ((x == 34) || (x == 92)) _ (not-true _ h) in
    let tests = or_parts (x == 34) _ none.0 in
    escape_byte_plain x (eqb-false x 34 tests.0) (eqb-false x 92 tests.1) (ltb-false x 32 none.1)

pub escape-plain : (xs : List ℕ) → list_all is_plain xs ≡ true → escape xs ≡ xs
escape-plain [] h = refl
escape-plain (x ∷ xs) h =
    let parts = and_parts (is_plain x) _ h in
    rw (plain_byte x parts.0) (ap (λ l. x ∷ l) (escape-plain xs parts.1))

-- ---- base64 is plain

symbol_plain : (t : List ℕ) → length t ≡ 64 → list_all is_plain t ≡ true → (i : ℕ) → i < 64 → is_plain (slice_index t i) ≡ true
symbol_plain t len h i below = AllPass-from_list_all is_plain t h i 0 (omega arith)

symbols_plain : (t m : List ℕ) → length t ≡ 64 → list_all is_plain t ≡ true → IsBytes m → list_all is_plain (encode_symbols t m) ≡ true
unfolding encode_symbols
symbols_plain t [] len h bytes = refl
symbols_plain t (a ∷ []) len h bytes =
    let la : a < 256 = bytes 0 in
    rw (symbol_plain t len h (a / 4) (omega arith), symbol_plain t len h (a % 4 * 16) (omega arith)) refl
symbols_plain t (a ∷ b ∷ []) len h bytes =
    let la : a < 256 = bytes 0 in
    let lb : b < 256 = bytes 1 in
    rw (symbol_plain t len h (a / 4) (omega arith), symbol_plain t len h (a % 4 * 16 + b / 16) (omega arith), symbol_plain t len h (b % 16 * 4) (omega arith)) refl
symbols_plain t (a ∷ b ∷ c ∷ rest) len h bytes =
    let la : a < 256 = bytes 0 in
    let lb : b < 256 = bytes 1 in
    let lc : c < 256 = bytes 2 in
    rw (symbol_plain t len h (a / 4) (omega arith), symbol_plain t len h (a % 4 * 16 + b / 16) (omega arith), symbol_plain t len h (b % 16 * 4 + c / 64) (omega arith), symbol_plain t len h (c % 64) (omega arith))
    (symbols_plain t rest len h (λ i. bytes (suc (suc (suc i)))))

list_all-append : (xs ys : List ℕ) → list_all is_plain xs ≡ true → list_all is_plain ys ≡ true → list_all is_plain (xs ++ ys) ≡ true
list_all-append [] ys hx hy = hy
list_all-append (x ∷ xs) ys hx hy =
    let parts = and_parts (is_plain x) _ hx in
    rw (parts.0) (list_all-append xs ys parts.1 hy)

padding_plain : (n : ℕ) → list_all is_plain (replicate n 61) ≡ true
padding_plain zero = refl
padding_plain (suc n) = padding_plain n

pub url_safe_plain : (m : List ℕ) → IsBytes m → NeedsNoEscape (encode_of url_safe_no_pad m)
url_safe_plain m bytes = list_all-append (encode_symbols url_safe_no_pad.encode_table m) [] (symbols_plain url_safe_no_pad.encode_table m refl refl bytes) refl

pub standard_plain : (m : List ℕ) → IsBytes m → NeedsNoEscape (encode_of standard m)
standard_plain m bytes = list_all-append (encode_symbols standard.encode_table m) (replicate (padding_len (length m)) 61) (symbols_plain standard.encode_table m refl refl bytes) (padding_plain (padding_len (length m)))

pub plain_curve : (curve : Curve) → list_all is_plain (curve_text curve) ≡ true
plain_curve P256 = refl
plain_curve P384 = refl
plain_curve P521 = refl

-- a text that is the encoding, if there is one
pub plain_if : {Z E : Type 0} (made : Result (String Z) E) (text : List ℕ) → IfOk made (λ t. string_bytes t ≡ text) → NeedsNoEscape text → IfOk made (λ t. NeedsNoEscape (string_bytes t))
plain_if (Ok t) text same plain = rw same plain
plain_if (Err e) text same plain = tt

-- ---- the four forms of an entry

abbrev pub x509_point_pieces : Curve → List ℕ → List ℕ → List ℕ → List (List ℕ)
x509_point_pieces curve x y x5c =
    codes "{\"crv\":\"" ∷ curve_text curve ∷ codes "\",\"kty\":\"EC\",\"use\":\"x509-svid\",\"x\":\"" ∷ x ∷ codes "\",\"x5c\":[\"" ∷ x5c
    ∷ codes "\"],\"y\":\"" ∷ y ∷ codes "\"}" ∷ []

abbrev pub x509_rsa_pieces : List ℕ → List ℕ → List ℕ → List (List ℕ)
x509_rsa_pieces n e x5c =
    codes "{\"e\":\"" ∷ e ∷ codes "\",\"kty\":\"RSA\",\"n\":\"" ∷ n ∷ codes "\",\"use\":\"x509-svid\",\"x5c\":[\"" ∷ x5c ∷ codes "\"]}" ∷ []

abbrev pub jwt_point_pieces : List ℕ → Curve → List ℕ → List ℕ → List (List ℕ)
jwt_point_pieces kid curve x y =
    codes "{\"crv\":\"" ∷ curve_text curve ∷ codes "\",\"kid\":\"" ∷ escape kid ∷ codes "\",\"kty\":\"EC\",\"use\":\"jwt-svid\",\"x\":\"" ∷ x
    ∷ codes "\",\"y\":\"" ∷ y ∷ codes "\"}" ∷ []

abbrev pub jwt_rsa_pieces : List ℕ → List ℕ → List ℕ → List (List ℕ)
jwt_rsa_pieces kid n e =
    codes "{\"e\":\"" ∷ e ∷ codes "\",\"kid\":\"" ∷ escape kid ∷ codes "\",\"kty\":\"RSA\",\"n\":\"" ∷ n ∷ codes "\",\"use\":\"jwt-svid\"}" ∷ []

-- a fixed text, one that varies, and a quotation mark with the rest
piece : (fixed text rest more : List ℕ) → 34 ∷ rest ≡ more → fixed ++ ((text ++ 34 ∷ []) ++ rest) ≡ fixed ++ (text ++ more)
piece fixed text rest more e = ap (λ l. fixed ++ l) (append_assoc text (34 ∷ []) rest ∙ ap (λ l. text ++ l) e)

pub x509_point-pieces : (curve : Curve) (x y x5c : List ℕ) → NeedsNoEscape x → NeedsNoEscape y → NeedsNoEscape x5c
    → compact_text (x509_point_tree curve x y x5c) ≡ concat (x509_point_pieces curve x y x5c)
unfolding serde_json_on_literals
x509_point-pieces curve x y x5c hx hy h5 =
    let m4 = codes "}" in
    let m3 = codes ",\"y\":\"" ++ ((y ++ 34 ∷ []) ++ m4) in
    let m2 = codes ",\"x5c\":[\"" ++ ((x5c ++ 34 ∷ []) ++ (codes "]" ++ m3)) in
    let m1 = codes ",\"kty\":\"EC\",\"use\":\"x509-svid\",\"x\":\"" ++ ((x ++ 34 ∷ []) ++ m2) in
    rw (escape-plain (curve_text curve) (plain_curve curve), escape-plain x hx, escape-plain y hy, escape-plain x5c h5, append_assoc (x5c ++ 34 ∷ []) (codes "]") m3) (
    piece (codes "{\"crv\":\"") (curve_text curve) m1 _ (piece (codes "\",\"kty\":\"EC\",\"use\":\"x509-svid\",\"x\":\"") x m2 _
    (piece (codes "\",\"x5c\":[\"") x5c (codes "]" ++ m3) _ (piece (codes "\"],\"y\":\"") y m4 _ refl))))

pub x509_rsa-pieces : (n e x5c : List ℕ) → NeedsNoEscape n → NeedsNoEscape e → NeedsNoEscape x5c
    → compact_text (x509_rsa_tree n e x5c) ≡ concat (x509_rsa_pieces n e x5c)
unfolding serde_json_on_literals
x509_rsa-pieces n e x5c hn he h5 =
    let m3 = codes "}" in
    let m2 = codes ",\"use\":\"x509-svid\",\"x5c\":[\"" ++ ((x5c ++ 34 ∷ []) ++ (codes "]" ++ m3)) in
    let m1 = codes ",\"kty\":\"RSA\",\"n\":\"" ++ ((n ++ 34 ∷ []) ++ m2) in
    rw (escape-plain n hn, escape-plain e he, escape-plain x5c h5, append_assoc (x5c ++ 34 ∷ []) (codes "]") m3) (
    piece (codes "{\"e\":\"") e m1 _ (piece (codes "\",\"kty\":\"RSA\",\"n\":\"") n m2 _
    (piece (codes "\",\"use\":\"x509-svid\",\"x5c\":[\"") x5c (codes "]" ++ m3) _ refl)))

pub jwt_point-pieces : (kid : List ℕ) (curve : Curve) (x y : List ℕ) → NeedsNoEscape x → NeedsNoEscape y
    → compact_text (jwt_point_tree kid curve x y) ≡ concat (jwt_point_pieces kid curve x y)
unfolding serde_json_on_literals
jwt_point-pieces kid curve x y hx hy =
    let m4 = codes "}" in
    let m3 = codes ",\"y\":\"" ++ ((y ++ 34 ∷ []) ++ m4) in
    let m2 = codes ",\"kty\":\"EC\",\"use\":\"jwt-svid\",\"x\":\"" ++ ((x ++ 34 ∷ []) ++ m3) in
    let m1 = codes ",\"kid\":\"" ++ ((escape kid ++ 34 ∷ []) ++ m2) in
    rw (escape-plain (curve_text curve) (plain_curve curve), escape-plain x hx, escape-plain y hy) (
    piece (codes "{\"crv\":\"") (curve_text curve) m1 _ (piece (codes "\",\"kid\":\"") (escape kid) m2 _
    (piece (codes "\",\"kty\":\"EC\",\"use\":\"jwt-svid\",\"x\":\"") x m3 _ (piece (codes "\",\"y\":\"") y m4 _ refl))))

pub jwt_rsa-pieces : (kid n e : List ℕ) → NeedsNoEscape n → NeedsNoEscape e → compact_text (jwt_rsa_tree kid n e) ≡ concat (jwt_rsa_pieces kid n e)
unfolding serde_json_on_literals
jwt_rsa-pieces kid n e hn he =
    let m3 = codes ",\"use\":\"jwt-svid\"}" in
    let m2 = codes ",\"kty\":\"RSA\",\"n\":\"" ++ ((n ++ 34 ∷ []) ++ m3) in
    let m1 = codes ",\"kid\":\"" ++ ((escape kid ++ 34 ∷ []) ++ m2) in
    rw (escape-plain n hn, escape-plain e he) (
    piece (codes "{\"e\":\"") e m1 _ (piece (codes "\",\"kid\":\"") (escape kid) m2 _ (piece (codes "\",\"kty\":\"RSA\",\"n\":\"") n m3 _ refl)))

-- ---- the same, as they are written

four : (a b c d : List ℕ) → ((a ++ b) ++ c) ++ d ≡ a ++ (b ++ (c ++ d))
four a b c d = append_assoc (a ++ b) c d ∙ append_assoc a b (c ++ d)

five : (a b c d e : List ℕ) → (((a ++ b) ++ c) ++ d) ++ e ≡ a ++ (b ++ (c ++ (d ++ e)))
five a b c d e = four (a ++ b) c d e ∙ append_assoc a b (c ++ (d ++ e))

-- a string of JSON in between
around : (a b text rest : List ℕ) → (a ++ b) ++ (quoted text ++ rest) ≡ a ++ (b ++ 34 ∷ (escape text ++ 34 ∷ rest))
around a b text rest = append_assoc a b (quoted text ++ rest) ∙ ap (λ l. a ++ (b ++ 34 ∷ l)) (append_assoc (escape text) (34 ∷ []) rest)

pub x509_point-written : (curve : Curve) (x y x5c : List ℕ) → NeedsNoEscape x → NeedsNoEscape y → NeedsNoEscape x5c
    → ((((codes "{\"crv\":\"" ++ curve_text curve) ++ (codes "\",\"kty\":\"EC\",\"use\":\"x509-svid\",\"x\":\"" ++ x)) ++ (codes "\",\"x5c\":[\"" ++ x5c))
    ++ (codes "\"],\"y\":\"" ++ y)) ++ codes "\"}" ≡ compact_text (x509_point_tree curve x y x5c)
x509_point-written curve x y x5c hx hy h5 =
    five (codes "{\"crv\":\"" ++ curve_text curve) (codes "\",\"kty\":\"EC\",\"use\":\"x509-svid\",\"x\":\"" ++ x) (codes "\",\"x5c\":[\"" ++ x5c)
    (codes "\"],\"y\":\"" ++ y) (codes "\"}")
    ∙ sym (x509_point-pieces curve x y x5c hx hy h5)

pub x509_rsa-written : (n e x5c : List ℕ) → NeedsNoEscape n → NeedsNoEscape e → NeedsNoEscape x5c
    → (((codes "{\"e\":\"" ++ e) ++ (codes "\",\"kty\":\"RSA\",\"n\":\"" ++ n)) ++ (codes "\",\"use\":\"x509-svid\",\"x5c\":[\"" ++ x5c)) ++ codes "\"]}"
    ≡ compact_text (x509_rsa_tree n e x5c)
x509_rsa-written n e x5c hn he h5 =
    four (codes "{\"e\":\"" ++ e) (codes "\",\"kty\":\"RSA\",\"n\":\"" ++ n) (codes "\",\"use\":\"x509-svid\",\"x5c\":[\"" ++ x5c) (codes "\"]}")
    ∙ sym (x509_rsa-pieces n e x5c hn he h5)

pub jwt_point-written : (kid : List ℕ) (curve : Curve) (x y : List ℕ) → NeedsNoEscape x → NeedsNoEscape y
    → (((((codes "{\"crv\":\"" ++ curve_text curve) ++ codes "\",\"kid\":") ++ quoted kid) ++ (codes ",\"kty\":\"EC\",\"use\":\"jwt-svid\",\"x\":\"" ++ x))
    ++ (codes "\",\"y\":\"" ++ y)) ++ codes "\"}" ≡ compact_text (jwt_point_tree kid curve x y)
jwt_point-written kid curve x y hx hy =
    let front = codes "{\"crv\":\"" ++ curve_text curve in
    let first = codes ",\"kty\":\"EC\",\"use\":\"jwt-svid\",\"x\":\"" ++ x in
    let second = codes "\",\"y\":\"" ++ y in
    five (front ++ codes "\",\"kid\":") (quoted kid) first second (codes "\"}")
    ∙ around front (codes "\",\"kid\":") kid (first ++ (second ++ codes "\"}"))
    ∙ sym (jwt_point-pieces kid curve x y hx hy)

pub jwt_rsa-written : (kid n e : List ℕ) → NeedsNoEscape n → NeedsNoEscape e
    → ((((codes "{\"e\":\"" ++ e) ++ codes "\",\"kid\":") ++ quoted kid) ++ (codes ",\"kty\":\"RSA\",\"n\":\"" ++ n)) ++ codes "\",\"use\":\"jwt-svid\"}"
    ≡ compact_text (jwt_rsa_tree kid n e)
jwt_rsa-written kid n e hn he =
    let front = codes "{\"e\":\"" ++ e in
    let modulus = codes ",\"kty\":\"RSA\",\"n\":\"" ++ n in
    four (front ++ codes "\",\"kid\":") (quoted kid) modulus (codes "\",\"use\":\"jwt-svid\"}")
    ∙ around front (codes "\",\"kid\":") kid (modulus ++ codes "\",\"use\":\"jwt-svid\"}")
    ∙ sym (jwt_rsa-pieces kid n e hn he)
