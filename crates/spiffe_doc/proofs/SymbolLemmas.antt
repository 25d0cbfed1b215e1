-- Symbols that end with a whole byte are the encoding of some bytes.
use Rattle.std.proofs.Common.{◌≡◌, ℕ, zero, suc, ◌+◌, ◌*◌, ◌/◌, ◌%◌, ◌-◌, ◌<◌, ◌==◌, Bool, true, false, not, ◌||◌, ◌&&◌, List, [], ◌∷◌, ◌++◌, length, map, replicate, slice_index, get_or, refl, sym, ap, ◌∙◌, arith}
use Rattle.std.specs.Char.{is_ascii_alphanumeric}
use Rattle.std.specs.List.{list_all, range_with_len}
use Rattle.std.proofs.lemmas.Bool.{and_parts, eqb-true, ltb-true}
use Rattle.std.proofs.lemmas.Bool.Decides.{nat_tests}
use Rattle.std.proofs.lemmas.List.{append-nil}
use Rattle.std.proofs.lemmas.List.FromFn.{get_or-map-range_with_len}
use Rattle.base64.specs.declared.engine.general_purpose.GeneralPurpose.{GeneralPurpose}
use Rattle.base64.specs.Engines.{standard, url_safe_no_pad}
use Rattle.base64.specs.Rfc4648.{encode_symbols, padding_len}
use Rattle.base64.specs.GeneralPurpose.{encode_of, IsBytes}
use Rattle.base64.specs.Tables.{all_below}
use Rattle.base64.proofs.Tables.{all_below_at}
use Rattle.spiffe_doc.specs.Judgement.{encoded_bytes}
use Rattle.spiffe_doc.specs.Private.Encoded.{Encodes}
use Rattle.spiffe_doc.specs.Private.Symbols.{bits_of, is_symbol, is_end_of_one, is_end_of_two, EndsWhole}
use Rattle.spiffe_doc.proofs.EncodedLemmas.{encoded_bytes-encode_of, Encodes-of}

-- ---- the tests of the code

-- two tests that agree on every byte
agree_below : (f g : ℕ → Bool) → map f (range_with_len 0 256) ≡ map g (range_with_len 0 256) → (x : ℕ) → x < 256 → f x ≡ g x
agree_below f g same x below =
    sym (get_or-map-range_with_len f 0 256 x x false below (omega arith)) ∙ ap (λ answers. get_or answers x false) same
    ∙ get_or-map-range_with_len g 0 256 x x false below (omega arith)

pub standard_symbol-is : (x : ℕ) → x < 256 → (is_ascii_alphanumeric x || x == 43 || x == 47) ≡ is_symbol standard x
unfolding is_symbol
standard_symbol-is = agree_below (λ x. is_ascii_alphanumeric x || x == 43 || x == 47) (is_symbol standard) refl

pub url_safe_symbol-is : (x : ℕ) → x < 256 → (is_ascii_alphanumeric x || x == 45 || x == 95) ≡ is_symbol url_safe_no_pad x
unfolding is_symbol
url_safe_symbol-is = agree_below (λ x. is_ascii_alphanumeric x || x == 45 || x == 95) (is_symbol url_safe_no_pad) refl

-- ---- bits

pub record IsValue (e : GeneralPurpose) (x : ℕ) : Type 0 where
  pub small : bits_of e x < 64
  pub back : slice_index e.encode_table (bits_of e x) ≡ x

first_of : (e : GeneralPurpose) (x : ℕ) (rest : List ℕ) → list_all (is_symbol e) (x ∷ rest) ≡ true → IsValue e x × (list_all (is_symbol e) rest ≡ true)
unfolding is_symbol
first_of e x rest h =
    let both = and_parts (is_symbol e x) (list_all (is_symbol e) rest) h in
    let parts = and_parts _ _ both.0 in
    (record { small = ltb-true _ _ parts.0; back = eqb-true _ _ parts.1 }, both.1)

-- what the ends say of the bits, tried on every byte
abbrev ends_agree : GeneralPurpose → ℕ → Bool
ends_agree e x = (not (is_end_of_one x) || bits_of e x % 16 == 0) && (not (is_end_of_two x) || bits_of e x % 4 == 0)

-- the bits of the symbols that can end a text
pub record HasEnds (e : GeneralPurpose) : Type 0 where
  pub one : (x : ℕ) → is_end_of_one x ≡ true → bits_of e x % 16 ≡ 0
  pub two : (x : ℕ) → is_end_of_two x ≡ true → bits_of e x % 4 ≡ 0

byte_of_one : (x : ℕ) → is_end_of_one x ≡ true → x < 256
byte_of_one x h = grind (arith, nat_tests)

byte_of_two : (x : ℕ) → is_end_of_two x ≡ true → x < 256
byte_of_two x h = grind (arith, nat_tests)

HasEnds-tried : (e : GeneralPurpose) → all_below (ends_agree e) 256 ≡ true → HasEnds e
HasEnds-tried e all = record {
  one = λ x h.
      let here = and_parts (not (is_end_of_one x) || bits_of e x % 16 == 0) _ (all_below_at (ends_agree e) 256 x all (byte_of_one x h)) in
      eqb-true _ _ (rw h at here.0);
  two = λ x h.
      let here = and_parts _ (not (is_end_of_two x) || bits_of e x % 4 == 0) (all_below_at (ends_agree e) 256 x all (byte_of_two x h)) in
      eqb-true _ _ (rw h at here.1);
}

standard_ends : HasEnds standard
standard_ends = HasEnds-tried standard refl

url_safe_ends : HasEnds url_safe_no_pad
url_safe_ends = HasEnds-tried url_safe_no_pad refl

-- ---- the bytes

-- the bytes of whole groups, and of two or three symbols after them
pub bytes_told : GeneralPurpose → List ℕ → List ℕ
bytes_told e [] = []
bytes_told e (a ∷ []) = []
bytes_told e (a ∷ b ∷ []) = (bits_of e a * 4 + bits_of e b / 16) ∷ []
bytes_told e (a ∷ b ∷ c ∷ []) = (bits_of e a * 4 + bits_of e b / 16) ∷ (bits_of e b % 16 * 16 + bits_of e c / 4) ∷ []
bytes_told e (a ∷ b ∷ c ∷ d ∷ rest) = (bits_of e a * 4 + bits_of e b / 16) ∷ (bits_of e b % 16 * 16 + bits_of e c / 4) ∷ (bits_of e c % 4 * 64 + bits_of e d) ∷ bytes_told e rest

-- ends of what follows the first group
ends_later : (a b c d : ℕ) (rest : List ℕ) → EndsWhole (a ∷ b ∷ c ∷ d ∷ rest) → EndsWhole rest
ends_later a b c d rest h = record {
  none_alone = λ e. h.none_alone (omega arith);
  one = λ last e left. h.one (suc (suc (suc (suc last)))) (omega arith) (omega arith);
  two = λ last e left. h.two (suc (suc (suc (suc last)))) (omega arith) (omega arith);
}

pub bytes_told-length : (e : GeneralPurpose) (s : List ℕ) → length s / 4 * 3 + length s % 4 * 3 / 4 ≡ length (bytes_told e s)
unfolding bytes_told
bytes_told-length e [] = refl
bytes_told-length e (a ∷ []) = refl
bytes_told-length e (a ∷ b ∷ []) = refl
bytes_told-length e (a ∷ b ∷ c ∷ []) = refl
bytes_told-length e (a ∷ b ∷ c ∷ d ∷ rest) = let more = bytes_told-length e rest in omega arith

pub IsBytes-bytes_told : (e : GeneralPurpose) (s : List ℕ) → list_all (is_symbol e) s ≡ true → IsBytes (bytes_told e s)
unfolding bytes_told
IsBytes-bytes_told e [] h i = omega arith
IsBytes-bytes_told e (a ∷ []) h i = omega arith
IsBytes-bytes_told e (a ∷ b ∷ []) h zero =
    let p = first_of e a (b ∷ []) h in
    let q = first_of e b [] p.1 in
    omega arith
IsBytes-bytes_told e (a ∷ b ∷ []) h (suc i) = omega arith
IsBytes-bytes_told e (a ∷ b ∷ c ∷ []) h zero =
    let p = first_of e a (b ∷ c ∷ []) h in
    let q = first_of e b (c ∷ []) p.1 in
    omega arith
IsBytes-bytes_told e (a ∷ b ∷ c ∷ []) h (suc zero) =
    let p = first_of e a (b ∷ c ∷ []) h in
    let q = first_of e b (c ∷ []) p.1 in
    let r = first_of e c [] q.1 in
    omega arith
IsBytes-bytes_told e (a ∷ b ∷ c ∷ []) h (suc (suc i)) = omega arith
IsBytes-bytes_told e (a ∷ b ∷ c ∷ d ∷ rest) h i =
    let p = first_of e a (b ∷ c ∷ d ∷ rest) h in
    let q = first_of e b (c ∷ d ∷ rest) p.1 in
    let r = first_of e c (d ∷ rest) q.1 in
    let s = first_of e d rest r.1 in
    group _ _ _ (bytes_told e rest) (omega arith) (omega arith) (omega arith) (IsBytes-bytes_told e rest s.1) i
  where
    group : (x y z : ℕ) (later : List ℕ) → x < 256 → y < 256 → z < 256 → IsBytes later → IsBytes (x ∷ y ∷ z ∷ later)
    group x y z later hx hy hz h zero = hx
    group x y z later hx hy hz h (suc zero) = hy
    group x y z later hx hy hz h (suc (suc zero)) = hz
    group x y z later hx hy hz h (suc (suc (suc i))) = h i

-- their encoding is the symbols
pub encode_symbols-bytes_told : (e : GeneralPurpose) (s : List ℕ) → HasEnds e → list_all (is_symbol e) s ≡ true → EndsWhole s → encode_symbols e.encode_table (bytes_told e s) ≡ s
unfolding encode_symbols bytes_told
encode_symbols-bytes_told e [] ends h whole = refl
encode_symbols-bytes_told e (a ∷ []) ends h whole = absurd (whole.none_alone refl)
encode_symbols-bytes_told e (a ∷ b ∷ []) ends h whole =
    let p = first_of e a (b ∷ []) h in
    let q = first_of e b [] p.1 in
    let zeros : bits_of e b % 16 ≡ 0 = ends.one b (whole.one 1 refl refl) in
    let e0 : (bits_of e a * 4 + bits_of e b / 16) / 4 ≡ bits_of e a = omega arith in
    let e1 : (bits_of e a * 4 + bits_of e b / 16) % 4 * 16 ≡ bits_of e b = omega arith in
    rw (e0, e1, p.0.back, q.0.back) refl
encode_symbols-bytes_told e (a ∷ b ∷ c ∷ []) ends h whole =
    let p = first_of e a (b ∷ c ∷ []) h in
    let q = first_of e b (c ∷ []) p.1 in
    let r = first_of e c [] q.1 in
    let zeros : bits_of e c % 4 ≡ 0 = ends.two c (whole.two 2 refl refl) in
    let e0 : (bits_of e a * 4 + bits_of e b / 16) / 4 ≡ bits_of e a = omega arith in
    let e1 : (bits_of e a * 4 + bits_of e b / 16) % 4 * 16 + (bits_of e b % 16 * 16 + bits_of e c / 4) / 16 ≡ bits_of e b = omega arith in
    let e2 : (bits_of e b % 16 * 16 + bits_of e c / 4) % 16 * 4 ≡ bits_of e c = omega arith in
    rw (e0, e1, e2, p.0.back, q.0.back, r.0.back) refl
encode_symbols-bytes_told e (a ∷ b ∷ c ∷ d ∷ rest) ends h whole =
    let p = first_of e a (b ∷ c ∷ d ∷ rest) h in
    let q = first_of e b (c ∷ d ∷ rest) p.1 in
    let r = first_of e c (d ∷ rest) q.1 in
    let s = first_of e d rest r.1 in
    let e0 : (bits_of e a * 4 + bits_of e b / 16) / 4 ≡ bits_of e a = omega arith in
    let e1 : (bits_of e a * 4 + bits_of e b / 16) % 4 * 16 + (bits_of e b % 16 * 16 + bits_of e c / 4) / 16 ≡ bits_of e b = omega arith in
    let e2 : (bits_of e b % 16 * 16 + bits_of e c / 4) % 16 * 4 + (bits_of e c % 4 * 64 + bits_of e d) / 64 ≡ bits_of e c = omega arith in
    let e3 : (bits_of e c % 4 * 64 + bits_of e d) % 64 ≡ bits_of e d = omega arith in
    rw (e0, e1, e2, e3, p.0.back, q.0.back, r.0.back, s.0.back, encode_symbols-bytes_told e rest ends s.1 (ends_later a b c d rest whole)) refl

-- ---- the two engines

-- the padding of so many symbols is that of their bytes
padding-told : (e : GeneralPurpose) (s : List ℕ) → EndsWhole s → padding_len (length (bytes_told e s)) ≡ (4 - length s % 4) % 4
padding-told e s whole = omega (arith, bytes_told-length e s, whole.none_alone)

pub Encodes-standard : (text s : List ℕ) (len : ℕ) → list_all (is_symbol standard) s ≡ true → EndsWhole s → text ≡ s ++ replicate ((4 - length s % 4) % 4) 61
    → len ≡ length s / 4 * 3 + length s % 4 * 3 / 4 → Encodes standard text len
Encodes-standard text s len h whole padded long =
    let b : List ℕ = bytes_told standard s in
    let same : text ≡ encode_of standard b = padded ∙ rw (padding-told standard s whole, encode_symbols-bytes_told standard s standard_ends h whole) refl in
    Encodes-of standard text b len (rw same (encoded_bytes-encode_of standard b refl (IsBytes-bytes_told standard s h))) (long ∙ bytes_told-length standard s)

pub Encodes-url_safe : (text : List ℕ) (len : ℕ) → list_all (is_symbol url_safe_no_pad) text ≡ true → EndsWhole text
    → len ≡ length text / 4 * 3 + length text % 4 * 3 / 4 → Encodes url_safe_no_pad text len
Encodes-url_safe text len h whole long =
    let b : List ℕ = bytes_told url_safe_no_pad text in
    let same : encode_of url_safe_no_pad b ≡ text = append-nil _ ∙ encode_symbols-bytes_told url_safe_no_pad text url_safe_ends h whole in
    let is = encoded_bytes-encode_of url_safe_no_pad b refl (IsBytes-bytes_told url_safe_no_pad text h) in
    Encodes-of url_safe_no_pad text b len (ap (encoded_bytes url_safe_no_pad) (sym same) ∙ is) (long ∙ bytes_told-length url_safe_no_pad text)
