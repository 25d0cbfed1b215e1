-- An equal authority is found by its certificate or its key id.
use Rattle.std.proofs.Common.{◌≡◌, ℕ, suc, ◌≤◌, ◌<◌, ◌&&◌, ◌||◌, List, [], ◌∷◌, ◌++◌, length, get_or, bytes_eq, cond, Bool, true, false, not, nat_le, Option, Some, None, MatchOption, Ok, Err, refl, sym, ap, subst, ◌∙◌, inl, inr, arith}
use Rattle.std.proofs.lemmas.List.{length-append, get_or_append_left, get_or_push}
use Rattle.std.proofs.lemmas.List.Folds.{list_any_at}
use Rattle.std.specs.List.{list_any, AllPairs}
use Rattle.std.specs.Cmp.Lexicographic.{bytes_decides}
use Rattle.std.proofs.lemmas.Bool.{cases_Bool, le-leb}
use Rattle.std.proofs.lemmas.Bool.Decides.{nat_tests}
use Rattle.std.specs.BTreeMap.{BTreeMap}
use Rattle.std.specs.BTreeSet.{BTreeSet}
use Rattle.spiffe_doc.specs.declared.authority.Authority.{Authority}
use Rattle.spiffe_doc.specs.declared.authority.Authority.TheVariants.{X509, Jwt}
use Rattle.spiffe_doc.specs.Equal.{authority_eq}
use Rattle.spiffe_doc.specs.Private.Equality.{authority_decides}
use Rattle.spiffe_doc.specs.Bundle.{same_kid, is_among, is_kid_taken, AreApart, AreAuthorities}
use Rattle.base64.specs.Engines.{standard}
use Rattle.base64.specs.GeneralPurpose.{encode_of}
use Rattle.spiffe_doc.specs.Private.EntrySet.{admission, has, has_certificate, place_of_kid, has_kid, IsKidAt, AreIndexed}
use Rattle.spiffe_doc.specs.declared.error.DocError.TheVariants.{KidTwice, TooMany}

and_true : (b c : Bool) → (b || c) ≡ ((b && true) || c)
and_true true c = refl
and_true false c = refl

-- if it is not among them, its kid is taken if and only if it is among theirs
pub any_kid : (xs : List Authority) (kid : List ℕ) (key : _) → is_among xs (Jwt kid key) ≡ false → list_any (has_kid kid) xs ≡ is_kid_taken xs (Jwt kid key)
any_kid [] kid key new = refl
any_kid (x ∷ xs) kid key new = go x (any_kid xs kid key) (authority_eq x (Jwt kid key)) refl (is_among xs (Jwt kid key)) refl new
  where
    go : (y : Authority) → (is_among xs (Jwt kid key) ≡ false → list_any (has_kid kid) xs ≡ is_kid_taken xs (Jwt kid key))
        → (e : Bool) → authority_eq y (Jwt kid key) ≡ e → (m : Bool) → is_among xs (Jwt kid key) ≡ m → (e || m) ≡ false
        → (has_kid kid y || list_any (has_kid kid) xs) ≡ ((same_kid y (Jwt kid key) && not (authority_eq y (Jwt kid key))) || is_kid_taken xs (Jwt kid key))
    go y rest true is m there new = cc new
    go y rest false is true there new = cc new
    go (X509 k der) rest false is false there new = rest there
    go (Jwt own k) rest false is false there new = rw (is, rest there) (and_true (bytes_eq own kid) (is_kid_taken xs (Jwt kid key)))

pub no_kid : (xs : List Authority) (key : _) (der : List ℕ) → is_kid_taken xs (X509 key der) ≡ false
no_kid [] key der = refl
no_kid (X509 k d ∷ xs) key der = no_kid xs key der
no_kid (Jwt own k ∷ xs) key der = no_kid xs key der

-- ---- among authorities that stand apart

bytes_eq_sym : (xs ys : List ℕ) → bytes_eq xs ys ≡ false → bytes_eq ys xs ≡ false
bytes_eq_sym xs ys h = elim (cases_Bool (bytes_eq ys xs)) [
  | inl same ↦ cc ((bytes_decides xs ys).1 (sym ((bytes_decides ys xs).0 same)))
  | inr other ↦ other
]

same_kid_sym : (a b : Authority) → same_kid a b ≡ false → same_kid b a ≡ false
same_kid_sym (Jwt i k) (Jwt j l) h = bytes_eq_sym i j h
same_kid_sym (Jwt i k) (X509 l d) h = refl
same_kid_sym (X509 k d) (Jwt j l) h = refl
same_kid_sym (X509 k d) (X509 l e) h = refl

later : (x : Authority) (xs : List Authority) → AllPairs AreApart (x ∷ xs) → AllPairs AreApart xs
later x xs apart = λ i j d less inside. apart (suc i) (suc j) d (omega arith) (omega arith)

from_first : (x : Authority) (xs : List Authority) → AllPairs AreApart (x ∷ xs) → (k : ℕ) (d : Authority) → k < length xs → same_kid x (get_or xs k d) ≡ false
from_first x xs apart k d inside = (apart 0 (suc k) d (omega arith) (omega arith)).kids_differ

no_other : (x : Authority) (xs : List Authority) → ((k : ℕ) (d : Authority) → k < length xs → same_kid x (get_or xs k d) ≡ false) → is_kid_taken xs x ≡ false
no_other x [] h = refl
no_other x (y ∷ ys) h = rw (same_kid_sym x y (h 0 x (omega arith)), no_other x ys (λ k d inside. h (suc k) d (omega arith))) refl

not_first : (x a : Authority) (xs : List Authority) → is_among xs a ≡ true → ((k : ℕ) (d : Authority) → k < length xs → same_kid x (get_or xs k d) ≡ false) → same_kid x a ≡ false
not_first x a [] there h = cc there
not_first x a (y ∷ ys) there h = elim (cases_Bool (authority_eq y a)) [
  | inl same ↦ let one = (authority_decides y a).0 same in rw (← one) (h 0 x (omega arith))
  | inr other ↦ not_first x a ys (rw other at there) (λ k d inside. h (suc k) d (omega arith))
]

-- what is among them takes no other's kid
pub among_not_taken : (xs : List Authority) (a : Authority) → AllPairs AreApart xs → is_among xs a ≡ true → is_kid_taken xs a ≡ false
among_not_taken [] a apart there = cc there
among_not_taken (x ∷ xs) a apart there = elim (cases_Bool (authority_eq x a)) [
  | inl same ↦
      let one = (authority_decides x a).0 same in
      ap (is_kid_taken (x ∷ xs)) (sym one) ∙ rw ((authority_decides x x).1 refl, no_other x xs (from_first x xs apart)) (and_false (same_kid x x))
  | inr other ↦
      let in_rest : is_among xs a ≡ true = rw other at there in
      rw (not_first x a xs in_rest (from_first x xs apart), among_not_taken xs a (later x xs apart) in_rest) refl
]
  where
    and_false : (b : Bool) → ((b && false) || false) ≡ false
    and_false true = refl
    and_false false = refl

-- ---- what the sets say of one more

or_true : (b : Bool) → (b || true) ≡ true
or_true true = refl
or_true false = refl

-- what is among them has its key id there
among_has_kid : (xs : List Authority) (kid : List ℕ) (key : _) → is_among xs (Jwt kid key) ≡ true → list_any (has_kid kid) xs ≡ true
among_has_kid [] kid key there = cc there
among_has_kid (x ∷ xs) kid key there = elim (cases_Bool (authority_eq x (Jwt kid key))) [
  | inl same ↦ let one = (authority_decides x (Jwt kid key)).0 same in rw (one, (bytes_decides kid kid).1 refl) refl
  | inr other ↦ rw (among_has_kid xs kid key (rw other at there)) (or_true (has_kid kid x))
]

no_kid_among : (xs : List Authority) (kid : List ℕ) (key : _) → list_any (has_kid kid) xs ≡ false → is_among xs (Jwt kid key) ≡ false
no_kid_among xs kid key none = elim (cases_Bool (is_among xs (Jwt kid key))) [
  | inl there ↦ cc (sym none ∙ among_has_kid xs kid key there)
  | inr new ↦ new
]

-- what is among them has its certificate there
among_has_certificate : (xs : List Authority) (key : _) (der : List ℕ) → is_among xs (X509 key der) ≡ true → list_any (has_certificate (encode_of standard der)) xs ≡ true
among_has_certificate [] key der there = cc there
among_has_certificate (x ∷ xs) key der there = elim (cases_Bool (authority_eq x (X509 key der))) [
  | inl same ↦ let one = (authority_decides x (X509 key der)).0 same in rw (one, (bytes_decides (encode_of standard der) (encode_of standard der)).1 refl) refl
  | inr other ↦ rw (among_has_certificate xs key der (rw other at there)) (or_true (has_certificate (encode_of standard der) x))
]

-- it need not be looked for if its certificate is not there
pub held-certificate : (certificates : BTreeSet (List ℕ)) (kids : BTreeMap (List ℕ) ℕ) (kept : List Authority) (key : _) (der : List ℕ) → AreIndexed certificates kids kept
    → (has certificates (encode_of standard der) && is_among kept (X509 key der)) ≡ is_among kept (X509 key der)
held-certificate certificates kids kept key der index = go (has certificates (encode_of standard der)) refl (is_among kept (X509 key der)) refl
  where
    go : (b : Bool) → has certificates (encode_of standard der) ≡ b → (m : Bool) → is_among kept (X509 key der) ≡ m → (b && m) ≡ m
    go true is m there = refl
    go false is false there = refl
    go false is true there = cc (sym is ∙ index.certificates_are (encode_of standard der) ∙ among_has_certificate kept key der there)

pub held-none : (certificates : BTreeSet (List ℕ)) (kids : BTreeMap (List ℕ) ℕ) (kept : List Authority) (kid : List ℕ) (key : _) → AreIndexed certificates kids kept → place_of_kid kids kid ≡ None
    → (is_kid_taken kept (Jwt kid key) ≡ false) × (false ≡ is_among kept (Jwt kid key))
held-none certificates kids kept kid key index none =
    let without : list_any (has_kid kid) kept ≡ false = subst (λ o. MatchOption o (list_any (has_kid kid) kept ≡ false) (IsKidAt kid kept)) none (index.kids_are kid) in
    let new = no_kid_among kept kid key without in
    (sym (any_kid kept kid key new) ∙ without, sym new)

pub place_inside : (certificates : BTreeSet (List ℕ)) (kids : BTreeMap (List ℕ) ℕ) (kept : List Authority) (kid : List ℕ) (at : ℕ) → AreIndexed certificates kids kept → place_of_kid kids kid ≡ Some at → IsKidAt kid kept at
place_inside certificates kids kept kid at index is = subst (λ o. MatchOption o (list_any (has_kid kid) kept ≡ false) (IsKidAt kid kept)) is (index.kids_are kid)

pub held-equal : (kept : List Authority) (a other : Authority) (at : ℕ) → AreAuthorities kept → at < length kept → authority_eq (get_or kept at other) a ≡ true → (is_kid_taken kept a ≡ false) × (true ≡ is_among kept a)
held-equal kept a other at h inside same =
    let there : is_among kept a ≡ true = list_any_at (λ x. authority_eq x a) kept at other inside same in
    (among_not_taken kept a h.apart there, sym there)

has_kid-same : (x : Authority) (kid : List ℕ) (key : _) → has_kid kid x ≡ true → same_kid x (Jwt kid key) ≡ true
has_kid-same (X509 k der) kid key h = cc h
has_kid-same (Jwt own k) kid key h = h

pub taken-at : (kept : List Authority) (kid : List ℕ) (key : _) (other : Authority) (at : ℕ) → IsKidAt kid kept at → authority_eq (get_or kept at other) (Jwt kid key) ≡ false → is_kid_taken kept (Jwt kid key) ≡ true
taken-at kept kid key other at there differs =
    list_any_at (λ x. same_kid x (Jwt kid key) && not (authority_eq x (Jwt kid key))) kept at other there.0 (rw (has_kid-same (get_or kept at other) kid key (there.1 other), differs) refl)

pub admitted-there : (place : ℕ) (kept : List Authority) (a : Authority) → is_kid_taken kept a ≡ false → is_among kept a ≡ true → admission place kept a ≡ Ok kept
admitted-there place kept a free there = rw (free, there) refl

pub admitted-taken : (place : ℕ) (kept : List Authority) (a : Authority) → is_kid_taken kept a ≡ true → admission place kept a ≡ Err (KidTwice place)
admitted-taken place kept a taken = rw taken refl

pub admitted-full : (place : ℕ) (kept : List Authority) (a : Authority) → is_kid_taken kept a ≡ false → is_among kept a ≡ false → 1024 ≤ length kept → admission place kept a ≡ Err TooMany
admitted-full place kept a free new full = rw (free, new, le-leb _ _ full) refl

pub admitted-new : (place : ℕ) (kept : List Authority) (a : Authority) → is_kid_taken kept a ≡ false → is_among kept a ≡ false → length kept < 1024 → admission place kept a ≡ Ok (kept ++ a ∷ [])
admitted-new place kept a free new room =
    let not_full : nat_le 1024 (length kept) ≡ false = grind (arith, nat_tests) in
    rw (free, new, not_full) refl

-- ---- one more

any_push : (test : Authority → Bool) (xs : List Authority) (a : Authority) → list_any test (xs ++ a ∷ []) ≡ (test a || list_any test xs)
any_push test [] a = refl
any_push test (x ∷ xs) a = rw (any_push test xs a) (swap (test x) (test a) (list_any test xs))
  where
    swap : (b c d : Bool) → (b || (c || d)) ≡ (c || (b || d))
    swap true true d = refl
    swap true false d = refl
    swap false true d = refl
    swap false false d = refl

-- ---- the sets of one more

-- a place stays, with more behind
kept_at : (kid : List ℕ) (xs : List Authority) (a : Authority) (at : ℕ) → IsKidAt kid xs at → IsKidAt kid (xs ++ a ∷ []) at
kept_at kid xs a at h = (
  omega (arith, h.0, length-append xs (a ∷ [])),
  λ other. ap (has_kid kid) (get_or_append_left xs (a ∷ []) other at h.0) ∙ h.1 other,
)

last_at : (kid : List ℕ) (xs : List Authority) (a : Authority) → has_kid kid a ≡ true → IsKidAt kid (xs ++ a ∷ []) (length xs)
last_at kid xs a h = (omega (arith, length-append xs (a ∷ [])), λ other. ap (has_kid kid) (get_or_push xs a other (length xs) refl) ∙ h)

place_after : (kid : List ℕ) (xs : List Authority) (a : Authority) (old : Option ℕ) (b : Bool) → has_kid kid a ≡ b
    → MatchOption old (list_any (has_kid kid) xs ≡ false) (IsKidAt kid xs)
    → MatchOption (cond b (Some (length xs)) old) (list_any (has_kid kid) (xs ++ a ∷ []) ≡ false) (IsKidAt kid (xs ++ a ∷ []))
place_after kid xs a old true is h = last_at kid xs a is
place_after kid xs a None false is h = any_push (has_kid kid) xs a ∙ rw (is, h) refl
place_after kid xs a (Some at) false is h = kept_at kid xs a at h

pub indexed_x509 : (certificates new : BTreeSet (List ℕ)) (kids : BTreeMap (List ℕ) ℕ) (xs : List Authority) (key : _) (der : List ℕ) → AreIndexed certificates kids xs
    → ((other : List ℕ) → has new other ≡ (bytes_eq (encode_of standard der) other || has certificates other)) → AreIndexed new kids (xs ++ X509 key der ∷ [])
indexed_x509 certificates new kids xs key der h put = record {
  certificates_are = λ text. put text ∙ ap (λ b. bytes_eq (encode_of standard der) text || b) (h.certificates_are text) ∙ sym (any_push (has_certificate text) xs (X509 key der));
  kids_are = λ kid. place_after kid xs (X509 key der) (place_of_kid kids kid) false refl (h.kids_are kid);
}

pub indexed_jwt : (certificates : BTreeSet (List ℕ)) (kids new : BTreeMap (List ℕ) ℕ) (xs : List Authority) (kid : List ℕ) (key : _) → AreIndexed certificates kids xs
    → ((other : List ℕ) → place_of_kid new other ≡ cond (bytes_eq kid other) (Some (length xs)) (place_of_kid kids other)) → AreIndexed certificates new (xs ++ Jwt kid key ∷ [])
indexed_jwt certificates kids new xs kid key h put = record {
  certificates_are = λ text. h.certificates_are text ∙ sym (any_push (has_certificate text) xs (Jwt kid key));
  kids_are = λ other.
      let after = place_after other xs (Jwt kid key) (place_of_kid kids other) (bytes_eq kid other) refl (h.kids_are other) in
      subst (λ o. MatchOption o (list_any (has_kid other) (xs ++ Jwt kid key ∷ []) ≡ false) (IsKidAt other (xs ++ Jwt kid key ∷ []))) (sym (put other)) after;
}
