-- A text that has no fault is the SPIFFE ID of its parts.
use Rattle.std.proofs.Common.{◌≡◌, ℕ, ◌+◌, ◌<◌, ◌≤◌, List, [], ◌∷◌, ◌++◌, length, append-nil, length-append, length-drop, take, drop, codes, nat_eq, true, false, nat_lt, Option, Some, None, refl, sym, ap, ◌∙◌, inl, inr, arith}
use Rattle.std.specs.Prelude.{position, option_map}
use Rattle.std.specs.Option.{option_or}
use Rattle.std.specs.Cmp.Lexicographic.{bytes_decides}
use Rattle.std.proofs.lemmas.Str.{IsUtf8-append, IsUtf8-nil, IsUtf8-from_ascii}
use Rattle.json.proofs.Printed.Utf8.{IsUtf8-are_ascii}
use Rattle.std.specs.List.{starts_with, list_all, AllByRecursion, slice_split, position_or_len, before_first, after_first, join_with_byte}
use Rattle.std.specs.Str.{IsAscii, IsUtf8}
use Rattle.std.proofs.lemmas.Bool.{cases_Bool, cases_lt, and_parts, ltb-false}
use Rattle.std.proofs.lemmas.Bool.Decides.{nat_tests}
use Rattle.std.proofs.lemmas.List.{get_or_past, take_all, take-append-drop, append_cancel_left}
use Rattle.std.proofs.lemmas.List.Splits.{join_with_byte-slice_split, slice_split_first, slice_split_none}
use Rattle.std.proofs.lemmas.List.Sums.{AllPass-from_list_all, fails_before_first, prefix_len-le-length}
use Rattle.spiffe_doc.specs.declared.name.NameError.{NameError}
use Rattle.spiffe_doc.specs.declared.id.IdError.TheVariants.{BadPath}
use Rattle.spiffe_doc.specs.Name.{name_fault}
use Rattle.spiffe_doc.specs.Id.{is_slash, is_segment_byte, is_segment, path_text, IsPath, domain_of, first_bad, segments_of, id_error, rest_fault, id_fault}

-- ---- the parts

pub slash_found : (xs : List ℕ) (at : ℕ) → position is_slash xs ≡ Some at → at ≡ position_or_len is_slash xs
slash_found xs at h = elim (cases_Bool (nat_lt (position_or_len is_slash xs) (length xs))) [
  | inl inside ↦ cc (rw inside at h)
  | inr none ↦ cc (rw none at h)
]

pub slash_inside : (xs : List ℕ) → position_or_len is_slash xs ≤ length xs
slash_inside xs = prefix_len-le-length _ xs

pub slash_missing : (xs : List ℕ) → position is_slash xs ≡ None → length xs ≡ position_or_len is_slash xs
slash_missing xs h = elim (cases_Bool (nat_lt (position_or_len is_slash xs) (length xs))) [
  | inl inside ↦ cc (rw inside at h)
  | inr none ↦ omega (arith, ltb-false _ _ none, slash_inside xs)
]

no_slash : (rest : List ℕ) → length rest ≤ position_or_len is_slash rest → slice_split is_slash rest ≡ rest ∷ []
no_slash rest none = slice_split_none is_slash rest (λ k d inside. fails_before_first is_slash rest k d (omega arith))

pub split_first : (rest : List ℕ) → slice_split is_slash rest ≡ domain_of rest ∷ segments_of rest
split_first rest = elim (cases_lt (position_or_len is_slash rest) (length rest)) [
  | inl slash ↦ rw (slice_split_first is_slash rest 0 slash) refl
  | inr none ↦ rw (no_slash rest none, take_all (position_or_len is_slash rest) rest none) refl
]

pub no_segments : (rest : List ℕ) → length rest ≤ position_or_len is_slash rest → segments_of rest ≡ []
no_segments rest none = rw (no_slash rest none) refl

pub segments_after : (rest : List ℕ) → position_or_len is_slash rest < length rest → segments_of rest ≡ slice_split is_slash (after_first is_slash rest)
segments_after rest slash = rw (slice_split_first is_slash rest 0 slash) refl

pub after_shorter : (rest : List ℕ) → position_or_len is_slash rest < length rest → length (after_first is_slash rest) + 1 ≤ length rest
after_shorter rest slash = rw length-drop (omega arith)

-- ---- segment after segment

pub first_bad-stops : (place : ℕ) (rest : List ℕ) → is_segment (before_first is_slash rest) ≡ false → first_bad place (slice_split is_slash rest) ≡ Some place
first_bad-stops place rest bad = rw (split_first rest, bad) refl

pub first_bad-next : (place : ℕ) (rest : List ℕ) → is_segment (before_first is_slash rest) ≡ true → position_or_len is_slash rest < length rest
    → first_bad place (slice_split is_slash rest) ≡ first_bad (place + 1) (slice_split is_slash (after_first is_slash rest))
first_bad-next place rest good slash = rw (slice_split_first is_slash rest 0 slash, good) refl

pub first_bad-last : (place : ℕ) (rest : List ℕ) → is_segment (before_first is_slash rest) ≡ true → length rest ≤ position_or_len is_slash rest
    → first_bad place (slice_split is_slash rest) ≡ None
first_bad-last place rest good none = rw (no_slash rest none, rw (take_all (position_or_len is_slash rest) rest none) at good) refl

are_good : (place : ℕ) (segments : List (List ℕ)) → first_bad place segments ≡ None → AllByRecursion (λ segment. is_segment segment ≡ true) segments
are_good place [] h = tt
are_good place (segment ∷ more) h = elim (cases_Bool (is_segment segment)) [
  | inl good ↦ (good, are_good (place + 1) more (rw good at h))
  | inr bad ↦ cc (rw bad at h)
]

pub none_bad : (place : ℕ) (segments : List (List ℕ)) → AllByRecursion (λ segment. is_segment segment ≡ true) segments → first_bad place segments ≡ None
none_bad place [] h = refl
none_bad place (segment ∷ more) h = rw (h.0, none_bad (place + 1) more h.1) refl

-- ---- the path

joined : (first : List ℕ) (more : List (List ℕ)) → join_with_byte 47 (first ∷ more) ≡ first ++ path_text more
joined first [] = sym (append-nil first)
joined first (next ∷ more) = ap (λ text. first ++ 47 ∷ text) (joined next more)

-- the domain, then the segments
whole : (rest : List ℕ) → rest ≡ domain_of rest ++ path_text (segments_of rest)
whole rest = sym (join_with_byte-slice_split 47 rest) ∙ ap (join_with_byte 47) (split_first rest) ∙ joined (domain_of rest) (segments_of rest)

pub path_is : (rest : List ℕ) → drop (position_or_len is_slash rest) rest ≡ path_text (segments_of rest)
path_is rest = append_cancel_left (domain_of rest) _ _ (take-append-drop (position_or_len is_slash rest) rest ∙ whole rest)

-- ---- a text that has no fault

rest_parts : (rest : List ℕ) → rest_fault rest ≡ None → (name_fault (domain_of rest) ≡ None) × IsPath (drop (position_or_len is_slash rest) rest)
unfolding rest_fault
rest_parts rest h = go (name_fault (domain_of rest)) refl h
  where
    has_path : (o : Option ℕ) → first_bad 0 (segments_of rest) ≡ o → option_map BadPath o ≡ None → IsPath (drop (position_or_len is_slash rest) rest)
    has_path None is h = (segments_of rest, path_is rest, are_good 0 (segments_of rest) is)
    has_path (Some place) is h = cc h

    go : (o : Option NameError) → name_fault (domain_of rest) ≡ o → option_or (option_map id_error o) (option_map BadPath (first_bad 0 (segments_of rest))) ≡ None
        → (name_fault (domain_of rest) ≡ None) × IsPath (drop (position_or_len is_slash rest) rest)
    go None has_name h = (has_name, has_path (first_bad 0 (segments_of rest)) refl h)
    go (Some e) has_name h = cc h

pub record IsFaultless (text : List ℕ) : Type 0 where
  pub short : length text ≤ 2048
  pub scheme : text ≡ codes "spiffe://" ++ drop 9 text
  pub rest_faultless : rest_fault (drop 9 text) ≡ None
  pub has_name : name_fault (domain_of (drop 9 text)) ≡ None
  pub has_path : IsPath (drop (position_or_len is_slash (drop 9 text)) (drop 9 text))

pub IsFaultless-from : (text : List ℕ) → id_fault text ≡ None → IsFaultless text
unfolding id_fault
IsFaultless-from text h = elim (cases_Bool (nat_lt 2048 (length text))) [
  | inl long ↦ cc (rw long at h)
  | inr short ↦ elim (cases_Bool (starts_with nat_eq text (codes "spiffe://"))) [
    | inl scheme ↦
        let rest : rest_fault (drop 9 text) ≡ None = rw (short, scheme) at h in
        let parts = rest_parts (drop 9 text) rest in
        let front : codes "spiffe://" ≡ take 9 text = (bytes_decides _ _).0 scheme in
        record {
          short = ltb-false _ _ short;
          scheme = sym (take-append-drop 9 text) ∙ ap (λ front. front ++ drop 9 text) (sym front);
          rest_faultless = rest;
          has_name = parts.0;
          has_path = parts.1;
        }
    | inr other ↦ cc (rw (short, other) at h)
  ]
]

pub long_enough : (text : List ℕ) → text ≡ codes "spiffe://" ++ drop 9 text → 9 ≤ length text
long_enough text h = let len = ap length h in omega (arith, rw length-append at len)

-- ---- a path is ASCII

segment_byte_ascii : (x : ℕ) → is_segment_byte x ≡ true → x < 128
segment_byte_ascii x h = grind (arith, nat_tests)

are_ascii : (xs : List ℕ) → list_all is_segment_byte xs ≡ true → IsAscii xs
are_ascii xs h i = elim (cases_lt i (length xs)) [
  | inl inside ↦ segment_byte_ascii _ (AllPass-from_list_all is_segment_byte xs h i 0 inside)
  | inr past ↦ rw (get_or_past xs i 0 past) (omega arith)
]

pub path_utf8 : (segments : List (List ℕ)) → AllByRecursion (λ segment. is_segment segment ≡ true) segments → IsUtf8 (path_text segments)
path_utf8 [] h = IsUtf8-nil
path_utf8 (segment ∷ more) h =
    let bytes : list_all is_segment_byte segment ≡ true = (and_parts _ _ (and_parts _ _ (and_parts _ _ h.0).0).0).1 in
    IsUtf8-append (47 ∷ []) _ (IsUtf8-are_ascii _ refl) (IsUtf8-append _ _ (IsUtf8-from_ascii _ (are_ascii segment bytes)) (path_utf8 more h.1))
