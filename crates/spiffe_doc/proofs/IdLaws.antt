-- A text reads as a SPIFFE ID if and only if it is one.
use Rattle.std.proofs.Common.{◌≡◌, ℕ, ◌≤◌, List, [], ◌∷◌, ◌++◌, length, append-nil, drop, codes, true, false, nat_lt, Option, Some, None, Ok, refl, sym, ap, ◌∙◌, arith, inl, inr}
use Rattle.std.specs.List.{AllByRecursion, All, slice_split, position_or_len, starts_with}
use Rattle.std.specs.Prelude.{nat_eq, option_map}
use Rattle.std.specs.Option.{option_or}
use Rattle.std.proofs.lemmas.Bool.{and_parts, cases_Bool}
use Rattle.std.proofs.lemmas.Bool.Decides.{nat_tests}
use Rattle.std.proofs.lemmas.List.{take-append-drop}
use Rattle.std.proofs.lemmas.List.Splits.{slice_split_none, slice_split_at}
use Rattle.std.proofs.lemmas.List.Sums.{AllPass-from_list_all}
use Rattle.spiffe_doc.specs.declared.name.NameError.{NameError}
use Rattle.spiffe_doc.specs.declared.name.NameError.TheVariants as name
use Rattle.spiffe_doc.specs.declared.id.IdError.{IdError}
use Rattle.spiffe_doc.specs.declared.id.IdError.TheVariants.{BadPath, Memory}
use Rattle.spiffe_doc.specs.Name.{is_name_byte, name_fault}
use Rattle.spiffe_doc.specs.Answer.{unless}
use Rattle.spiffe_doc.specs.Id.{id_of, is_slash, is_segment_byte, is_segment, path_text, IdValue, IsId, id_text, id_error, first_bad, domain_of, segments_of, rest_fault, id_fault, spiffe_id}
use Rattle.spiffe_doc.proofs.NameLemmas.{IsName-from_no_fault, no_fault-IsName, name_fault-not_memory}
use Rattle.spiffe_doc.proofs.IdLemmas.{split_first, path_is, none_bad, IsFaultless-from}

abbrev id_with : List ℕ → List ℕ → IdValue
id_with domain path = record { domain = domain; path = path }

pub spiffe_id-IsId : (text : List ℕ) (id : IdValue) → spiffe_id text ≡ Ok id → IsId text id
spiffe_id-IsId text id h = go (id_fault text) refl h
  where
    go : (o : Option IdError) → id_fault text ≡ o → unless o (id_of (drop 9 text)) ≡ Ok id → IsId text id
    go (Some e) is h = cc h
    go None is h =
        let rest = drop 9 text in
        let faultless = IsFaultless-from text is in
        let same : id_of rest ≡ id = cc h in
        let cut = sym (take-append-drop (position_or_len is_slash rest) rest) in
        rw (← same) (record {
          is_text = faultless.scheme ∙ ap (λ bytes. codes "spiffe://" ++ bytes) cut;
          short = faultless.short;
          has_name = IsName-from_no_fault _ faultless.has_name;
          has_path = faultless.has_path;
        })

name_byte_no_slash : (x : ℕ) → is_name_byte x ≡ true → is_slash x ≡ false
name_byte_no_slash x h = grind (arith, nat_tests)

segment_byte_no_slash : (x : ℕ) → is_segment_byte x ≡ true → is_slash x ≡ false
segment_byte_no_slash x h = grind (arith, nat_tests)

segment_no_slash : (s : List ℕ) → is_segment s ≡ true → All (λ x. is_slash x ≡ false) s
segment_no_slash s h = λ k d inside.
    segment_byte_no_slash _ (AllPass-from_list_all is_segment_byte s (and_parts _ _ (and_parts _ _ (and_parts _ _ h).0).0).1 k d inside)

split_of : (first : List ℕ) (segments : List (List ℕ)) → All (λ x. is_slash x ≡ false) first → AllByRecursion (λ s. is_segment s ≡ true) segments
    → slice_split is_slash (first ++ path_text segments) ≡ first ∷ segments
split_of first [] clear good = rw (append-nil first) (slice_split_none is_slash first clear)
split_of first (s ∷ more) clear good =
    slice_split_at is_slash first 47 (s ++ path_text more) clear refl ∙ ap (λ parts. first ∷ parts) (split_of s more (segment_no_slash s good.0) good.1)

fits_limit : (n : ℕ) → n ≤ 2048 → nat_lt 2048 n ≡ false
fits_limit n h = grind (arith, nat_tests)

pub IsId-spiffe_id : (text : List ℕ) (id : IdValue) → IsId text id → spiffe_id text ≡ Ok id
unfolding id_fault rest_fault
IsId-spiffe_id text id h =
    let rest = id.domain ++ path_text h.has_path.0 in
    let is_text : text ≡ codes "spiffe://" ++ rest = h.is_text ∙ ap (λ path. codes "spiffe://" ++ id.domain ++ path) h.has_path.1 in
    let parts : domain_of rest ∷ segments_of rest ≡ id.domain ∷ h.has_path.0 =
    sym (split_first rest) ∙ split_of id.domain h.has_path.0 (λ k d inside. name_byte_no_slash _ (h.has_name.allowed k d inside)) h.has_path.2 in
    let domain : domain_of rest ≡ id.domain = cc parts in
    let segments : segments_of rest ≡ h.has_path.0 = cc parts in
    let path : drop (position_or_len is_slash rest) rest ≡ id.path = path_is rest ∙ ap path_text segments ∙ sym h.has_path.1 in
    let fits : length (codes "spiffe://" ++ rest) ≤ 2048 = rw is_text at h.short in
    let short = fits_limit _ fits in
    rw (is_text, short, domain, no_fault-IsName id.domain h.has_name, segments, none_bad 0 h.has_path.0 h.has_path.2) (ap (λ p. Ok (id_with id.domain p)) path)

-- ---- a text without a fault

pub IsId-from_no_fault : (text : List ℕ) → id_fault text ≡ None → IsId text (id_of (drop 9 text))
IsId-from_no_fault text h = spiffe_id-IsId text (id_of (drop 9 text)) (rw h refl)

-- a SPIFFE ID is spelled by its parts
pub IsId-id_text : (text : List ℕ) (id : IdValue) → IsId text id → IsId (id_text id) id
IsId-id_text text id h = record { is_text = refl; short = rw h.is_text at h.short; has_name = h.has_name; has_path = h.has_path }

-- the definition never runs out of memory
pub id_fault-not_memory : (text : List ℕ) → id_fault text ≡ Some Memory → ⊥
unfolding id_fault rest_fault
id_fault-not_memory text h = elim (cases_Bool (nat_lt 2048 (length text))) [
  | inl long ↦ cc (rw long at h)
  | inr short ↦ elim (cases_Bool (starts_with nat_eq text (codes "spiffe://"))) [
    | inl scheme ↦ rest (name_fault (domain_of (drop 9 text))) refl (first_bad 0 (segments_of (drop 9 text))) (rw (short, scheme) at h)
    | inr other ↦ cc (rw (short, other) at h)
  ]
]
  where
    rest : (o : Option NameError) → name_fault (domain_of (drop 9 text)) ≡ o → (at : Option ℕ) → option_or (option_map id_error o) (option_map BadPath at) ≡ Some Memory → ⊥
    rest None is None h = cc h
    rest None is (Some at) h = cc h
    rest (Some name.Empty) is at h = cc h
    rest (Some name.TooLong) is at h = cc h
    rest (Some (name.BadChar place)) is at h = cc h
    rest (Some name.Memory) is at h = name_fault-not_memory (domain_of (drop 9 text)) is
