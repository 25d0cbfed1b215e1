-- What a text that has no fault is.
use Rattle.std.proofs.Common.{◌≡◌, ℕ, ◌<◌, ◌==◌, List, length, Bool, true, false, not, nat_lt, Option, Some, None, Ok, refl, sym, ap, ◌∙◌, arith, inl, inr}
use Rattle.std.specs.List.{AllPass, prefix_len}
use Rattle.std.specs.Str.{IsAscii}
use Rattle.std.proofs.lemmas.Bool.{cases_Bool, cases_lt, eqb-true, ltb-false, ltb-true}
use Rattle.std.proofs.lemmas.Bool.Decides.{nat_tests}
use Rattle.std.proofs.lemmas.List.{get_or_past}
use Rattle.std.proofs.lemmas.List.FromFn.{get_or-map-range_with_len}
use Rattle.std.proofs.lemmas.List.Sums.{prefix_len_passes, prefix_len_stops}
use Rattle.std.specs.Prelude.{get_or, option_map, position}
use Rattle.spiffe_doc.specs.declared.name.TheConstants.{NAME_BYTES}
use Rattle.spiffe_doc.specs.declared.name.NameError.{NameError}
use Rattle.spiffe_doc.specs.declared.name.NameError.TheVariants.{BadChar, Memory}
use Rattle.spiffe_doc.specs.Answer.{unless}
use Rattle.spiffe_doc.specs.Name.{IsName, is_name_byte, name_fault, trust_domain}

twice_not : (b : Bool) → not (not b) ≡ b
twice_not true = refl
twice_not false = refl

-- the table of the code says the same of each byte
pub name_byte-tabled : (x : ℕ) → x < 256 → get_or NAME_BYTES x false ≡ is_name_byte x
name_byte-tabled x below = get_or-map-range_with_len is_name_byte 0 256 x x false below (omega arith)

pub is_name_byte_ascii : (x : ℕ) → is_name_byte x ≡ true → x < 128
is_name_byte_ascii x h = grind (arith, nat_tests)

-- the bytes of a name are ASCII
pub IsAscii-IsName : (text : List ℕ) → IsName text → IsAscii text
IsAscii-IsName text h i = elim (cases_lt i (length text)) [
  | inl inside ↦ is_name_byte_ascii _ (h.allowed i 0 inside)
  | inr past ↦ rw (get_or_past text i 0 past) (omega arith)
]

pub IsName-from_no_fault : (text : List ℕ) → name_fault text ≡ None → IsName text
IsName-from_no_fault text h = elim (cases_Bool (length text == 0)) [
  | inl e ↦ cc (rw e at h)
  | inr some ↦ elim (cases_Bool (nat_lt 255 (length text))) [
    | inl long ↦ cc (rw (some, long) at h)
    | inr short ↦ elim (cases_Bool (nat_lt (prefix_len (λ x. not (not (is_name_byte x))) text) (length text))) [
      | inl bad ↦ cc (rw (some, short, bad) at h)
      | inr none ↦ record {
        some = grind (arith, nat_tests);
        short = ltb-false 255 (length text) short;
        allowed = λ k d inside. sym (twice_not _) ∙ prefix_len_passes (λ x. not (not (is_name_byte x))) text k d (omega (arith, ltb-false _ _ none));
      }
    ]
  ]
]

pub no_bad_byte : (text : List ℕ) → AllPass is_name_byte text → position (λ x. not (is_name_byte x)) text ≡ None
no_bad_byte text h = elim (cases_Bool (nat_lt (prefix_len (λ x. not (not (is_name_byte x))) text) (length text))) [
  | inl bad ↦
      let here : prefix_len (λ x. not (not (is_name_byte x))) text < length text = ltb-true _ _ bad in
      let stops = prefix_len_stops (λ x. not (not (is_name_byte x))) text 0 here in
      let passes = h _ 0 here in
      cc (sym (twice_not _) ∙ stops)
  | inr none ↦ rw none refl
]

pub no_fault-IsName : (text : List ℕ) → IsName text → name_fault text ≡ None
no_fault-IsName text h = elim (cases_Bool (length text == 0)) [
  | inl e ↦ absurd (omega (arith, eqb-true _ _ e, h.some))
  | inr some ↦ elim (cases_Bool (nat_lt 255 (length text))) [
    | inl long ↦ absurd (omega (arith, ltb-true _ _ long, h.short))
    | inr short ↦ rw (some, short, no_bad_byte text h.allowed) refl
  ]
]

pub trust_domain-IsName : (text name : List ℕ) → trust_domain text ≡ Ok name → (name ≡ text) × IsName text
trust_domain-IsName text name h = go (name_fault text) refl h
  where
    go : (o : Option NameError) → name_fault text ≡ o → unless o text ≡ Ok name → (name ≡ text) × IsName text
    go (Some e) is h = cc h
    go None is h = let same : text ≡ name = cc h in (sym same, IsName-from_no_fault text is)

pub IsName-trust_domain : (text name : List ℕ) → name ≡ text → IsName text → trust_domain text ≡ Ok name
IsName-trust_domain text name same h = rw (no_fault-IsName text h) (ap Ok (sym same))

-- the definition never runs out of memory
pub name_fault-not_memory : (text : List ℕ) → name_fault text ≡ Some Memory → ⊥
name_fault-not_memory text h = elim (cases_Bool (length text == 0)) [
  | inl e ↦ cc (rw e at h)
  | inr some ↦ elim (cases_Bool (nat_lt 255 (length text))) [
    | inl long ↦ cc (rw (some, long) at h)
    | inr short ↦ place (position (λ x. not (is_name_byte x)) text) (rw (some, short) at h)
  ]
]
  where
    place : (o : Option ℕ) → option_map BadChar o ≡ Some Memory → ⊥
    place None h = cc h
    place (Some at) h = cc h
