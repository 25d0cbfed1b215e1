-- Entries judged one after another.
use Rattle.std.proofs.Common.{◌≡◌, ℕ, zero, suc, ◌+◌, ◌<◌, List, [], ◌∷◌, ◌++◌, length, get_or, nat_le, Option, Some, None, Result, Ok, Err, refl, sym, ap, ◌∙◌, inl, inr, arith, append-nil, add-one, ◌-◌, zero-add, suc-add, map}
use Rattle.std.proofs.lemmas.Bool.{cases_Bool}
use Rattle.serde_json.specs.Data.{Data, null}
use Rattle.json.specs.declared.value.Value.{Value}
use Rattle.spiffe_doc.specs.Judgement.{judge}
use Rattle.spiffe_doc.specs.Document.{elements, distinct, authorities_by, verdict, authorities_before, fault_after, least_fault, authorities_of}
use Rattle.spiffe_doc.specs.Bundle.{is_among, is_kid_taken}
use Rattle.spiffe_doc.specs.Private.EntrySet.{take_in}
use Rattle.spiffe_doc.specs.Private.Borrowed.{tree_data, list_data}
use Rattle.spiffe_doc.specs.declared.authority.Authority.{Authority}
use Rattle.spiffe_doc.specs.declared.error.DocError.{DocError}
use Rattle.spiffe_doc.proofs.FirstPlaces.{list_any-firsts, firsts_push}

-- ---- one entry, after those that gave the authorities before it

taken_ok : (place : ℕ) (before : List Authority) (v : Result (Option Authority) DocError) (new : List Authority)
    → take_in place (distinct before) v ≡ Ok new → (fault_after place before v ≡ None) × (new ≡ distinct (before ++ authorities_by v))
taken_ok place before (Err e) new h = cc h
taken_ok place before (Ok None) new h = (refl, rw append-nil (cc h))
taken_ok place before (Ok (Some a)) new h =
    let tested = rw (list_any-firsts, list_any-firsts) at h in
    elim (cases_Bool (is_kid_taken before a)) [
      | inl used ↦ cc (rw used at tested)
      | inr free ↦ elim (cases_Bool (is_among before a)) [
        | inl there ↦ (rw (free, there) refl, rw (firsts_push before a, there) (cc (rw (free, there) at tested)))
        | inr apart ↦ elim (cases_Bool (nat_le 1024 (length (distinct before)))) [
          | inl full ↦ cc (rw (free, apart, full) at tested)
          | inr room ↦ (rw (free, apart, room) refl, rw (firsts_push before a, apart) (cc (rw (free, apart, room) at tested)))
        ]
      ]
    ]

taken_err : (place : ℕ) (before : List Authority) (v : Result (Option Authority) DocError) (e : DocError)
    → take_in place (distinct before) v ≡ Err e → fault_after place before v ≡ Some e
taken_err place before (Err d) e h = cc h
taken_err place before (Ok None) e h = cc h
taken_err place before (Ok (Some a)) e h =
    let tested = rw (list_any-firsts, list_any-firsts) at h in
    elim (cases_Bool (is_kid_taken before a)) [
      | inl used ↦ rw used (cc (rw used at tested))
      | inr free ↦ elim (cases_Bool (is_among before a)) [
        | inl there ↦ cc (rw (free, there) at tested)
        | inr apart ↦ elim (cases_Bool (nat_le 1024 (length (distinct before)))) [
          | inl full ↦ rw (free, apart, full) (cc (rw (free, apart, full) at tested))
          | inr room ↦ cc (rw (free, apart, room) at tested)
        ]
      ]
    ]

-- ---- the entries below a place

-- no entry below the place stands out, and these are the authorities given there, each once
pub record IsReadTo (entries : List Data) (place : ℕ) (kept : List Authority) : Type 0 where
  pub faultless : least_fault entries place ≡ None
  pub once : kept ≡ distinct (authorities_before entries place)

pub read_none : (entries : List Data) → IsReadTo entries 0 []
unfolding least_fault authorities_before distinct
read_none entries = record { faultless = refl; once = refl }

pub read_one_more : (entries : List Data) (place : ℕ) (kept new : List Authority) → IsReadTo entries place kept → take_in place kept (verdict entries place) ≡ Ok new → IsReadTo entries (place + 1) new
unfolding least_fault authorities_before
read_one_more entries place kept new h ok =
    let step = taken_ok place (authorities_before entries place) (verdict entries place) new (rw h.once at ok) in
    rw add-one (record { faultless = rw (h.faultless) step.0; once = step.1 })

fault_stays : (entries : List Data) (place more : ℕ) (e : DocError) → least_fault entries place ≡ Some e → least_fault entries (more + place) ≡ Some e
unfolding least_fault
fault_stays entries place zero e h = rw (zero-add place) h
fault_stays entries place (suc more) e h = rw (suc-add more place, fault_stays entries place more e h) refl

pub read_to_fault : (entries : List Data) (place : ℕ) (kept : List Authority) (e : DocError) → IsReadTo entries place kept → place < length entries → take_in place kept (verdict entries place) ≡ Err e → authorities_of entries ≡ Err e
unfolding least_fault authorities_of
read_to_fault entries place kept e h inside err =
    let stands = taken_err place (authorities_before entries place) (verdict entries place) e (rw h.once at err) in
    let here : least_fault entries (suc place) ≡ Some e = rw (h.faultless) stands in
    let reaches : (length entries - suc place) + suc place ≡ length entries = omega arith in
    rw (rw reaches at (fault_stays entries (suc place) (length entries - suc place) e here)) refl

pub read_all : (entries : List Data) (kept : List Authority) → IsReadTo entries (length entries) kept → authorities_of entries ≡ Ok kept
unfolding authorities_of
read_all entries kept h = rw (h.faultless, h.once) refl

-- the entry that the code has in hand is judged as the list's
pub outcome-tree : {A : Type 0} → (vs : List (Value A)) (place : ℕ) (v : Value A) → place < length vs → v ≡ get_or vs place v → verdict (map tree_data vs) place ≡ judge place (tree_data v)
outcome-tree {A} vs place v inside is = ap (judge place) (at vs place v inside ∙ ap tree_data (sym is))
  where
    at : (vs : List (Value A)) (i : ℕ) (v : Value A) → i < length vs → get_or (map tree_data vs) i null ≡ tree_data (get_or vs i v)
    at [] i v h = absurd (omega arith)
    at (w ∷ vs) zero v h = refl
    at (w ∷ vs) (suc i) v h = at vs i v (omega arith)

pub elements-list_data : {A : Type 0} → (vs : List (Value A)) → elements (list_data vs) ≡ map tree_data vs
elements-list_data [] = refl
elements-list_data (v ∷ vs) = ap (λ ds. tree_data v ∷ ds) (elements-list_data vs)
