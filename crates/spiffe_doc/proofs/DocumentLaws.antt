-- What a document gives is a valid bundle, and a refusal names a place within the document.
use Rattle.std.proofs.Common.{◌≡◌, ℕ, zero, suc, ◌<◌, ◌≤◌, ◌^◌, ◌&&◌, List, [], ◌∷◌, ◌++◌, length, false, not, codes, nat_lt, nat_le, Option, Some, None, Result, Ok, Err, refl, ap, ◌∙◌, inl, inr, arith}
use Rattle.std.specs.Prelude.{IfSome, option_and_then, slice_index_or}
use Rattle.std.specs.Option.{ok_or, option_or}
use Rattle.std.specs.Str.{is_utf8}
use Rattle.std.proofs.lemmas.Bool.{cases_Bool, ltb-false}
use Rattle.std.proofs.lemmas.Bool.Decides.{nat_tests}
use Rattle.serde_json.specs.Data.{unsigned, negative, float, Data, null, boolean, number, string, array, object, Items, Members}
use Rattle.serde_json.specs.Find.{get, as_array, as_object}
use Rattle.serde_json.specs.Read.{read}
use Rattle.spiffe_doc.specs.declared.authority.Authority.{Authority}
use Rattle.spiffe_doc.specs.declared.error.DocError.{DocError}
use Rattle.spiffe_doc.specs.declared.error.DocError.TheVariants.{TooLong, NotJson, NotObject, NoKeys, BadSequence, BadHint, BadEntry, BadKey, BadX5c, BadKid, KidTwice, TooMany, Memory}
use Rattle.spiffe_doc.specs.Answer.{unless, ◌>>=◌}
use Rattle.spiffe_doc.specs.Authority.{IsAuthority, BundleValue}
use Rattle.spiffe_doc.specs.Bundle.{is_among, is_kid_taken, AreAuthorities, IsBundle}
use Rattle.spiffe_doc.specs.Entry.{IsMalformed}
use Rattle.spiffe_doc.specs.Judgement.{judge}
use Rattle.spiffe_doc.specs.Text.{text_of}
use Rattle.spiffe_doc.specs.Document.{elements, verdict, authorities_by, authorities_before, distinct, fault_after, fault_at, least_fault, authorities_of, whole_number, within, json_tree, bundle_of, document, entry, place_of}
use Rattle.spiffe_doc.proofs.AuthorityLists.{authorities_none, authorities_push}
use Rattle.spiffe_doc.proofs.EntryLaws.{outcome_of}
use Rattle.spiffe_doc.proofs.FirstPlaces.{list_any-firsts, firsts_push}
use Rattle.spiffe_doc.proofs.TextTrees.{IsSmall, member_small}

-- ---- the authorities

append-nothing : (xs : List Authority) → xs ++ [] ≡ xs
append-nothing [] = refl
append-nothing (x ∷ xs) = ap (λ more. x ∷ more) (append-nothing xs)

-- one entry more, of this outcome
one_more : (place : ℕ) (before : List Authority) (v : Result (Option Authority) DocError) → AreAuthorities (distinct before) → ((a : Authority) → v ≡ Ok (Some a) → IsAuthority a)
    → fault_after place before v ≡ None → AreAuthorities (distinct (before ++ authorities_by v))
one_more place before (Err e) h is none = cc none
one_more place before (Ok None) h is none = rw append-nothing h
one_more place before (Ok (Some a)) h is none = elim (cases_Bool (is_kid_taken before a)) [
  | inl used ↦ cc (rw used at none)
  | inr free ↦ elim (cases_Bool (is_among before a)) [
    | inl there ↦ rw (firsts_push before a, there) h
    | inr new ↦ elim (cases_Bool (nat_le 1024 (length (distinct before)))) [
      | inl full ↦ cc (rw (free, new, full) at none)
      | inr room ↦
          let fits : length (distinct before) < 1024 = grind (arith, nat_tests) in
          let first : is_among (distinct before) a ≡ false = list_any-firsts _ before ∙ new in
          let unused : is_kid_taken (distinct before) a ≡ false = list_any-firsts _ before ∙ free in
          rw (firsts_push before a, new) (authorities_push (distinct before) a h (is a refl) first unused fits)
    ]
  ]
]

split_or : {A : Type 0} (a b : Option A) → option_or a b ≡ None → (a ≡ None) × (b ≡ None)
split_or None b h = (refl, h)
split_or (Some x) b h = cc h

given_valid : (entries : List Data) (place : ℕ) → least_fault entries place ≡ None → AreAuthorities (distinct (authorities_before entries place))
unfolding least_fault authorities_before distinct
given_valid entries zero h = authorities_none
given_valid entries (suc place) h =
    let parts = split_or (least_fault entries place) (fault_at entries place) h in
    one_more place (authorities_before entries place) (verdict entries place) (given_valid entries place parts.0)
    (λ a is. (outcome_of place (slice_index_or entries place null) (Ok (Some a)) is).0) parts.1

authorities_valid : (entries : List Data) (authorities : List Authority) → authorities_of entries ≡ Ok authorities → AreAuthorities authorities
unfolding authorities_of
authorities_valid entries authorities h = go (least_fault entries (length entries)) refl h
  where
    go : (o : Option DocError) → least_fault entries (length entries) ≡ o → unless o (distinct (authorities_before entries (length entries))) ≡ Ok authorities → AreAuthorities authorities
    go (Some e) is h = cc h
    go None is h =
        let same : distinct (authorities_before entries (length entries)) ≡ authorities = cc h in
        rw (← same) (given_valid entries (length entries) is)

-- ---- the places

fault_place : (place : ℕ) (tree : Data) (e : DocError) → IsMalformed place tree e → IfSome (place_of e) (λ at. at ≡ place)
fault_place place tree (BadEntry at) h = h.0
fault_place place tree (BadKey at) h = h.0
fault_place place tree (BadX5c at) h = h.0
fault_place place tree (BadKid at) h = h.0
fault_place place tree TooLong h = absurd h
fault_place place tree NotJson h = absurd h
fault_place place tree NotObject h = absurd h
fault_place place tree NoKeys h = absurd h
fault_place place tree BadSequence h = absurd h
fault_place place tree BadHint h = absurd h
fault_place place tree (KidTwice at) h = absurd h
fault_place place tree TooMany h = absurd h
fault_place place tree Memory h = absurd h

judge_place : (place : ℕ) (tree : Data) (e : DocError) → judge place tree ≡ Err e → IfSome (place_of e) (λ at. at ≡ place)
judge_place place tree e h = fault_place place tree e (outcome_of place tree (Err e) h)

after_place : (place : ℕ) (before : List Authority) (v : Result (Option Authority) DocError) (e : DocError) → ((d : DocError) → v ≡ Err d → IfSome (place_of d) (λ at. at ≡ place))
    → fault_after place before v ≡ Some e → IfSome (place_of e) (λ at. at ≡ place)
after_place place before (Err d) e own h = let same : d ≡ e = cc h in rw (← same) (own d refl)
after_place place before (Ok None) e own h = cc h
after_place place before (Ok (Some a)) e own h = elim (cases_Bool (is_kid_taken before a)) [
  | inl used ↦ let same : KidTwice place ≡ e = cc (rw used at h) in rw (← same) refl
  | inr free ↦ elim (cases_Bool (not (is_among before a) && nat_le 1024 (length (distinct before)))) [
    | inl full ↦ let same : TooMany ≡ e = cc (rw (free, full) at h) in rw (← same) tt
    | inr room ↦ cc (rw (free, room) at h)
  ]
]

below_more : (o : Option ℕ) (m n : ℕ) → m ≤ n → IfSome o (λ at. at < m) → IfSome o (λ at. at < n)
below_more None m n h x = tt
below_more (Some at) m n h x = omega (arith, h, x)

at_below : (o : Option ℕ) (place : ℕ) → IfSome o (λ at. at ≡ place) → IfSome o (λ at. at < suc place)
at_below None place x = tt
at_below (Some at) place x = omega (arith, x)

least_place : (entries : List Data) (n : ℕ) (e : DocError) → least_fault entries n ≡ Some e → IfSome (place_of e) (λ at. at < n)
unfolding least_fault
least_place entries zero e h = cc h
least_place entries (suc place) e h = go (least_fault entries place) (λ d is. least_place entries place d is) refl h
  where
    go : (o : Option DocError) → ((d : DocError) → least_fault entries place ≡ Some d → IfSome (place_of d) (λ at. at < place)) → least_fault entries place ≡ o
        → option_or o (fault_at entries place) ≡ Some e → IfSome (place_of e) (λ at. at < suc place)
    go None before is h =
        at_below (place_of e) place (after_place place (authorities_before entries place) (verdict entries place) e (λ d err. judge_place place (slice_index_or entries place null) d err) h)
    go (Some d) before is h =
        let same : d ≡ e = cc h in
        rw (← same) (below_more (place_of d) place (suc place) (omega arith) (before d is))

authorities_place : (entries : List Data) (e : DocError) → authorities_of entries ≡ Err e → IfSome (place_of e) (λ at. at < length entries)
unfolding authorities_of
authorities_place entries e h = go (least_fault entries (length entries)) refl h
  where
    go : (o : Option DocError) → least_fault entries (length entries) ≡ o → unless o (distinct (authorities_before entries (length entries))) ≡ Err e → IfSome (place_of e) (λ at. at < length entries)
    go None is h = cc h
    go (Some d) is h = let same : d ≡ e = cc h in rw (← same) (least_place entries (length entries) d is)

-- ---- the members of a document

small_number : (n : ℕ) (o : Option Data) (v : Option ℕ) → IfSome o (IsSmall n) → whole_number o ≡ Some v → IfSome v (λ k. k < 2 ^ 64)
small_number n None v small h = let same : None ≡ v = cc h in rw (← same) tt
small_number n (Some null) v small h = let same : None ≡ v = cc h in rw (← same) tt
small_number n (Some (number (unsigned k))) v small h = let same : Some k ≡ v = cc h in rw (← same) small
small_number n (Some (number (negative z))) v small h = cc h
small_number n (Some (number (float x))) v small h = cc h
small_number n (Some (boolean b)) v small h = cc h
small_number n (Some (string s)) v small h = cc h
small_number n (Some (array ds)) v small h = cc h
small_number n (Some (object ms)) v small h = cc h

small_array : (n : ℕ) (o : Option Data) (keys : Items) → IfSome o (IsSmall n) → option_and_then as_array o ≡ Some keys → length (elements keys) < n
small_array n None keys small h = cc h
small_array n (Some null) keys small h = cc h
small_array n (Some (boolean b)) keys small h = cc h
small_array n (Some (number k)) keys small h = cc h
small_array n (Some (string s)) keys small h = cc h
small_array n (Some (array ds)) keys small h = let same : ds ≡ keys = cc h in rw (← same) small
small_array n (Some (object ms)) keys small h = cc h

-- what is known of a bundle whose text has not been measured
record HasParts (bundle : BundleValue) : Type 0 where
  sequence_fits : IfSome bundle.sequence (λ k. k < 2 ^ 64)
  hint_fits : IfSome bundle.refresh_hint (λ k. k < 2 ^ 64)
  authorities : AreAuthorities bundle.authorities

abbrev whole : Option ℕ → Option ℕ → List Authority → Result BundleValue DocError
whole sequence hint authorities = Ok (record { sequence = sequence; refresh_hint = hint; authorities = authorities })

abbrev of_parts : Option Members → Option Items → Option (Option ℕ) → Option (Option ℕ) → Result BundleValue DocError
of_parts o k s r = ok_or o NotObject >>= (λ members. ok_or k NoKeys >>= (λ keys. ok_or s BadSequence >>= (λ sequence. ok_or r BadHint >>= (λ hint.
    authorities_of (elements keys) >>= whole sequence hint))))

bundle_of-parts : (text : List ℕ) (tree : Data) (bundle : BundleValue) → read text ≡ Some tree → bundle_of tree ≡ Ok bundle → HasParts bundle
unfolding bundle_of
bundle_of-parts text tree bundle is h =
    go (as_object tree) (option_and_then as_array (get (codes "keys") tree)) (whole_number (get (codes "spiffe_sequence") tree)) refl (whole_number (get (codes "spiffe_refresh_hint") tree)) refl h
  where
    last : (sequence hint : Option ℕ) (r : Result (List Authority) DocError) → IfSome sequence (λ k. k < 2 ^ 64) → IfSome hint (λ k. k < 2 ^ 64)
        → ((authorities : List Authority) → r ≡ Ok authorities → AreAuthorities authorities)
        → (r >>= whole sequence hint) ≡ Ok bundle → HasParts bundle
    last sequence hint (Err e) s r all h = cc h
    last sequence hint (Ok authorities) s r all h =
        let value : BundleValue = record { sequence = sequence; refresh_hint = hint; authorities = authorities } in
        let same : value ≡ bundle = cc h in
        rw (← same) (record { sequence_fits = s; hint_fits = r; authorities = all authorities refl })

    go : (o : Option Members) (k : Option Items) (s : Option (Option ℕ)) → whole_number (get (codes "spiffe_sequence") tree) ≡ s
        → (r : Option (Option ℕ)) → whole_number (get (codes "spiffe_refresh_hint") tree) ≡ r → of_parts o k s r ≡ Ok bundle → HasParts bundle
    go None k s s_is r r_is h = cc h
    go (Some ms) None s s_is r r_is h = cc h
    go (Some ms) (Some keys) None s_is r r_is h = cc h
    go (Some ms) (Some keys) (Some sequence) s_is None r_is h = cc h
    go (Some ms) (Some keys) (Some sequence) s_is (Some hint) r_is h =
        last sequence hint (authorities_of (elements keys))
        (small_number (length text) _ sequence (member_small text tree (codes "spiffe_sequence") is) s_is)
        (small_number (length text) _ hint (member_small text tree (codes "spiffe_refresh_hint") is) r_is)
        (authorities_valid (elements keys)) h

bundle_of-place : (text : List ℕ) (tree : Data) (e : DocError) → read text ≡ Some tree → bundle_of tree ≡ Err e → IfSome (place_of e) (λ at. at < length text)
unfolding bundle_of
bundle_of-place text tree e is h =
    go (as_object tree) (option_and_then as_array (get (codes "keys") tree)) refl (whole_number (get (codes "spiffe_sequence") tree)) (whole_number (get (codes "spiffe_refresh_hint") tree)) h
  where
    last : (sequence hint : Option ℕ) (n : ℕ) (r : Result (List Authority) DocError) → ((d : DocError) → r ≡ Err d → IfSome (place_of d) (λ at. at < n))
        → (r >>= whole sequence hint) ≡ Err e → IfSome (place_of e) (λ at. at < n)
    last sequence hint n (Ok authorities) low h = cc h
    last sequence hint n (Err d) low h = let same : d ≡ e = cc h in rw (← same) (low d refl)

    go : (o : Option Members) (k : Option Items) → option_and_then as_array (get (codes "keys") tree) ≡ k → (s r : Option (Option ℕ)) → of_parts o k s r ≡ Err e → IfSome (place_of e) (λ at. at < length text)
    go None k k_is s r h = let same : NotObject ≡ e = cc h in rw (← same) tt
    go (Some ms) None k_is s r h = let same : NoKeys ≡ e = cc h in rw (← same) tt
    go (Some ms) (Some keys) k_is None r h = let same : BadSequence ≡ e = cc h in rw (← same) tt
    go (Some ms) (Some keys) k_is (Some sequence) None h = let same : BadHint ≡ e = cc h in rw (← same) tt
    go (Some ms) (Some keys) k_is (Some sequence) (Some hint) h =
        let few = small_array (length text) _ keys (member_small text tree (codes "keys") is) k_is in
        below_more (place_of e) (length (elements keys)) (length text) (omega (arith, few)) (last sequence hint (length (elements keys)) (authorities_of (elements keys)) (authorities_place (elements keys)) h)

-- ---- the document

pub json_tree-read : (text : List ℕ) (tree : Data) → json_tree text ≡ Some tree → read text ≡ Some tree
json_tree-read text tree h = elim (cases_Bool (is_utf8 text)) [
  | inl utf8 ↦ rw utf8 at h
  | inr other ↦ cc (rw other at h)
]

pub IsBundle-document : (text : List ℕ) (bundle : BundleValue) → document text ≡ Ok bundle → IsBundle bundle
unfolding document
IsBundle-document text bundle h = elim (cases_Bool (nat_lt 1048576 (length text))) [
  | inl long ↦ cc (rw long at h)
  | inr fits ↦ go (json_tree text) refl (rw fits at h)
]
  where
    measured : (b : BundleValue) → HasParts b → (within 1048576 (text_of b) >>= (λ text. Ok b)) ≡ Ok bundle → IsBundle bundle
    measured b parts h = elim (cases_Bool (nat_lt 1048576 (length (text_of b)))) [
      | inl long ↦ cc (rw long at h)
      | inr short ↦
          let same : b ≡ bundle = cc (rw short at h) in
          rw (← same) (record { sequence_fits = parts.sequence_fits; hint_fits = parts.hint_fits; authorities = parts.authorities; short = ltb-false _ _ short })
    ]

    parted : (tree : Data) (r : Result BundleValue DocError) → read text ≡ Some tree → bundle_of tree ≡ r → (r >>= (λ b. within 1048576 (text_of b) >>= (λ text. Ok b))) ≡ Ok bundle → IsBundle bundle
    parted tree (Err e) is r_is h = cc h
    parted tree (Ok b) is r_is h = measured b (bundle_of-parts text tree b is r_is) h

    go : (o : Option Data) → json_tree text ≡ o → (ok_or o NotJson >>= (λ tree. bundle_of tree >>= (λ b. within 1048576 (text_of b) >>= (λ text. Ok b)))) ≡ Ok bundle → IsBundle bundle
    go None is h = cc h
    go (Some tree) is h = parted tree (bundle_of tree) (json_tree-read text tree is) refl h

pub document-place : (text : List ℕ) (e : DocError) → document text ≡ Err e → IfSome (place_of e) (λ at. at < 1048576)
unfolding document
document-place text e h = elim (cases_Bool (nat_lt 1048576 (length text))) [
  | inl long ↦ let same : TooLong ≡ e = cc (rw long at h) in rw (← same) tt
  | inr fits ↦ go (ltb-false _ _ fits) (json_tree text) refl (rw fits at h)
]
  where
    parted : (tree : Data) (r : Result BundleValue DocError) → length text ≤ 1048576 → read text ≡ Some tree → bundle_of tree ≡ r
        → (r >>= (λ b. within 1048576 (text_of b) >>= (λ text. Ok b))) ≡ Err e → IfSome (place_of e) (λ at. at < 1048576)
    parted tree (Err d) fits is r_is h =
        let same : d ≡ e = cc h in
        rw (← same) (below_more (place_of d) (length text) 1048576 fits (bundle_of-place text tree d is r_is))
    parted tree (Ok b) fits is r_is h = elim (cases_Bool (nat_lt 1048576 (length (text_of b)))) [
      | inl long ↦ let same : TooLong ≡ e = cc (rw long at h) in rw (← same) tt
      | inr short ↦ cc (rw short at h)
    ]

    go : length text ≤ 1048576 → (o : Option Data) → json_tree text ≡ o → (ok_or o NotJson >>= (λ tree. bundle_of tree >>= (λ b. within 1048576 (text_of b) >>= (λ text. Ok b)))) ≡ Err e → IfSome (place_of e) (λ at. at < 1048576)
    go fits None is h = let same : NotJson ≡ e = cc h in rw (← same) tt
    go fits (Some tree) is h = parted tree (bundle_of tree) fits (json_tree-read text tree is) refl h

pub entry-place : (text : List ℕ) (e : DocError) → entry text ≡ Err e → IfSome (place_of e) (λ at. at ≡ 0)
unfolding entry
entry-place text e h = elim (cases_Bool (nat_lt 1048576 (length text))) [
  | inl long ↦ let same : TooLong ≡ e = cc (rw long at h) in rw (← same) tt
  | inr fits ↦ go (json_tree text) (rw fits at h)
]
  where
    go : (o : Option Data) → (ok_or o NotJson >>= (λ tree. judge 0 tree)) ≡ Err e → IfSome (place_of e) (λ at. at ≡ 0)
    go None h = let same : NotJson ≡ e = cc h in rw (← same) tt
    go (Some tree) h = judge_place 0 tree e h
