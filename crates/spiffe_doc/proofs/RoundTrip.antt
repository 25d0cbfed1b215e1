-- The canonical text of a valid bundle is a document of that bundle.
use Rattle.std.proofs.Common.{◌≡◌, ℕ, zero, suc, ◌<◌, ◌≤◌, ◌&&◌, List, [], ◌∷◌, length, get_or, take, bytes_eq, Bool, true, false, nat_lt, nat_le, Option, Some, None, Ok, refl, sym, ap, ◌∙◌, arith}
use Rattle.std.specs.List.{list_any, AllPairs, AllByRecursion}
use Rattle.std.specs.Str.{is_utf8}
use Rattle.std.proofs.Math.Seq.{take-suc}
use Rattle.std.proofs.lemmas.List.{get_or-take, get_or_default, length-take-le, take_all}
use Rattle.std.proofs.lemmas.Bool.Decides.{nat_tests}
use Rattle.std.proofs.lemmas.Str.{is_utf8-from_IsUtf8}
use Rattle.serde_json.specs.Data.{Data, null}
use Rattle.serde_json.specs.Read.{read}
use Rattle.spiffe_doc.specs.declared.authority.Authority.{Authority}
use Rattle.spiffe_doc.specs.Authority.{IsAuthority, BundleValue}
use Rattle.spiffe_doc.specs.Equal.{bundle_eq}
use Rattle.spiffe_doc.specs.Private.Equality.{bundle_decides}
use Rattle.spiffe_doc.specs.Judgement.{judge}
use Rattle.spiffe_doc.specs.Text.{entry_trees, entry_text, document_tree, text_of}
use Rattle.spiffe_doc.specs.Bundle.{is_among, is_kid_taken, AreApart, IsBundle}
use Rattle.spiffe_doc.specs.Document.{distinct, elements, verdict, authorities_before, least_fault, authorities_of, bundle_of, document, entry}
use Rattle.std.specs.Str.{IsUtf8}
use Rattle.spiffe_doc.proofs.TreeLemmas.{read-compact_text}
use Rattle.spiffe_doc.proofs.TextUtf8.{document_utf8, entry_utf8}
use Rattle.spiffe_doc.proofs.EntryTexts.{entry_text_reads, decided_alike}
use Rattle.spiffe_doc.proofs.EntryLaws.{judge-entry_tree}
use Rattle.spiffe_doc.proofs.TextLemmas.{document_reads, document_numbers, document_depth}
use Rattle.spiffe_doc.proofs.FirstPlaces.{firsts_push}
use Rattle.spiffe_doc.proofs.EntryLists.{read_all}

any_none : (test : Authority → Bool) (xs : List Authority) → ((k : ℕ) (d : Authority) → k < length xs → test (get_or xs k d) ≡ false) → list_any test xs ≡ false
any_none test [] h = refl
any_none test (x ∷ xs) h = rw (h 0 x (omega arith), any_none test xs (λ k d inside. h (suc k) d (omega arith))) refl

and_false : (a b : Bool) → a ≡ false → (a && b) ≡ false
and_false a b h = rw h refl

few_before : (n : ℕ) → n < 1024 → nat_le 1024 n ≡ false
few_before n h = grind (arith, nat_tests)

-- the entries of these authorities
entry_list : List Authority → List Data
entry_list xs = elements (entry_trees xs)

length-entry_list : (xs : List Authority) → length (entry_list xs) ≡ length xs
unfolding entry_list
length-entry_list [] = refl
length-entry_list (x ∷ xs) = ap suc (length-entry_list xs)

outcome-entry_list : (xs : List Authority) (i : ℕ) (d : Authority) → AllByRecursion IsAuthority xs → i < length xs → verdict (entry_list xs) i ≡ Ok (Some (get_or xs i d))
unfolding entry_list
outcome-entry_list xs i d valid inside = at xs i valid inside
  where
    at : (ys : List Authority) (k : ℕ) → AllByRecursion IsAuthority ys → k < length ys → judge i (get_or (elements (entry_trees ys)) k null) ≡ Ok (Some (get_or ys k d))
    at [] k h less = absurd (omega arith)
    at (y ∷ ys) zero h less = judge-entry_tree i y h.0
    at (y ∷ ys) (suc k) h less = at ys k h.1 (omega arith)

-- the first entries give the first authorities, and none stands out
record IsSameTo (xs : List Authority) (place : ℕ) : Type 0 where
  faultless : least_fault (entry_list xs) place ≡ None
  given : authorities_before (entry_list xs) place ≡ take place xs
  once : distinct (take place xs) ≡ take place xs

same_to : (xs : List Authority) (d : Authority) → AllByRecursion IsAuthority xs → AllPairs AreApart xs → length xs ≤ 1024 → (place : ℕ) → place ≤ length xs → IsSameTo xs place
unfolding least_fault authorities_before distinct
same_to xs d valid apart few zero h = record { faultless = refl; given = refl; once = refl }
same_to xs d valid apart few (suc place) h =
    let before = same_to xs d valid apart few place (omega arith) in
    let inside : place < length xs = omega arith in
    let a : Authority = get_or xs place d in
    let len : length (take place xs) ≡ place = length-take-le place xs (omega arith) in
    let is = outcome-entry_list xs place d valid inside in
    let pair : (k : ℕ) (e : Authority) → k < length (take place xs) → AreApart (get_or (take place xs) k e) a =
    λ k e less. let low : k < place = omega arith in let there : k < length xs = omega arith in rw (get_or-take place xs k e low, get_or_default xs k e d there) (apart k place d low inside) in
    let new : is_among (take place xs) a ≡ false = any_none _ _ (λ k e less. (pair k e less).differ) in
    let free : is_kid_taken (take place xs) a ≡ false = any_none _ _ (λ k e less. and_false _ _ (pair k e less).kids_differ) in
    let room : nat_le 1024 (length (take place xs)) ≡ false = rw len (few_before place (omega arith)) in
    record {
      faultless = rw (before.faultless, before.given, is, free, new, before.once, room) refl;
      given = rw (before.given, is, take-suc xs place d inside) refl;
      once = rw (take-suc xs place d inside, firsts_push (take place xs) a, new, before.once) refl;
    }

entries_give : (xs : List Authority) (d : Authority) → AllByRecursion IsAuthority xs → AllPairs AreApart xs → length xs ≤ 1024 → authorities_of (entry_list xs) ≡ Ok xs
entries_give xs d valid apart few =
    let whole = same_to xs d valid apart few (length xs) (omega arith) in
    let all = take_all (length xs) xs (omega arith) in
    read_all (entry_list xs) xs (record {
      faultless = rw length-entry_list whole.faultless;
      once = rw (length-entry_list, whole.given, whole.once, all) refl;
    })

-- the entries of valid authorities give them
pub authorities_of-entry_trees : (xs : List Authority) → AllByRecursion IsAuthority xs → AllPairs AreApart xs → length xs ≤ 1024 → authorities_of (elements (entry_trees xs)) ≡ Ok xs
unfolding entry_list least_fault authorities_before distinct
authorities_of-entry_trees [] valid apart few = read_all [] [] (record { faultless = refl; once = refl })
authorities_of-entry_trees (x ∷ xs) valid apart few = entries_give (x ∷ xs) x valid apart few

-- the tree of a valid bundle has its parts
bundle_of-document_tree : (p : BundleValue) → IsBundle p → bundle_of (document_tree p) ≡ Ok p
unfolding bundle_of
bundle_of-document_tree p h = go p.sequence p.refresh_hint
  where
    go : (sequence hint : Option ℕ)
        → (let q : BundleValue = record { sequence = sequence; refresh_hint = hint; authorities = p.authorities } in bundle_of (document_tree q) ≡ Ok q)
    go None None = rw (authorities_of-entry_trees p.authorities h.authorities.valid h.authorities.apart h.authorities.few) refl
    go (Some n) None = rw (authorities_of-entry_trees p.authorities h.authorities.valid h.authorities.apart h.authorities.few) refl
    go None (Some m) = rw (authorities_of-entry_trees p.authorities h.authorities.valid h.authorities.apart h.authorities.few) refl
    go (Some n) (Some m) = rw (authorities_of-entry_trees p.authorities h.authorities.valid h.authorities.apart h.authorities.few) refl

text_utf8 : (p : BundleValue) → IsBundle p → IsUtf8 (text_of p)
unfolding text_of
text_utf8 p h = document_utf8 p h.sequence_fits h.hint_fits h.authorities.valid

text_reads : (p : BundleValue) → IsBundle p → read (text_of p) ≡ Some (document_tree p)
unfolding text_of
text_reads p h =
    read-compact_text (document_tree p) (document_reads p h.sequence_fits h.hint_fits) (document_numbers p h.sequence_fits h.hint_fits) (document_depth p)

fits_limit : (n : ℕ) → n ≤ 1048576 → nat_lt 1048576 n ≡ false
fits_limit n h = grind (arith, nat_tests)

-- what is written is read back
pub document-text_of : (p : BundleValue) → IsBundle p → document (text_of p) ≡ Ok p
unfolding document
document-text_of p h =
    let short = fits_limit (length (text_of p)) h.short in
    let utf8 : is_utf8 (text_of p) ≡ true = is_utf8-from_IsUtf8 _ (text_utf8 p h) in
    rw (short, utf8, text_reads p h, bundle_of-document_tree p h, short) refl

-- and so is an entry by itself
pub entry-entry_text : (a : Authority) → IsAuthority a → length (entry_text a) ≤ 1048576 → entry (entry_text a) ≡ Ok (Some a)
unfolding entry
entry-entry_text a h fits =
    let short = fits_limit (length (entry_text a)) fits in
    let utf8 : is_utf8 (entry_text a) ≡ true = is_utf8-from_IsUtf8 _ (entry_utf8 a h) in
    rw (short, utf8, entry_text_reads a, judge-entry_tree 0 a h) refl

-- one text is of one bundle
pub text_of-injective : (a b : BundleValue) → IsBundle a → IsBundle b → text_of a ≡ text_of b → a ≡ b
text_of-injective a b is_a is_b same =
    let read = sym (document-text_of a is_a) ∙ ap document same ∙ document-text_of b is_b in
    cc read

-- bundles are equal if and only if their texts are
pub same_bundle_text : (a b : BundleValue) → IsBundle a → IsBundle b → bytes_eq (text_of a) (text_of b) ≡ bundle_eq a b
same_bundle_text a b is_a is_b = decided_alike a b text_of (bundle_eq a b) (bundle_decides a b) (text_of-injective a b is_a is_b)
