-- The entries of a document, counted: each gives an authority or is ignored, if the document is a bundle.
use Rattle.std.proofs.Common.{◌≡◌, ◌<◌, get_or, map, add-one, ℕ, zero, suc, ◌+◌, ◌≤◌, List, [], ◌∷◌, ◌++◌, length, codes, nat_lt, Bool, Option, Some, None, Result, Ok, Err, refl, sym, ap, ◌∙◌, inl, inr, arith, length-append}
use Rattle.std.specs.Prelude.{option_and_then, slice_index_or, count_by, filter, not}
use Rattle.std.specs.Option.{ok_or, option_or}
use Rattle.std.proofs.lemmas.List.Sums.{length-filter}
use Rattle.std.proofs.lemmas.List.Filters.{length-filter_both}
use Rattle.std.proofs.lemmas.Bool.{cases_Bool, ltb-false}
use Rattle.serde_json.specs.Data.{Data, null, Items, Members}
use Rattle.serde_json.specs.Find.{get, as_array, as_object}
use Rattle.serde_json.specs.View.{view, items_of, items_view}
use Rattle.serde_json.specs.declared.value.Value.{Value}
use Rattle.spiffe_doc.specs.declared.authority.Authority.{Authority}
use Rattle.spiffe_doc.specs.declared.authority.Authority.TheVariants.{X509, Jwt}
use Rattle.spiffe_doc.specs.declared.error.DocError.{DocError}
use Rattle.spiffe_doc.specs.declared.error.DocError.TheVariants.{NotJson, NotObject, NoKeys, BadSequence, BadHint}
use Rattle.spiffe_doc.specs.Answer.{unless, ◌>>=◌}
use Rattle.spiffe_doc.specs.Authority.{BundleValue}
use Rattle.spiffe_doc.specs.Equal.{authority_eq}
use Rattle.spiffe_doc.specs.Text.{text_of}
use Rattle.spiffe_doc.specs.Document.{elements, verdict, authorities_by, authorities_before, distinct, fault_after, fault_at, least_fault, authorities_of, whole_number, within, json_tree, bundle_of, document}
use Rattle.doc_report.specs.declared.ignored.Reason.{Reason}
use Rattle.doc_report.specs.Ignored.{reason}
use Rattle.doc_report.specs.Report.{entries_of, entries_in, ignored_for, ignored_before, is_jwt}
use Rattle.spiffe_doc.specs.Bundle.{is_x509}
use Rattle.doc_report.specs.Private.Counts.{AreEntries}
use Rattle.doc_report.proofs.Reasons.{Agree, judge-reason}

pub elements-items_of : (entries : List Data) → elements (items_of entries) ≡ entries
elements-items_of [] = refl
elements-items_of (entry ∷ more) = ap (λ rest. entry ∷ rest) (elements-items_of more)

-- the elements of an array
pub array-entries : (tree : Data) (items : List Value) → option_and_then as_array (get (codes "keys") tree) ≡ Some (items_view items) → map view items ≡ entries_of tree
array-entries tree items is = rw (is, elements-items_of) refl

pub entries_in-tree : (bytes : List ℕ) (tree : Data) → json_tree bytes ≡ Some tree → entries_in bytes ≡ entries_of tree
entries_in-tree bytes tree is = rw is refl

-- the entry that the code has in hand is the list's
pub get-map : (values : List Value) (place : ℕ) (value : Value) → place < length values → value ≡ get_or values place value → get_or (map view values) place null ≡ view value
get-map values place value inside is = at values place value inside ∙ ap view (sym is)
  where
    at : (values : List Value) (i : ℕ) (value : Value) → i < length values → get_or (map view values) i null ≡ view (get_or values i value)
    at [] i value h = absurd (omega arith)
    at (first ∷ more) zero value h = refl
    at (first ∷ more) (suc i) value h = at more i value (omega arith)

-- the ignored entries before the next place
pub one_more : (entries : List Data) (place : ℕ) (entry : Data) (why : Option Reason) → get_or entries place null ≡ entry → why ≡ reason entry
    → ignored_before entries (place + 1) ≡ ignored_before entries place ++ ignored_for place why
unfolding ignored_before
one_more entries place entry why is is_why = rw (add-one, is, ← is_why) refl

-- ---- counts

-- an authority is of one kind
pub kinds : (authorities : List Authority) → count_by is_x509 authorities + count_by is_jwt authorities ≡ length authorities
kinds authorities = rw (← length-filter is_x509 authorities, ← length-filter is_jwt authorities) (length-filter_both is_x509 is_jwt other authorities)
  where
    other : (authority : Authority) → is_jwt authority ≡ not (is_x509 authority)
    other (X509 key der) = refl
    other (Jwt kid key) = refl

fewer : (test : Authority → Bool) (authorities : List Authority) → length (filter test authorities) ≤ length authorities
fewer test [] = omega arith
fewer test (first ∷ more) = let rest = fewer test more in elim (cases_Bool (test first)) [
  | inl passes ↦ rw passes (omega arith)
  | inr fails ↦ rw fails (omega arith)
]

pub distinct-fewer : (authorities : List Authority) → length (distinct authorities) ≤ length authorities
unfolding distinct
distinct-fewer [] = omega arith
distinct-fewer (first ∷ more) =
    let rest = distinct-fewer more in
    let kept = fewer (λ other. not (authority_eq first other)) (distinct more) in
    omega arith

split_or : {A : Type 0} (a b : Option A) → option_or a b ≡ None → (a ≡ None) × (b ≡ None)
split_or None b h = (refl, h)
split_or (Some x) b h = cc h

-- an entry with no fault gives an authority, or it is ignored
one_entry : (place : ℕ) (before : List Authority) (v : Result (Option Authority) DocError) (why : Option Reason) → Agree v why
    → fault_after place before v ≡ None → length (authorities_by v) + length (ignored_for place why) ≡ 1
one_entry place before (Err e) why agree none = cc none
one_entry place before (Ok None) None agree none = cc (agree.0 refl)
one_entry place before (Ok None) (Some why) agree none = refl
one_entry place before (Ok (Some authority)) None agree none = refl
one_entry place before (Ok (Some authority)) (Some why) agree none = cc (agree.1 refl)

pub entries_counted : (entries : List Data) (place : ℕ) → least_fault entries place ≡ None → length (authorities_before entries place) + length (ignored_before entries place) ≡ place
unfolding least_fault authorities_before ignored_before
entries_counted entries zero h = refl
entries_counted entries (suc place) h =
    let parts = split_or (least_fault entries place) (fault_at entries place) h in
    let before = entries_counted entries place parts.0 in
    let entry = slice_index_or entries place null in
    let one = one_entry place (authorities_before entries place) (verdict entries place) (reason entry) (judge-reason place entry) parts.1 in
    let given = length-append (authorities_before entries place) (authorities_by (verdict entries place)) in
    let passed = length-append (ignored_before entries place) (ignored_for place (reason entry)) in
    omega arith

-- ---- the document

authorities_of-entries : (entries : List Data) (authorities : List Authority) → authorities_of entries ≡ Ok authorities → AreEntries entries authorities
unfolding authorities_of
authorities_of-entries entries authorities h = go (least_fault entries (length entries)) refl h
  where
    go : (o : Option DocError) → least_fault entries (length entries) ≡ o → unless o (distinct (authorities_before entries (length entries))) ≡ Ok authorities → AreEntries entries authorities
    go (Some e) is h = cc h
    go None is h = record { faultless = is; once = cc h }

abbrev whole : Option ℕ → Option ℕ → List Authority → Result BundleValue DocError
whole sequence hint authorities = Ok (record { sequence = sequence; refresh_hint = hint; authorities = authorities })

abbrev of_parts : Option Members → Option Items → Option (Option ℕ) → Option (Option ℕ) → Result BundleValue DocError
of_parts o k s r = ok_or o NotObject >>= (λ members. ok_or k NoKeys >>= (λ keys. ok_or s BadSequence >>= (λ sequence. ok_or r BadHint >>= (λ hint.
    authorities_of (elements keys) >>= whole sequence hint))))

bundle_of-entries : (tree : Data) (bundle : BundleValue) → bundle_of tree ≡ Ok bundle → AreEntries (entries_of tree) bundle.authorities
unfolding bundle_of
bundle_of-entries tree bundle h =
    go (as_object tree) (option_and_then as_array (get (codes "keys") tree)) refl (whole_number (get (codes "spiffe_sequence") tree)) (whole_number (get (codes "spiffe_refresh_hint") tree)) h
  where
    last : (sequence hint : Option ℕ) (entries : List Data) (r : Result (List Authority) DocError) → authorities_of entries ≡ r → (r >>= whole sequence hint) ≡ Ok bundle → AreEntries entries bundle.authorities
    last sequence hint entries (Err e) is h = cc h
    last sequence hint entries (Ok authorities) is h =
        let same : authorities ≡ bundle.authorities = cc h in
        rw (← same) (authorities_of-entries entries authorities is)

    go : (o : Option Members) (k : Option Items) → option_and_then as_array (get (codes "keys") tree) ≡ k → (s r : Option (Option ℕ)) → of_parts o k s r ≡ Ok bundle → AreEntries (entries_of tree) bundle.authorities
    go None k is s r h = cc h
    go (Some ms) None is s r h = cc h
    go (Some ms) (Some keys) is None r h = cc h
    go (Some ms) (Some keys) is (Some sequence) None h = cc h
    go (Some ms) (Some keys) is (Some sequence) (Some hint) h = rw is (last sequence hint (elements keys) (authorities_of (elements keys)) refl h)

-- what is known of a document that is a bundle
pub record IsOfBundle (bytes : List ℕ) (bundle : BundleValue) : Type 0 where
  pub short : length bytes ≤ 1048576
  pub entries : AreEntries (entries_in bytes) bundle.authorities

pub document-entries : (bytes : List ℕ) (bundle : BundleValue) → document bytes ≡ Ok bundle → IsOfBundle bytes bundle
unfolding document
document-entries bytes bundle h = elim (cases_Bool (nat_lt 1048576 (length bytes))) [
  | inl long ↦ cc (rw long at h)
  | inr fits ↦ record { short = ltb-false _ _ fits; entries = of_tree (json_tree bytes) refl (rw fits at h) }
]
  where
    measured : (b : BundleValue) → (within 1048576 (text_of b) >>= (λ text. Ok b)) ≡ Ok bundle → b ≡ bundle
    measured b h = elim (cases_Bool (nat_lt 1048576 (length (text_of b)))) [
      | inl long ↦ cc (rw long at h)
      | inr short ↦ cc (rw short at h)
    ]

    of_bundle : (tree : Data) (r : Result BundleValue DocError) → bundle_of tree ≡ r → (r >>= (λ b. within 1048576 (text_of b) >>= (λ text. Ok b))) ≡ Ok bundle → bundle_of tree ≡ Ok bundle
    of_bundle tree (Err e) is h = cc h
    of_bundle tree (Ok b) is h = is ∙ ap Ok (measured b h)

    of_tree : (o : Option Data) → json_tree bytes ≡ o → (ok_or o NotJson >>= (λ tree. bundle_of tree >>= (λ b. within 1048576 (text_of b) >>= (λ text. Ok b)))) ≡ Ok bundle → AreEntries (entries_in bytes) bundle.authorities
    of_tree None is h = cc h
    of_tree (Some tree) is h = rw is (bundle_of-entries tree bundle (of_bundle tree (bundle_of tree) refl h))
