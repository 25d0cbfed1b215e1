-- What a report tells, and when there is one.
use Rattle.std.proofs.Common.{◌≡◌, ℕ, ◌-◌, ◌≤◌, List, length, nat_lt, Result, Ok, Err, refl, sym, ap, ◌∙◌, inl, inr, arith}
use Rattle.std.specs.Prelude.{◌⊎◌, count_by}
use Rattle.std.proofs.lemmas.Bool.{cases_Bool, ltb-false}
use Rattle.serde_json.specs.Data.{Data}
use Rattle.spiffe_doc.specs.declared.authority.Authority.{Authority}
use Rattle.spiffe_doc.specs.declared.error.DocError.{DocError}
use Rattle.spiffe_doc.specs.declared.error.DocError.TheVariants.{TooLong, NotJson, NotObject, NoKeys, BadSequence, BadHint, BadEntry, BadKey, BadX5c, BadKid, KidTwice, TooMany, Memory}
use Rattle.spiffe_doc.specs.Authority.{BundleValue}
use Rattle.spiffe_doc.specs.Document.{authorities_before, distinct, document}
use Rattle.doc_report.specs.declared.fault.DocFault.{DocFault}
use Rattle.spiffe_doc.specs.Bundle.{is_x509}
use Rattle.doc_report.specs.Report.{ReportValue, is_jwt, ignored_entries, entries_in, repeats, figures, fault_by, reported, report_of, entries_told}
use Rattle.doc_report.specs.Laws.{FaultsStay}
use Rattle.doc_report.proofs.Entries.{kinds, distinct-fewer, entries_counted, document-entries}
use Rattle.doc_report.specs.Private.Counts.{AreEntries}

pub report_of-ok : (bytes : List ℕ) (bundle : BundleValue) → document bytes ≡ Ok bundle → report_of bytes ≡ Ok (figures bundle (entries_in bytes))
unfolding report_of
report_of-ok bytes bundle h = rw h refl

fault_by-error : (entries : List Data) (error : DocError) → (fault_by entries error).error ≡ error
fault_by-error entries TooLong = refl
fault_by-error entries NotJson = refl
fault_by-error entries NotObject = refl
fault_by-error entries NoKeys = refl
fault_by-error entries BadSequence = refl
fault_by-error entries BadHint = refl
fault_by-error entries (BadEntry place) = refl
fault_by-error entries (BadKey place) = refl
fault_by-error entries (BadX5c place) = refl
fault_by-error entries (BadKid place) = refl
fault_by-error entries (KidTwice place) = refl
fault_by-error entries TooMany = refl
fault_by-error entries Memory = refl

pub report_of-err : FaultsStay
unfolding report_of
report_of-err bytes fault = (λ h. there (document bytes) h, λ h. rw h.0 (ap Err (sym h.1)))
  where
    there : (r : Result BundleValue DocError) → reported (entries_in bytes) r ≡ Err fault → (r ≡ Err fault.error) × (fault ≡ fault_by (entries_in bytes) fault.error)
    there (Ok bundle) h = cc h
    there (Err error) h =
        let is : fault_by (entries_in bytes) error ≡ fault = cc h in
        let same : error ≡ fault.error = sym (fault_by-error (entries_in bytes) error) ∙ ap (λ (f : DocFault). f.error) is in
        (ap Err same, sym is ∙ ap (fault_by (entries_in bytes)) same)

-- a document whose key is malformed is not too long
pub bad_key-short : (bytes : List ℕ) (place : ℕ) → (BadKey place ≡ Memory) ⊎ (document bytes ≡ Err (BadKey place)) → length bytes ≤ 1048576
unfolding document
bad_key-short bytes place (inl memory) = cc memory
bad_key-short bytes place (inr is) = elim (cases_Bool (nat_lt 1048576 (length bytes))) [
  | inl long ↦ cc (rw long at is)
  | inr fits ↦ ltb-false _ _ fits
]

-- the entries that are neither ignored nor of an authority that is kept repeat one
pub record AreCounted (entries : List Data) (authorities : List Authority) : Type 0 where
  pub ignored_fit : length (ignored_entries entries) ≤ length entries
  pub kept_fit : length authorities ≤ length entries - length (ignored_entries entries)
  pub x509_fit : count_by is_x509 authorities ≤ length authorities
  pub jwt : length authorities - count_by is_x509 authorities ≡ count_by is_jwt authorities
  pub repeated : (length entries - length (ignored_entries entries)) - length authorities ≡ repeats (authorities_before entries (length entries))

pub entries-AreCounted : (entries : List Data) (authorities : List Authority) → AreEntries entries authorities → AreCounted entries authorities
entries-AreCounted entries authorities h =
    let both = kinds authorities in
    let counted = entries_counted entries (length entries) h.faultless in
    let given = authorities_before entries (length entries) in
    let few = distinct-fewer given in
    let once : length authorities ≡ length (distinct given) = ap length h.once in
    record {
      ignored_fit = omega arith;
      kept_fit = omega arith;
      x509_fit = omega arith;
      jwt = omega arith;
      repeated = omega arith;
    }

pub entries_told-report_of : (bytes : List ℕ) (report : ReportValue) → report_of bytes ≡ Ok report → entries_told report ≡ length (entries_in bytes)
unfolding report_of figures
entries_told-report_of bytes report h = go (document bytes) refl h
  where
    go : (r : Result BundleValue DocError) → document bytes ≡ r → reported (entries_in bytes) r ≡ Ok report → entries_told report ≡ length (entries_in bytes)
    go (Err e) is h = cc h
    go (Ok bundle) is h =
        let same : figures bundle (entries_in bytes) ≡ report = cc h in
        let counts = entries-AreCounted (entries_in bytes) bundle.authorities (document-entries bytes bundle is).entries in
        let fits = counts.ignored_fit in
        let kept = counts.kept_fit in
        let x509 = counts.x509_fit in
        let jwt = counts.jwt in
        let repeated = counts.repeated in
        rw (← same) (omega arith)
