-- What a person is told of a document: the figures of the bundle that it is, and each entry that is ignored.
use Rattle.std.specs.Prelude.{ℕ, zero, suc, ◌+◌, ◌-◌, List, [], ◌∷◌, ◌++◌, length, slice_index_or, count_by, codes, slice_get, Bool, true, false, Option, Some, None, option_map, option_and_then, Result, Ok, Err}
use Rattle.std.specs.Option.{option_map_or}
use Rattle.serde_json.specs.Data.{Data, null}
use Rattle.serde_json.specs.Find.{get, as_array}
use Rattle.spiffe_doc.specs.declared.authority.Authority.{Authority}
use Rattle.spiffe_doc.specs.declared.authority.Authority.TheVariants.{X509, Jwt}
use Rattle.spiffe_doc.specs.declared.error.DocError.{DocError}
use Rattle.spiffe_doc.specs.declared.error.DocError.TheVariants.{BadKey}
use Rattle.spiffe_doc.specs.Authority.{BundleValue}
use Rattle.spiffe_doc.specs.Bundle.{is_x509}
use Rattle.spiffe_doc.specs.Document.{elements, authorities_before, distinct, json_tree, document}
use Rattle.doc_report.specs.declared.fault.DocFault.{DocFault}
use Rattle.doc_report.specs.declared.ignored.Ignored.{Ignored}
use Rattle.doc_report.specs.declared.ignored.Reason.{Reason}
use Rattle.doc_report.specs.declared.report.Report.{Report}
use Rattle.doc_report.specs.Ignored.{reason}
use Rattle.doc_report.specs.KeyMember.{faulty_member}

-- ---- the entries of a document

-- the elements of `keys`
abbrev pub entries_of : Data → List Data
entries_of tree = option_map_or elements (option_and_then as_array (get (codes "keys") tree)) []

abbrev pub entries_in : List ℕ → List Data
entries_in bytes = option_map_or entries_of (json_tree bytes) []

-- ---- those that are ignored

abbrev pub ignored_for : ℕ → Option Reason → List Ignored
ignored_for place None = []
ignored_for place (Some reason) = record { place = place; reason = reason } ∷ []

-- those before a place, in order
unfoldable pub ignored_before : List Data → ℕ → List Ignored
ignored_before entries zero = []
ignored_before entries (suc place) = ignored_before entries place ++ ignored_for place (reason (slice_index_or entries place null))

abbrev pub ignored_entries : List Data → List Ignored
ignored_entries entries = ignored_before entries (length entries)

-- ---- the report

pub record ReportValue : Type 0 where
  pub sequence : Option ℕ
  pub refresh_hint : Option ℕ
  pub x509 : ℕ
  pub jwt : ℕ
  pub repeated : ℕ
  pub ignored : List Ignored

abbrev pub is_jwt : Authority → Bool
is_jwt (X509 key der) = false
is_jwt (Jwt kid key) = true

-- how many of these repeat an earlier one
abbrev pub repeats : List Authority → ℕ
repeats given = length given - length (distinct given)

-- the report of a bundle, which these entries give
unfoldable pub figures : BundleValue → List Data → ReportValue
figures bundle entries = record {
  sequence = bundle.sequence;
  refresh_hint = bundle.refresh_hint;
  x509 = count_by is_x509 bundle.authorities;
  jwt = count_by is_jwt bundle.authorities;
  repeated = repeats (authorities_before entries (length entries));
  ignored = ignored_entries entries;
}

-- an error of a document of these entries: that of a key names the member
abbrev pub fault_by : List Data → DocError → DocFault
fault_by entries (BadKey place) = record { error = BadKey place; member = option_map faulty_member (slice_get entries place) }
fault_by entries error = record { error = error; member = None }

abbrev pub reported : List Data → Result BundleValue DocError → Result ReportValue DocFault
reported entries (Ok bundle) = Ok (figures bundle entries)
reported entries (Err error) = Err (fault_by entries error)

-- the report of a document, or the first reason why it is not a bundle
unfoldable pub report_of : List ℕ → Result ReportValue DocFault
report_of bytes = reported (entries_in bytes) (document bytes)

-- a report of the program, as contracts see it
abbrev pub value_of : Report → ReportValue
value_of report = record {
  sequence = report.sequence;
  refresh_hint = report.refresh_hint;
  x509 = report.x509;
  jwt = report.jwt;
  repeated = report.repeated;
  ignored = report.ignored.items;
}

-- the entries that a report tells of
abbrev pub entries_told : ReportValue → ℕ
entries_told report = report.x509 + report.jwt + report.repeated + length report.ignored
