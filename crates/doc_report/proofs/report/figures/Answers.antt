use Rattle.std.proofs.Common.{◌≡◌, ◌-◌, length, map, refl, arith, ap, ◌∙◌}
use Rattle.std.specs.Prelude.{count_by}
use Rattle.std.proofs.lemmas.List.{length-map}
use Rattle.serde_json.specs.View.{view}
use Rattle.spiffe_doc.specs.Document.{authorities_before}
use Rattle.spiffe_doc.specs.Bundle.{is_x509}
use Rattle.doc_report.specs.Report.{ignored_entries, is_jwt, repeats, figures}
use Rattle.doc_report.proofs.Told.{entries-AreCounted}
use Rattle.doc_report.proofs.report.figures.Goals as goal

pub overflow_sub-result-2 : goal.overflow_sub-result-2
overflow_sub-result-2 c =
    let counts = entries-AreCounted _ _ c.requires.entries in
    let size : length (map view c.args.entries.now) ≡ length c.args.entries.now = rw length-map refl in
    omega (arith, c.len-2.ensures, ap length c.requires.ignored, counts.ignored_fit)

pub overflow_sub-result-3 : goal.overflow_sub-result-3
overflow_sub-result-3 c =
    let counts = entries-AreCounted _ _ c.requires.entries in
    let size : length (map view c.args.entries.now) ≡ length c.args.entries.now = rw length-map refl in
    omega (arith, c.len-2.ensures, ap length c.requires.ignored, c.len-3.ensures, ap length c.authorities-authorities.ensures.value, counts.kept_fit)

pub returns : goal.returns
unfolding figures
returns c =
    let counts = entries-AreCounted _ _ c.requires.entries in
    let same = c.authorities-authorities.ensures.value in
    let x509 : c.count_x509-x509.result ≡ count_by is_x509 c.args.bundle.now.authorities = c.count_x509-x509.ensures ∙ ap (count_by is_x509) same in
    let count : c.len.result ≡ length c.args.bundle.now.authorities = c.len.ensures ∙ ap length same in
    let again : c.len-3.result ≡ length c.args.bundle.now.authorities = c.len-3.ensures ∙ ap length same in
    let jwt : c.len.result - c.count_x509-x509.result ≡ count_by is_jwt c.args.bundle.now.authorities = rw (count, x509) counts.jwt in
    let size : length (map view c.args.entries.now) ≡ length c.args.entries.now = rw length-map refl in
    let passed : c.len-2.result ≡ length (ignored_entries (map view c.args.entries.now)) = omega (arith, c.len-2.ensures, ap length c.requires.ignored) in
    let repeated : length c.args.entries.now - c.len-2.result - c.len-3.result ≡ repeats (authorities_before (map view c.args.entries.now) (length (map view c.args.entries.now))) =
    rw (again, passed, ← size) counts.repeated in
    cc
