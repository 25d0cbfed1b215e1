use Rattle.std.proofs.Common.{◌≡◌, ◌+◌, ◌<◌, ◌^◌, length}
use Rattle.std.specs.Prelude.{count_by}
use Rattle.spiffe_doc.specs.Bundle.{is_x509}
use Rattle.doc_report.proofs.report.count_x509.Given as goal

-- those that came are counted, and the others can be
abbrev pub invariant-loop-authority : goal.invariant-loop-authority
invariant-loop-authority l = record {
  counted : l.count + count_by is_x509 l.authority-iterator ≡ count_by is_x509 l.authorities;
  few : l.count + length l.authority-iterator < 2 ^ 64;
}
