use Rattle.std.proofs.Common.{◌≡◌, ◌+◌, ◌<◌, ◌^◌, length}
use Rattle.dump_views.specs.ChangeLines.{jwt_beyond, x509_beyond}
use Rattle.dump_views.proofs.authority_changes.count_beyond.Given as goal

-- those that came are counted, and the others can be
abbrev pub invariant-loop-authority : goal.invariant-loop-authority
invariant-loop-authority l = record {
  x509 : l.counts.x509 + x509_beyond l.others l.authority-iterator ≡ x509_beyond l.others l.these;
  jwt : l.counts.jwt + jwt_beyond l.others l.authority-iterator ≡ jwt_beyond l.others l.these;
  few_x509 : l.counts.x509 + length l.authority-iterator < 2 ^ 64;
  few_jwt : l.counts.jwt + length l.authority-iterator < 2 ^ 64;
}
