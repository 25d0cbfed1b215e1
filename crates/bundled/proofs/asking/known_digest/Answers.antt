use Rattle.std.proofs.Common.{inl}
use Rattle.std.specs.Prelude.{None}
use Rattle.bundled.proofs.asking.known_digest.Goals as goal

pub returns-in_default-open-clause-err : goal.returns-in_default-open-clause-err
returns-in_default-open-clause-err g c = inl (None, None, tt)
