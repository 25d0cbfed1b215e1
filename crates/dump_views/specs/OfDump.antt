-- Why nothing is told of a dump.
use Rattle.std.specs.Prelude.{◌≡◌, ℕ, List, None}
use Rattle.map_core.specs.Name.{Name}
use Rattle.frame_front.specs.Dump.{Domains, IsDump, IsBadDump}
use Rattle.dump_views.specs.declared.pem.PemError.{PemError}
use Rattle.dump_views.specs.declared.pem.PemError.TheVariants as pem
use Rattle.dump_views.specs.declared.diff.DiffError.{DiffError}
use Rattle.dump_views.specs.declared.diff.DiffError.TheVariants as diff
use Rattle.dump_views.specs.Changes.{held_under}

-- it is not a dump; or it is one without the name
abbrev pub PemFault : PemError → List ℕ → Name → Type 0
PemFault (pem.BadDump place) dump name = IsBadDump dump place
PemFault pem.NoDomain dump name = (items : Domains) × IsDump dump items × (held_under items name ≡ None)
PemFault pem.Memory dump name = Unit {0}

-- the old one is not a dump; or it is one, and the new one is not
abbrev pub DiffFault : DiffError → List ℕ → List ℕ → Type 0
DiffFault (diff.BadOld place) old new = IsBadDump old place
DiffFault (diff.BadNew place) old new = (olds : Domains) × IsDump old olds × IsBadDump new place
DiffFault diff.Memory old new = Unit {0}
