-- What an operation is on, and what it expects to find.
use Rattle.std.specs.Prelude.{ℕ, List, ◌==◌, Bool, true, false, Option, Some, None}
use Rattle.map_core.specs.declared.op.Op.{Op}
use Rattle.map_core.specs.declared.op.Op.TheVariants.{Set, SetIf, Append, Remove, Get, FetchAll, FetchUnless}
use Rattle.map_core.specs.declared.op.Expect.{Expect}
use Rattle.map_core.specs.declared.op.Expect.TheVariants.{Absent, Sequence, Unnumbered}
use Rattle.map_core.specs.Name.{Name}

-- the name that an operation is on; none for a fetch-all
abbrev pub domain_of : Op → Option Name
domain_of (Set d b) = Some d
domain_of (SetIf d expect b) = Some d
domain_of (Append d a) = Some d
domain_of (Remove d) = Some d
domain_of (Get d) = Some d
domain_of FetchAll = None
domain_of (FetchUnless known) = None

-- the digest of the bundles that whoever fetches has already, if it is told
abbrev pub known_of : Op → Option (List ℕ)
known_of (FetchUnless known) = Some known
known_of op = None

-- whether it changes nothing, whatever it is answered
abbrev pub is_read : Op → Bool
is_read (Get d) = true
is_read FetchAll = true
is_read (FetchUnless known) = true
is_read op = false

-- whether it carries neither a bundle nor an authority
abbrev pub carries_nothing : Op → Bool
carries_nothing (Remove d) = true
carries_nothing (Get d) = true
carries_nothing FetchAll = true
carries_nothing (FetchUnless known) = true
carries_nothing op = false

-- whether two expectations are the same
abbrev pub expect_eq : Expect → Expect → Bool
expect_eq Absent Absent = true
expect_eq (Sequence s) (Sequence t) = s == t
expect_eq Unnumbered Unnumbered = true
expect_eq expect found = false
