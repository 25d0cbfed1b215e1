-- Names in a set, for private contracts.
use Rattle.std.specs.Prelude.{ℕ, List, Bool}
use Rattle.std.specs.Ordering.{nat_cmp}
use Rattle.std.specs.Cmp.Lexicographic.{slice_cmp}
use Rattle.std.specs.BTreeSet as tree
use Rattle.std.specs.BTreeSet.{BTreeSet}

abbrev pub has : BTreeSet (List ℕ) → List ℕ → Bool
has names name = tree.contains (slice_cmp nat_cmp) names name
