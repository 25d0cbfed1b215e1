-- The numbers of workers.
use Rattle.std.specs.Prelude.{◌≡◌, ℕ, suc, List, [], ◌∷◌}

-- workers are numbered in their order; the first has this number
abbrev pub AreNumbered : ℕ → List ℕ → Type 0
AreNumbered first [] = Unit {0}
AreNumbered first (number ∷ numbers) = (number ≡ first) × AreNumbered (suc first) numbers
