-- How a reading is judged.
use Rattle.std.specs.Prelude.{ℕ, ◌+◌, ◌==◌, Bool, true, false, cond, List, [], ◌∷◌}

-- the numbers are low + 1 for a while, and then low
abbrev pub fits : Bool → ℕ → List ℕ → Bool
fits down low [] = true
fits down low (x ∷ xs) = cond (x == low) (fits true low xs) (cond down false (cond (x == low + 1) (fits false low xs) false))
