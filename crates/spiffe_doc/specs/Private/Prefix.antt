-- The number that stands beside a name's text. No contract of a public function names it.
use Rattle.std.specs.Prelude.{ℕ, zero, suc, ◌+◌, ◌*◌, ◌^◌, List, [], ◌∷◌}

-- the first k bytes as one number, the first byte the greatest; 0 stands for each that there is not
abbrev pub prefix_number : ℕ → List ℕ → ℕ
prefix_number zero text = 0
prefix_number (suc k) [] = 0
prefix_number (suc k) (x ∷ text) = x * 256 ^ k + prefix_number k text
