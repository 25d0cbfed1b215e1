-- What was appended to, for private contracts.
use Rattle.std.specs.Prelude.{◌≡◌, ℕ, List, length, take}

-- the whole begins with the front
pub record IsFront (front whole : List ℕ) : Type 0 where
  pub is : take (length front) whole ≡ front
