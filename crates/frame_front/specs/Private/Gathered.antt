-- How bytes join those that are ready.
use Rattle.std.specs.Prelude.{◌≡◌, ℕ, List, ◌++◌, Option}
use Rattle.std.specs.Io.KnownBytes.{Appends}

-- Of what was ready and the bytes after it a front is written, and the rest is ready.
pub record Takes (held_old held_new : Option (List ℕ)) (ready bytes ready_new : List ℕ) : Type 0 where
  pub sent : List ℕ
  pub appends : Appends held_old held_new sent
  pub split : ready ++ bytes ≡ sent ++ ready_new
