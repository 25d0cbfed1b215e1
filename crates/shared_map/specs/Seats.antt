-- Where a search ends.
use Rattle.std.specs.Prelude.{List}
use Rattle.shared_map.specs.declared.search.Seat.{Seat}
use Rattle.shared_map.specs.declared.search.Seat.TheVariants.{Taken, Free}
use Rattle.shared_map.specs.Name.{Name}
use Rattle.shared_map.specs.Places.{IsTaken, IsFree}

abbrev pub IsSeat : {X : Type 0} → Name → List (Name × X) → Seat → Type 0
IsSeat q xs (Taken place) = IsTaken q xs place
IsSeat q xs (Free place) = IsFree q xs place
