use Rattle.std.proofs.Common.{◌≡◌, ◌⊎◌, ◌<◌, ◌≤◌, ◌-◌, length, drop}
use Rattle.std.specs.List.{slice_get}
use Rattle.shared_map.specs.Places.{IsBefore}
use Rattle.shared_map.proofs.Places.{IsFrom}
use Rattle.shared_map.proofs.search.last_from.Given as goal

abbrev pub invariant-loop-high : goal.invariant-loop-high
invariant-loop-high g l = record {
  within : l.low < l.high;
  end : l.high ≤ length l.slots;
  from : (l.low ≡ 0) ⊎ IsFrom l.name (slice_get l.slots l.low);
  before : IsBefore l.name (drop l.high l.slots);
}

abbrev pub decreases-loop-high : goal.decreases-loop-high
decreases-loop-high g l = l.high - l.low
