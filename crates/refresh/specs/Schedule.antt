-- When each of many relationships is due, and which of them is due first.
use Rattle.std.specs.Prelude.{◌≡◌, ℕ, ◌<◌, ◌≤◌, List, length, slice_index}
use Rattle.refresh.specs.Relationship.{RelationshipValue}

-- relationships, and at the same places when they are due
pub record ScheduleValue : Type 0 where
  pub relationships : List RelationshipValue
  pub due_times : List ℕ

-- the first place of the least time
pub record IsNext (due_times : List ℕ) (place due : ℕ) : Type 0 where
  pub inside : place < length due_times
  pub is_due : slice_index due_times place ≡ due
  pub least : (k : ℕ) → k < length due_times → due ≤ slice_index due_times k
  pub first : (k : ℕ) → k < place → due < slice_index due_times k
