use Rattle.std.proofs.Common.{◌≡◌, take}
use Rattle.shared_map.proofs.page.Page.copy.Given as goal

-- the slots so far
abbrev pub invariant-loop-slot : goal.invariant-loop-slot
invariant-loop-slot g l = l.slots.items ≡ take l.slot-index l.self.slots.items
