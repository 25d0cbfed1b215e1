use Rattle.std.proofs.Common.{◌≡◌, take}
use Rattle.std.specs.List.{filter}
use Rattle.dump_views.specs.Private.Names.{has}
use Rattle.dump_views.proofs.choice.keep.Given as goal

-- those of the domains before
abbrev pub invariant-loop-item : goal.invariant-loop-item
invariant-loop-item l = l.some.items ≡ filter (λ item. has l.wanted item.0) (take l.item-index l.domains)
