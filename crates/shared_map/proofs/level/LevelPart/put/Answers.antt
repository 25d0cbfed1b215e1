use Rattle.std.proofs.Common.{subst, List}
use Rattle.shared_map.specs.Name.{Name}
use Rattle.shared_map.specs.Places.{IsReached}
use Rattle.shared_map.proofs.level.LevelPart.put.Goals as goal

pub put_at-requires : goal.put_at-requires
put_at-requires g c = subst (λ (l : List (Name × g.row.P.Denot)). IsReached c.args.name l c.in-Some.place) c.slots.ensures c.in-Some.ensures
