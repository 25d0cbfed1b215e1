use Rattle.std.proofs.Common.{subst, List}
use Rattle.shared_map.specs.Name.{Name}
use Rattle.shared_map.specs.Places.{IsReached}
use Rattle.shared_map.proofs.level.LevelPart.make_room.Goals as goal

pub make_room_at-requires : goal.make_room_at-requires
make_room_at-requires g c = subst (λ (l : List (Name × g.row.P.Denot)). IsReached c.args.name.now l c.in-Some.place) c.slots.ensures c.in-Some.ensures
