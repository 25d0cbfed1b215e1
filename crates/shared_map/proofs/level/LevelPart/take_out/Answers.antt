use Rattle.std.proofs.Common.{subst, List}
use Rattle.shared_map.specs.Name.{Name}
use Rattle.shared_map.specs.Places.{IsReached}
use Rattle.shared_map.proofs.level.LevelPart.take_out.Goals as goal

pub take_at-requires : goal.take_at-requires
take_at-requires g c = subst (λ (l : List (Name × g.row.P.Denot)). IsReached c.args.name.now l c.in-Some.place) c.slots.ensures c.in-Some.ensures
