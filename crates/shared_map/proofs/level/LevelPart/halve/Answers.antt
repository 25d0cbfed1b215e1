use Rattle.shared_map.proofs.Places.{at_some}
use Rattle.shared_map.proofs.Levels.{split_reached}
use Rattle.shared_map.proofs.level.LevelPart.halve.Goals as goal

pub returns-clause-ok : goal.returns-clause-ok
returns-clause-ok g c = split_reached g.P.Part.marks c.args.self.now.parts c.split.new.self c.in-Some.name c.in-Some.parts (at_some _ _ c.in-Some.is c.in_ok-name.ensures.ok)
