use Rattle.std.proofs.lemmas.Result.{IfOk-weaker}
use Rattle.shared_map.proofs.Places.{match_weaker}
use Rattle.shared_map.proofs.Seats.{split_entries}
use Rattle.shared_map.proofs.part.RunPart.halve.Goals as goal

pub returns-clause-ok : goal.returns-clause-ok
returns-clause-ok g c = IfOk-weaker c.split.result _ _ (λ found told. match_weaker _ found (λ half h. split_entries c.args.self.now c.split.new.self half.0 half.1 h) told) c.split.ensures.ok
