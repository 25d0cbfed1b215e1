use Rattle.map_core.proofs.Asks.{get_reply}
use Rattle.map_core.proofs.contents.Contents.get.Goals as goal

pub returns : goal.returns
returns c = get_reply c.args.self.now c.args.domain.now c.get.result _ c.at.ensures c.get.ensures
