use Rattle.std.proofs.Common.{sym, ◌∙◌}
use Rattle.shared_map.specs.Top.{top_marks}
use Rattle.shared_map.proofs.Maps.{len_is}
use Rattle.shared_map.proofs.map.SharedMap.len.Goals as goal

pub returns : goal.returns
returns g c = c.self.invariant.1 ∙ sym (len_is c.args.self.now (top_marks c.self.inside.top) c.self.view_is c.self.invariant.0)
