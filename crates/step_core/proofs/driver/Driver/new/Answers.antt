use Rattle.std.proofs.Common.{refl}
use Rattle.step_core.proofs.Driven.{fresh_shown}
use Rattle.step_core.proofs.driver.Driver.new.Goals as goal

pub returns : goal.returns
returns c = fresh_shown c.args.shards c.args.rounds _ refl c.in_ok-fresh_shards.ensures.len c.in_ok-fresh_shards.ensures.fresh c.new.ensures.empty c.new-2.ensures.items c.new-3.ensures.items
