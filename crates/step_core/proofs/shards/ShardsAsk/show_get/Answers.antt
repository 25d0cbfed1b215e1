use Rattle.step_core.proofs.shards.ShardsAsk.show_get.Goals as goal

pub returns : goal.returns
returns g c = record { shown = c.show.ensures }
