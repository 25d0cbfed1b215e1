use Rattle.shard_store.proofs.Changes.{after_change}
use Rattle.shard_store.proofs.laws.changes_as_asked.Goals as goal

pub returns : goal.returns
returns c = after_change
